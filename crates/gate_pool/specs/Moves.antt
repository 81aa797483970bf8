-- What left a pool and what came since its log began.
use Rattle.std.specs.Prelude.{◌≡◌, ℕ, List, filter, is_none}
use Rattle.gate_tx.specs.Ids.{txid_of}
use Rattle.gate_pool.specs.Pool.{Admitted, Pooled, entry_by_txid, listing_of}

-- the txids of the entries before that no entry has after, in order of admission
abbrev pub departed : List Admitted → List Admitted → List (List ℕ)
departed before after = listing_of (filter (λ e. is_none (entry_by_txid after (txid_of e.tx))) before)

-- the txids of the entries after that no entry had before, in order of admission
abbrev pub arrived : List Admitted → List Admitted → List (List ℕ)
arrived before after = listing_of (filter (λ e. is_none (entry_by_txid before (txid_of e.tx))) after)

-- nothing has moved since the log began
abbrev pub IsMarked : Pooled → Type 0
IsMarked pool = pool.before ≡ pool.entries
