-- What a log says of those that left.
use Rattle.std.specs.Prelude.{ℕ, Bool, ◌&&◌, nat_lt, is_none, List}
use Rattle.std.specs.Str.{bytes_eq}
use Rattle.gate_tx.specs.Ids.{txid_of}
use Rattle.gate_graph.specs.declared.held.Gone.{Gone}
use Rattle.gate_pool.specs.Pool.{Admitted, entry_by_txid}
use Rattle.gate_pool.specs.declared.moves.Seated.{Seated}

abbrev pub seated : Gone Admitted → Seated
seated x = record { place = x.place; txid = txid_of x.load.tx }

-- it stood below the mark, and no entry has its id
abbrev pub has_gone : List Admitted → ℕ → Gone Admitted → Bool
has_gone entries mark x = nat_lt x.place mark && is_none (entry_by_txid entries (txid_of x.load.tx))

-- it stood below the mark, and has this id
abbrev pub has_left : ℕ → List ℕ → Gone Admitted → Bool
has_left mark id x = nat_lt x.place mark && bytes_eq (txid_of x.load.tx) id
