-- What is known of every entry is what is known at each id of the listing.
use Rattle.std.proofs.Common.{◌≡◌, ℕ, List, [], ◌∷◌, ◌++◌, Option, Some, refl, ap, ◌∙◌}
use Rattle.std.specs.Prelude.{Contains, map, option_map}
use Rattle.std.specs.List.{flat_map}
use Rattle.std.specs.Option.{option_to_list}
use Rattle.gate_bytes.proofs.Members.{Contains-head, Contains-rest}
use Rattle.gate_tx.specs.Ids.{txid_of}
use Rattle.gate_pool.specs.Distinct.{AreDistinct}
use Rattle.gate_pool.specs.Pool.{Admitted, entry_by_txid, listing_of}
use Rattle.gate_pool.proofs.Adding.{found_by_id}
use Rattle.gate_rpc.specs.declared.items.KnownEntry.{KnownEntry}
use Rattle.gate_query.specs.Answers.{info_from}
use Rattle.gate_query.specs.Queries.{entries_known, known_at, known_from}

-- what is known at an id, once it is known which entry has it
abbrev at_found : List Admitted → List ℕ → Option Admitted → List KnownEntry
at_found entries txid found = option_to_list (option_map (λ info. record { txid = txid; info = info }) (option_map (info_from entries txid) found))

known_among : (entries : List Admitted) (some : List Admitted) → ((e : Admitted) → Contains some e → entry_by_txid entries (txid_of e.tx) ≡ Some e)
    → flat_map (known_at entries) (listing_of some) ≡ map (known_from entries) some
known_among entries [] found = refl
known_among entries (e ∷ some) found =
    ap (λ o. at_found entries (txid_of e.tx) o ++ flat_map (known_at entries) (listing_of some)) (found e (Contains-head e some))
    ∙ ap (λ l. known_from entries e ∷ l) (known_among entries some (λ x c. found x (Contains-rest e some x c)))

pub all_known : (entries : List Admitted) → AreDistinct entries → flat_map (known_at entries) (listing_of entries) ≡ entries_known entries
all_known entries distinct = known_among entries entries (λ e c. found_by_id entries distinct.txids e c)
