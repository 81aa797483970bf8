-- What stands in the slots of nodes, and where.
use Rattle.std.specs.Prelude.{ℕ, suc, Bool, List, [], ◌∷◌, map, Option, None, Some, if◌then◌else◌}
use Rattle.std.specs.Option.{option_map}
use Rattle.std.specs.Str.{bytes_eq}
use Rattle.gate_tx.specs.Ids.{txid_of}
use Rattle.gate_graph.specs.declared.held.Held.{Held}
use Rattle.gate_graph.specs.Slots.{entries_of, passes}
use Rattle.gate_pool.specs.Pool.{Admitted}

-- the entries that stand in slots
abbrev pub standing : List (Option (Held Admitted)) → List Admitted
standing slots = map (λ h. h.load) (entries_of slots)

-- the first place at which an id stands
abbrev pub place_in : List (Option (List ℕ)) → List ℕ → Option ℕ
place_in [] id = None
place_in (s ∷ spots) id = if passes (λ x. bytes_eq x id) s then Some 0 else option_map suc (place_in spots id)

-- the id at a key after an entry was written: the entry's if it has the key, else the one before
abbrev pub written : Admitted → Bool → Option (List ℕ) → Option (List ℕ)
written e has before = if has then Some (txid_of e.tx) else before
