-- The log of what left a pool since it was marked, each entry with the place at which it stood.
use Rattle.std.specs.Prelude.{◌≡◌, ◌≢◌, ◌≤◌, ◌<◌, ℕ, zero, suc, ◌==◌, List, [], ◌∷◌, ◌++◌, length, find, map, Contains, Option, None, Some}
use Rattle.std.specs.List.{AllPairs}
use Rattle.std.specs.Option.{option_and_then}
use Rattle.gate_graph.specs.declared.held.Gone.{Gone}
use Rattle.gate_graph.specs.Slots.{at, entries_of}
use Rattle.gate_pool.specs.Distinct.{AreDistinct}
use Rattle.gate_pool.specs.Pool.{Admitted, entry_by_txid}
use Rattle.gate_pool.specs.Search.{parents_of}

-- what left, if something did, else what stands
abbrev pub left_or : Option (Gone Admitted) → Option Admitted → Option Admitted
left_or None stands = stands
left_or (Some x) stands = Some x.load

-- the entry that stood at a place when the log began: that of the log, else the one that stands there
abbrev pub seat : List Admitted → List (Option (List ℕ)) → List (Gone Admitted) → ℕ → Option Admitted
seat entries places log place = left_or (find (λ x. x.place == place) log) (option_and_then (entry_by_txid entries) (at places place))

-- what stood at the first places
abbrev pub seats : (ℕ → Option Admitted) → ℕ → List (Option Admitted)
seats seat zero = []
seats seat (suc n) = seats seat n ++ seat n ∷ []

-- the entries when the log began, at which there were `mark` places
unfoldable pub before_of : List Admitted → List (Option (List ℕ)) → List (Gone Admitted) → ℕ → List Admitted
before_of entries places log mark = entries_of (seats (seat entries places log) mark)

-- what the log's entries carry
abbrev pub loads_of : List (Gone Admitted) → List Admitted
loads_of log = map (λ x. x.load) log

-- places of what left are empty and differ, what left named the parents of its entry, and no two entries shared an id or spent
-- one outpoint when the log began
pub record IsLog (entries : List Admitted) (places : List (Option (List ℕ))) (log : List (Gone Admitted)) (mark : ℕ) : Type 0 where
  pub marked : mark ≤ length places
  pub apart : AllPairs (λ (x : Gone Admitted) (y : Gone Admitted). x.place ≢ y.place) log
  pub within : (x : Gone Admitted) → Contains log x → x.place < length places
  pub empty : (x : Gone Admitted) → Contains log x → at places x.place ≡ None
  pub named : (x : Gone Admitted) → Contains log x → x.parents.items ≡ parents_of x.load.tx.inputs
  pub distinct : AreDistinct (before_of entries places log mark)
