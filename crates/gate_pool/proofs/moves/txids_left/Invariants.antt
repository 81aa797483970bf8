use Rattle.std.proofs.Common.{◌≡◌, ℕ, List, take}
use Rattle.std.specs.List.{list_any}
use Rattle.std.specs.Str.{bytes_eq}
use Rattle.indexmap.specs.IndexSet.{contains}
use Rattle.gate_pool.specs.Leaving.{has_left}
use Rattle.gate_pool.proofs.moves.txids_left.Given as goal

abbrev pub invariant-loop-gone : goal.invariant-loop-gone
invariant-loop-gone g l = (id : List ℕ) → contains bytes_eq l.ids id ≡ list_any (has_left l.mark id) (take l.gone-index l.log)
