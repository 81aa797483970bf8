use Rattle.std.proofs.Common.{◌≡◌, map, take}
use Rattle.std.specs.Prelude.{filter}
use Rattle.gate_pool.specs.Leaving.{has_gone, seated}
use Rattle.gate_pool.proofs.store.Store.seats_left.Given as goal

abbrev pub invariant-loop-gone : goal.invariant-loop-gone
invariant-loop-gone g l = l.seats.items ≡ map seated (filter (has_gone l.self.entries l.mark) (take l.gone-index l.log))
