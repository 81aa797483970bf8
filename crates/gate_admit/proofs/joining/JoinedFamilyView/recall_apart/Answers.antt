use Rattle.std.proofs.Common.{subst}
use Rattle.std.specs.List.{AllPairs}
use Rattle.gate_pool.proofs.Adding.{DifferById}
use Rattle.gate_admit.proofs.Behind.{apart_behind}
use Rattle.gate_admit.proofs.joining.JoinedFamilyView.recall_apart.Goals as goal

pub returns : goal.returns
returns g c = subst (AllPairs DifferById) c.self.view_is (apart_behind (g.V.FamilyView.entries c.self.inside.pool.now) c.self.inside.newcomer.now c.self.invariant c.recall_apart.ensures)
