use Rattle.std.proofs.Common.{subst}
use Rattle.gate_shared.specs.Held.{Held}
use Rattle.gate_shared.specs.Tokens.{EachStands, IsTold, calls_under, gathered, holder, knower}
use Rattle.gate_shared.proofs.Faults.{Eye}
use Rattle.gate_shared.proofs.shared.Shared.audit_one.Goals as goal

pub returns-clause-stand : goal.returns-clause-stand
returns-clause-stand g c =
    let p = c.args.pass.now in
    let told : IsTold (gathered (knower c.self.inside.journal.entries) (holder 1 (calls_under p.number p.calls))) =
    subst (λ (m : Eye). IsTold (gathered m.0 (holder 1 (calls_under p.number p.calls)))) c.self.invariant.4 c.audit_pass.ensures.told in
    subst (λ (s : Held). EachStands s.journal (calls_under p.number p.calls)) c.self.view_is told.stand
