use Rattle.std.proofs.Common.{List, refl, subst}
use Rattle.gate_shared.specs.Calls.{PassView}
use Rattle.gate_shared.specs.Held.{Held}
use Rattle.gate_shared.specs.Settling.{WhyUnsettled}
use Rattle.gate_shared.proofs.shared.Shared.owners.Goals as goal

pub returns-in-Err-clause-err : goal.returns-in-Err-clause-err
returns-in-Err-clause-err g c =
    let of_slice : WhyUnsettled c.self.inside.journal.entries c.as_slice.result.now c.in-Err.why = c.in-Err.ensures in (
      subst (λ (s : Held). WhyUnsettled s.journal c.args.passes.items c.in-Err.why) c.self.view_is
          (subst (λ (passes : List PassView). WhyUnsettled c.self.inside.journal.entries passes c.in-Err.why) c.as_slice.ensures.value of_slice),
      refl,
    )
