use Rattle.std.proofs.Common.{List, refl, subst}
use Rattle.gate_shared.specs.Calls.{PassView}
use Rattle.gate_shared.specs.Ends.{EndsGood}
use Rattle.gate_shared.specs.Held.{Held, held}
use Rattle.gate_shared.specs.Settling.{WhyUnsettled}
use Rattle.gate_shared.proofs.EndingGood.{ends_good}
use Rattle.gate_shared.proofs.shared.Shared.settle.Goals as goal

pub returns-in-Ok-clause-good : goal.returns-in-Ok-clause-good
returns-in-Ok-clause-good g c =
    let of_slice : EndsGood g.N.Base.base c.as_slice.result.now c.self.inside.state =
    ends_good g.N.Base.base (held c.self.inside.state c.self.inside.journal.entries c.self.inside.passes) c.as_slice.result.now c.in-Ok.settled.owners c.self.invariant.0 c.in-Ok.ensures.2 in
    subst (λ (s : Held). EndsGood g.N.Base.base c.args.passes.items s.state) c.self.view_is
    (subst (λ (passes : List PassView). EndsGood g.N.Base.base passes c.self.inside.state) c.as_slice.ensures.value of_slice)

pub returns-in-Err-clause-err : goal.returns-in-Err-clause-err
returns-in-Err-clause-err g c =
    let of_slice : WhyUnsettled c.self.inside.journal.entries c.as_slice.result.now c.in-Err.why = c.in-Err.ensures in (
      subst (λ (s : Held). WhyUnsettled s.journal c.args.passes.items c.in-Err.why) c.self.view_is
          (subst (λ (passes : List PassView). WhyUnsettled c.self.inside.journal.entries passes c.in-Err.why) c.as_slice.ensures.value of_slice),
      refl,
    )
