use Rattle.std.proofs.Common.{List, ◌+◌, length, ap, subst, sym, ◌∙◌}
use Rattle.std.specs.List.{All}
use Rattle.gate_journal.specs.declared.entry.Entry.{Entry}
use Rattle.gate_shared.specs.Calls.{IsFullIfMet, PassView}
use Rattle.gate_shared.specs.Ends.{EndsGood}
use Rattle.gate_shared.specs.Held.{Held}
use Rattle.gate_shared.specs.Settling.{WhyUnsettled}
use Rattle.gate_shared.proofs.EndingGood.{ends_good}
use Rattle.gate_shared.proofs.Told.{not_missing, out_of_memory}
use Rattle.gate_shared.proofs.shared.Shared.finish.Goals as goal

pub returns-in-Ok-clause-good : goal.returns-in-Ok-clause-good
returns-in-Ok-clause-good g c =
    subst (λ (passes : List PassView). EndsGood g.N.Base.base passes c.into_settled.result.1) c.audit.ensures.passes
    (subst (EndsGood g.N.Base.base c.audit.new.passes.items) (sym c.into_settled.ensures.state)
    (ends_good g.N.Base.base c.audit.new.self c.audit.new.passes.items c.in-Ok.owners c.in-Ok.ensures.is c.in-Ok.ensures.ok))

pub returns-in-Ok-clause-full : goal.returns-in-Ok-clause-full
returns-in-Ok-clause-full g c =
    subst (λ (journal : List Entry). All (IsFullIfMet journal) c.args.passes.items) (sym (c.into_settled.ensures.journal ∙ ap (λ (s : Held). s.journal) c.audit.ensures.same)) c.audit.ensures.marks

pub returns-in-Err-clause-stand : goal.returns-in-Err-clause-stand
returns-in-Err-clause-stand g c =
    let why = c.in-Err.fault.why in
    let of : WhyUnsettled c.args.self.journal c.args.passes.items why =
    subst (λ (s : Held). WhyUnsettled s.journal c.args.passes.items why) c.audit.ensures.same
    (subst (λ (passes : List PassView). WhyUnsettled c.audit.new.self.journal passes why) c.audit.ensures.passes c.in-Err.ensures.err.0) in
    not_missing (c.args.rest + length c.args.passes.items) c.args.self.journal c.args.passes.items why c.audit.ensures.told of

pub returns-in-Err-clause-settles : goal.returns-in-Err-clause-settles
returns-in-Err-clause-settles g c = λ all.
    let why = c.in-Err.fault.why in
    let of : WhyUnsettled c.args.self.journal c.args.passes.items why =
    subst (λ (s : Held). WhyUnsettled s.journal c.args.passes.items why) c.audit.ensures.same
    (subst (λ (passes : List PassView). WhyUnsettled c.audit.new.self.journal passes why) c.audit.ensures.passes c.in-Err.ensures.err.0) in
    out_of_memory (c.args.rest + length c.args.passes.items) c.args.self.journal c.args.passes.items why c.audit.ensures.told all of
