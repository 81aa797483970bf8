use Rattle.std.proofs.Common.{List, ap, subst, sym, ◌∙◌}
use Rattle.std.proofs.lemmas.Result.{IfOk-weaker}
use Rattle.gate_pool.specs.Pool.{Admitted}
use Rattle.gate_core.specs.declared.planning.Step.{Step}
use Rattle.gate_core.specs.Planning.{IsMadeBy, world_of}
use Rattle.gate_core.specs.Steps.{step_of}
use Rattle.gate_core.specs.World.{World}
use Rattle.gate_core.proofs.Called.{event_is}
use Rattle.gate_core.proofs.Settling.{followed_step}
use Rattle.gate_core.proofs.parts.StateParts.record.Goals as goal

pub returns-in-Some-clause-ok : goal.returns-in-Some-clause-ok
returns-in-Some-clause-ok g c =
    let marked : World = record (world_of c.args.self.now) { pool = c.mark.new.self.entries } in
    IfOk-weaker c.record_package.result _ _
    (λ replies is.
    is
    ∙ (event_is marked c.in-Some.asked c.args.event.now (sym c.in-Some.ensures)
    ∙ ap (λ (p : List Admitted). step_of (record (world_of c.args.self.now) { pool = p }) c.args.event.now) c.mark.ensures.entries))
    c.record_package.ensures.ok

pub returns-in_ok-outcome-in-Chain-clause-ok : goal.returns-in_ok-outcome-in-Chain-clause-ok
returns-in_ok-outcome-in-Chain-clause-ok g c =
    let marked : World = record (world_of c.args.self.now) { pool = c.mark.new.self.entries } in
    followed_step _ c.of_chain.result.reply marked (world_of c.args.self.now) _ _ c.args.event.now c.in-Chain.event.now c.of_chain.ensures.reply
    c.in_ok-outcome-in-Chain.ensures.ok c.in_ok-reply.ensures.same
    (subst (λ (s : Step). IsMadeBy marked c.args.event.now s) c.in-Chain.is c.in_ok-reply.ensures.ok)
    (ap (λ (p : List Admitted). record (world_of c.args.self.now) { pool = p }) c.mark.ensures.entries)
