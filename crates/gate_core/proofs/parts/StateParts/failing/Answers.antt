use Rattle.std.proofs.Common.{◌≡◌, Err, sym, ap, subst, ◌∙◌}
use Rattle.std.proofs.lemmas.Result.{IfOk-weaker}
use Rattle.gate_rpc.specs.Faults.{reply_of}
use Rattle.gate_rpc.specs.declared.fault.CallError.{CallError}
use Rattle.gate_message.specs.declared.reply.Reply.TheVariants.{Rpc}
use Rattle.gate_core.specs.Packaging.{served}
use Rattle.gate_core.specs.Planning.{world_of}
use Rattle.gate_core.specs.RpcSteps.{called_by}
use Rattle.gate_core.specs.World.{World}
use Rattle.gate_core.proofs.Called.{other_fault, params_fault, params_lack}
use Rattle.gate_core.proofs.parts.StateParts.failing.Goals as goal

pub returns-then-lacks-clause-ok : goal.returns-then-lacks-clause-ok
returns-then-lacks-clause-ok g c =
    let w : World = world_of c.args.self.now in
    IfOk-weaker c.telling.result _ _
    (λ plan planned now.
    planned w
    ∙ (params_lack w now c.in-InvalidParams.id c.in-InvalidParams.method (sym c.lacks.ensures ∙ c.if-lacks.true)
    ∙ ap (λ (e : CallError). called_by w now (served w (Err e))) (sym c.in-InvalidParams.is)))
    c.telling.ensures.ok

pub returns-else-lacks-clause-ok : goal.returns-else-lacks-clause-ok
returns-else-lacks-clause-ok g c =
    let w : World = world_of c.args.self.now in
    IfOk-weaker c.faulted.result _ _
    (λ plan planned now.
    planned w
    ∙ subst (λ (e : CallError). (Rpc (reply_of e), w) ≡ called_by w now (served w (Err e))) (sym c.in-InvalidParams.is)
    (params_fault w now c.in-InvalidParams.id c.in-InvalidParams.method (sym c.lacks.ensures ∙ c.if-lacks.false)))
    c.faulted.ensures.ok

pub returns-in_default-clause-ok : goal.returns-in_default-clause-ok
returns-in_default-clause-ok g c =
    let w : World = world_of c.args.self.now in
    IfOk-weaker c.faulted-in_default.result _ _ (λ plan planned now. planned w ∙ other_fault w now c.args.error.now c.in_default.not-InvalidParams) c.faulted-in_default.ensures.ok
