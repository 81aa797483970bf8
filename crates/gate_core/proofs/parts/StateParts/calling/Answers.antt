use Rattle.std.proofs.Common.{◌≡◌, false, sym, ap, ◌∙◌}
use Rattle.std.proofs.lemmas.Result.{IfOk-weaker}
use Rattle.gate_rpc.specs.Calls.{method_of}
use Rattle.gate_rpc.specs.declared.request.Request.{Request}
use Rattle.gate_message.specs.UserCalls.{UserCall}
use Rattle.gate_core.specs.Packaging.{lacks_method}
use Rattle.gate_core.specs.PackageSteps.{called_with}
use Rattle.gate_core.specs.Planning.{world_of}
use Rattle.gate_core.specs.RpcSteps.{commanded}
use Rattle.gate_core.specs.World.{World}
use Rattle.gate_core.proofs.Called.{command_step, failing_step, lacking_step, of_request}
use Rattle.gate_core.proofs.parts.StateParts.calling.Goals as goal

pub returns-then-lacks-clause-ok : goal.returns-then-lacks-clause-ok
returns-then-lacks-clause-ok g c =
    let w : World = world_of c.args.self.now in
    IfOk-weaker c.telling.result _ _
    (λ plan planned.
    planned w
    ∙ lacking_step w c.args.call.now c.in-Ok.request (sym c.request.ensures ∙ c.in-Ok.is) (sym c.bars.ensures ∙ c.if-bars.false)
    (ap (lacks_method w) (sym c.method.ensures) ∙ (sym c.lacks.ensures ∙ c.if-lacks.true)))
    c.telling.ensures.ok

pub command-requires-clause-no_package : goal.command-requires-clause-no_package
command-requires-clause-no_package g c =
    let w : World = world_of c.args.self.now in
    let request : Request = c.in-Ok.request in
    let lacks : lacks_method w (method_of request.command) ≡ false = ap (lacks_method w) (sym c.method.ensures) ∙ (sym c.lacks.ensures ∙ c.if-lacks.false) in
    ap (λ t. called_with t request.id request.command) c.time.ensures
    ∙ (sym (of_request w c.args.call.now request (sym c.request.ensures ∙ c.in-Ok.is) (sym c.bars.ensures ∙ c.if-bars.false) lacks) ∙ c.requires.no_package)

pub returns-else-lacks-clause-ok : goal.returns-else-lacks-clause-ok
returns-else-lacks-clause-ok g c =
    let w : World = world_of c.args.self.now in
    let request : Request = c.in-Ok.request in
    let lacks : lacks_method w (method_of request.command) ≡ false = ap (lacks_method w) (sym c.method.ensures) ∙ (sym c.lacks.ensures ∙ c.if-lacks.false) in
    IfOk-weaker c.command.result _ _
    (λ plan planned.
    planned
    ∙ (ap (λ t. commanded w t request.id request.command) c.time.ensures
    ∙ command_step w c.args.call.now request (sym c.request.ensures ∙ c.in-Ok.is) (sym c.bars.ensures ∙ c.if-bars.false) lacks))
    c.command.ensures.ok

pub returns-in-Err-clause-ok : goal.returns-in-Err-clause-ok
returns-in-Err-clause-ok g c =
    let w : World = world_of c.args.self.now in
    let call : UserCall = c.args.call.now in
    IfOk-weaker c.failing.result _ _ (λ plan planned. planned call.time ∙ failing_step w call c.in-Err.error (sym c.request.ensures ∙ c.in-Err.is) (sym c.bars.ensures ∙ c.if-bars.false)) c.failing.ensures.ok
