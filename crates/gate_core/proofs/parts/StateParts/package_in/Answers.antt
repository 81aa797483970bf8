use Rattle.std.proofs.Common.{◌≡◌, ℕ, false, sym, ap, ◌∙◌}
use Rattle.gate_rpc.specs.Calls.{method_of}
use Rattle.gate_rpc.specs.declared.request.Command.TheVariants.{SubmitPackage}
use Rattle.gate_rpc.specs.declared.request.Request.{Request}
use Rattle.gate_message.specs.UserCalls.{UserCall}
use Rattle.gate_core.specs.Packaging.{lacks_method}
use Rattle.gate_core.specs.PackageSteps.{called_with}
use Rattle.gate_core.specs.Planning.{world_of}
use Rattle.gate_core.specs.World.{World}
use Rattle.gate_core.proofs.Called.{no_package, of_barred, of_error, of_lacking, of_request}
use Rattle.gate_core.proofs.parts.StateParts.package_in.Goals as goal
use Rattle.gate_core.proofs.parts.StateParts.package_in.Goals.{then-bars-via-then-bars, then-bars-via-else-bars+then-lacks}

pub returns-in_default : goal.returns-in_default
returns-in_default g c = sym (of_error (world_of c.args.self.now) c.args.call.now c.in_default.field-0 (sym c.request.ensures ∙ c.in_default.is))

pub returns-then-bars : goal.returns-then-bars
returns-then-bars g c =
    let w : World = world_of c.args.self.now in
    elim c.then-bars.branch [
      | then-bars-via-then-bars v ↦ sym (of_barred w c.args.call.now (sym c.bars.ensures ∙ v.if-bars.true))
      | then-bars-via-else-bars+then-lacks v ↦
          sym (of_lacking w c.args.call.now c.in-Ok.request (sym c.request.ensures ∙ c.in-Ok.is) (ap (lacks_method w) (sym v.method.ensures) ∙ (sym v.lacks.ensures ∙ v.if-lacks.true)))
    ]

pub returns-in-SubmitPackage : goal.returns-in-SubmitPackage
returns-in-SubmitPackage g c =
    let w : World = world_of c.args.self.now in
    let call : UserCall = c.args.call.now in
    let request : Request = c.in-Ok.request in
    let lacks : lacks_method w (method_of request.command) ≡ false = ap (lacks_method w) (sym c.method.ensures) ∙ (sym c.lacks.ensures ∙ c.if-lacks.false) in
    ap (λ (t : ℕ). called_with t request.id (SubmitPackage c.in-SubmitPackage.submitted)) c.time.ensures
    ∙ sym (of_request w call request (sym c.request.ensures ∙ c.in-Ok.is) (sym c.bars.ensures ∙ c.if-bars.false) lacks ∙ ap (called_with call.time request.id) c.in-SubmitPackage.is)

pub returns-in_default-command : goal.returns-in_default-command
returns-in_default-command g c =
    let w : World = world_of c.args.self.now in
    let call : UserCall = c.args.call.now in
    let request : Request = c.in-Ok.request in
    let lacks : lacks_method w (method_of request.command) ≡ false = ap (lacks_method w) (sym c.method.ensures) ∙ (sym c.lacks.ensures ∙ c.if-lacks.false) in
    sym
    (of_request w call request (sym c.request.ensures ∙ c.in-Ok.is) (sym c.bars.ensures ∙ c.if-bars.false) lacks
    ∙ no_package call.time request.id request.command c.in_default-command.not-SubmitPackage)
