use Rattle.std.proofs.Common.{IfOk, ◌≡◌, subst, Result}
use Rattle.std.proofs.lemmas.Result.{IfOk-weaker}
use Rattle.gate_rpc.specs.declared.error.RpcError.{RpcError}
use Rattle.gate_rpc.specs.declared.result.RpcResult.{RpcResult}
use Rattle.gate_query.specs.Answers.{tested}
use Rattle.gate_core.specs.RpcSteps.{told}
use Rattle.gate_core.specs.World.{World, standing_of}
use Rattle.gate_core.specs.Planning.{Plans, world_of}
use Rattle.gate_core.proofs.parts.StateParts.testing.Goals as goal

pub returns-clause-ok : goal.returns-clause-ok
returns-clause-ok g c =
    let w : World = world_of c.args.self.now in
    let found : c.in_ok-outcome.outcome ≡ tested (standing_of w) c.args.transaction.now = c.in_ok-outcome.ensures in
    subst (λ (outcome : Result RpcResult RpcError). (planned : IfOk c.telling.result (λ plan. Plans w (told w c.args.id.now c.in_ok-outcome.outcome) plan)) → IfOk c.telling.result (Plans w (told w c.args.id.now outcome))) found
    (λ planned. planned)
    (IfOk-weaker c.telling.result _ _ (λ plan planned. planned w) c.telling.ensures.ok)
