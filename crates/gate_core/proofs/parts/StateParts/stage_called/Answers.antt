use Rattle.std.proofs.Common.{◌≡◌, List, Option, Some, None, refl, sym, ap, subst, ◌∙◌}
use Rattle.std.proofs.lemmas.Result.{IfOk-weaker}
use Rattle.gate_bytes.specs.Order.{first_failing}
use Rattle.gate_tx.specs.Tx.{Tx}
use Rattle.gate_submission.specs.declared.PackageOutcome.{PackageOutcome}
use Rattle.gate_package.specs.Shapes.{members_of, shape_rules, text_rules}
use Rattle.gate_package.specs.Staging.{StagesAs}
use Rattle.gate_package.proofs.Shaping.{shape_passes}
use Rattle.gate_rpc.specs.declared.error.RpcError.{RpcError}
use Rattle.gate_rpc.specs.declared.id.Id.{Id}
use Rattle.gate_rpc.specs.declared.reply.RpcReply.{RpcReply}
use Rattle.gate_rpc.specs.declared.reply.RpcReply.TheVariants.{Answer, Failure}
use Rattle.gate_rpc.specs.declared.request.PackageCall.{PackageCall}
use Rattle.gate_rpc.specs.declared.result.RpcResult.TheVariants.{Package}
use Rattle.gate_message.specs.declared.reply.Reply.TheVariants.{Rpc}
use Rattle.gate_core.specs.Packaging.{answer_of}
use Rattle.gate_core.specs.Asking.{Called}
use Rattle.gate_core.specs.declared.packaging.AskedPackage.TheVariants.{Call}
use Rattle.gate_core.specs.Planning.{world_of}
use Rattle.gate_core.specs.RpcSteps.{replied}
use Rattle.gate_core.specs.World.{World, standing_of}
use Rattle.gate_core.proofs.Packages.{both, denied_step, err_at, none_back, ok_at, staged_as, unread_step, unstaged}
use Rattle.gate_core.proofs.parts.StateParts.stage_called.Goals as goal

pub returns-in-Err-clause-ok : goal.returns-in-Err-clause-ok
returns-in-Err-clause-ok g c =
    let w : World = world_of c.args.self.now in
    let called : Called = c.args.called.now in
    let call : c.called.inside.call.now ≡ called.call = ap (λ (k : Called). k.call) c.called.view_is in
    let texts : c.as_slice-texts.result.now ≡ called.call.members = c.as_slice-texts.ensures ∙ ap (λ (k : PackageCall). k.members) call in
    let id : c.in_ok-id.id ≡ called.id = c.in_ok-id.ensures ∙ ap (λ (k : Called). k.id) c.called.view_is in
    let found : first_failing (text_rules c.called.inside.call.now.max_burn c.as_slice-texts.result.now) ≡ Some c.in-Err.unfit =
    err_at _ _ (λ u. first_failing (text_rules c.called.inside.call.now.max_burn c.as_slice-texts.result.now) ≡ Some u) c.in-Err.is c.in_ok-members.ensures.err in
    let fails : first_failing (text_rules called.call.max_burn called.call.members) ≡ Some c.in-Err.unfit =
    subst (λ (k : PackageCall). first_failing (text_rules k.max_burn called.call.members) ≡ Some c.in-Err.unfit) call
    (subst (λ (l : List (Option Tx)). first_failing (text_rules c.called.inside.call.now.max_burn l) ≡ Some c.in-Err.unfit) texts found) in
    both c.unstaged.result _ _ _
    (λ staged told none.
    unstaged w (Call called) staged.reply staged.stage staged.closes none
    (unread_step w called c.in-Err.unfit staged.reply fails
    (told ∙ (ap (λ (i : Id). Rpc (Failure i c.error_of-error.result)) id ∙ ap (λ (e : RpcError). Rpc (Failure called.id e)) c.error_of-error.ensures))))
    c.unstaged.ensures.reply c.unstaged.ensures.stage

pub returns-in-Some-clause-ok : goal.returns-in-Some-clause-ok
returns-in-Some-clause-ok g c =
    let w : World = world_of c.args.self.now in
    let called : Called = c.args.called.now in
    let call : c.called.inside.call.now ≡ called.call = ap (λ (k : Called). k.call) c.called.view_is in
    let texts : c.as_slice-texts.result.now ≡ called.call.members = c.as_slice-texts.ensures ∙ ap (λ (k : PackageCall). k.members) call in
    let id : c.in_ok-id.id ≡ called.id = c.in_ok-id.ensures ∙ ap (λ (k : Called). k.id) c.called.view_is in
    let read : first_failing (text_rules c.called.inside.call.now.max_burn c.as_slice-texts.result.now) ≡ None =
    ok_at _ _ (λ m. first_failing (text_rules c.called.inside.call.now.max_burn c.as_slice-texts.result.now) ≡ None) c.in-Ok.is c.in_ok-members.ensures.passes in
    let passes : first_failing (text_rules called.call.max_burn called.call.members) ≡ None =
    subst (λ (k : PackageCall). first_failing (text_rules k.max_burn called.call.members) ≡ None) call
    (subst (λ (l : List (Option Tx)). first_failing (text_rules c.called.inside.call.now.max_burn l) ≡ None) texts read) in
    let members : c.as_slice-members.result.now ≡ members_of called.call.members =
    c.as_slice-members.ensures.value ∙ (ok_at _ _ (λ m. m.items ≡ members_of c.as_slice-texts.result.now) c.in-Ok.is c.in_ok-members.ensures.members ∙ ap members_of texts) in
    let found : first_failing (shape_rules w.chain w.policy (members_of called.call.members)) ≡ Some c.in-Some.denial =
    subst (λ (txs : List Tx). first_failing (shape_rules w.chain w.policy txs) ≡ Some c.in-Some.denial) members (sym c.in-Some.ensures) in
    both c.unstaged-in-Some.result _ _ _
    (λ staged told none.
    unstaged w (Call called) staged.reply staged.stage staged.closes none
    (denied_step w called c.in-Some.denial staged.reply passes found
    (told ∙ (ap Rpc c.unjudged.ensures ∙ ap (λ (i : Id). Rpc (replied i (answer_of c.in-Some.denial))) id))))
    c.unstaged-in-Some.ensures.reply c.unstaged-in-Some.ensures.stage

pub stage_package-requires-clause-distinct : goal.stage_package-requires-clause-distinct
stage_package-requires-clause-distinct g c = (shape_passes c.args.self.now.chain c.args.self.now.policy c.as_slice-members.result.now (sym c.check_shape.ensures ∙ c.in_default.is)).0

pub stage_package-requires-clause-apart : goal.stage_package-requires-clause-apart
stage_package-requires-clause-apart g c = (shape_passes c.args.self.now.chain c.args.self.now.policy c.as_slice-members.result.now (sym c.check_shape.ensures ∙ c.in_default.is)).1

pub returns-clause-ok : goal.returns-clause-ok
returns-clause-ok g c =
    let w : World = world_of c.args.self.now in
    let called : Called = c.args.called.now in
    let outcome : PackageOutcome = c.in_ok-staged.staged.outcome in
    let meanwhile : World = record w { pool = c.stage_package.new.pool.entries } in
    let texts : c.as_slice-texts.result.now ≡ called.call.members = c.as_slice-texts.ensures ∙ ap (λ (k : Called). k.call.members) c.called.view_is in
    let id : c.in_ok-id.id ≡ called.id = c.in_ok-id.ensures ∙ ap (λ (k : Called). k.id) c.called.view_is in
    let read : first_failing (text_rules c.called.inside.call.now.max_burn c.as_slice-texts.result.now) ≡ None =
    ok_at _ _ (λ m. first_failing (text_rules c.called.inside.call.now.max_burn c.as_slice-texts.result.now) ≡ None) c.in-Ok.is c.in_ok-members.ensures.passes in
    let members : c.as_slice-members.result.now ≡ members_of c.as_slice-texts.result.now =
    c.as_slice-members.ensures.value ∙ ok_at _ _ (λ m. m.items ≡ members_of c.as_slice-texts.result.now) c.in-Ok.is c.in_ok-members.ensures.members in (
      outcome,
      ap (λ (answer : RpcReply). Rpc answer) c.replace-placeholder.ensures.after ∙ ap (λ (i : Id). Rpc (Answer i (Package outcome))) id,
      refl,
      staged_as w called outcome c.in_ok-staged.staged.stage meanwhile c.as_slice-texts.result.now c.as_slice-members.result.now (record { texts_are = texts; members_are = members })
          (subst (λ (k : Called). first_failing (text_rules k.call.max_burn c.as_slice-texts.result.now) ≡ None) c.called.view_is read) (sym c.check_shape.ensures ∙ c.in_default.is)
          (subst (λ (k : Called). StagesAs k.call.max_rate (standing_of w) k.second c.as_slice-members.result.now outcome c.in_ok-staged.staged.stage meanwhile.pool) c.called.view_is c.in_ok-staged.ensures.ok) refl,
    )

pub returns-in-Err-clause-back : goal.returns-in-Err-clause-back
returns-in-Err-clause-back g c = IfOk-weaker c.unstaged.result _ _ (λ staged none. none_back staged.stage c.args.self.now.pool c.args.self.now.pool.entries none) c.unstaged.ensures.stage

pub returns-in-Some-clause-back : goal.returns-in-Some-clause-back
returns-in-Some-clause-back g c = IfOk-weaker c.unstaged-in-Some.result _ _ (λ staged none. none_back staged.stage c.args.self.now.pool c.args.self.now.pool.entries none) c.unstaged-in-Some.ensures.stage
