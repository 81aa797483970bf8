use Rattle.std.proofs.Common.{Option, Some, None, ap, subst, ◌∙◌}
use Rattle.std.proofs.lemmas.Result.{IfOk-weaker}
use Rattle.gate_package.specs.Staging.{Staged}
use Rattle.gate_message.specs.declared.reply.Reply.{Reply}
use Rattle.gate_core.specs.declared.packaging.AskedPackage.{AskedPackage}
use Rattle.gate_core.specs.PackageSteps.{CanBeTakenBack, Stages}
use Rattle.gate_core.specs.Planning.{world_of}
use Rattle.gate_core.specs.World.{World}
use Rattle.gate_core.proofs.Packages.{landed_step, on_err, taken_back}
use Rattle.gate_core.proofs.parts.StateParts.record_package.Goals as goal

pub returns-in_default-clause-ok : goal.returns-in_default-clause-ok
returns-in_default-clause-ok g c =
    let w : World = world_of c.args.self.now in
    let asked : AskedPackage = c.args.asked.now in
    let meanwhile : World = world_of c.stage.new.self in
    let told : Stages w asked c.in_ok-reply.field-0.reply None c.in_ok-reply.field-0.closes meanwhile =
    subst (λ (o : Option Staged). Stages w asked c.in_ok-reply.field-0.reply o c.in_ok-reply.field-0.closes meanwhile) c.in_default.is c.in_ok-reply.ensures.ok in
    IfOk-weaker c.of.result _ _ (λ replies is. ap (λ (r : Reply). (r, meanwhile)) is ∙ (ap (λ (v : World). (c.in_ok-reply.field-0.reply, v)) told.0 ∙ told.1)) c.of.ensures.reply

pub returns-in_default-clause-err : goal.returns-in_default-clause-err
returns-in_default-clause-err g c =
    let w : World = world_of c.args.self.now in
    let asked : AskedPackage = c.args.asked.now in
    let meanwhile : World = world_of c.stage.new.self in
    let told : Stages w asked c.in_ok-reply.field-0.reply None c.in_ok-reply.field-0.closes meanwhile =
    subst (λ (o : Option Staged). Stages w asked c.in_ok-reply.field-0.reply o c.in_ok-reply.field-0.closes meanwhile) c.in_default.is c.in_ok-reply.ensures.ok in
    on_err c.of.result _ told.0

pub returns-in-Ok-clause-ok : goal.returns-in-Ok-clause-ok
returns-in-Ok-clause-ok g c =
    let w : World = world_of c.args.self.now in
    let asked : AskedPackage = c.args.asked.now in
    let meanwhile : World = world_of c.stage.new.self in
    let after : World = world_of c.land-gone.new.self in
    let staged : Stages w asked c.in_ok-reply.field-0.reply (Some c.in-Some.stage) c.in_ok-reply.field-0.closes meanwhile =
    subst (λ (o : Option Staged). Stages w asked c.in_ok-reply.field-0.reply o c.in_ok-reply.field-0.closes meanwhile) c.in-Some.is c.in_ok-reply.ensures.ok in
    landed_step w asked staged.0 c.in-Some.stage c.in_ok-reply.field-0.closes meanwhile after c.in-Ok.replies.reply c.without.result.reply c.as_slice.result.now c.second.result (c.in-Ok.ensures.reply ∙ staged.1) staged.2 staged.3 c.second.ensures
    c.land-gone.ensures.left (c.as_slice.ensures.value ∙ c.land-gone.ensures.gone) c.land-gone.ensures.others c.without.ensures.reply

pub take_back-requires : goal.take_back-requires
take_back-requires g c =
    let back : CanBeTakenBack (Some c.in-Some.stage) c.stage.new.self.pool c.args.self.now.pool.entries =
    subst (λ (o : Option Staged). CanBeTakenBack o c.stage.new.self.pool c.args.self.now.pool.entries) c.in-Some.is c.in_ok-reply.ensures.back in
    back.1

pub returns-in-Err-clause-err : goal.returns-in-Err-clause-err
returns-in-Err-clause-err g c =
    let w : World = world_of c.args.self.now in
    let asked : AskedPackage = c.args.asked.now in
    let meanwhile : World = world_of c.stage.new.self in
    let staged : Stages w asked c.in_ok-reply.field-0.reply (Some c.in-Some.stage) c.in_ok-reply.field-0.closes meanwhile =
    subst (λ (o : Option Staged). Stages w asked c.in_ok-reply.field-0.reply o c.in_ok-reply.field-0.closes meanwhile) c.in-Some.is c.in_ok-reply.ensures.ok in
    let back : CanBeTakenBack (Some c.in-Some.stage) c.stage.new.self.pool w.pool =
    subst (λ (o : Option Staged). CanBeTakenBack o c.stage.new.self.pool w.pool) c.in-Some.is c.in_ok-reply.ensures.back in
    taken_back w asked staged.0 c.in-Some.stage meanwhile _ staged.3 (c.take_back.ensures.entries ∙ back.0)
