use Rattle.std.proofs.Common.{Option, Some, None, ap, subst, ◌∙◌}
use Rattle.gate_package.specs.Staging.{Staged}
use Rattle.gate_core.specs.declared.packaging.AskedPackage.{AskedPackage}
use Rattle.gate_core.specs.PackageSteps.{Stages}
use Rattle.gate_core.specs.Planning.{world_of}
use Rattle.gate_core.specs.World.{World}
use Rattle.gate_core.proofs.Packages.{landed_step}
use Rattle.gate_core.proofs.parts.StateParts.step_package.Goals as goal

pub returns-in-Some-clause-ok : goal.returns-in-Some-clause-ok
returns-in-Some-clause-ok g c =
    let w : World = world_of c.args.self.now in
    let asked : AskedPackage = c.args.asked.now in
    let meanwhile : World = world_of c.stage.new.self in
    let after : World = world_of c.land-gone.new.self in
    let staged : Stages w asked c.in_ok-reply.field-0.reply (Some c.in-Some.stage) c.in_ok-reply.field-0.closes meanwhile =
    subst (λ (o : Option Staged). Stages w asked c.in_ok-reply.field-0.reply o c.in_ok-reply.field-0.closes meanwhile) c.in-Some.is c.in_ok-reply.ensures.ok in
    landed_step w asked staged.0 c.in-Some.stage c.in_ok-reply.field-0.closes meanwhile after c.in_ok-reply.field-0.reply c.without.result c.as_slice.result.now c.second.result staged.1 staged.2 staged.3 c.second.ensures c.land-gone.ensures.left
    (c.as_slice.ensures.value ∙ c.land-gone.ensures.gone) c.land-gone.ensures.others c.without.ensures

pub returns-in-Some-clause-before : goal.returns-in-Some-clause-before
returns-in-Some-clause-before g c = λ same. c.land-gone.ensures.before ∙ c.in_ok-reply.ensures.before same

pub returns-in-None-clause-ok : goal.returns-in-None-clause-ok
returns-in-None-clause-ok g c =
    let w : World = world_of c.args.self.now in
    let asked : AskedPackage = c.args.asked.now in
    let meanwhile : World = world_of c.stage.new.self in
    let told : Stages w asked c.in_ok-reply.field-0.reply None c.in_ok-reply.field-0.closes meanwhile =
    subst (λ (o : Option Staged). Stages w asked c.in_ok-reply.field-0.reply o c.in_ok-reply.field-0.closes meanwhile) c.in-None.is c.in_ok-reply.ensures.ok in
    ap (λ (v : World). (c.in_ok-reply.field-0.reply, v)) told.0 ∙ told.1

pub returns-in-None-clause-before : goal.returns-in-None-clause-before
returns-in-None-clause-before g c = λ same. c.in_ok-reply.ensures.before same
