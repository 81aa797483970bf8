use Rattle.std.proofs.Common.{ℕ, List, sym, ap, subst, ◌∙◌}
use Rattle.std.specs.Prelude.{unwrap_or}
use Rattle.gate_submission.specs.PackageOutcomes.{settled}
use Rattle.gate_pool.specs.Pool.{Admitted}
use Rattle.gate_admit.specs.Standing.{Standing, standing}
use Rattle.gate_package.specs.Staging.{StagesAs}
use Rattle.gate_package.proofs.Concluding.{lands_staged, left_out}
use Rattle.gate_package.proofs.Shaping.{shape_passes}
use Rattle.gate_package.proofs.submitting.submit_package.Goals as goal

pub returns-in-Some-clause-ok : goal.returns-in-Some-clause-ok
returns-in-Some-clause-ok g c =
    let over = standing c.args.chain.now c.args.pool.now.entries c.args.floor.now c.args.verdicts.now c.args.policy.now in
    left_out (unwrap_or c.args.max_rate 0) over c.args.members.now c.args.now c.args.budget c.in-Some.denial c.unjudged.result c.mark.new.self.entries (sym c.check_shape.ensures ∙ c.in-Some.is) c.unjudged.ensures c.mark.ensures.entries

pub stage_package-requires-clause-distinct : goal.stage_package-requires-clause-distinct
stage_package-requires-clause-distinct g c = (shape_passes c.args.chain.now c.args.policy.now c.args.members.now (sym c.check_shape.ensures ∙ c.in_default.is)).0

pub stage_package-requires-clause-apart : goal.stage_package-requires-clause-apart
stage_package-requires-clause-apart g c = (shape_passes c.args.chain.now c.args.policy.now c.args.members.now (sym c.check_shape.ensures ∙ c.in_default.is)).1

pub returns-clause-ok : goal.returns-clause-ok
returns-clause-ok g c =
    let of : List Admitted → Standing = λ entries. standing c.args.chain.now entries c.args.floor.now c.args.verdicts.now c.args.policy.now in
    let staged = c.in_ok-staged.staged in
    let stands = λ (rate : ℕ) (entries : List Admitted). StagesAs rate (of entries) c.args.now c.args.members.now staged.outcome staged.stage c.stage_package.new.pool.entries in
    let stages : stands (unwrap_or c.args.max_rate 0) c.args.pool.now.entries =
    subst (stands (unwrap_or c.args.max_rate 0)) c.mark.ensures.entries (subst (λ (rate : ℕ). stands rate c.mark.new.self.entries) c.unwrap_or.ensures c.in_ok-staged.ensures.ok) in
    lands_staged (unwrap_or c.args.max_rate 0) (of c.args.pool.now.entries) c.args.members.now c.args.now c.args.budget staged.outcome c.settled.result staged.stage c.stage_package.new.pool.entries c.land-gone.new.pool.entries c.land-gone.new.floor
    c.land-gone.result.items (sym c.check_shape.ensures ∙ c.in_default.is) stages c.land-gone.ensures.left c.land-gone.ensures.gone (c.settled.ensures ∙ ap (λ l. settled l staged.outcome) c.as_slice.ensures.value)
