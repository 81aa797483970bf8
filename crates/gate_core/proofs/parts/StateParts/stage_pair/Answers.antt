use Rattle.std.proofs.Common.{◌≡◌, ℕ, Bool, if◌then◌else◌, List, [], ◌∷◌, Option, Some, None, refl, sym, ap, subst, ◌∙◌}
use Rattle.std.specs.List.{list_any}
use Rattle.gate_bytes.specs.Order.{first_failing}
use Rattle.gate_tx.specs.Tx.{Tx}
use Rattle.gate_submission.specs.declared.Member.{Member}
use Rattle.gate_submission.specs.declared.PackageOutcome.{PackageOutcome}
use Rattle.gate_package.specs.Shapes.{shape_rules}
use Rattle.gate_package.specs.Staging.{Staged, StagesAs}
use Rattle.gate_package.proofs.Shaping.{shape_passes}
use Rattle.gate_message.specs.Replies.{packaged_as}
use Rattle.gate_message.specs.declared.denial.Then.TheVariants.{Close, Keep}
use Rattle.gate_core.specs.Asking.{Paired}
use Rattle.gate_core.specs.PackageSteps.{CanBeTakenBack, Stages}
use Rattle.gate_core.specs.Pairing.{closes}
use Rattle.gate_core.specs.Planning.{world_of}
use Rattle.gate_core.specs.World.{World, standing_of}
use Rattle.gate_core.specs.declared.packaging.AskedPackage.TheVariants.{Pair}
use Rattle.gate_core.proofs.Packages.{none_back, staged_pair}
use Rattle.gate_core.proofs.parts.StateParts.stage_pair.Goals as goal

pub stage_package-requires-clause-distinct : goal.stage_package-requires-clause-distinct
stage_package-requires-clause-distinct g c = (shape_passes c.args.self.now.chain c.args.self.now.policy (c.again.result ∷ c.again-2.result ∷ []) (sym c.check_shape.ensures ∙ c.in_default.is)).0

pub stage_package-requires-clause-apart : goal.stage_package-requires-clause-apart
stage_package-requires-clause-apart g c = (shape_passes c.args.self.now.chain c.args.self.now.policy (c.again.result ∷ c.again-2.result ∷ []) (sym c.check_shape.ensures ∙ c.in_default.is)).1

pub returns-clause-ok : goal.returns-clause-ok
returns-clause-ok g c =
    let w : World = world_of c.args.self.now in
    let pair : Paired = c.args.pair.now in
    let outcome : PackageOutcome = c.in_ok-staged.staged.outcome in
    let stage : Staged = c.in_ok-staged.staged.stage in
    let meanwhile : World = record w { pool = c.stage_package.new.pool.entries } in
    let members : List Tx = c.again.result ∷ c.again-2.result ∷ [] in
    let are : members ≡ pair.members = (λ i. c.again.ensures i ∷ c.again-2.ensures i ∷ []) ∙ ap (λ (p : Paired). p.members) c.pair.view_is in
    let fits : first_failing (shape_rules w.chain w.policy members) ≡ None = sym c.check_shape.ensures ∙ c.in_default.is in
    let staged : StagesAs 0 (standing_of w) pair.second members outcome stage meanwhile.pool =
    subst (λ (p : Paired). StagesAs 0 (standing_of w) p.second members outcome stage meanwhile.pool) c.pair.view_is c.in_ok-staged.ensures.ok in
    let shut : c.one_closes-is_closed.result ≡ list_any (closes w pair.peer) outcome.members =
    c.one_closes-is_closed.ensures
    ∙ (ap (λ (ms : List Member). list_any (closes w c.pair.inside.peer) ms) c.as_slice.ensures ∙ ap (λ (p : Paired). list_any (closes w p.peer) outcome.members) c.pair.view_is) in
    subst (λ (o : Option Staged). Stages w (Pair pair) c.judged_pair.result.reply o c.judged_pair.result.closes meanwhile) (sym c.judged_pair.ensures.stage) (
      outcome,
      c.judged_pair.ensures.reply ∙ ap (λ (b : Bool). packaged_as (if b then Close else Keep) outcome) shut,
      c.judged_pair.ensures.closes ∙ (ap (λ (n : ℕ). if c.one_closes-is_closed.result then Some n else None) (ap (λ (p : Paired). p.peer) c.pair.view_is) ∙ ap (λ (b : Bool). if b then Some pair.peer else None) shut),
      staged_pair w pair outcome stage meanwhile members are fits staged refl,
    )

pub returns-in-Some-clause-back : goal.returns-in-Some-clause-back
returns-in-Some-clause-back g c = none_back c.unjudged_pair.result.stage c.args.self.now.pool c.args.self.now.pool.entries c.unjudged_pair.ensures.stage

pub returns-clause-back : goal.returns-clause-back
returns-clause-back g c =
    let pool = c.stage_package.new.pool in
    let entries = c.args.self.now.pool.entries in
    subst (λ (o : Option Staged). CanBeTakenBack o pool entries) (sym c.judged_pair.ensures.stage) (c.stage_package.ensures.before, c.in_ok-staged.ensures.rewindable)
