-- The step of a package: what is told if it is not judged, and what its landing leaves.
use Rattle.std.proofs.Common.{◌≡◌, ℕ, List, Option, Some, None, Result, Ok, Err, IfOk, refl, sym, ap, subst, ◌∙◌}
use Rattle.std.specs.Prelude.{IfErr, OnErr}
use Rattle.gate_bytes.specs.Order.{first_failing}
use Rattle.gate_tx.specs.Tx.{Tx}
use Rattle.gate_rules.specs.declared.PackageDenial.{PackageDenial}
use Rattle.gate_submission.specs.declared.PackageOutcome.{PackageOutcome}
use Rattle.gate_submission.specs.PackageOutcomes.{settled}
use Rattle.gate_pool.specs.Pool.{Admitted, Pooled}
use Rattle.gate_trim.specs.Expiry.{expired}
use Rattle.gate_trim.specs.Trimming.{Trimmed, trim_of}
use Rattle.gate_package.specs.declared.Unfit.{Unfit}
use Rattle.gate_package.specs.Packages.{Judged, gone_from, judged_of, landed, landed_as, packaged_of, unless_unfit}
use Rattle.gate_package.specs.Shapes.{members_of, shape_rules, text_rules}
use Rattle.gate_package.specs.Staging.{Staged, StagesAs}
use Rattle.gate_rpc.specs.declared.reply.RpcReply.TheVariants.{Failure}
use Rattle.gate_message.specs.declared.reply.Reply.{Reply}
use Rattle.gate_message.specs.declared.reply.Reply.TheVariants.{Rpc}
use Rattle.gate_message.specs.Replies.{without}
use Rattle.gate_core.specs.Packaging.{Answered, answer_of, error_of, left_by, packaged_by, unless_denied, unless_unread}
use Rattle.gate_core.specs.declared.packaging.AskedPackage.{AskedPackage}
use Rattle.gate_core.specs.declared.packaging.AskedPackage.TheVariants.{Call, Pair}
use Rattle.gate_core.specs.Asking.{Called, Paired}
use Rattle.gate_core.specs.PackageSteps.{CanBeTakenBack, IsStaged, Stages, closed_by, closed_for, greatest_rate, left_by_package, members_in, packaged_step, second_of, told_outcome}
use Rattle.gate_core.specs.RpcSteps.{packaged, replied}
use Rattle.gate_core.specs.World.{World, standing_of}
use Rattle.gate_core.proofs.Calls.{left_behind}
use Rattle.gate_core.proofs.Pairs.{judged_pair, pair_ending}

-- what a package leaves if its texts are read and its members fit
abbrev pub lands : World → Called → Answered
lands w called =
    left_by w (landed (standing_of w) called.second w.budget (judged_of called.call.max_rate (standing_of w) called.second (members_of called.call.members)))

abbrev pub trimmed_by : World → ℕ → List Admitted → Trimmed
trimmed_by w now entries = trim_of w.policy.incremental_rate w.budget (expired w.policy.stay now entries) w.floor

abbrev pub ending : World → AskedPackage → Judged → Trimmed → Reply × World
ending w asked judged after = left_by_package w asked (landed_as judged after)

-- a text that is no transaction, or that burns too much
pub unread_step : (w : World) (called : Called) (unfit : Unfit) (reply : Reply)
    → first_failing (text_rules called.call.max_burn called.call.members) ≡ Some unfit → reply ≡ Rpc (Failure called.id (error_of unfit)) → (reply, w) ≡ packaged_step w (Call called)
unread_step w called unfit reply found is =
    ap (λ (r : Reply). (r, w)) is
    ∙ ap
    (λ (o : Option Unfit). packaged called.id (unless_unread w o (unless_denied w (first_failing (shape_rules w.chain w.policy (members_of called.call.members))) (left_behind w called.second called.call))))
    (sym found)

-- members that don't fit together
pub denied_step : (w : World) (called : Called) (denial : PackageDenial) (reply : Reply)
    → first_failing (text_rules called.call.max_burn called.call.members) ≡ None → first_failing (shape_rules w.chain w.policy (members_of called.call.members)) ≡ Some denial
    → reply ≡ Rpc (replied called.id (answer_of denial)) → (reply, w) ≡ packaged_step w (Call called)
denied_step w called denial reply read found is =
    ap (λ (r : Reply). (r, w)) is
    ∙ (ap (λ (o : Option PackageDenial). packaged called.id (unless_denied w o (left_behind w called.second called.call))) (sym found)
    ∙ ap
    (λ (o : Option Unfit). packaged called.id (unless_unread w o (unless_denied w (first_failing (shape_rules w.chain w.policy (members_of called.call.members))) (left_behind w called.second called.call))))
    (sym read))

-- members that are judged: the step is what their landing leaves
pub judged_step : (w : World) (called : Called) → first_failing (text_rules called.call.max_burn called.call.members) ≡ None
    → first_failing (shape_rules w.chain w.policy (members_of called.call.members)) ≡ None → packaged_by w called.second called.call ≡ lands w called
unfolding packaged_of
judged_step w called read fits =
    ap (λ (o : Option Unfit). unless_unread w o (unless_denied w (first_failing (shape_rules w.chain w.policy (members_of called.call.members))) (left_behind w called.second called.call))) read
    ∙ (ap (λ (o : Option PackageDenial). unless_denied w o (left_behind w called.second called.call)) fits
    ∙ ap
    (λ (o : Option PackageDenial).
    left_by w (unless_unfit o (standing_of w) (landed (standing_of w) called.second w.budget (judged_of called.call.max_rate (standing_of w) called.second (members_of called.call.members)))))
    fits)

-- a package that was not judged has no stage
pub unstaged : (w : World) (asked : AskedPackage) (reply : Reply) (stage : Option Staged) (closes : Option ℕ) → stage ≡ None → (reply, w) ≡ packaged_step w asked → Stages w asked reply stage closes w
unstaged w asked reply None closes is step = (refl, step)
unstaged w asked reply (Some stage) closes is step = absurd (cc)

-- and needs no way back
pub none_back : (stage : Option Staged) (pool : Pooled) (entries : List Admitted) → stage ≡ None → CanBeTakenBack stage pool entries
none_back None pool entries is = tt
none_back (Some stage) pool entries is = absurd (cc)

-- what is told of a package that lands, and the state after it
told_ending : (w : World) (asked : AskedPackage) (outcome : PackageOutcome) (gone : List (List ℕ)) (entries : List Admitted) (floor : ℕ)
    → (without gone (told_outcome w asked outcome), record w { pool = entries; floor = floor; sessions = closed_for (closed_by w asked outcome) w.sessions })
    ≡ left_by_package w asked (record { outcome = settled gone outcome; entries = entries; floor = floor })
told_ending w (Call called) outcome gone entries floor = refl
told_ending w (Pair pair) outcome gone entries floor = pair_ending w pair.peer outcome gone entries floor

landed_by : (w : World) (asked : AskedPackage) (outcome : PackageOutcome) (stage : Staged) (meanwhile : List Admitted) (after : World) (gone : List (List ℕ))
    → StagesAs (greatest_rate asked) (standing_of w) (second_of asked) (members_in asked) outcome stage meanwhile
    → packaged_step w asked ≡ left_by_package w asked (landed (standing_of w) (second_of asked) w.budget (judged_of (greatest_rate asked) (standing_of w) (second_of asked) (members_in asked)))
    → trimmed_by w (second_of asked) meanwhile ≡ record { entries = after.pool; floor = after.floor } → gone ≡ gone_from after.pool stage.held
    → after ≡ record w { pool = after.pool; floor = after.floor; sessions = closed_for (closed_by w asked outcome) w.sessions }
    → (without gone (told_outcome w asked outcome), after) ≡ packaged_step w asked
unfolding landed
landed_by w asked outcome stage meanwhile after gone staged step left is same =
    let judged : Judged = record { outcome = outcome; entries = meanwhile } in
    ap (λ (v : World). (without gone (told_outcome w asked outcome), v)) same
    ∙ (told_ending w asked outcome gone after.pool after.floor
    ∙ (ap (λ (g : List (List ℕ)). left_by_package w asked (record { outcome = settled g outcome; entries = after.pool; floor = after.floor })) (is ∙ ap (gone_from after.pool) staged.held)
    ∙ (ap (ending w asked judged) (sym left)
    ∙ (ap (λ (j : Judged). ending w asked j (trimmed_by w (second_of asked) j.entries)) (sym staged.judged)
    ∙ sym step))))

-- a package that lands
pub landed_step : (w : World) (asked : AskedPackage) (outcome : PackageOutcome) (stage : Staged) (closes : Option ℕ) (meanwhile after : World) (reply told : Reply) (gone : List (List ℕ)) (second : ℕ)
    → reply ≡ told_outcome w asked outcome → closes ≡ closed_by w asked outcome → IsStaged w asked outcome stage meanwhile → second ≡ second_of asked
    → trimmed_by meanwhile second meanwhile.pool ≡ record { entries = after.pool; floor = after.floor } → gone ≡ gone_from after.pool stage.held
    → after ≡ record meanwhile { pool = after.pool; floor = after.floor; sessions = closed_for closes meanwhile.sessions } → told ≡ without gone reply → (told, after) ≡ packaged_step w asked
landed_step w asked outcome stage closes meanwhile after reply told gone second is shut staged at left lost same said =
    let P : World → Type 0 =
    λ m. trimmed_by m second meanwhile.pool ≡ record { entries = after.pool; floor = after.floor }
    → after ≡ record m { pool = after.pool; floor = after.floor; sessions = closed_for closes m.sessions }
    → (without gone (told_outcome w asked outcome), after) ≡ packaged_step w asked in
    let Q : ℕ → Type 0 = λ s. trimmed_by w s meanwhile.pool ≡ record { entries = after.pool; floor = after.floor } in
    let R : Option ℕ → Type 0 = λ o. after ≡ record w { pool = after.pool; floor = after.floor; sessions = closed_for o w.sessions } in
    ap (λ (r : Reply). (r, after)) (said ∙ ap (without gone) is)
    ∙ subst P (sym staged.others) (λ l s. landed_by w asked outcome stage meanwhile.pool after gone staged.staged staged.step (subst Q at l) lost (subst R shut s)) left same

-- a package that is taken back
pub taken_back : (w : World) (asked : AskedPackage) (outcome : PackageOutcome) (stage : Staged) (meanwhile : World) (entries : List Admitted)
    → IsStaged w asked outcome stage meanwhile → entries ≡ w.pool → record meanwhile { pool = entries } ≡ w
taken_back w asked outcome stage meanwhile entries staged is =
    ap (λ (m : World). record m { pool = entries }) staged.others ∙ ap (λ (p : List Admitted). record w { pool = p }) is

-- a peer's package that was staged
pub staged_pair : (w : World) (pair : Paired) (outcome : PackageOutcome) (stage : Staged) (meanwhile : World) (members : List Tx) → members ≡ pair.members
    → first_failing (shape_rules w.chain w.policy members) ≡ None
    → StagesAs 0 (standing_of w) pair.second members outcome stage meanwhile.pool → meanwhile ≡ record w { pool = meanwhile.pool } → IsStaged w (Pair pair) outcome stage meanwhile
staged_pair w pair outcome stage meanwhile members are fits staged others = record {
  staged = subst (λ (txs : List Tx). StagesAs 0 (standing_of w) pair.second txs outcome stage meanwhile.pool) are staged;
  others = others;
  step = judged_pair w pair (subst (λ (txs : List Tx). first_failing (shape_rules w.chain w.policy txs) ≡ None) are fits);
}

-- these are the texts of a call, and these the members that they stand for
pub record AreMembers (called : Called) (texts : List (Option Tx)) (members : List Tx) : Type 0 where
  pub texts_are : texts ≡ called.call.members
  pub members_are : members ≡ members_of texts

-- a package that was staged
pub staged_as : (w : World) (called : Called) (outcome : PackageOutcome) (stage : Staged) (meanwhile : World) (texts : List (Option Tx)) (members : List Tx) → AreMembers called texts members
    → first_failing (text_rules called.call.max_burn texts) ≡ None → first_failing (shape_rules w.chain w.policy members) ≡ None
    → StagesAs called.call.max_rate (standing_of w) called.second members outcome stage meanwhile.pool → meanwhile ≡ record w { pool = meanwhile.pool } → IsStaged w (Call called) outcome stage meanwhile
staged_as w called outcome stage meanwhile texts members these read fits staged others =
    let are : members ≡ members_of called.call.members = these.members_are ∙ ap members_of these.texts_are in
    record {
      staged = subst (λ (txs : List Tx). StagesAs called.call.max_rate (standing_of w) called.second txs outcome stage meanwhile.pool) are staged;
      others = others;
      step = ap (packaged called.id) (
          judged_step w called (subst (λ (l : List (Option Tx)). first_failing (text_rules called.call.max_burn l) ≡ None) these.texts_are read)
          (subst (λ (txs : List Tx). first_failing (shape_rules w.chain w.policy txs) ≡ None) are fits));
    }

-- ---- results of calls

pub both : {T E : Type 0} (r : Result T E) (P Q R : T → Type 0) → ((x : T) → P x → Q x → R x) → IfOk r P → IfOk r Q → IfOk r R
both (Ok x) P Q R f p q = f x p q
both (Err e) P Q R f p q = tt

pub on_err : {T E : Type 0} (r : Result T E) (P : Type 0) → P → OnErr r P
on_err (Ok x) P p = tt
on_err (Err e) P p = p

pub ok_at : {T E : Type 0} (r : Result T E) (x : T) (P : T → Type 0) → r ≡ Ok x → IfOk r P → P x
ok_at {T = T} {E = E} r x P is h = subst (λ (q : Result T E). IfOk q P) is h

pub err_at : {T E : Type 0} (r : Result T E) (e : E) (P : E → Type 0) → r ≡ Err e → IfErr r P → P e
err_at {T = T} {E = E} r e P is h = subst (λ (q : Result T E). IfErr q P) is h
