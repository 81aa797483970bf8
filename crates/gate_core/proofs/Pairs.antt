-- What a peer's package gives: it is denied, or leaves what it is judged to leave.
use Rattle.std.proofs.Common.{◌≡◌, ℕ, Bool, true, false, if◌then◌else◌, List, [], ◌∷◌, map, Option, Some, None, refl, sym, ap, ◌∙◌}
use Rattle.std.specs.List.{list_any}
use Rattle.std.specs.Prelude.{◌||◌}
use Rattle.std.specs.Str.{bytes_eq}
use Rattle.std.proofs.lemmas.Bool.{and_parts, false≢true}
use Rattle.gate_bytes.specs.Order.{first_failing}
use Rattle.gate_tx.specs.Tx.{Tx}
use Rattle.gate_rules.specs.declared.Denial.TheVariants.{Decode, MempoolFull}
use Rattle.gate_rules.specs.declared.PackageDenial.{PackageDenial}
use Rattle.gate_rules.specs.declared.PeerDenial.{PeerDenial}
use Rattle.gate_rules.specs.declared.PeerDenial.TheVariants.{Admission}
use Rattle.gate_submission.specs.declared.Fate.{Fate}
use Rattle.gate_submission.specs.declared.Fate.TheVariants as fates
use Rattle.gate_submission.specs.declared.Member.{Member}
use Rattle.gate_submission.specs.declared.PackageOutcome.{PackageOutcome}
use Rattle.gate_submission.specs.PackageOutcomes.{has_left, is_of_pool, left as settled_member, settled}
use Rattle.gate_pool.specs.Pool.{Admitted}
use Rattle.gate_package.specs.Packages.{judged_of, landed, packaged_of, unless_unfit}
use Rattle.gate_package.specs.Shapes.{shape_rules}
use Rattle.gate_message.specs.declared.denial.Then.TheVariants.{Keep, Close}
use Rattle.gate_message.specs.declared.reply.Reply.{Reply}
use Rattle.gate_message.specs.Replies.{packaged_as, without}
use Rattle.gate_message.specs.Spelled.{of_both}
use Rattle.gate_core.specs.Access.{package_rules}
use Rattle.gate_core.specs.Asking.{Paired}
use Rattle.gate_core.specs.PackageSteps.{closed_for, pair_in, pair_with, unless_refused}
use Rattle.gate_core.specs.Pairing.{both_of, closes, closes_by, is_close, left_by_pair, left_by_then, package_step, paired, paired_if_read, then_after, unfit_pair, unless_unfit_pair}
use Rattle.gate_core.specs.PeerSteps.{answered, denied, then_for}
use Rattle.gate_core.specs.World.{World, standing_of}

module _ (P : Reply × World → Type 0) (w : World) (peer now : ℕ) where
  -- members that fit together, or don't
  fit_gives : (txs : List Tx) → ((denial : PackageDenial) → P (unfit_pair w denial)) → P (left_by_pair w peer (packaged_of 0 (standing_of w) txs now w.budget)) → P (paired w peer now txs)
  fit_gives txs unfit leave = by (first_failing (shape_rules w.chain w.policy txs))
    where
      by : (found : Option PackageDenial) → P (unless_unfit_pair w found (left_by_pair w peer (packaged_of 0 (standing_of w) txs now w.budget)))
      by (Some denial) = unfit denial
      by None = leave

  read_gives : (parent child : Option Tx) → ((denial : PeerDenial) → P (denied w peer denial)) → ((denial : PackageDenial) → P (unfit_pair w denial))
      → ((txs : List Tx) → txs ≡ of_both parent child → P (left_by_pair w peer (packaged_of 0 (standing_of w) txs now w.budget)))
      → P (paired_if_read w peer now (both_of parent child))
  read_gives None child refuse unfit leave = refuse (Admission Decode)
  read_gives (Some parent) None refuse unfit leave = refuse (Admission Decode)
  read_gives (Some parent) (Some child) refuse unfit leave = fit_gives (parent ∷ child ∷ []) unfit (leave (parent ∷ child ∷ []) refl)

  -- a peer's package is denied and changes at most its session, or its members are judged
  pub pair_gives : (parent child : Option Tx) → ((denial : PeerDenial) → P (denied w peer denial)) → ((denial : PackageDenial) → P (unfit_pair w denial))
      → ((txs : List Tx) → txs ≡ of_both parent child → P (left_by_pair w peer (packaged_of 0 (standing_of w) txs now w.budget)))
      → P (package_step w peer now parent child)
  pair_gives parent child refuse unfit leave = by (first_failing (package_rules w peer parent child))
    where
      by : (found : Option PeerDenial) → P (answered w peer (paired_if_read w peer now (both_of parent child)) found)
      by (Some denial) = refuse denial
      by None = read_gives parent child refuse unfit leave

-- ---- what closes a session

-- a denial by A46 closes none
full_keeps : (w : World) (peer : ℕ) → is_close (then_for w peer (Admission MempoolFull)) ≡ false
full_keeps w peer = by w.policy.keep_invalid
  where
    by : (b : Bool) → is_close (if b then Keep else Keep) ≡ false
    by true = refl
    by false = refl

held_closes_none : (w : World) (peer : ℕ) (fate : Fate) → is_of_pool fate ≡ true → closes_by w peer fate ≡ false
held_closes_none w peer (fates.Taken fee vsize together replaced) held = refl
held_closes_none w peer (fates.Known fee vsize) held = refl
held_closes_none w peer (fates.OtherWitness wtxid) held = refl
held_closes_none w peer (fates.Denied denial) held = cc

-- a member that has left the pool again closes the session no more and no less
left_closes : (w : World) (peer : ℕ) (gone : List (List ℕ)) (m : Member) → closes w peer (settled_member gone m) ≡ closes w peer m
left_closes w peer gone m = by (has_left gone m) refl
  where
    by : (b : Bool) → has_left gone m ≡ b → closes w peer (if b then record m { fate = fates.Denied MempoolFull } else m) ≡ closes w peer m
    by true is = full_keeps w peer ∙ sym (held_closes_none w peer m.fate (and_parts (is_of_pool m.fate) (list_any (λ txid. bytes_eq txid m.txid) gone) is).0)
    by false is = refl

any_closes : (w : World) (peer : ℕ) (gone : List (List ℕ)) (members : List Member) → list_any (closes w peer) (map (settled_member gone) members) ≡ list_any (closes w peer) members
any_closes w peer gone [] = refl
any_closes w peer gone (m ∷ members) = λ i. left_closes w peer gone m i || any_closes w peer gone members i

-- what is told of a peer's package that lands, and the state after it
pub pair_ending : (w : World) (peer : ℕ) (outcome : PackageOutcome) (gone : List (List ℕ)) (entries : List Admitted) (floor : ℕ)
    → (without gone (packaged_as (then_after w peer outcome.members) outcome), record w { pool = entries; floor = floor; sessions = closed_for (if list_any (closes w peer) outcome.members then Some peer else None) w.sessions })
    ≡ left_by_pair w peer (record { outcome = settled gone outcome; entries = entries; floor = floor })
pair_ending w peer outcome gone entries floor = by (list_any (closes w peer) outcome.members) (list_any (closes w peer) (map (settled_member gone) outcome.members)) (any_closes w peer gone outcome.members)
  where
    by : (b c : Bool) → c ≡ b
        → (without gone (packaged_as (if b then Close else Keep) outcome), record w { pool = entries; floor = floor; sessions = closed_for (if b then Some peer else None) w.sessions })
        ≡ left_by_then w peer (record { outcome = settled gone outcome; entries = entries; floor = floor }) (if c then Close else Keep)
    by true true is = refl
    by false false is = refl
    by true false is = absurd (false≢true is)
    by false true is = absurd (false≢true (sym is))

-- members that don't fit together
pub unfit_step : (w : World) (pair : Paired) (members : List Tx) (denial : PackageDenial) → members ≡ pair.members → first_failing (shape_rules w.chain w.policy members) ≡ Some denial
    → unfit_pair w denial ≡ paired w pair.peer pair.second pair.members
unfit_step w pair members denial are found =
    ap (λ (o : Option PackageDenial). unless_unfit_pair w o (left_by_pair w pair.peer (packaged_of 0 (standing_of w) pair.members pair.second w.budget)))
    (sym found ∙ ap (λ (txs : List Tx). first_failing (shape_rules w.chain w.policy txs)) are)

-- members that are judged: the step is what their landing leaves
pub judged_pair : (w : World) (pair : Paired) → first_failing (shape_rules w.chain w.policy pair.members) ≡ None
    → paired w pair.peer pair.second pair.members ≡ left_by_pair w pair.peer (landed (standing_of w) pair.second w.budget (judged_of 0 (standing_of w) pair.second pair.members))
unfolding packaged_of
judged_pair w pair fits =
    ap (λ (o : Option PackageDenial). unless_unfit_pair w o (left_by_pair w pair.peer (packaged_of 0 (standing_of w) pair.members pair.second w.budget))) fits
    ∙ ap (λ (o : Option PackageDenial). left_by_pair w pair.peer (unless_unfit o (standing_of w) (landed (standing_of w) pair.second w.budget (judged_of 0 (standing_of w) pair.second pair.members)))) fits

-- ---- the plan of a package that may not be submitted

none_some : {X Y : Type 0} (x : X) → Some x ≡ None → Y
none_some x e = cc

-- with no rule on the peer that fails, and no package, a text is no transaction
pub unread_pair : (w : World) (peer now : ℕ) (parent child : Option Tx) → first_failing (package_rules w peer parent child) ≡ None → pair_in w peer now parent child ≡ None
    → denied w peer (Admission Decode) ≡ package_step w peer now parent child
unread_pair w peer now parent child passes is =
    read parent child (sym (ap (λ (o : Option PeerDenial). unless_refused o (pair_with peer now (both_of parent child))) passes) ∙ is)
    ∙ sym (ap (answered w peer (paired_if_read w peer now (both_of parent child))) passes)
  where
    read : (parent child : Option Tx) → pair_with peer now (both_of parent child) ≡ None → denied w peer (Admission Decode) ≡ paired_if_read w peer now (both_of parent child)
    read None child none = refl
    read (Some parent) None none = refl
    read (Some parent) (Some child) none = none_some _ none

pub refused_pair : (w : World) (peer now : ℕ) (parent child : Option Tx) (denial : PeerDenial) → first_failing (package_rules w peer parent child) ≡ Some denial
    → denied w peer denial ≡ package_step w peer now parent child
refused_pair w peer now parent child denial fails = sym (ap (answered w peer (paired_if_read w peer now (both_of parent child))) fails)
