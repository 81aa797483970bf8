-- Those that are judged together enter all or none.
use Rattle.std.proofs.Common.{◌≡◌, ◌+◌, ℕ, suc, Bool, true, false, if◌then◌else◌, List, [], ◌∷◌, ◌++◌, length, Option, Some, None, Result, Ok, Err, refl, sym, ap, ◌∙◌, subst, ◌⊎◌, inl, inr, arith}
use Rattle.std.specs.Prelude.{◌==◌, nat_le, IfOk}
use Rattle.gate_bytes.specs.Order.{first_failing}
use Rattle.gate_tx.specs.Tx.{Tx}
use Rattle.gate_rules.specs.declared.Denial.{Denial}
use Rattle.gate_submission.specs.declared.Member.{Member}
use Rattle.gate_submission.specs.declared.PackageVerdict.TheVariants as verdicts
use Rattle.gate_pool.specs.Pool.{Admitted}
use Rattle.gate_admit.specs.Standing.{Standing}
use Rattle.gate_diagram.specs.declared.Price.{Price}
use Rattle.gate_package.specs.declared.role.Role.TheVariants.{Together}
use Rattle.gate_package.specs.declared.together.Refusal.{Refusal}
use Rattle.gate_package.specs.Judging.{fee_beside, half_rules, vsize_beside}
use Rattle.gate_package.specs.Laws.{TogetherAllOrNone}
use Rattle.gate_package.specs.Packages.{Course, concluded, course_of, denied_count, denied_of, has_failed, judged_from, judged_of, newcomers, reconsidered_as, reconsidered_by}
use Rattle.gate_rivals.specs.Rivals.{staying_beside}
use Rattle.gate_package.specs.Together.{all_checked, half_or, halves_of, refusal_of, together_of, unless_refused, with_price}

-- ---- one price for each

priced : (n place : ℕ) (price : Price) (found : Option Denial) (others : Result (List Price) Refusal) → IfOk others (λ prices. length prices ≡ n)
    → IfOk (half_or place found (with_price price others)) (λ prices. length prices ≡ suc n)
priced n place price (Some denial) others h = tt
priced n place price None (Ok prices) h = ap suc h
priced n place price None (Err refusal) h = tt

pub one_each : (max_rate : ℕ) (over : Standing) (before : List Tx) (place : ℕ) (txs : List Tx) → IfOk (halves_of max_rate over before place txs) (λ prices. length prices ≡ length txs)
one_each max_rate over before place [] = refl
one_each max_rate over before place (tx ∷ txs) =
    priced (length txs) place (record { fee = fee_beside before over tx; vsize = vsize_beside before over tx }) (first_failing (half_rules Together max_rate before over tx))
    (halves_of max_rate over (before ++ tx ∷ []) (place + 1) txs) (one_each max_rate over (before ++ tx ∷ []) (place + 1) txs)

-- so where each of them passes
pub halves_one_each : (max_rate : ℕ) (over : Standing) (txs : List Tx) (found : Result (List Price) Refusal) (prices : List Price) → found ≡ halves_of max_rate over [] 0 txs → found ≡ Ok prices → length prices ≡ length txs
halves_one_each max_rate over txs found prices is h = subst (λ (r : Result (List Price) Refusal). IfOk r (λ ps. length ps ≡ length txs)) (sym is ∙ h) (one_each max_rate over [] 0 txs)

checked : (over : Standing) (these : List Tx) (n : ℕ) (found : Result (List Price) Refusal) → IfOk found (λ prices. length prices ≡ n) → IfOk (all_checked over these found) (λ prices. length prices ≡ n)
checked over these n (Err refusal) h = tt
checked over these n (Ok prices) h = by (refusal_of over these prices)
  where
    by : (refusal : Option Refusal) → IfOk (unless_refused refusal prices) (λ ps. length ps ≡ n)
    by (Some refusal) = tt
    by None = h

pub together_one_each : (max_rate : ℕ) (over : Standing) (these : List Tx) → IfOk (together_of max_rate over these) (λ prices. length prices ≡ length these)
unfolding together_of
together_one_each max_rate over these = checked over these (length these) (halves_of max_rate over [] 0 these) (one_each max_rate over [] 0 these)

as_many : (now : ℕ) (txs : List Tx) (prices : List Price) → length prices ≡ length txs → length (newcomers now txs prices) ≡ length txs
as_many now [] prices h = refl
as_many now (tx ∷ txs) [] h = h
as_many now (tx ∷ txs) (price ∷ prices) h = ap suc (as_many now txs prices (omega (arith, h)))

-- ---- all or none

abbrev Either : ℕ → Standing → List Admitted → List Admitted → Type 0
Either max_rate over before after =
    (after ≡ before)
    ⊎ ((these : List Tx) × (prices : List Price) × (more : List Admitted)
    × (together_of max_rate (record over { entries = before }) these ≡ Ok prices) × (after ≡ staying_beside before these ++ more) × (length more ≡ length these))

reconsidered : (max_rate : ℕ) (over : Standing) (now : ℕ) (members : List Member) (these : List Tx) (entries : List Admitted)
    → Either max_rate over entries (reconsidered_by max_rate (record over { entries = entries }) now members these).entries
reconsidered max_rate over now members these entries =
    by (together_of max_rate (record over { entries = entries }) these) refl (together_one_each max_rate (record over { entries = entries }) these)
  where
    by : (found : Result (List Price) Refusal) → together_of max_rate (record over { entries = entries }) these ≡ found → IfOk found (λ prices. length prices ≡ length these)
        → Either max_rate over entries (reconsidered_as entries now members these found).entries
    by (Ok prices) is many = inr (these, prices, newcomers now these prices, is, refl, as_many now these prices many)
    by (Err refusal) is many = inl refl

judged_either : (max_rate : ℕ) (over : Standing) (now : ℕ) (txs : List Tx) (course : Course) → Either max_rate over course.entries (judged_from max_rate over now txs course).entries
judged_either max_rate over now txs course = by (denied_count course.members == 0) (has_failed over.policy txs course.members) (nat_le (denied_count course.members) 1)
  where
    by : (none failed few : Bool)
        → Either max_rate over course.entries (if none then concluded course verdicts.Success else if failed then concluded course verdicts.Failed else if few then concluded course verdicts.Failed
        else reconsidered_by max_rate (record over { entries = course.entries }) now course.members (denied_of txs course.members)).entries
    by true failed few = inl refl
    by false true few = inl refl
    by false false true = inl refl
    by false false false = reconsidered max_rate over now course.members (denied_of txs course.members) course.entries

pub all_or_none : TogetherAllOrNone
unfolding judged_of
all_or_none max_rate over now txs = judged_either max_rate over now txs (course_of max_rate over now txs)
