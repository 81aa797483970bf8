-- With which fees A34 to A42 pass.
use Rattle.std.proofs.Common.{◌≡◌, ℕ, ◌+◌, ◌*◌, ◌<◌, ◌≤◌, ◌^◌, Bool, true, false, not, ◌&&◌, max, List, [], ◌∷◌, ◌++◌, length, Option, Some, None, inl, inr, refl, sym, ap, ◌∙◌, subst, arith}
use Rattle.std.specs.Prelude.{◌-◌, ◌/◌, ◌==◌, nat_le, nat_lt, if◌then◌else◌, filter, is_none, is_ok, is_some, Contains, IfErr, OnOk, Result, Ok, Err}
use Rattle.std.specs.Int.{div_ceil}
use Rattle.std.specs.List.{list_any}
use Rattle.std.proofs.lemmas.Bool.{and_cases, and_left, and_parts, and_right, both_ways, cases_lt, eqb-false, eqb-true, false_from_ne_true, false≢true, le-leb, lt-leb}
use Rattle.std.proofs.Math.Nat.{div-le_self}
use Rattle.gate_bytes.specs.Order.{Rule, first_failing}
use Rattle.gate_bytes.proofs.Members.{Contains-head, any_is, list_any_of, not_in_none}
use Rattle.gate_tx.specs.Money.{max_money}
use Rattle.gate_tx.specs.Tx.{Tx}
use Rattle.gate_tx.specs.Ids.{txid_of}
use Rattle.gate_standard.specs.Amounts.{feerate, required_fee}
use Rattle.gate_rules.specs.declared.Denial.{Denial}
use Rattle.gate_rules.specs.declared.Denial.TheVariants.{MempoolMinFee, MinRelayFee, LowerFeeRate, TooManyReplacements, AddsUnconfirmed, LowerFee, LowerDifference}
use Rattle.gate_standard.specs.declared.Feerate.{Feerate}
use Rattle.gate_pool.specs.Pool.{Admitted}
use Rattle.gate_pool.specs.Family.{AreIdsOf, fees_of}
use Rattle.gate_pool.specs.Counting.{counted_of, is_counted, replaced_beside}
use Rattle.gate_pool.proofs.Adding.{passed}
use Rattle.gate_pool.proofs.Walking.{Contains-filter, Contains-from_filter}
use Rattle.gate_rbf.specs.declared.ParentsOf.{ParentsOf}
use Rattle.gate_rbf.specs.Replacing.{adds_parent, descendant_count, replacement_rules, rules_beside, sharers}
use Rattle.gate_admit.specs.declared.attempt.Attempt.TheVariants.{First}
use Rattle.gate_admit.specs.Limits.{limit_rules}
use Rattle.gate_admit.specs.Policies.{Policy, feerate_by, incremental_feerate, relay_feerate}
use Rattle.gate_admit.specs.Rules.{fee_rules, is_relay_fee_first}
use Rattle.gate_admit.specs.Truc.{sibling_of}
use Rattle.gate_figures.specs.Least.{IsLeast, fee_side, passes}
use Rattle.gate_figures.proofs.Thresholds.{both_from, least_above, neither_below, not_below, pays_both}

-- ---- lists of rules

pub passes-append : (xs ys : List (Rule Denial)) → passes (xs ++ ys) ≡ (passes xs && passes ys)
passes-append [] ys = refl
passes-append (x ∷ xs) ys = go x.1 (passes-append xs ys)
  where
    go : (b : Bool) → is_none (first_failing (xs ++ ys)) ≡ (is_none (first_failing xs) && passes ys)
        → is_none (if b then Some x.0 else first_failing (xs ++ ys)) ≡ (is_none (if b then Some x.0 else first_failing xs) && passes ys)
    go true ih = refl
    go false ih = ih

two : (s t : Denial) (x y : Bool) → passes ((s, x) ∷ (t, y) ∷ []) ≡ (not x && not y)
two s t true y = refl
two s t false true = refl
two s t false false = refl

five : (a b c d e : Bool) → passes ((LowerFeeRate, a) ∷ (TooManyReplacements, b) ∷ (AddsUnconfirmed, c) ∷ (LowerFee, d) ∷ (LowerDifference, e) ∷ []) ≡ ((not b && not c) && (not a && (not d && not e)))
five true b c d e = sym (and_right (not b && not c) false refl)
five false true c d e = refl
five false false true d e = refl
five false false false d e = two LowerFee LowerDifference d e

-- ---- A34 and A35

in_order : (first : Bool) (a b fee : ℕ)
    → passes (if first then (MinRelayFee, nat_lt fee b) ∷ (MempoolMinFee, nat_lt fee a) ∷ [] else (MempoolMinFee, nat_lt fee a) ∷ (MinRelayFee, nat_lt fee b) ∷ []) ≡ nat_le (max a b) fee
in_order true a b fee =
    let same : max b a ≡ max a b = omega arith in
    two MinRelayFee MempoolMinFee (nat_lt fee b) (nat_lt fee a) ∙ neither_below b a fee ∙ ap (λ n. nat_le n fee) same
in_order false a b fee = two MempoolMinFee MinRelayFee (nat_lt fee a) (nat_lt fee b) ∙ neither_below a b fee

pub payment_asks : (policy : Policy) (tx : Tx) (floor vsize fee : ℕ)
    → passes (fee_rules policy tx floor fee vsize) ≡ nat_le (max (required_fee (feerate_by policy floor) vsize) (required_fee (relay_feerate policy) vsize)) fee
unfolding fee_rules
payment_asks policy tx floor vsize fee = in_order (is_relay_fee_first policy tx) (required_fee (feerate_by policy floor) vsize) (required_fee (relay_feerate policy) vsize) fee

-- ---- A38 to A42

-- A39 and A40, which ask nothing of the fee
abbrev pub may_replace : ParentsOf → List Admitted → Option (List ℕ) → Tx → Bool
may_replace parents entries sibling tx =
    not (nat_lt 100 (descendant_count entries (counted_of entries sibling tx))) && not (list_any (adds_parent entries (sharers parents entries sibling tx)) tx.inputs)

beside_asks : (a b c : Bool) (above paid own fee : ℕ) → a ≡ nat_lt fee above
    → passes ((LowerFeeRate, a) ∷ (TooManyReplacements, b) ∷ (AddsUnconfirmed, c) ∷ (LowerFee, nat_lt fee paid) ∷ (LowerDifference, nat_lt (fee - paid) own) ∷ [])
    ≡ ((not b && not c) && nat_le (max above (paid + own)) fee)
beside_asks a b c above paid own fee is =
    five a b c (nat_lt fee paid) (nat_lt (fee - paid) own)
    ∙ ap (λ x. (not b && not c) && (not x && (not (nat_lt fee paid) && not (nat_lt (fee - paid) own)))) is
    ∙ ap (λ x. (not b && not c) && (x && (not (nat_lt fee paid) && not (nat_lt (fee - paid) own)))) (not_below above fee)
    ∙ ap (λ x. (not b && not c) && (nat_le above fee && x)) (pays_both paid own fee)
    ∙ ap (λ x. (not b && not c) && x) (both_from above (paid + own) fee)

-- beside what counts as a conflict, of which each has a lower feerate exactly from `above` on
pub replacing_asks : (rate : Feerate) (parents : ParentsOf) (entries : List Admitted) (sibling : Option (List ℕ)) (tx : Tx) (vsize above : ℕ) → list_any (is_counted sibling tx) entries ≡ true
    → ((fee : ℕ) → list_any (λ (c : Admitted). nat_le (feerate fee vsize) (feerate c.fee c.vsize)) (counted_of entries sibling tx) ≡ nat_lt fee above)
    → (fee : ℕ) → passes (replacement_rules rate parents entries sibling tx fee vsize) ≡ (may_replace parents entries sibling tx && nat_le (max above (fees_of (replaced_beside entries sibling tx) + required_fee rate vsize)) fee)
unfolding replacement_rules rules_beside
replacing_asks rate parents entries sibling tx vsize above some outpaid fee = go (list_any (is_counted sibling tx) entries) some
  where
    go : (b : Bool) → b ≡ true
        → passes (if b then rules_beside rate entries (counted_of entries sibling tx) (sharers parents entries sibling tx) (fees_of (replaced_beside entries sibling tx)) tx fee vsize else [])
        ≡ (may_replace parents entries sibling tx && nat_le (max above (fees_of (replaced_beside entries sibling tx) + required_fee rate vsize)) fee)
    go true e = beside_asks _ _ _ above (fees_of (replaced_beside entries sibling tx)) (required_fee rate vsize) fee (outpaid fee)
    go false e = absurd (false≢true e)

-- where nothing counts as a conflict nothing is asked
pub alone_asks : (rate : Feerate) (parents : ParentsOf) (entries : List Admitted) (sibling : Option (List ℕ)) (tx : Tx) (vsize fee : ℕ) → list_any (is_counted sibling tx) entries ≡ false
    → passes (replacement_rules rate parents entries sibling tx fee vsize) ≡ true
unfolding replacement_rules
alone_asks rate parents entries sibling tx vsize fee none = go (list_any (is_counted sibling tx) entries) none
  where
    go : (b : Bool) → b ≡ false
        → passes (if b then rules_beside rate entries (counted_of entries sibling tx) (sharers parents entries sibling tx) (fees_of (replaced_beside entries sibling tx)) tx fee vsize else []) ≡ true
    go false e = refl
    go true e = absurd (false≢true (sym e))

-- ---- conflicts by their ids

pub none_by_ids : (test : Admitted → Bool) (entries : List Admitted) (ids : List (List ℕ)) → length ids ≡ 0 → AreIdsOf ids (filter test entries) → list_any test entries ≡ false
none_by_ids test entries [] none are =
    false_from_ne_true _ (λ h. let w = any_is test entries h in not_in_none (txid_of w.0.tx) (are.all w.0 (Contains-filter test entries w.0 w.1 w.2)))
none_by_ids test entries (id ∷ ids) none are = absurd (omega arith)

pub some_by_ids : (test : Admitted → Bool) (entries : List Admitted) (ids : List (List ℕ)) → 0 < length ids → AreIdsOf ids (filter test entries) → list_any test entries ≡ true
some_by_ids test entries [] some are = absurd (omega arith)
some_by_ids test entries (id ∷ ids) some are =
    let w = are.only id (Contains-head id ids) in list_any_of test entries w.0 (Contains-from_filter test entries w.0 w.1) (passed test entries w.0 w.1)

-- ---- what is found

-- the rules pass from `due` on, unless something else stands in the way: `stands` says whether it doesn't
module _ (rules : ℕ → Bool) (stands : Bool) (due paying : ℕ) (asks : (fee : ℕ) → rules fee ≡ (stands && nat_le due fee)) where
  -- with the least fee they pass
  pub found_least : (least : ℕ) → least ≡ max due paying → rules least ≡ true → (fee : ℕ) → (nat_le paying fee && rules fee) ≡ nat_le least fee
  found_least least is passed fee =
      let stand : stands ≡ true = (and_parts stands (nat_le due least) (sym (asks least) ∙ passed)).0 in
      let same : max paying due ≡ least = omega arith in
      ap (λ b. nat_le paying fee && b) (asks fee ∙ ap (λ b. b && nat_le due fee) stand) ∙ both_from paying due fee ∙ ap (λ n. nat_le n fee) same

  -- with it they fail, and so with each
  pub none_helps : (least : ℕ) → least ≡ max due paying → rules least ≡ false → (fee : ℕ) → (nat_le paying fee && rules fee) ≡ false
  none_helps least is failed fee =
      let reached : due ≤ least = omega arith in
      let fall : stands ≡ false = elim (and_cases stands (nat_le due least) (sym (asks least) ∙ failed)) [ inl e ↦ e | inr e ↦ absurd (both_ways _ e (le-leb due least reached)) ] in
      and_right _ _ (asks fee ∙ ap (λ b. b && nat_le due fee) fall)

  -- no fee below the least passes
  pub none_reaches : (fee : ℕ) → fee < max due paying → (nat_le paying fee && rules fee) ≡ false
  none_reaches fee less =
      elim (cases_lt fee paying) [
        | inl l ↦ and_left _ _ (lt-leb paying fee l)
        | inr g ↦ (let short : fee < due = omega arith in and_right _ _ (asks fee ∙ and_right stands _ (lt-leb due fee short)))
      ]

positive : (n : ℕ) → (n ≡ 0 → ⊥) → 0 < n
positive n h = omega arith

pub alone_least : (rules : ℕ → Bool) (paying : ℕ) → ((fee : ℕ) → rules fee ≡ true) → (fee : ℕ) → (nat_le paying fee && rules fee) ≡ nat_le paying fee
alone_least rules paying all fee = ap (λ b. nat_le paying fee && b) (all fee) ∙ and_true (nat_le paying fee)
  where
    and_true : (b : Bool) → (b && true) ≡ b
    and_true true = refl
    and_true false = refl

-- ---- the answers of code

pub judged : (found : Result ℕ Denial) (first : Option Denial) → OnOk found (first ≡ None) → IfErr found (λ denial. first ≡ Some denial) → is_ok found ≡ is_none first
judged (Ok n) first ok err = sym (ap is_none ok)
judged (Err denial) first ok err = sym (ap is_none err)

none_or_some : (o : Option Denial) → is_none o ≡ not (is_some o)
none_or_some None = refl
none_or_some (Some denial) = refl

-- what is asked of a rule that was found tells whether none fails
pub asked : (found first : Option Denial) (b c : Bool) → found ≡ first → b ≡ is_some found → b ≡ c → is_none first ≡ not c
asked found first b c is some h = ap is_none (sym is) ∙ none_or_some found ∙ ap not (sym some ∙ h)

pub some_is : (a b : Admitted) → Some a ≡ Some b → a ≡ b
some_is a b h = cc

-- the feerate of an entry is small
pub small_rate : (fee vsize : ℕ) → fee ≤ max_money → feerate fee vsize < 2 ^ 62
unfolding feerate
small_rate fee vsize h = let less : fee * 1000 / vsize ≤ fee * 1000 = div-le_self (fee * 1000) vsize in omega arith

pub rate_asks : (fee vsize rate size least : ℕ) → 0 < vsize → size ≡ vsize → least ≡ div_ceil ((rate + 1) * size) 1000 → nat_le (feerate fee vsize) rate ≡ nat_lt fee least
unfolding feerate
rate_asks fee vsize rate size least some same is = least_above fee vsize rate size least some same is

-- ---- the least fee beside conflicts

module _ (rate : Feerate) (parents : ParentsOf) (entries : List Admitted) (sibling : Option (List ℕ)) (tx : Tx) (vsize above gone own paying : ℕ) (ids : List (List ℕ)) (some : (length ids == 0) ≡ false)
    (are : AreIdsOf ids (counted_of entries sibling tx))
    (outpaid : (fee : ℕ) → list_any (λ (c : Admitted). nat_le (feerate fee vsize) (feerate c.fee c.vsize)) (counted_of entries sibling tx) ≡ nat_lt fee above)
    (gone_is : gone ≡ fees_of (replaced_beside entries sibling tx)) (own_is : own ≡ required_fee rate vsize) where
  asks : (fee : ℕ) → passes (replacement_rules rate parents entries sibling tx fee vsize) ≡ (may_replace parents entries sibling tx && nat_le (max above (gone + own)) fee)
  asks fee =
      let there : 0 < length ids = positive (length ids) (eqb-false (length ids) 0 some) in
      replacing_asks rate parents entries sibling tx vsize above (some_by_ids (is_counted sibling tx) entries ids there are) outpaid fee
      ∙ sym (λ i. may_replace parents entries sibling tx && nat_le (max above (gone_is i + own_is i)) fee)

  pub least_found : (least : ℕ) → least ≡ max (max above (gone + own)) paying → passes (replacement_rules rate parents entries sibling tx least vsize) ≡ true
      → IsLeast (λ fee. nat_le paying fee && passes (replacement_rules rate parents entries sibling tx fee vsize)) (Some least)
  least_found least is passed =
      found_least (λ fee. passes (replacement_rules rate parents entries sibling tx fee vsize)) (may_replace parents entries sibling tx) (max above (gone + own)) paying asks least is passed

  pub none_found : (least : ℕ) → least ≡ max (max above (gone + own)) paying → passes (replacement_rules rate parents entries sibling tx least vsize) ≡ false
      → IsLeast (λ fee. nat_le paying fee && passes (replacement_rules rate parents entries sibling tx fee vsize)) None
  none_found least is failed = λ fee small.
      none_helps (λ fee. passes (replacement_rules rate parents entries sibling tx fee vsize)) (may_replace parents entries sibling tx) (max above (gone + own)) paying asks least is failed fee

  pub none_in_reach : 2 ^ 64 ≤ max (max above (gone + own)) paying → IsLeast (λ fee. nat_le paying fee && passes (replacement_rules rate parents entries sibling tx fee vsize)) None
  none_in_reach great = λ fee small.
      let less : fee < max (max above (gone + own)) paying = omega arith in
      none_reaches (λ fee. passes (replacement_rules rate parents entries sibling tx fee vsize)) (may_replace parents entries sibling tx) (max above (gone + own)) paying asks fee less

-- where nothing counts as a conflict what is paid anyway is enough
pub paying_found : (rate : Feerate) (parents : ParentsOf) (entries : List Admitted) (sibling : Option (List ℕ)) (tx : Tx) (vsize paying : ℕ) (ids : List (List ℕ)) → (length ids == 0) ≡ true
    → AreIdsOf ids (counted_of entries sibling tx) → IsLeast (λ fee. nat_le paying fee && passes (replacement_rules rate parents entries sibling tx fee vsize)) (Some paying)
paying_found rate parents entries sibling tx vsize paying ids none are =
    let alone : list_any (is_counted sibling tx) entries ≡ false = none_by_ids (is_counted sibling tx) entries ids (eqb-true (length ids) 0 none) are in
    alone_least (λ fee. passes (replacement_rules rate parents entries sibling tx fee vsize)) paying (λ fee. alone_asks rate parents entries sibling tx vsize fee alone)

-- ---- A34 to A42

sides : (x l r : Bool) → l ≡ true → (x && (l && r)) ≡ (x && r)
sides x l r h = ap (λ b. x && (b && r)) h

-- A38 to A42 of a submission
abbrev pub replacing : Policy → List Admitted → Tx → ℕ → ℕ → List (Rule Denial)
replacing policy entries tx vsize fee = replacement_rules (incremental_feerate policy) policy.parents entries (sibling_of First policy entries tx) tx fee vsize

parts : (policy : Policy) (floor : ℕ) (entries : List Admitted) (tx : Tx) (vsize fee : ℕ)
    → passes (fee_side policy floor entries tx vsize fee)
    ≡ (passes (fee_rules policy tx floor fee vsize) && (passes (limit_rules First policy entries tx vsize) && passes (replacing policy entries tx vsize fee)))
parts policy floor entries tx vsize fee =
    passes-append (fee_rules policy tx floor fee vsize) (limit_rules First policy entries tx vsize ++ replacing policy entries tx vsize fee)
    ∙ ap (λ b. passes (fee_rules policy tx floor fee vsize) && b) (passes-append (limit_rules First policy entries tx vsize) (replacing policy entries tx vsize fee))

-- where A36, A47 or A37 fails no fee helps
pub limits_fail : (policy : Policy) (floor : ℕ) (entries : List Admitted) (tx : Tx) (vsize : ℕ) → passes (limit_rules First policy entries tx vsize) ≡ false
    → IsLeast (λ fee. passes (fee_side policy floor entries tx vsize fee)) None
limits_fail policy floor entries tx vsize fails = λ fee small. parts policy floor entries tx vsize fee ∙ and_right _ _ (and_left _ _ fails)

-- where they pass the other rules decide
pub limits_pass : (policy : Policy) (floor : ℕ) (entries : List Admitted) (tx : Tx) (vsize paying : ℕ) (found : Option ℕ) → passes (limit_rules First policy entries tx vsize) ≡ true
    → ((fee : ℕ) → passes (fee_rules policy tx floor fee vsize) ≡ nat_le paying fee)
    → IsLeast (λ fee. nat_le paying fee && passes (replacing policy entries tx vsize fee)) found
    → IsLeast (λ fee. passes (fee_side policy floor entries tx vsize fee)) found
limits_pass policy floor entries tx vsize paying found passed asks least = go found least
  where
    same : (fee : ℕ) → passes (fee_side policy floor entries tx vsize fee) ≡ (nat_le paying fee && passes (replacing policy entries tx vsize fee))
    same fee =
        parts policy floor entries tx vsize fee ∙ sides _ _ _ passed ∙ ap (λ b. b && passes (replacing policy entries tx vsize fee)) (asks fee)

    go : (o : Option ℕ) → IsLeast (λ fee. nat_le paying fee && passes (replacing policy entries tx vsize fee)) o
        → IsLeast (λ fee. passes (fee_side policy floor entries tx vsize fee)) o
    go None least = λ fee small. same fee ∙ least fee small
    go (Some n) least = λ fee. same fee ∙ least fee
