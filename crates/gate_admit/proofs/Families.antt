-- Limits of families, over ids and over parts of a pool.
use Rattle.std.proofs.Common.{not, None, Some, ◌≡◌, ◌≢◌, ℕ, ◌+◌, ◌<◌, ◌≤◌, Bool, true, false, cond, ◌&&◌, ◌||◌, List, [], ◌∷◌, length, refl, sym, ap, ◌∙◌, subst, ◌⊎◌, inl, inr, arith}
use Rattle.std.specs.Prelude.{Contains, filter, sum_by, nat_le, nat_lt, ◌==◌}
use Rattle.std.specs.List.{list_all, list_any}
use Rattle.std.proofs.lemmas.Bool.{and_from, true≢false}
use Rattle.std.proofs.lemmas.Bool.Decides.{nat_tests}
use Rattle.std.proofs.lemmas.List.Sums.{sum_by-cons}
use Rattle.gate_bytes.specs.Order.{first_failing}
use Rattle.gate_tx.specs.Ids.{txid_of}
use Rattle.gate_tx.specs.Tx.{Tx}
use Rattle.gate_bytes.proofs.Members.{Contains-cons_cases, Contains-head, Contains-rest, not_in_none}
use Rattle.gate_rules.specs.declared.Denial.TheVariants.{TooLongChain, SpendsConflicting, TrucViolation}
use Rattle.gate_pool.specs.Pool.{Admitted, has_txid, size_of}
use Rattle.gate_pool.specs.Family.{all_below, descendants_of, ancestors_above, conflicts_of, is_conflict, AreIdsOf}
use Rattle.gate_pool.proofs.Adding.{length-ones}
use Rattle.gate_pool.proofs.Ids.{descendants_of_one}
use Rattle.gate_admit.specs.declared.attempt.Attempt.TheVariants.{First}
use Rattle.gate_admit.specs.declared.limits.FamilyLimits.{FamilyLimits}
use Rattle.gate_admit.specs.Policies.{Policy, most_ancestors}
use Rattle.gate_admit.specs.Limits.{grown, usual_limits, carved_out, has_room, has_room_below, has_second_try, is_within, fits_families, limit_rules}
use Rattle.gate_admit.specs.Truc.{breaks_truc}

-- what passes a test weighs no more than what passes a wider one
pub lighter : {X : Type 0} (w : X → ℕ) (p q : X → Bool) (xs : List X) → ((x : X) → Contains xs x → p x ≡ true → q x ≡ true) → sum_by w (filter p xs) ≤ sum_by w (filter q xs)
lighter w p q [] h = omega arith
lighter {X} w p q (x ∷ xs) h = go (p x) (q x) (h x (Contains-head x xs)) (lighter w p q xs (λ y c. h y (Contains-rest x xs y c)))
  where
    go : (a b : Bool) → (a ≡ true → b ≡ true) → sum_by w (filter p xs) ≤ sum_by w (filter q xs) → sum_by w (cond a (x ∷ filter p xs) (filter p xs)) ≤ sum_by w (cond b (x ∷ filter q xs) (filter q xs))
    go true true k ih = omega (arith, ih, sum_by-cons w x (filter p xs), sum_by-cons w x (filter q xs))
    go true false k ih = absurd (true≢false (sym (k refl)))
    go false true k ih = omega (arith, ih, sum_by-cons w x (filter q xs))
    go false false k ih = ih

pub fewer : {X : Type 0} (p q : X → Bool) (xs : List X) → ((x : X) → Contains xs x → p x ≡ true → q x ≡ true) → length (filter p xs) ≤ length (filter q xs)
fewer {X} p q xs h = omega (arith, lighter (λ (x : X). 1) p q xs h, length-ones (filter p xs), length-ones (filter q xs))

pub list_all_of : {X : Type 0} (p : X → Bool) (xs : List X) → ((x : X) → Contains xs x → p x ≡ true) → list_all p xs ≡ true
list_all_of p [] h = refl
list_all_of p (x ∷ xs) h = and_from _ _ (h x (Contains-head x xs)) (list_all_of p xs (λ y c. h y (Contains-rest x xs y c)))

pub list_all_not : {X : Type 0} (p : X → Bool) (xs : List X) (x : X) → Contains xs x → p x ≡ false → list_all p xs ≡ false
list_all_not p [] x c h = not_in_none x c
list_all_not {X} p (y ∷ xs) x c h = go (p y) (λ same. ap p same ∙ h) (λ k. list_all_not p xs x k h) (Contains-cons_cases y xs x c)
  where
    go : (b : Bool) → (y ≡ x → b ≡ false) → (Contains xs x → list_all p xs ≡ false) → (y ≡ x) ⊎ Contains xs x → (b && list_all p xs) ≡ false
    go true k ih (inl same) = absurd (true≢false (k same))
    go true k ih (inr m) = ih m
    go false k ih c = refl

-- room by totals that are kept
pub kept_room : (limits : FamilyLimits) (vsize : ℕ) (family : List Admitted) (count size asked : ℕ) → count ≡ length family → size ≡ size_of family → asked ≡ vsize
    → (nat_lt count limits.descendants && nat_le (size + asked) limits.descendants_size) ≡ has_room limits vsize family
kept_room limits vsize family count size asked a b d =
    (λ i. nat_lt (a i) limits.descendants && nat_le (b i + d i) limits.descendants_size) ∙ ap (λ x. x && nat_le (size_of family + vsize) limits.descendants_size) (less (length family) limits.descendants)
  where
    less : (m n : ℕ) → nat_lt m n ≡ nat_le (m + 1) n
    less m n = grind (arith, nat_tests)

-- what is below an id is what is below its entry
pub below_one : (entries : List Admitted) (a : Admitted) (txid : List ℕ) → Contains entries a → txid_of a.tx ≡ txid → all_below (λ x. has_txid x txid) entries ≡ descendants_of entries (txid_of a.tx)
below_one entries a txid m is = ap (λ t. all_below (λ x. has_txid x t) entries) (sym is) ∙ descendants_of_one entries a m

-- ---- the tries

-- beside more or fewer conflicts than one nothing grows
pub grown-other : (entries direct : List Admitted) (limits : FamilyLimits) → ((c : Admitted) → direct ≢ c ∷ []) → grown entries direct limits ≡ limits
grown-other entries [] limits h = refl
grown-other entries (c ∷ []) limits h = absurd (h c refl)
grown-other entries (c ∷ d ∷ rest) limits h = refl

grown_ancestors : (entries direct : List Admitted) (limits : FamilyLimits) → (grown entries direct limits).ancestors ≡ limits.ancestors
grown_ancestors entries [] limits = refl
grown_ancestors entries (c ∷ []) limits = refl
grown_ancestors entries (c ∷ d ∷ rest) limits = refl

-- more ancestors than there may be
too_many_above : (limits : FamilyLimits) (entries above : List Admitted) (vsize : ℕ) → limits.ancestors < length above + 1 → is_within limits entries above vsize ≡ false
too_many_above limits entries above vsize h =
    ap (λ b. b && ((length above == 0 || nat_le (size_of above + vsize) limits.ancestors_size) && list_all (has_room_below limits entries vsize) above)) (too_many (length above) limits.ancestors h)
  where
    too_many : (n m : ℕ) → m < n + 1 → nat_le (n + 1) m ≡ false
    too_many n m h = grind (arith, nat_tests)

-- a transaction has as many ancestors as there may be with it
pub no_try : (policy : Policy) (entries : List Admitted) (tx : Tx) (vsize : ℕ) → most_ancestors policy ≤ length (ancestors_above entries tx.inputs) → fits_families policy entries tx vsize ≡ false
no_try policy entries tx vsize many =
    let above = ancestors_above entries tx.inputs in
    let limits = grown entries (conflicts_of entries tx) (usual_limits policy) in
    let first : is_within limits entries above vsize ≡ false = too_many_above limits entries above vsize (omega (arith, many, grown_ancestors entries (conflicts_of entries tx) (usual_limits policy))) in
    let second : is_within (carved_out limits) entries above vsize ≡ false = too_many_above (carved_out limits) entries above vsize (omega (arith, many)) in
    ap (λ b. b || (has_second_try tx vsize && is_within (carved_out limits) entries above vsize)) first ∙ ap (λ b. has_second_try tx vsize && b) second ∙ and-false (has_second_try tx vsize)
  where
    and-false : (b : Bool) → (b && false) ≡ false
    and-false true = refl
    and-false false = refl

one_is : (n : ℕ) → 1 ≤ n → nat_le 1 n ≡ true
one_is n h = grind (arith, nat_tests)

-- a transaction without ancestors in the pool
pub alone_fits : (policy : Policy) (entries : List Admitted) (tx : Tx) (vsize : ℕ) → 1 ≤ policy.ancestors → ancestors_above entries tx.inputs ≡ [] → fits_families policy entries tx vsize ≡ true
alone_fits policy entries tx vsize least none =
    let limits = grown entries (conflicts_of entries tx) (usual_limits policy) in
    let within : is_within limits entries [] vsize ≡ true = ap (λ n. nat_le 1 n && true) (grown_ancestors entries (conflicts_of entries tx) (usual_limits policy)) ∙ ap (λ b. b && true) (one_is policy.ancestors least) in
    ap (λ l. is_within limits entries l vsize || (has_second_try tx vsize && is_within (carved_out limits) entries l vsize)) none
    ∙ ap (λ b. b || (has_second_try tx vsize && is_within (carved_out limits) entries [] vsize)) within

-- no ids are those of no entries
pub ids_of_none : (entries : List Admitted) → entries ≡ [] → AreIdsOf [] entries
ids_of_none entries none = subst (λ (l : List Admitted). AreIdsOf [] l) (sym none) (record { once = λ i j d l m. absurd (omega (arith, l, m)); all = λ e m. not_in_none e m; only = λ id m. not_in_none id m })

pub none_are : (entries : List Admitted) → AreIdsOf [] entries → entries ≡ []
none_are [] h = refl
none_are (e ∷ entries) h = not_in_none (txid_of e.tx) (h.all e (Contains-head e entries))

-- the rule on chains is the first that fails of it
pub long_fails : (policy : Policy) (entries : List Admitted) (tx : Tx) (vsize : ℕ) → most_ancestors policy ≤ length (ancestors_above entries tx.inputs) → first_failing (limit_rules First policy entries tx vsize) ≡ Some TooLongChain
unfolding limit_rules
long_fails policy entries tx vsize many =
    ap (λ b. first_failing ((TooLongChain, not b) ∷ (TrucViolation, breaks_truc First policy entries tx vsize) ∷ (SpendsConflicting, list_any (is_conflict tx) (ancestors_above entries tx.inputs)) ∷ []))
    (no_try policy entries tx vsize many)

-- what the second try says where the first failed
pub second_try : (first small second : Bool) → first ≡ false → small ≡ true → second ≡ (first || (small && second))
second_try first small second h k = sym (ap (λ b. b || (small && second)) h ∙ ap (λ b. b && second) k)

-- of the rules on families, that on version 3 alone may fail of a transaction without ancestors in the pool
module _ (policy : Policy) (entries : List Admitted) (tx : Tx) (vsize : ℕ) (least : 1 ≤ policy.ancestors) (none : ancestors_above entries tx.inputs ≡ []) where
  alone_asked : first_failing (limit_rules First policy entries tx vsize)
      ≡ first_failing ((TrucViolation, breaks_truc First policy entries tx vsize) ∷ (SpendsConflicting, list_any (is_conflict tx) (ancestors_above entries tx.inputs)) ∷ [])
  unfolding limit_rules
  alone_asked =
      ap (λ b. first_failing ((TooLongChain, not b) ∷ (TrucViolation, breaks_truc First policy entries tx vsize) ∷ (SpendsConflicting, list_any (is_conflict tx) (ancestors_above entries tx.inputs)) ∷ []))
      (alone_fits policy entries tx vsize least none)

  pub alone_breaks : breaks_truc First policy entries tx vsize ≡ true → first_failing (limit_rules First policy entries tx vsize) ≡ Some TrucViolation
  alone_breaks breaks = alone_asked ∙ ap (λ b. first_failing ((TrucViolation, b) ∷ (SpendsConflicting, list_any (is_conflict tx) (ancestors_above entries tx.inputs)) ∷ [])) breaks

  pub alone_passes : breaks_truc First policy entries tx vsize ≡ false → first_failing (limit_rules First policy entries tx vsize) ≡ None
  alone_passes keeps =
      alone_asked ∙ ap (λ b. first_failing ((TrucViolation, b) ∷ (SpendsConflicting, list_any (is_conflict tx) (ancestors_above entries tx.inputs)) ∷ [])) keeps
      ∙ ap (λ l. first_failing ((SpendsConflicting, list_any (is_conflict tx) l) ∷ [])) none
