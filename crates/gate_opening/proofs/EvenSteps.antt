-- Block times in even steps: the last of them is the greatest, and they are appended one by one.
use Rattle.std.proofs.Common.{◌≡◌, ℕ, zero, suc, ◌+◌, ◌-◌, ◌*◌, ◌<◌, ◌≤◌, ◌^◌, nat_le, Bool, true, false, ◌||◌, not, List, [], ◌∷◌, ◌++◌, refl, sym, ap, ◌∙◌, arith, suc-mul, zero-mul, true≢false, add-one, append_assoc}
use Rattle.std.proofs.lemmas.Bool.Decides.{nat_tests}
use Rattle.gate_opening.specs.BlockTimes.{times_from, some_too_great}

next : (first n step : ℕ) → (first + step) + n * step ≡ first + suc n * step
next first n step = omega (arith, suc-mul n step)

or_below : (b first last : ℕ) → first ≤ last → (nat_le b first || nat_le b last) ≡ nat_le b last
or_below b first last h = grind (arith, nat_tests)

alone : (first step : ℕ) → first ≡ first + 0 * step
alone first step = omega (arith, zero-mul step)

or_true : (b : Bool) → (b || true) ≡ true
or_true true = refl
or_true false = refl

or_false : (b : Bool) → (b || false) ≡ b
or_false true = refl
or_false false = refl

too_small : (b n : ℕ) (rest : Bool) → (nat_le b n || rest) ≡ false → (n < b) × (rest ≡ false)
too_small b n true h = absurd (true≢false (sym (or_true (nat_le b n)) ∙ h))
too_small b n false h = (grind (arith, nat_tests), refl)

pub too_great-last : (n first step : ℕ) → some_too_great (times_from (suc n) first step) ≡ nat_le (2 ^ 32) (first + n * step)
too_great-last zero first step = or_false (nat_le (2 ^ 32) first) ∙ ap (nat_le (2 ^ 32)) (alone first step)
too_great-last (suc n) first step =
    ap (λ b. nat_le (2 ^ 32) first || b) (too_great-last n (first + step) step ∙ ap (nat_le (2 ^ 32)) (next first n step))
    ∙ or_below (2 ^ 32) first (first + suc n * step) (omega arith)

pub time_fits : (count k first step : ℕ) → k < count → some_too_great (times_from count first step) ≡ false → first + k * step < 2 ^ 32
time_fits zero k first step h fit = absurd (omega arith)
time_fits (suc count) zero first step h fit = omega (arith, too_small (2 ^ 32) first (some_too_great (times_from count (first + step) step)) fit, alone first step)
time_fits (suc count) (suc k) first step h fit =
    let rest = time_fits count k (first + step) step (omega arith) (too_small (2 ^ 32) first (some_too_great (times_from count (first + step) step)) fit).1 in
    omega (arith, rest, next first k step)

pub times_from-next : (k first step : ℕ) → times_from (suc k) first step ≡ times_from k first step ++ (first + k * step) ∷ []
times_from-next zero first step = ap (λ t. t ∷ []) (alone first step)
times_from-next (suc k) first step =
    ap (λ l. first ∷ l) (times_from-next k (first + step) step ∙ ap (λ t. times_from k (first + step) step ++ t ∷ []) (next first k step))

below_or_above : (x : ℕ) → nat_le x 4294967295 ≡ not (nat_le (2 ^ 32) x)
below_or_above x = grind (arith, nat_tests)

pub last_fits : (count first step greatest last : ℕ) → (count ≡ 0 → ⊥) → greatest ≡ 4294967295 → last ≡ first + (count - 1) * step
    → nat_le last greatest ≡ not (some_too_great (times_from count first step))
last_fits zero first step greatest last some g is = absurd (some refl)
last_fits (suc n) first step greatest last some g is =
    let less : suc n - 1 ≡ n = omega arith in
    let place : last ≡ first + n * step = is ∙ ap (λ k. first + k * step) less in
    ap (nat_le last) g ∙ below_or_above last ∙ ap (λ x. not (nat_le (2 ^ 32) x)) place ∙ ap not (sym (too_great-last n first step))

pub time-next : (time k first step : ℕ) → time ≡ first + k * step → time + step ≡ first + (k + 1) * step
time-next time k first step is = let e : (k + 1) * step ≡ k * step + step = ap (λ n. n * step) (add-one k) ∙ suc-mul k step in omega (arith, is, e)

pub times_pushed : (old items new : List ℕ) (time k first step : ℕ) → items ≡ old ++ times_from k first step → time ≡ first + k * step → new ≡ items ++ time ∷ []
    → new ≡ old ++ times_from (k + 1) first step
times_pushed old items new time k first step before is pushed =
    pushed ∙ ap (λ l. l ++ time ∷ []) before ∙ append_assoc old (times_from k first step) (time ∷ [])
    ∙ ap (λ t. old ++ (times_from k first step ++ t ∷ [])) is
    ∙ ap (λ l. old ++ l) (sym (times_from-next k first step) ∙ ap (λ n. times_from n first step) (sym (add-one k)))
