-- What a loop over inputs has written.
use Rattle.std.proofs.Common.{◌≡◌, ℕ, ◌+◌, ◌<◌, Bool, true, false, cond, ◌||◌, ◌⊎◌, inl, inr, subst, List, [], ◌∷◌, ◌++◌, length, take, get_or, refl, sym, ap, ◌∙◌}
use Rattle.std.specs.Prelude.{Contains}
use Rattle.std.proofs.lemmas.List.Elements.{Contains-append_cases}
use Rattle.gate_bytes.proofs.Members.{Contains-cons_cases, not_in_none}
use Rattle.std.specs.List.{list_any}
use Rattle.std.proofs.lemmas.List.{take_more}
use Rattle.std.proofs.lemmas.List.Folds.{list_any-append}

-- one more is asked
pub any_more : {X : Type 0} (test : X → Bool) (xs : List X) (i : ℕ) (x : X) → i < length xs → x ≡ get_or xs i x → list_any test (take (i + 1) xs) ≡ (list_any test (take i xs) || (test x || false))
any_more test xs i x h is =
    ap (list_any test) (take_more xs i x h ∙ ap (λ y. take i xs ++ y ∷ []) (sym is)) ∙ list_any-append test (take i xs) (x ∷ [])

-- one more key is written
pub written_more : {X Y : Type 0} (test : X → Bool) (xs : List X) (i : ℕ) (x : X) (value first before after : Y) → i < length xs → x ≡ get_or xs i x
    → before ≡ cond (list_any test (take i xs)) value first → after ≡ cond (test x) value before → after ≡ cond (list_any test (take (i + 1) xs)) value first
written_more {X} {Y} test xs i x value first before after h is was now =
    now ∙ ap (cond (test x) value) was ∙ by (test x) (list_any test (take i xs)) ∙ ap (λ b. cond b value first) (sym (any_more test xs i x h is))
  where
    by : (b d : Bool) → cond b value (cond d value first) ≡ cond (d || (b || false)) value first
    by true true = refl
    by true false = refl
    by false true = refl
    by false false = refl

-- one more input
pub Contains-take_more : {X : Type 0} (xs : List X) (i : ℕ) (x y : X) → i < length xs → x ≡ get_or xs i x → Contains (take (i + 1) xs) y → Contains (take i xs) y ⊎ (x ≡ y)
Contains-take_more xs i x y h is c =
    elim (Contains-append_cases (take i xs) (x ∷ []) y (subst (λ l. Contains l y) (take_more xs i x h ∙ ap (λ z. take i xs ++ z ∷ []) (sym is)) c)) [
      | inl k ↦ inl k
      | inr k ↦ elim (Contains-cons_cases x [] y k) [ inl e ↦ inr e | inr n ↦ not_in_none y n ]
    ]
