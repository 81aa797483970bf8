-- `==` on submissions says whether they are equal.
use Rattle.std.proofs.Common.{◌≡◌, Bool, List, Option, Some, None, refl, ap}
use Rattle.std.specs.Bool.{Decides}
use Rattle.std.specs.Option.{option_eq}
use Rattle.std.specs.Cmp.Lexicographic.{pointwise}
use Rattle.std.proofs.lemmas.Slice.Eq.{slice_eq-Decides}

some_is : {X : Type 0} (x y : X) → Some x ≡ Some y → x ≡ y
some_is x y e = cc

-- if a test says whether two values are equal, the test of options by it says whether two options are
pub option_decides : {X : Type 0} {E : X → X → Bool} → ((a b : X) → Decides (E a b) (a ≡ b)) → (a b : Option X) → Decides (option_eq E a b) (a ≡ b)
option_decides same None None = (λ e. refl, λ e. refl)
option_decides same None (Some y) = (λ e. absurd (cc), λ e. absurd (cc))
option_decides same (Some x) None = (λ e. absurd (cc), λ e. absurd (cc))
option_decides {X} same (Some x) (Some y) = (λ e. ap (λ (z : X). Some z) ((same x y).0 e), λ e. (same x y).1 (some_is x y e))

-- if a test says whether two items are equal, the test of lists by it says whether two lists are
pub list_decides : {A : Type 0} {E : A → A → Bool} → ((a b : A) → Decides (E a b) (a ≡ b)) → (xs ys : List A) → Decides (pointwise E xs ys) (xs ≡ ys)
list_decides {E = E} same xs ys = slice_eq-Decides same xs ys (pointwise E xs ys) refl
