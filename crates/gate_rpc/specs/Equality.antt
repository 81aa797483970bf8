-- `==` on lists says whether they are equal.
use Rattle.std.proofs.Common.{◌≡◌, Bool, List, refl}
use Rattle.std.specs.Bool.{Decides}
use Rattle.std.specs.Cmp.Lexicographic.{pointwise}
use Rattle.std.proofs.lemmas.Slice.Eq.{slice_eq-Decides}

-- if a test says whether two items are equal, the test of lists by it says whether two lists are
pub list_decides : {A : Type 0} {E : A → A → Bool} → ((a b : A) → Decides (E a b) (a ≡ b)) → (xs ys : List A) → Decides (pointwise E xs ys) (xs ≡ ys)
list_decides {E = E} same xs ys = slice_eq-Decides same xs ys (pointwise E xs ys) refl
