-- The last item of a list.
use Rattle.std.proofs.Common.{◌≡◌, ◌<◌, ◌-◌, List, [], ◌∷◌, ◌++◌, length, take, Option, Some, None, refl, sym, ap, ◌∙◌, arith, length-append}
use Rattle.std.specs.List.{slice_get}
use Rattle.std.specs.Option.{option_map_or, option_to_list, IsSome}
use Rattle.std.proofs.Math.Seq.{get_or-append_seam, take-append_seam}
use Rattle.std.proofs.lemmas.Option.{slice_get-get_or}
use Rattle.gate_inputs.specs.Reports.{last_of, from_last}

before : {A : Type 0} (rest : List A) (x : A) → length (rest ++ x ∷ []) - 1 ≡ length rest
before rest x = omega (arith, length-append rest (x ∷ []))

pub last_of-append : {A : Type 0} (rest : List A) (x : A) → last_of (rest ++ x ∷ []) ≡ Some x
last_of-append rest x =
    let within : length rest < length (rest ++ x ∷ []) = omega (arith, length-append rest (x ∷ [])) in
    ap (slice_get (rest ++ x ∷ [])) (before rest x) ∙ slice_get-get_or (rest ++ x ∷ []) (length rest) x within ∙ ap Some (get_or-append_seam rest x [] x)

front-append : {A : Type 0} (rest : List A) (x : A) → take (length (rest ++ x ∷ []) - 1) (rest ++ x ∷ []) ≡ rest
front-append rest x = ap (λ n. take n (rest ++ x ∷ [])) (before rest x) ∙ take-append_seam rest (x ∷ [])

pub from_last-append : {A B : Type 0} (none : B) (some : A → List A → B) (xs rest : List A) (x : A) → xs ≡ rest ++ x ∷ [] → from_last none some xs ≡ some x rest
unfolding from_last
from_last-append none some xs rest x e =
    ap (from_last none some) e
    ∙ ap (λ last. option_map_or (λ y. some y (take (length (rest ++ x ∷ []) - 1) (rest ++ x ∷ []))) last none) (last_of-append rest x)
    ∙ ap (some x) (front-append rest x)

pub from_last-none : {A B : Type 0} (none : B) (some : A → List A → B) (xs : List A) → length xs ≡ 0 → from_last none some xs ≡ none
unfolding from_last
from_last-none none some [] e = refl
from_last-none none some (x ∷ xs) e = absurd (omega arith)

-- what was taken off the end
pub pop-last : {A : Type 0} (xs rest : List A) (r : Option A) → xs ≡ rest ++ option_to_list r → (0 < length xs → IsSome r) → r ≡ last_of xs
pop-last [] rest None e some = refl
pop-last (y ∷ ys) rest None e some = cc (some (omega arith))
pop-last xs rest (Some x) e some = sym (ap last_of e ∙ last_of-append rest x)
