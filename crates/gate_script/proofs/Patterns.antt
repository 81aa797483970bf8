-- A test of a script's front, length and back finds the bytes between.
use Rattle.std.proofs.Common.{◌≡◌, subst, ℕ, ◌+◌, ◌-◌, List, ◌++◌, length, take, drop, refl, sym, ap, ◌∙◌, arith, append_assoc, length-append, length-take, length-drop}
use Rattle.std.specs.Bool.{Decides}
use Rattle.std.specs.Prelude.{nat_eq}
use Rattle.std.specs.List.{starts_with, ends_with}
use Rattle.std.proofs.Math.Seq.{drop-append_seam, take-append_seam}
use Rattle.std.proofs.lemmas.List.{drop-drop, take-append-drop}
use Rattle.std.proofs.lemmas.Bool.Decides.{Decides-eqb, Decides-and}
use Rattle.std.proofs.lemmas.Slice.Eq.{slice_eq-Decides}
use Rattle.gate_script.specs.Laws.{IsFramed, FramesArePatterns}
use Rattle.gate_script.specs.Templates.{frames}

-- what the three tests say
abbrev Tested : List ℕ → ℕ → List ℕ → List ℕ → Type 0
Tested front count back script =
    ((length script ≡ length front + count + length back) × (front ≡ take (length front) script)) × (back ≡ drop (length script - length back) script)

tested : (front : List ℕ) (count : ℕ) (back script : List ℕ) → Decides (frames front count back script) (Tested front count back script)
tested front count back script =
    Decides-and _ _
    (Decides-and _ _
    (Decides-eqb (length script) (length front + count + length back))
    (slice_eq-Decides Decides-eqb front (take (length front) script) (starts_with nat_eq script front) refl))
    (slice_eq-Decides Decides-eqb back (drop (length script - length back) script) (ends_with nat_eq script back) refl)

framed : (front : List ℕ) (count : ℕ) (back script : List ℕ) → Tested front count back script → IsFramed front count back script
framed front count back script tests =
    let long = tests.0.0 in
    let rest = drop (length front) script in
    let middle = take count rest in
    let at : length front + count ≡ length script - length back = omega arith in
    let behind : drop count rest ≡ back = drop-drop count (length front) script ∙ ap (λ n. drop n script) at ∙ sym tests.1 in
    let sized : length middle ≡ count = omega (arith, length-take count rest, length-drop (length front) script) in
    let whole : script ≡ front ++ (middle ++ back) =
    sym (take-append-drop (length front) script)
    ∙ ap (λ xs. xs ++ rest) (sym tests.0.1)
    ∙ ap (λ xs. front ++ xs) (sym (take-append-drop count rest) ∙ ap (λ xs. middle ++ xs) behind) in
    (middle, sized, whole)

tests-at : (front middle back : List ℕ) → Tested front (length middle) back (front ++ (middle ++ back))
tests-at front middle back =
    let script = front ++ (middle ++ back) in
    let long : length script ≡ length front + length middle + length back = omega (arith, length-append front (middle ++ back), length-append middle back) in
    let at : length script - length back ≡ length (front ++ middle) = omega (arith, length-append front middle) in (
      (long, sym (take-append_seam front (middle ++ back))),
      sym (ap (λ n. drop n script) at ∙ ap (drop (length (front ++ middle))) (sym (append_assoc front middle back)) ∙ drop-append_seam (front ++ middle) back),
    )

tests-of : (front : List ℕ) (count : ℕ) (back script : List ℕ) → IsFramed front count back script → Tested front count back script
tests-of front count back script is =
    subst (λ s. Tested front count back s) (sym is.2) (subst (λ n. Tested front n back (front ++ (is.0 ++ back))) is.1 (tests-at front is.0 back))

pub frames_are_patterns : FramesArePatterns
frames_are_patterns front count back script =
    let decides = tested front count back script in
    (λ yes. framed front count back script (decides.0 yes), λ is. decides.1 (tests-of front count back script is))
