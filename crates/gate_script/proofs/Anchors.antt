-- An anchor is a witness program of its own.
use Rattle.std.proofs.Common.{◌≡◌, ℕ, Bool, true, false, ◌&&◌, leb, eqb, cond, List, [], ◌∷◌, length, Option, Some, None, refl, sym, ap, ◌∙◌, arith}
use Rattle.std.proofs.lemmas.Bool.Decides.{nat_tests}
use Rattle.gate_script.specs.Patterns.{AnchorsArePatterns}
use Rattle.gate_script.specs.Templates.{template_of}
use Rattle.gate_script.specs.Witness.{is_anchor, is_version, version_of, witness_program_of}
use Rattle.gate_script.specs.declared.templates.Template.TheVariants.{ScriptHash, WitnessUnknown}

abbrev anchor : List ℕ
anchor = 0x51 ∷ 2 ∷ 0x4e ∷ 0x73 ∷ []

four : (a b c d : ℕ) → a ≡ 0x51 → b ≡ 2 → c ≡ 0x4e → d ≡ 0x73 → a ∷ b ∷ c ∷ d ∷ [] ≡ anchor
four a b c d p q r s = cc

bytes_of : (script : List ℕ) → is_anchor script ≡ true → script ≡ anchor
bytes_of [] e = absurd (cc)
bytes_of (a ∷ []) e = absurd (cc)
bytes_of (a ∷ b ∷ []) e = absurd (cc)
bytes_of (a ∷ b ∷ c ∷ []) e = absurd (cc)
bytes_of (a ∷ b ∷ c ∷ d ∷ []) e = four a b c d (grind (arith, nat_tests)) (grind (arith, nat_tests)) (grind (arith, nat_tests)) (grind (arith, nat_tests))
bytes_of (a ∷ b ∷ c ∷ d ∷ f ∷ rest) e = absurd (cc)

version_one : (first : ℕ) → version_of first ≡ 1 → first ≡ 0x51
version_one first e = grind (arith, nat_tests)

spelled : (first size : ℕ) (program : List ℕ) → first ≡ 0x51 → size ≡ 2 → program ≡ 0x4e ∷ 0x73 ∷ [] → first ∷ size ∷ program ≡ anchor
spelled first size program p q r = cc

program_at : (first size : ℕ) (program : List ℕ) (b : Bool) → (is_version first && eqb size (length program) && leb 2 size && leb size 40) ≡ b
    → cond {A = Option (ℕ × List ℕ)} b (Some (version_of first, program)) None ≡ Some (1, 0x4e ∷ 0x73 ∷ []) → first ∷ size ∷ program ≡ anchor
program_at first size program false tests e = absurd (cc)
program_at first size program true tests e =
    let pair : (let p : ℕ × List ℕ = (version_of first, program) in p) ≡ (let p : ℕ × List ℕ = (1, 0x4e ∷ 0x73 ∷ []) in p) = cc in
    let version : version_of first ≡ 1 = ap (λ (p : ℕ × List ℕ). p.0) pair in
    let bytes : program ≡ 0x4e ∷ 0x73 ∷ [] = ap (λ (p : ℕ × List ℕ). p.1) pair in
    let sized : size ≡ length program = grind (arith, nat_tests) in
    let first_is = version_one first version in
    let size_is : size ≡ 2 = sized ∙ ap (λ (l : List ℕ). length l) bytes in
    spelled first size program first_is size_is bytes

program_of : (script : List ℕ) → witness_program_of script ≡ Some (1, 0x4e ∷ 0x73 ∷ []) → script ≡ anchor
program_of [] e = absurd (cc)
program_of (first ∷ []) e = absurd (cc)
program_of (first ∷ size ∷ program) e = program_at first size program (is_version first && eqb size (length program) && leb 2 size && leb size 40) refl e

pub anchors_are_patterns : AnchorsArePatterns
anchors_are_patterns script = (λ is. ap witness_program_of (bytes_of script is), λ is. ap is_anchor (program_of script is))

-- it is no script hash
apart : (script : List ℕ) (b : Bool) → is_anchor script ≡ b → template_of script ≡ ScriptHash → b ≡ false
apart script false is e = refl
apart script true is e = let other : template_of script ≡ WitnessUnknown = ap template_of (bytes_of script is) in absurd (cc)

pub no_anchor : (script : List ℕ) → template_of script ≡ ScriptHash → is_anchor script ≡ false
no_anchor script e = apart script (is_anchor script) refl e
