-- The lines of a text with their newlines.
use Rattle.std.proofs.Common.{◌≡◌, ℕ, ◌<◌, ◌==◌, if◌then◌else◌, false, List, [], ◌∷◌, ◌++◌, length, refl, ap, ◌∙◌, arith}
use Rattle.std.proofs.lemmas.Bool.Decides.{nat_tests}
use Rattle.gate_lines.specs.Lines.{LacksNewline, onto_first}
use Rattle.gate_split.specs.Parts.{ended_lines}

line_byte : (x : ℕ) (xs : List ℕ) → (x ≡ 10 → ⊥) → ended_lines (x ∷ xs) ≡ onto_first x (ended_lines xs)
line_byte x xs other =
    let test : (x == 10) ≡ false = grind (arith, nat_tests) in
    ap (λ b. if b then (10 ∷ []) ∷ ended_lines xs else onto_first x (ended_lines xs)) test

pub ended_lines-whole : (line rest : List ℕ) → LacksNewline line → ended_lines (line ++ 10 ∷ rest) ≡ (line ++ 10 ∷ []) ∷ ended_lines rest
ended_lines-whole [] rest h = refl
ended_lines-whole (x ∷ xs) rest h = line_byte x (xs ++ 10 ∷ rest) h.0 ∙ ap (onto_first x) (ended_lines-whole xs rest h.1)

pub ended_lines-rest : (line : List ℕ) → LacksNewline line → 0 < length line → ended_lines line ≡ line ∷ []
ended_lines-rest [] h some = absurd (omega arith)
ended_lines-rest (x ∷ []) h some = line_byte x [] h.0
ended_lines-rest (x ∷ y ∷ ys) h some = line_byte x (y ∷ ys) h.0 ∙ ap (onto_first x) (ended_lines-rest (y ∷ ys) h.1 (omega arith))
