-- The front of a text that is its opening.
use Rattle.std.proofs.Common.{◌≡◌, ℕ, suc, ◌+◌, Bool, true, false, ◌||◌, if◌then◌else◌, List, [], ◌∷◌, ◌++◌, length, take, refl, ap, ◌∙◌, arith, true≢false, length-append}
use Rattle.std.proofs.lemmas.List.{take_all}
use Rattle.std.specs.List.{list_any}
use Rattle.gate_lines.specs.Lines.{LacksNewline, EachLacksNewline, lines_of, unlines}
use Rattle.gate_opening.specs.Said.{is_end}
use Rattle.gate_opening.specs.Openings.{opening_length, opening_part}
use Rattle.gate_lines.proofs.LineLists.{lines_of-unlines, lines_of-whole}

-- what stands before the cut is whole
take-past : (xs ys : List ℕ) (n : ℕ) → take (length xs + n) (xs ++ ys) ≡ xs ++ take n ys
take-past [] ys n = let e : 0 + n ≡ n = omega arith in ap (λ k. take k ys) e
take-past (x ∷ xs) ys n =
    let e : suc (length xs) + n ≡ suc (length xs + n) = omega arith in
    ap (λ k. take k (x ∷ (xs ++ ys))) e ∙ ap (λ l. x ∷ l) (take-past xs ys n)

-- neither of two tests holds
pub neither : (a b : Bool) → (a || b) ≡ false → (a ≡ false) × (b ≡ false)
neither false b h = (refl, h)
neither true b h = absurd (true≢false h)

-- lines none of which ends the opening
opening_length-past : (lines more : List (List ℕ)) → list_any is_end lines ≡ false → opening_length (lines ++ more) ≡ length (unlines lines) + opening_length more
opening_length-past [] more h = omega arith
opening_length-past (line ∷ lines) more h =
    let open' = neither (is_end line) (list_any is_end lines) h in
    ap (λ b. length line + 1 + (if b then 0 else opening_length (lines ++ more))) open'.0
    ∙ omega (arith, opening_length-past lines more open'.1, length-append line (10 ∷ unlines lines))

pub opening_part-past : (lines : List (List ℕ)) (rest : List ℕ) → EachLacksNewline lines → list_any is_end lines ≡ false
    → opening_part (unlines lines ++ rest) ≡ unlines lines ++ opening_part rest
opening_part-past lines rest clean open' =
    let all : lines_of (unlines lines ++ rest) ≡ lines ++ lines_of rest = lines_of-unlines lines rest clean in
    ap (λ ls. take (opening_length ls) (unlines lines ++ rest)) all
    ∙ ap (λ n. take n (unlines lines ++ rest)) (opening_length-past lines (lines_of rest) open')
    ∙ take-past (unlines lines) rest (opening_length (lines_of rest))

-- a line `---` with its newline
pub opening_part-end : (line rest : List ℕ) → LacksNewline line → is_end line ≡ true → opening_part (line ++ 10 ∷ rest) ≡ line ++ 10 ∷ []
opening_part-end line rest clean ends =
    ap (λ ls. take (opening_length ls) (line ++ 10 ∷ rest)) (lines_of-whole line rest clean)
    ∙ ap (λ b. take (length line + 1 + (if b then 0 else opening_length (lines_of rest))) (line ++ 10 ∷ rest)) ends
    ∙ ap (λ n. take n (line ++ 10 ∷ rest)) (omega arith)
    ∙ take-past line (10 ∷ rest) 1

-- one line that is all there is
pub opening_part-only : (line : List ℕ) → lines_of line ≡ line ∷ [] → opening_part line ≡ line
opening_part-only line only = ap (λ ls. take (opening_length ls) line) only ∙ take_all (opening_length (line ∷ [])) line (omega arith)
