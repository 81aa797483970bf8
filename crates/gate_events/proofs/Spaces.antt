-- Words parted by single spaces: a word is read from in front of its space, and what was read stood there.
use Rattle.std.proofs.Common.{◌≡◌, ℕ, ◌+◌, ◌<◌, ◌==◌, ◌||◌, nat_lt, Bool, true, false, if◌then◌else◌, List, [], ◌∷◌, ◌++◌, length, get_or, take, drop, Some, None, refl, ap, ◌∙◌, arith, length-append}
use Rattle.std.specs.List.{list_any, position_or_len, before_first, after_first}
use Rattle.std.proofs.Math.Seq.{drop-append-add}
use Rattle.std.proofs.lemmas.Bool.{lt-ltb, ltb-true, eqb-true}
use Rattle.std.proofs.lemmas.Bool.Decides.{nat_tests}
use Rattle.std.proofs.lemmas.List.{take_at}
use Rattle.std.proofs.lemmas.List.Folds.{list_any-append}
use Rattle.std.proofs.lemmas.List.Sums.{split_at_first, passes_at_first}
use Rattle.gate_lines.specs.Words.{part_of, is_word}

-- whether a space is in the text
abbrev pub has_space : List ℕ → Bool
has_space text = list_any (λ b. b == 32) text

abbrev place : List ℕ → ℕ
place text = position_or_len (λ b. b == 32) text

place_at : (word rest : List ℕ) → has_space word ≡ false → place (word ++ 32 ∷ rest) ≡ length word
place_at [] rest h = refl
place_at (c ∷ word) rest h = by (c == 32) refl h (place_at word rest)
  where
    by : (here : Bool) → (c == 32) ≡ here → (here || has_space word) ≡ false → (has_space word ≡ false → place (word ++ 32 ∷ rest) ≡ length word) → place (c ∷ (word ++ 32 ∷ rest)) ≡ length (c ∷ word)
    by true is none later = absurd cc
    by false is none later = let before = later none in rw is (omega arith)

place_none : (text : List ℕ) → has_space text ≡ false → place text ≡ length text
place_none [] h = refl
place_none (c ∷ text) h = by (c == 32) refl h (place_none text)
  where
    by : (here : Bool) → (c == 32) ≡ here → (here || has_space text) ≡ false → (has_space text ≡ false → place text ≡ length text) → place (c ∷ text) ≡ length (c ∷ text)
    by true is none later = absurd cc
    by false is none later = let before = later none in rw is (omega arith)

-- what stands in front of a space, where none is in it
pub part_at : (word rest : List ℕ) → has_space word ≡ false → part_of (word ++ 32 ∷ rest) ≡ Some (word, rest)
unfolding part_of
part_at word rest none =
    let at = place_at word rest none in
    let within : nat_lt (length word) (length (word ++ 32 ∷ rest)) ≡ true = lt-ltb _ _ (omega (arith, length-append word (32 ∷ rest))) in
    let front : take (length word) (word ++ 32 ∷ rest) ≡ word = take_at word (32 ∷ rest) (length word) refl in
    let back : drop (length word + 1) (word ++ 32 ∷ rest) ≡ rest = drop-append-add word (32 ∷ rest) 1 in
    rw (at, within, front, back) refl

-- a text without a space has no parts
pub part_none : (text : List ℕ) → has_space text ≡ false → part_of text ≡ None
unfolding part_of
part_none text none =
    let at = place_none text none in
    let past : nat_lt (length text) (length text) ≡ false = grind (arith, nat_tests) in
    rw (at, past) refl

-- the parts with the space between them are the text
pub part_joined : (text word rest : List ℕ) → part_of text ≡ Some (word, rest) → text ≡ word ++ 32 ∷ rest
unfolding part_of
part_joined text word rest is = by (nat_lt (place text) (length text)) refl is
  where
    parts : List ℕ × List ℕ
    parts = (before_first (λ b. b == 32) text, after_first (λ b. b == 32) text)

    by : (within : Bool) → nat_lt (place text) (length text) ≡ within → (if within then Some parts else None) ≡ Some (word, rest) → text ≡ word ++ 32 ∷ rest
    by true found at =
        let lt : place text < length text = ltb-true _ _ found in
        let space : get_or text (place text) 0 ≡ 32 = eqb-true _ _ (passes_at_first (λ b. b == 32) text 0 lt) in
        let same : parts ≡ (word, rest) = cc in
        let front : before_first (λ b. b == 32) text ≡ word = ap (λ (p : List ℕ × List ℕ). p.0) same in
        let back : after_first (λ b. b == 32) text ≡ rest = ap (λ (p : List ℕ × List ℕ). p.1) same in
        split_at_first (λ b. b == 32) text 0 lt ∙ (λ j. front j ++ (space j ∷ back j))
    by false found at = absurd cc

-- a text with anything in it, and without a space, is a word
pub word_is : (text : List ℕ) → 0 < length text → has_space text ≡ false → is_word text ≡ true
word_is [] some none = absurd (omega arith)
word_is (c ∷ text) some none =
    let filled : (length (c ∷ text) == 0) ≡ false = grind (arith, nat_tests) in
    rw (part_none (c ∷ text) none, filled) refl

-- a space is in two texts joined just where it is in one of them
pub space_joined : (a b : List ℕ) → has_space a ≡ false → has_space b ≡ false → has_space (a ++ b) ≡ false
space_joined a b first second = list_any-append (λ c. c == 32) a b ∙ rw first second
