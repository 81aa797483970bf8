-- The lines of a text, from its front.
use Rattle.std.proofs.Common.{◌≡◌, ℕ, ◌<◌, ◌≤◌, ◌==◌, if◌then◌else◌, true, false, List, [], ◌∷◌, ◌++◌, length, refl, sym, ap, ◌∙◌, arith, append_assoc}
use Rattle.std.proofs.lemmas.Bool.Decides.{nat_tests}
use Rattle.gate_lines.specs.Lines.{LacksNewline, onto_first, lines_of, unlines, EachLacksNewline}

-- the first step of lines_of at a byte that is no newline
lines_of-byte : (x : ℕ) (xs : List ℕ) → (x ≡ 10 → ⊥) → lines_of (x ∷ xs) ≡ onto_first x (lines_of xs)
lines_of-byte x xs other =
    let test : (x == 10) ≡ false = grind (arith, nat_tests) in
    ap (λ b. if b then [] ∷ lines_of xs else onto_first x (lines_of xs)) test

pub lines_of-whole : (line rest : List ℕ) → LacksNewline line → lines_of (line ++ 10 ∷ rest) ≡ line ∷ lines_of rest
lines_of-whole [] rest h = refl
lines_of-whole (x ∷ xs) rest h = lines_of-byte x (xs ++ 10 ∷ rest) h.0 ∙ ap (onto_first x) (lines_of-whole xs rest h.1)

pub lines_of-rest : (line : List ℕ) → LacksNewline line → 0 < length line → lines_of line ≡ line ∷ []
lines_of-rest [] h some = absurd (omega arith)
lines_of-rest (x ∷ []) h some = lines_of-byte x [] h.0
lines_of-rest (x ∷ y ∷ ys) h some = lines_of-byte x (y ∷ ys) h.0 ∙ ap (onto_first x) (lines_of-rest (y ∷ ys) h.1 (omega arith))

pub lines_of-unlines : (lines : List (List ℕ)) (rest : List ℕ) → EachLacksNewline lines → lines_of (unlines lines ++ rest) ≡ lines ++ lines_of rest
lines_of-unlines [] rest h = refl
lines_of-unlines (line ∷ lines) rest h =
    ap lines_of (append_assoc line (10 ∷ unlines lines) rest)
    ∙ lines_of-whole line (unlines lines ++ rest) h.0 ∙ ap (λ l. line ∷ l) (lines_of-unlines lines rest h.1)

-- a text that isn't empty has a first line
pub record HasFirst (text front : List ℕ) : Type 0 where
  pub line : List ℕ
  pub more : List (List ℕ)
  pub first : lines_of text ≡ line ∷ more
  pub long : length front ≤ length line

onto_first-some : (x : ℕ) (lines : List (List ℕ)) → (line : List ℕ) × (more : List (List ℕ)) × (onto_first x lines ≡ line ∷ more) × (1 ≤ length line)
onto_first-some x [] = (x ∷ [], [], refl, omega arith)
onto_first-some x (line ∷ lines) = (x ∷ line, lines, refl, omega arith)

-- ...which begins with what has no newline
pub lines_of-long : (front rest : List ℕ) → LacksNewline front → 0 < length front → HasFirst (front ++ rest) front
lines_of-long [] rest h some = absurd (omega arith)
lines_of-long (x ∷ []) rest h some =
    let f = onto_first-some x (lines_of rest) in
    record { line = f.0; more = f.1; first = lines_of-byte x rest h.0 ∙ f.2; long = f.3 }
lines_of-long (x ∷ y ∷ ys) rest h some =
    let f = lines_of-long (y ∷ ys) rest h.1 (omega arith) in
    record { line = x ∷ f.line; more = f.more; first = lines_of-byte x (y ∷ (ys ++ rest)) h.0 ∙ ap (onto_first x) f.first; long = omega (arith, f.long) }

pub lines_of-some : (x : ℕ) (rest : List ℕ) → (line : List ℕ) × (more : List (List ℕ)) × (lines_of (x ∷ rest) ≡ line ∷ more)
lines_of-some x rest = elim (x == 10) as (λ b. (line : List ℕ) × (more : List (List ℕ)) × ((if b then [] ∷ lines_of rest else onto_first x (lines_of rest)) ≡ line ∷ more)) [
  | true ↦ ([], lines_of rest, refl)
  | false ↦ let f = onto_first-some x (lines_of rest) in (f.0, f.1, f.2)
]

pub unlines-append : (xs ys : List (List ℕ)) → unlines (xs ++ ys) ≡ unlines xs ++ unlines ys
unlines-append [] ys = refl
unlines-append (x ∷ xs) ys = ap (λ l. x ++ 10 ∷ l) (unlines-append xs ys) ∙ sym (append_assoc x (10 ∷ unlines xs) (unlines ys))

pub EachLacksNewline-push : (lines : List (List ℕ)) (line : List ℕ) → EachLacksNewline lines → LacksNewline line → EachLacksNewline (lines ++ line ∷ [])
EachLacksNewline-push [] line h last = (last, tt)
EachLacksNewline-push (x ∷ xs) line h last = (h.0, EachLacksNewline-push xs line h.1 last)
