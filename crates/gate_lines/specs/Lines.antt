-- The lines of a text, their limits, and those that ask for nothing.
use Rattle.std.specs.Prelude.{◌≡◌, ◌≢◌, ℕ, ◌==◌, if◌then◌else◌, Bool, true, List, [], ◌∷◌, ◌++◌, Option, None, IfSome}
use Rattle.std.specs.Str.{is_utf8}

-- the most bytes of a line
abbrev pub line_limit : ℕ
line_limit = 16777216

-- the most lines of a reader
abbrev pub count_limit : ℕ
count_limit = 1000000

abbrev pub onto_first : ℕ → List (List ℕ) → List (List ℕ)
onto_first x [] = (x ∷ []) ∷ []
onto_first x (line ∷ lines) = (x ∷ line) ∷ lines

-- each line of the text without its newline; a rest that isn't empty is a line
abbrev pub lines_of : List ℕ → List (List ℕ)
lines_of [] = []
lines_of (x ∷ xs) = if x == 10 then [] ∷ lines_of xs else onto_first x (lines_of xs)

-- the text of these lines, each with a newline
abbrev pub unlines : List (List ℕ) → List ℕ
unlines [] = []
unlines (line ∷ lines) = line ++ (10 ∷ unlines lines)

abbrev pub LacksNewline : List ℕ → Type 0
LacksNewline [] = Unit {0}
LacksNewline (x ∷ xs) = (x ≢ 10) × LacksNewline xs

abbrev pub EachLacksNewline : List (List ℕ) → Type 0
EachLacksNewline [] = Unit {0}
EachLacksNewline (line ∷ lines) = LacksNewline line × EachLacksNewline lines

-- the first lines of an input, if it is known
abbrev pub FirstLines : Option (List ℕ) → List (List ℕ) → Type 0
FirstLines input lines = IfSome input (λ bytes. (more : List (List ℕ)) × (lines_of bytes ≡ lines ++ more))

-- an empty line, or a comment
abbrev pub is_skipped : List ℕ → Bool
is_skipped [] = true
is_skipped (x ∷ xs) = x == 35

-- what a line is read as: a line that isn't UTF-8 has no form
abbrev pub if_text : {X : Type 0} → (List ℕ → Option X) → List ℕ → Option X
if_text form line = if is_utf8 line then form line else None
