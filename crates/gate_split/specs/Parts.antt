-- The rounds of one input, and the lanes of each: the bytes of the input, divided at its lines `===` and `---`.
use Rattle.std.specs.Prelude.{◌≡◌, ◌≢◌, ℕ, ◌+◌, ◌<◌, ◌≤◌, ◌==◌, ◌||◌, if◌then◌else◌, Bool, true, List, [], ◌∷◌, ◌++◌, length, map, codes, Option, IfSome}
use Rattle.std.specs.List.{All, concat}
use Rattle.std.specs.Str.{bytes_eq}
use Rattle.gate_lines.specs.Lines.{count_limit, is_skipped, line_limit, lines_of, onto_first}

-- the most lanes of an input, in all its rounds
abbrev pub lane_limit : ℕ
lane_limit = 64

-- ---- lines with their newlines

-- each line of the text with its newline; what follows the last newline, if anything, is a line without one
abbrev pub ended_lines : List ℕ → List (List ℕ)
ended_lines [] = []
ended_lines (x ∷ xs) = if x == 10 then (10 ∷ []) ∷ ended_lines xs else onto_first x (ended_lines xs)

-- the line that begins a lane, with its newline or at the end of the input
abbrev pub is_parting : List ℕ → Bool
is_parting line = bytes_eq line (codes "---" ++ 10 ∷ []) || bytes_eq line (codes "---")

-- the line that ends a round
abbrev pub is_closing : List ℕ → Bool
is_closing line = bytes_eq line (codes "===" ++ 10 ∷ []) || bytes_eq line (codes "===")

-- an empty line, or a comment
abbrev pub is_idle : List ℕ → Bool
is_idle line = bytes_eq line (10 ∷ []) || is_skipped line

-- ---- parts

-- the lines before the first one that passes the test
abbrev pub before : (List ℕ → Bool) → List (List ℕ) → List (List ℕ)
before test [] = []
before test (line ∷ lines) = if test line then [] else line ∷ before test lines

-- for each line that passes the test, the lines behind it, up to the next such line
abbrev pub behind : (List ℕ → Bool) → List (List ℕ) → List (List (List ℕ))
behind test [] = []
behind test (line ∷ lines) = if test line then before test lines ∷ behind test lines else behind test lines

-- the lanes of a round behind the first: each of its lines `---` begins one
abbrev pub begun_lanes : List (List ℕ) → List (List ℕ)
begun_lanes lines = map concat (behind is_parting lines)

-- the lanes of the first round, whose first line `---` ended the opening
abbrev pub first_lanes : List (List ℕ) → List (List ℕ)
first_lanes lines = concat (before is_parting lines) ∷ begun_lanes lines

-- the lanes of a text, round by round, each with its bytes
abbrev pub rounds_of : List ℕ → List (List (List ℕ))
rounds_of text = first_lanes (before is_closing (ended_lines text)) ∷ map begun_lanes (behind is_closing (ended_lines text))

-- how many lanes there are in rounds
abbrev pub lanes_in : List (List (List ℕ)) → ℕ
lanes_in [] = 0
lanes_in (lanes ∷ rounds) = length lanes + lanes_in rounds

-- ---- limits

-- empty lines and comments aside, these lines begin with a line `---`
pub record IsBegun (lines : List (List ℕ)) : Type 0 where
  pub idle : All (λ (line : List ℕ). is_idle line ≡ true) (before is_parting lines)
  pub begins : behind is_parting lines ≢ []

-- The lines of a text are within the limits of their number and lengths, and each of its rounds behind the first begins with
-- a line `---`.
pub record IsWellFormed (text : List ℕ) : Type 0 where
  pub few : length (lines_of text) ≤ count_limit
  pub short : All (λ (line : List ℕ). length line ≤ line_limit) (lines_of text)
  pub begun : All IsBegun (behind is_closing (ended_lines text))

-- a well-formed text within the limit of lanes
pub record IsReadable (text : List ℕ) : Type 0 where
  pub form : IsWellFormed text
  pub lanes : lanes_in (rounds_of text) ≤ lane_limit

-- a readable input was read, and these are the lanes of its rounds
abbrev pub RoundsRead : Option (List ℕ) → List (List (List ℕ)) → Type 0
RoundsRead input rounds = IfSome input (λ text. IsReadable text × (rounds ≡ rounds_of text))

-- the input has a lane past the limit
abbrev pub HasTooManyLanes : Option (List ℕ) → Type 0
HasTooManyLanes input = IfSome input (λ text. lane_limit < lanes_in (rounds_of text))

-- the input has a line past a limit, or a round without its line `---`
abbrev pub IsIllFormed : Option (List ℕ) → Type 0
IsIllFormed input = IfSome input (λ text. ¬ IsWellFormed text)
