-- The lines of lanes are the lines of their input.
use Rattle.std.specs.Prelude.{◌≡◌, ℕ, Bool, List, ◌∷◌, [], map, codes}
use Rattle.std.specs.Str.{bytes_eq}
use Rattle.gate_lines.specs.Lines.{lines_of}
use Rattle.gate_split.specs.Parts.{before, behind, rounds_of}

-- the lines `---` and `===`, without their newlines
abbrev pub begins_lane : List ℕ → Bool
begins_lane line = bytes_eq line (codes "---")

abbrev pub ends_round : List ℕ → Bool
ends_round line = bytes_eq line (codes "===")

-- lines without their newlines, divided into rounds at the lines `===`, and each round into lanes at the lines `---`: the lanes
-- of a later round begin with its first line `---`
abbrev pub parted_lines : List (List ℕ) → List (List (List (List ℕ)))
parted_lines lines =
    (before begins_lane (before ends_round lines) ∷ behind begins_lane (before ends_round lines)) ∷ map (behind begins_lane) (behind ends_round lines)

-- the lines of each lane of a text are the lines of the text between two that divide lanes or rounds
abbrev pub LanesHaveTheLines : Type 0
LanesHaveTheLines = (text : List ℕ) → map (map lines_of) (rounds_of text) ≡ parted_lines (lines_of text)
