-- Inputs divided into rounds and lanes, by computation.
use Rattle.std.specs.Prelude.{◌≡◌, ℕ, List, [], ◌∷◌, ◌++◌, codes}
use Rattle.gate_split.specs.Parts.{rounds_of}

abbrev pub ended : List ℕ → List ℕ
ended text = text ++ 10 ∷ []

-- an input without a line `---` or `===`, even an empty one, is one lane of one round
abbrev pub AloneExamples : Type 0
AloneExamples =
    (rounds_of [] ≡ ([] ∷ []) ∷ [])
    × (rounds_of (ended []) ≡ (ended [] ∷ []) ∷ [])
    × (rounds_of (codes "leave") ≡ (codes "leave" ∷ []) ∷ [])
    × (rounds_of (ended (codes "----")) ≡ (ended (codes "----") ∷ []) ∷ [])
    × (rounds_of (ended (codes "--- ")) ≡ (ended (codes "--- ") ∷ []) ∷ [])
    × (rounds_of (codes "---" ++ 13 ∷ 10 ∷ []) ≡ ((codes "---" ++ 13 ∷ 10 ∷ []) ∷ []) ∷ [])
    × (rounds_of (ended (codes "#---")) ≡ (ended (codes "#---") ∷ []) ∷ [])
    × (rounds_of (ended (codes "====")) ≡ (ended (codes "====") ∷ []) ∷ [])

-- lines `---` divide lanes, also a last one without a newline, and each lane keeps its bytes
abbrev pub PartedExamples : Type 0
PartedExamples =
    (rounds_of (codes "---") ≡ ([] ∷ [] ∷ []) ∷ [])
    × (rounds_of (ended (codes "---") ++ ended (codes "---")) ≡ ([] ∷ [] ∷ [] ∷ []) ∷ [])
    × (rounds_of (ended (codes "a") ++ (ended (codes "---") ++ codes "b")) ≡ (ended (codes "a") ∷ codes "b" ∷ []) ∷ [])
    × (rounds_of (ended (codes "a") ++ (ended (codes "b") ++ (ended (codes "---") ++ ended (codes "c")))) ≡ ((ended (codes "a") ++ ended (codes "b")) ∷ ended (codes "c") ∷ []) ∷ [])

-- lines `===` divide rounds, and each line `---` of a later round begins a lane
abbrev pub RoundExamples : Type 0
RoundExamples =
    (rounds_of (ended (codes "===") ++ ended (codes "---")) ≡ ([] ∷ []) ∷ ([] ∷ []) ∷ [])
    × (rounds_of (ended (codes "a") ++ (ended (codes "===") ++ (ended (codes "#") ++ (ended (codes "---") ++ codes "b")))) ≡ (ended (codes "a") ∷ []) ∷ (codes "b" ∷ []) ∷ [])
    × (rounds_of (ended (codes "===") ++ (ended (codes "---") ++ (codes "b" ++ (10 ∷ codes "---")))) ≡ ([] ∷ []) ∷ (ended (codes "b") ∷ [] ∷ []) ∷ [])
