-- What scripts spell: each instruction has its bytes, and instructions spelled one after another are read as they are.
use Rattle.std.specs.Prelude.{◌≡◌, ◌↔◌, IsTrue, ◌⊎◌, ⊤, ℕ, ◌^◌, ◌<◌, ◌≤◌, false, List, [], ◌∷◌, ◌++◌, length}
use Rattle.std.specs.List.{flat_map, AllByRecursion}
use Rattle.byteorder.specs.Endian.{little_bytes}
use Rattle.gate_bytes.specs.Reading.{IsBytes}
use Rattle.gate_script.specs.Templates.{frames}
use Rattle.gate_script.specs.Instructions.{Instruction, Push, Truncated, Plain, is_push, length_size, instructions}

-- the opcode, the bytes that say how many are pushed, and these
abbrev pub spelled : Instruction → List ℕ
spelled (Push opcode bytes) = opcode ∷ (little_bytes (length_size opcode) (length bytes) ++ bytes)
spelled (Plain opcode) = opcode ∷ []
spelled (Truncated opcode) = opcode ∷ []

-- the opcode pushes `count` bytes, or can push that many
abbrev pub PushesThatMany : ℕ → ℕ → Type 0
PushesThatMany opcode count =
    ((0 < opcode) × (opcode ≤ 0x4b) × (count ≡ opcode))
    ⊎ (((opcode ≡ 0x4c) × (count < 2 ^ 8)) ⊎ (((opcode ≡ 0x4d) × (count < 2 ^ 16)) ⊎ ((opcode ≡ 0x4e) × (count < 2 ^ 32))))

-- an instruction that a script can hold whole
abbrev pub IsSpellable : Instruction → Type 0
IsSpellable (Push opcode bytes) = PushesThatMany opcode (length bytes)
IsSpellable (Plain opcode) = is_push opcode ≡ false
IsSpellable (Truncated opcode) = ⊥

abbrev pub SpellingsAreRead : Type 0
SpellingsAreRead = (ops : List Instruction) → AllByRecursion IsSpellable ops → instructions (flat_map spelled ops) ≡ ops

-- the instruction isn't cut by the end of the script
abbrev pub IsUncut : Instruction → Type 0
IsUncut (Truncated opcode) = ⊥
IsUncut _ = ⊤

abbrev pub ScriptsAreSpelled : Type 0
ScriptsAreSpelled = (script : List ℕ) → IsBytes script → AllByRecursion IsUncut (instructions script) → flat_map spelled (instructions script) ≡ script

-- the script is `front`, `count` bytes and `back`
abbrev pub IsFramed : List ℕ → ℕ → List ℕ → List ℕ → Type 0
IsFramed front count back script = (middle : List ℕ) × (length middle ≡ count) × (script ≡ front ++ (middle ++ back))

-- the test of a template's bytes is met exactly by the scripts of that pattern
abbrev pub FramesArePatterns : Type 0
FramesArePatterns = (front : List ℕ) (count : ℕ) (back script : List ℕ) → IsTrue (frames front count back script) ↔ IsFramed front count back script
