-- Witness programs (BIP 141).
use Rattle.std.specs.Prelude.{ℕ, ◌-◌, Bool, false, ◌&&◌, ◌||◌, ◌==◌, nat_le, if◌then◌else◌, List, [], ◌∷◌, length, Option, Some, None}
use Rattle.gate_script.specs.Opcodes.{OP_0, OP_1, OP_16, OP_RESERVED}

-- OP_0, or OP_1 to OP_16
abbrev pub is_version : ℕ → Bool
is_version opcode = opcode == OP_0 || (nat_le OP_1 opcode && nat_le opcode OP_16)

-- the version that an opcode stands for
abbrev pub version_of : ℕ → ℕ
version_of opcode = if opcode == OP_0 then 0 else opcode - OP_RESERVED

-- a version, and one push of 2 to 40 bytes to the end of the script
abbrev pub witness_program_of : List ℕ → Option (ℕ × List ℕ)
witness_program_of (first ∷ size ∷ program) =
    if is_version first && size == length program && nat_le 2 size && nat_le size 40 then Some (version_of first, program) else None
witness_program_of _ = None

-- the bytes 51024e73, pay to anchor (BIP 433)
abbrev pub is_anchor : List ℕ → Bool
is_anchor (version ∷ size ∷ first ∷ second ∷ []) = version == OP_1 && size == 2 && first == 0x4e && second == 0x73
is_anchor _ = false
