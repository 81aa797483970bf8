-- Which scripts are witness programs, pay a key or are multisigs: those of these patterns, and no others.
use Rattle.std.specs.Prelude.{◌≡◌, ◌↔◌, IsTrue, ℕ, ◌+◌, ◌≤◌, ◌==◌, true, if◌then◌else◌, List, [], ◌∷◌, ◌++◌, length, Some}
use Rattle.std.specs.List.{list_all}
use Rattle.gate_script.specs.Opcodes.{OP_0, OP_RESERVED, OP_CHECKSIG, OP_CHECKMULTISIG}
use Rattle.gate_script.specs.Instructions.{Instruction, Plain}
use Rattle.gate_script.specs.Witness.{is_anchor, witness_program_of}
use Rattle.gate_script.specs.Templates.{is_public_key, pays_key, pushes_key, multisig_of}

-- the opcode of a version: OP_0 for 0, OP_1 for 1 and so on
abbrev pub version_opcode : ℕ → ℕ
version_opcode version = if version == 0 then OP_0 else OP_RESERVED + version

-- a witness program is a version of at most 16, and one push of 2 to 40 bytes
abbrev pub ProgramsArePatterns : Type 0
ProgramsArePatterns = (version : ℕ) (program script : List ℕ) → (witness_program_of script ≡ Some (version, program)) ↔ ((version ≤ 16) × (2 ≤ length program) × (length program ≤ 40) × (script ≡ version_opcode version ∷ length program ∷ program))

-- an anchor is the witness program of version 1 with the bytes 4e73
abbrev pub AnchorsArePatterns : Type 0
AnchorsArePatterns = (script : List ℕ) → IsTrue (is_anchor script) ↔ (witness_program_of script ≡ Some (1, 0x4e ∷ 0x73 ∷ []))

-- a script that pays a key is the push of a public key, and OP_CHECKSIG
abbrev pub KeysArePatterns : Type 0
KeysArePatterns = (script : List ℕ) → IsTrue (pays_key script) ↔ ((key : List ℕ) × IsTrue (is_public_key key) × (script ≡ length key ∷ (key ++ (OP_CHECKSIG ∷ []))))

-- a multisig is OP_m, n pushes of public keys, OP_n and OP_CHECKMULTISIG, with 1 ≤ m ≤ n ≤ 16
abbrev pub MultisigsArePatterns : Type 0
MultisigsArePatterns = (m n : ℕ) (ops : List Instruction) → (multisig_of ops ≡ Some (m, n)) ↔ ((keys : List Instruction) × (list_all pushes_key keys ≡ true) × (length keys ≡ n) × (1 ≤ m) × (m ≤ n) × (n ≤ 16) × (ops ≡ Plain (OP_RESERVED + m) ∷ (keys ++ (Plain (OP_RESERVED + n) ∷ Plain OP_CHECKMULTISIG ∷ []))))
