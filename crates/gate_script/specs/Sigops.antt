-- The signature operations of a script (Bitcoin Core 22.0, `CScript::GetSigOpCount`).
use Rattle.std.specs.Prelude.{ℕ, ◌+◌, ◌-◌, Bool, ◌&&◌, ◌||◌, ◌==◌, nat_le, if◌then◌else◌, List, [], ◌∷◌}
use Rattle.gate_script.specs.Opcodes.{OP_1, OP_16, OP_RESERVED, OP_CHECKSIG, OP_CHECKSIGVERIFY, OP_CHECKMULTISIG, OP_CHECKMULTISIGVERIFY}
use Rattle.gate_script.specs.Instructions.{Instruction, Push, Truncated, Plain, instructions}

-- OP_CHECKSIG and its verifying form count 1; OP_CHECKMULTISIG and its verifying form count 20
-- (MAX_PUBKEYS_PER_MULTISIG) or, accurately, the number that they directly follow, OP_1 to OP_16
abbrev pub sigops_of_opcode : Bool → ℕ → ℕ → ℕ
sigops_of_opcode accurate last_opcode opcode =
    if opcode == OP_CHECKSIG || opcode == OP_CHECKSIGVERIFY then 1
    else if opcode == OP_CHECKMULTISIG || opcode == OP_CHECKMULTISIGVERIFY then (if accurate && nat_le OP_1 last_opcode && nat_le last_opcode OP_16 then last_opcode - OP_RESERVED else 20)
    else 0

-- the signature operations of instructions that follow the opcode `last_opcode`, up to a truncated push
unfoldable pub sigops_after : Bool → ℕ → List Instruction → ℕ
sigops_after accurate last_opcode [] = 0
sigops_after accurate last_opcode (Push opcode bytes ∷ rest) = sigops_after accurate opcode rest
sigops_after accurate last_opcode (Truncated opcode ∷ rest) = 0
sigops_after accurate last_opcode (Plain opcode ∷ rest) = sigops_of_opcode accurate last_opcode opcode + sigops_after accurate opcode rest

abbrev pub sigops_of : Bool → List ℕ → ℕ
sigops_of accurate script = sigops_after accurate 0 (instructions script)
