-- Counting the signature operations of instructions from the left.
use Rattle.std.proofs.Common.{◌≡◌, ℕ, zero, suc, ◌+◌, ◌*◌, ◌≤◌, Bool, List, [], ◌∷◌, length, ap, arith}
use Rattle.std.proofs.lemmas.Bool.Decides.{nat_tests}
use Rattle.gate_script.specs.Instructions.{Instruction, Push, Truncated, Plain, instructions, instructions_after, operand_size}
use Rattle.gate_script.specs.Sigops.{sigops_of_opcode, sigops_after, sigops_of}

pub sigops-nil : (accurate : Bool) (last_opcode : ℕ) (all : List Instruction) → all ≡ [] → sigops_after accurate last_opcode all ≡ 0
unfolding sigops_after
sigops-nil accurate last_opcode all none = ap (sigops_after accurate last_opcode) none

pub sigops-push : (accurate : Bool) (last_opcode : ℕ) (all left : List Instruction) (opcode : ℕ) (bytes : List ℕ) → all ≡ Push opcode bytes ∷ left → sigops_after accurate last_opcode all ≡ sigops_after accurate opcode left
unfolding sigops_after
sigops-push accurate last_opcode all left opcode bytes first = ap (sigops_after accurate last_opcode) first

pub sigops-truncated : (accurate : Bool) (last_opcode : ℕ) (all left : List Instruction) (opcode : ℕ) → all ≡ Truncated opcode ∷ left → sigops_after accurate last_opcode all ≡ 0
unfolding sigops_after
sigops-truncated accurate last_opcode all left opcode first = ap (sigops_after accurate last_opcode) first

pub sigops-plain : (accurate : Bool) (last_opcode : ℕ) (all left : List Instruction) (opcode : ℕ) → all ≡ Plain opcode ∷ left → sigops_after accurate last_opcode all ≡ sigops_of_opcode accurate last_opcode opcode + sigops_after accurate opcode left
unfolding sigops_after
sigops-plain accurate last_opcode all left opcode first = ap (sigops_after accurate last_opcode) first

-- each instruction takes a byte of the script, and counts 20 at most
instructions_after-most : (skip : ℕ) (script : List ℕ) → length (instructions_after skip script) ≤ length script
unfolding instructions_after
instructions_after-most skip [] = omega arith
instructions_after-most zero (opcode ∷ rest) = omega (arith, instructions_after-most (operand_size opcode rest) rest)
instructions_after-most (suc skip) (_ ∷ rest) = omega (arith, instructions_after-most skip rest)

sigops_of_opcode-most : (accurate : Bool) (last_opcode opcode : ℕ) → sigops_of_opcode accurate last_opcode opcode ≤ 20
sigops_of_opcode-most accurate last_opcode opcode = grind (arith, nat_tests)

sigops_after-most : (accurate : Bool) (last_opcode : ℕ) (ops : List Instruction) → sigops_after accurate last_opcode ops ≤ 20 * length ops
unfolding sigops_after
sigops_after-most accurate last_opcode [] = omega arith
sigops_after-most accurate last_opcode (Push opcode bytes ∷ rest) = omega (arith, sigops_after-most accurate opcode rest)
sigops_after-most accurate last_opcode (Truncated opcode ∷ rest) = omega arith
sigops_after-most accurate last_opcode (Plain opcode ∷ rest) = omega (arith, sigops_of_opcode-most accurate last_opcode opcode, sigops_after-most accurate opcode rest)

pub sigops_of-most : (accurate : Bool) (script : List ℕ) → sigops_of accurate script ≤ 20 * length script
sigops_of-most accurate script = omega (arith, sigops_after-most accurate 0 (instructions script), instructions_after-most 0 script)
