-- The instructions of a script, from the left (Bitcoin Core 22.0, `CScript::GetOp`).
use Rattle.std.specs.Prelude.{◌≡◌, ℕ, zero, suc, ◌+◌, ◌≤◌, Bool, ◌&&◌, ◌==◌, nat_lt, nat_le, if◌then◌else◌, List, [], ◌∷◌, length, drop, slice_range}
use Rattle.byteorder.specs.Endian.{little_number}
use Rattle.gate_script.specs.Opcodes.{OP_PUSHDATA1, OP_PUSHDATA2, OP_PUSHDATA4}
use Rattle.gate_script.specs.declared.op.Op.{Op}
use Rattle.gate_script.specs.declared.op.Op.TheVariants as op

-- an opcode with the bytes that it pushes, an opcode whose push goes past the end, or an opcode without bytes of its own
pub data Instruction : Type 0 where
  Push : ℕ → List ℕ → Instruction
  Truncated : ℕ → Instruction
  Plain : ℕ → Instruction

-- the instruction that an `Op` is
abbrev pub instruction_of : Op → Instruction
instruction_of (op.Push opcode bytes) = Push opcode bytes.now
instruction_of (op.Truncated opcode) = Truncated opcode
instruction_of (op.Plain opcode) = Plain opcode

abbrev pub is_push : ℕ → Bool
is_push opcode = nat_lt 0 opcode && nat_le opcode OP_PUSHDATA4

-- how many bytes after a push opcode say how many are pushed: OP_PUSHDATA1, 2 and 4 have some
abbrev pub length_size : ℕ → ℕ
length_size opcode = if opcode == OP_PUSHDATA1 then 1 else if opcode == OP_PUSHDATA2 then 2 else if opcode == OP_PUSHDATA4 then 4 else 0

-- how many bytes are pushed: the opcode itself up to 0x4b, else the number in the bytes after the opcode
abbrev pub pushed_count : ℕ → List ℕ → ℕ
pushed_count opcode rest = if nat_le opcode 0x4b then opcode else little_number (length_size opcode) rest

-- how many of the bytes after an opcode belong to it
abbrev pub operand_size : ℕ → List ℕ → ℕ
operand_size opcode rest = if is_push opcode then length_size opcode + pushed_count opcode rest else 0

-- the instruction of an opcode and the bytes after it
abbrev pub instruction_at : ℕ → List ℕ → Instruction
instruction_at opcode rest =
    if is_push opcode then
    (if nat_lt (length rest) (operand_size opcode rest) then Truncated opcode
    else Push opcode (slice_range rest (length_size opcode) (operand_size opcode rest)))
    else Plain opcode

-- the instructions of a script of which the first `skip` bytes belong to the one before
unfoldable pub instructions_after : ℕ → List ℕ → List Instruction
instructions_after skip [] = []
instructions_after zero (opcode ∷ rest) = instruction_at opcode rest ∷ instructions_after (operand_size opcode rest) rest
instructions_after (suc skip) (_ ∷ rest) = instructions_after skip rest

abbrev pub instructions : List ℕ → List Instruction
instructions script = instructions_after 0 script

-- a push whose bytes are all there: those that it pushes, and what follows them
pub record PushesWhole (opcode : ℕ) (rest bytes left : List ℕ) : Type 0 where
  pub fits : operand_size opcode rest ≤ length rest
  pub pushed : bytes ≡ slice_range rest (length_size opcode) (operand_size opcode rest)
  pub follows : left ≡ drop (operand_size opcode rest) rest
