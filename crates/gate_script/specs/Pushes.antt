-- What a script pushes.
use Rattle.std.specs.Prelude.{ℕ, ◌-◌, Bool, false, true, ◌&&◌, ◌==◌, nat_le, if◌then◌else◌, List, [], ◌∷◌, length, Option, Some, None, option_and_then}
use Rattle.std.specs.List.{list_all}
use Rattle.gate_script.specs.Opcodes.{OP_0, OP_1NEGATE, OP_1, OP_16, OP_RESERVED}
use Rattle.gate_script.specs.Instructions.{Instruction, Push, Truncated, Plain, instructions}

infixl 10 ◌>>=◌
abbrev pub ◌>>=◌ : {A B : Type 0} → Option A → (A → Option B) → Option B
o >>= f = option_and_then f o

-- a whole push, or an opcode that counts as one: none above OP_16
abbrev pub pushes : Instruction → Bool
pushes (Push opcode bytes) = true
pushes (Plain opcode) = nat_le opcode OP_16
pushes (Truncated opcode) = false

abbrev pub is_push_only : List ℕ → Bool
is_push_only script = list_all pushes (instructions script)

-- the item that an instruction pushes: OP_0 an empty one, OP_1NEGATE -1, OP_1 to OP_16 their number
abbrev pub item_of : Instruction → Option (List ℕ)
item_of (Push opcode bytes) = if nat_le (length bytes) 520 then Some bytes else None
item_of (Plain opcode) =
    if opcode == OP_0 then Some []
    else if opcode == OP_1NEGATE then Some (0x81 ∷ [])
    else if nat_le OP_1 opcode && nat_le opcode OP_16 then Some ((opcode - OP_RESERVED) ∷ [])
    else None
item_of (Truncated opcode) = None

-- the items of instructions that each push one
unfoldable pub items_of : List Instruction → Option (List (List ℕ))
items_of [] = Some []
items_of (first ∷ rest) = do
  item ← item_of first
  items ← items_of rest
  Some (item ∷ items)

-- the stack that a script leaves, the last item on top, of at most 1,000 items (MAX_STACK_SIZE) of at most 520 bytes (MAX_SCRIPT_ELEMENT_SIZE)
abbrev pub push_stack_of : List ℕ → Option (List (List ℕ))
push_stack_of script = do
  items ← items_of (instructions script)
  if nat_le (length items) 1000 then Some items else None
