-- The templates of output scripts, each over the whole script (Bitcoin Core 22.0, `Solver`): fixed bytes round a hash or
-- a key, a witness program, and by their instructions NullData and Multisig.
use Rattle.std.specs.Prelude.{ℕ, ◌+◌, ◌-◌, Bool, false, ◌&&◌, ◌||◌, ◌==◌, nat_eq, nat_lt, nat_le, if◌then◌else◌, List, [], ◌∷◌, length, drop, slice_index, slice_range, Option, Some, None}
use Rattle.std.specs.List.{starts_with, ends_with, prefix_len}
use Rattle.gate_script.specs.Opcodes.{OP_1, OP_16, OP_RESERVED, OP_RETURN, OP_DUP, OP_EQUAL, OP_EQUALVERIFY, OP_HASH160, OP_CHECKSIG, OP_CHECKMULTISIG}
use Rattle.gate_script.specs.Instructions.{Instruction, Push, Plain, instructions}
use Rattle.gate_script.specs.Pushes.{is_push_only}
use Rattle.gate_script.specs.Witness.{witness_program_of}
use Rattle.gate_script.specs.declared.templates.Template.{Template}
use Rattle.gate_script.specs.declared.templates.Template.TheVariants.{ScriptHash, WitnessV0Key, WitnessV0Script, Taproot, WitnessUnknown, NullData, Key, KeyHash, Multisig, Nonstandard}

-- the script is `front`, `count` bytes and `back`
abbrev pub frames : List ℕ → ℕ → List ℕ → List ℕ → Bool
frames front count back script =
    length script == length front + count + length back && starts_with nat_eq script front && ends_with nat_eq script back

abbrev pub witness_template : ℕ → ℕ → Template
witness_template version size =
    if version == 0 then (if size == 20 then WitnessV0Key else if size == 32 then WitnessV0Script else Nonstandard)
    else if version == 1 && size == 32 then Taproot
    else WitnessUnknown

-- OP_RETURN and a push-only rest
abbrev pub is_null_data : List ℕ → Bool
is_null_data [] = false
is_null_data (first ∷ rest) = first == OP_RETURN && is_push_only rest

-- 33 bytes that begin with 2 or 3, or 65 that begin with 4, 6 or 7
abbrev pub is_public_key : List ℕ → Bool
is_public_key bytes =
    let first = slice_index bytes 0 in
    (length bytes == 33 && (first == 2 || first == 3)) || (length bytes == 65 && (first == 4 || first == 6 || first == 7))

-- a key pushed by the opcode of its size, and OP_CHECKSIG
abbrev pub pays_key : List ℕ → Bool
pays_key script =
    (frames (33 ∷ []) 33 (OP_CHECKSIG ∷ []) script && is_public_key (slice_range script 1 34))
    || (frames (65 ∷ []) 65 (OP_CHECKSIG ∷ []) script && is_public_key (slice_range script 1 66))

-- the number that OP_1 to OP_16 stand for
abbrev pub small_number : Instruction → Option ℕ
small_number (Plain opcode) = if nat_le OP_1 opcode && nat_le opcode OP_16 then Some (opcode - OP_RESERVED) else None
small_number _ = None

abbrev pub pushes_key : Instruction → Bool
pushes_key (Push opcode bytes) = is_public_key bytes
pushes_key _ = false

-- OP_n for that many keys, OP_CHECKMULTISIG and the end. At most 16 keys is this gate's own choice: Bitcoin Core 22.0 also
-- takes 17 to 20 (MAX_PUBKEYS_PER_MULTISIG), their number a minimal push, and so lets such a coin be spent.
abbrev pub ends_multisig : ℕ → List Instruction → Bool
ends_multisig keys (Plain count ∷ Plain check ∷ []) = nat_lt 0 keys && nat_le keys 16 && count == OP_RESERVED + keys && check == OP_CHECKMULTISIG
ends_multisig keys _ = false

-- `required` signatures of `keys` keys, if the instructions after the keys close it and the keys are enough
abbrev pub multisig_with : ℕ → ℕ → List Instruction → Option (ℕ × ℕ)
multisig_with required keys left = if ends_multisig keys left && nat_le required keys then Some (required, keys) else None

-- the pushes of keys that come next, all of them, and their close
abbrev pub multisig_after : Option ℕ → List Instruction → Option (ℕ × ℕ)
multisig_after None rest = None
multisig_after (Some required) rest = multisig_with required (prefix_len pushes_key rest) (drop (prefix_len pushes_key rest) rest)

-- OP_m, at least m keys, and their close
abbrev pub multisig_of : List Instruction → Option (ℕ × ℕ)
multisig_of [] = None
multisig_of (first ∷ rest) = multisig_after (small_number first) rest

abbrev pub multisig_or_none : Option (ℕ × ℕ) → Template
multisig_or_none (Some m) = Multisig m.0 m.1
multisig_or_none None = Nonstandard

-- the templates without a witness program, in their order
abbrev pub plain_template : List ℕ → Template
plain_template script =
    if is_null_data script then NullData
    else if pays_key script then Key
    else if frames (OP_DUP ∷ OP_HASH160 ∷ 20 ∷ []) 20 (OP_EQUALVERIFY ∷ OP_CHECKSIG ∷ []) script then KeyHash
    else multisig_or_none (multisig_of (instructions script))

abbrev pub witness_or : Option (ℕ × List ℕ) → Template → Template
witness_or (Some p) other = witness_template p.0 (length p.1)
witness_or None other = other

abbrev pub template_of : List ℕ → Template
template_of script =
    if frames (OP_HASH160 ∷ 20 ∷ []) 20 (OP_EQUAL ∷ []) script then ScriptHash
    else witness_or (witness_program_of script) (plain_template script)
