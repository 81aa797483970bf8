-- The opcodes that the rules name, as Bitcoin Core 22.0 names them (script/script.h).
use Rattle.std.specs.Prelude.{ℕ}

abbrev pub OP_0 : ℕ
OP_0 = 0x00

abbrev pub OP_PUSHDATA1 : ℕ
OP_PUSHDATA1 = 0x4c

abbrev pub OP_PUSHDATA2 : ℕ
OP_PUSHDATA2 = 0x4d

abbrev pub OP_PUSHDATA4 : ℕ
OP_PUSHDATA4 = 0x4e

abbrev pub OP_1NEGATE : ℕ
OP_1NEGATE = 0x4f

-- one below OP_1, so that OP_1 to OP_16 are this and their number
abbrev pub OP_RESERVED : ℕ
OP_RESERVED = 0x50

abbrev pub OP_1 : ℕ
OP_1 = 0x51

abbrev pub OP_16 : ℕ
OP_16 = 0x60

abbrev pub OP_RETURN : ℕ
OP_RETURN = 0x6a

abbrev pub OP_DUP : ℕ
OP_DUP = 0x76

abbrev pub OP_EQUAL : ℕ
OP_EQUAL = 0x87

abbrev pub OP_EQUALVERIFY : ℕ
OP_EQUALVERIFY = 0x88

abbrev pub OP_HASH160 : ℕ
OP_HASH160 = 0xa9

abbrev pub OP_CHECKSIG : ℕ
OP_CHECKSIG = 0xac

abbrev pub OP_CHECKSIGVERIFY : ℕ
OP_CHECKSIGVERIFY = 0xad

abbrev pub OP_CHECKMULTISIG : ℕ
OP_CHECKMULTISIG = 0xae

abbrev pub OP_CHECKMULTISIGVERIFY : ℕ
OP_CHECKMULTISIGVERIFY = 0xaf
