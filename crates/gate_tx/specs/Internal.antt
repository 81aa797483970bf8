-- Steps between the code and the definitions, which clauses of private functions alone name: sizes as machine
-- numbers hold them, and what the types of its fields say of a transaction's numbers.
use Rattle.std.specs.Prelude.{◌≡◌, ℕ, ◌+◌, ◌-◌, ◌<◌, ◌^◌, min, List, length, if◌then◌else◌, FitsSigned}
use Rattle.std.specs.Int.{w32, w64}
use Rattle.std.specs.List.{flat_map, list_any, AllByRecursion}
use Rattle.gate_tx.specs.declared.transaction.TxIn.{TxIn}
use Rattle.gate_tx.specs.declared.transaction.TxOut.{TxOut}
use Rattle.gate_tx.specs.Tx.{Tx}
use Rattle.gate_tx.specs.Text.{vector, input, output, witness, is_nonempty}

-- a size as a machine number: one too great for it is the greatest
abbrev pub capped : ℕ → ℕ
capped n = min n (2 ^ 64 - 1)

-- the bytes of the lists without witnesses, with those of the version and the locktime
abbrev pub stripped_lists : List TxIn → List TxOut → ℕ
stripped_lists inputs outputs = 8 + (length (vector input inputs) + length (vector output outputs))

-- the bytes that the witnesses add: marker and flag, and a list for each input, or nothing
abbrev pub witness_lists : List TxIn → ℕ
witness_lists inputs = if list_any (λ i. is_nonempty i.witness) inputs then 2 + length (flat_map witness inputs) else 0

pub record IsRangedInput (i : TxIn) : Type 0 where
  pub txid : length i.prevout.txid ≡ 32
  pub index : i.prevout.index < 2 ^ 32
  pub sequence : i.sequence < 2 ^ 32

abbrev pub IsRangedOutput : TxOut → Type 0
IsRangedOutput o = FitsSigned w64 o.value

pub record IsRanged (t : Tx) : Type 0 where
  pub version : FitsSigned w32 t.version
  pub inputs : AllByRecursion IsRangedInput t.inputs
  pub outputs : AllByRecursion IsRangedOutput t.outputs
  pub locktime : t.locktime < 2 ^ 32
