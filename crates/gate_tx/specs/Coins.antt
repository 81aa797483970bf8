-- Outpoints, and scripts that nothing can spend.
use Rattle.std.specs.Prelude.{ℕ, ◌==◌, ◌&&◌, ◌||◌, nat_lt, Bool, false, List, [], ◌∷◌, length}
use Rattle.std.specs.List.{list_all, list_any}
use Rattle.std.specs.Str.{bytes_eq}
use Rattle.gate_tx.specs.declared.transaction.OutPoint.{OutPoint}
use Rattle.gate_tx.specs.declared.transaction.TxIn.{TxIn}

-- whether two outpoints are equal
abbrev pub point_eq : OutPoint → OutPoint → Bool
point_eq a b = bytes_eq a.txid b.txid && (a.index == b.index)

-- one of the inputs spends the outpoint
abbrev pub spends : List TxIn → OutPoint → Bool
spends inputs point = list_any (λ (i : TxIn). point_eq i.prevout point) inputs

-- the prevout of a coinbase: a hash of zeros and the greatest index
abbrev pub is_null : OutPoint → Bool
is_null p = list_all (λ b. b == 0) p.txid && (p.index == 0xffff_ffff)

-- the script begins with OP_RETURN
abbrev pub begins_with_return : List ℕ → Bool
begins_with_return [] = false
begins_with_return (op ∷ ops) = op == 0x6a

-- a script that fails whatever runs before it: it begins with OP_RETURN, or has more than 10,000 bytes
abbrev pub is_unspendable : List ℕ → Bool
is_unspendable script = begins_with_return script || nat_lt 10000 (length script)
