-- What the rules on amounts and outpoints mean, stated without them.
use Rattle.std.specs.Prelude.{◌≡◌, ◌≢◌, ◌↔◌, ℕ, ◌+◌, ◌*◌, ◌<◌, ◌≤◌, false, List, sum_by, None, AllPairs}
use Rattle.std.specs.List.{AllByRecursion}
use Rattle.std.specs.Int.{is_negative}
use Rattle.gate_bytes.specs.Order.{first_failing}
use Rattle.gate_tx.specs.declared.transaction.TxIn.{TxIn}
use Rattle.gate_tx.specs.declared.transaction.TxOut.{TxOut}
use Rattle.gate_tx.specs.Money.{max_money, amount_or_zero}
use Rattle.gate_standard.specs.Amounts.{feerate}
use Rattle.gate_standard.specs.Rules.{output_value_rules, spends_twice}

-- A5 to A7 are met exactly if no value is negative and their sum is at most 21 million bitcoin
abbrev pub ValuesAreInRange : Type 0
ValuesAreInRange = (outputs : List TxOut) → (first_failing (output_value_rules 0 outputs) ≡ None) ↔ (AllByRecursion (λ (o : TxOut). is_negative o.value ≡ false) outputs × (sum_by (λ (o : TxOut). amount_or_zero o.value) outputs ≤ max_money))

-- A8 is met exactly if the outpoints are distinct
abbrev pub OutpointsAreSpentOnce : Type 0
OutpointsAreSpentOnce = (inputs : List TxIn) → (spends_twice inputs ≡ false) ↔ AllPairs (λ (a b : TxIn). a.prevout ≢ b.prevout) inputs

-- the feerate is the greatest whole one at which the size costs no more than the fee
abbrev pub RatesAreRoundedDown : Type 0
RatesAreRoundedDown = (fee size : ℕ) → 0 < size → (feerate fee size * size ≤ fee * 1000) × (fee * 1000 < (feerate fee size + 1) * size)
