-- The price of a transaction behind others, from facts of the state's parts.
use Rattle.std.proofs.Common.{◌≡◌, ◌∙◌, ◌-◌, ℕ, List, Option, ap}
use Rattle.gate_tx.specs.declared.Coin.{Coin}
use Rattle.gate_tx.specs.declared.TxIn.{TxIn}
use Rattle.gate_tx.specs.Tx.{Tx}
use Rattle.gate_chain.specs.History.{History}
use Rattle.gate_diagram.specs.declared.price.Price.{Price}
use Rattle.gate_pool.specs.Pool.{Admitted}
use Rattle.gate_admit.specs.Policies.{Policy}
use Rattle.gate_admit.specs.Reports.{reported, sigop_cost}
use Rattle.gate_admit.specs.Rules.{coins_value, outputs_value}
use Rattle.gate_admit.specs.Standing.{Standing}
use Rattle.gate_package.specs.Coins.{coins_beside}
use Rattle.gate_figures.specs.Figures.{sized}
use Rattle.gate_figures.specs.Members.{price_at, price_behind}

module _ (over : Standing) (others : List Tx) (tx : Tx) (chain : History) (entries : List Admitted) (policy : Policy) (t : Tx) (inputs : List TxIn) (coins : List Coin) (chains : chain ≡ over.chain) (pools : entries ≡ over.entries) (policies : policy ≡ over.policy) (txs : t ≡ tx) (ins : inputs ≡ t.inputs) (found : coins ≡ coins_beside chain others entries inputs) where
  pub priced : (price : Option Price) (fee : ℕ) (vsize : Option ℕ) → price ≡ price_at fee vsize → fee ≡ coins_value coins - outputs_value t
      → vsize ≡ sized policy.sigop_size (sigop_cost (reported t.inputs coins) t.outputs) t → price ≡ price_behind over others tx
  priced price fee vsize p f v =
      let spent : inputs ≡ tx.inputs = ins ∙ ap (λ (it : Tx). it.inputs) txs in
      let all : coins ≡ coins_beside over.chain others over.entries tx.inputs = found ∙ (λ i. coins_beside (chains i) others (pools i) (spent i)) in
      let fees = f ∙ (λ i. coins_value (all i) - outputs_value (txs i)) in
      let sizes = v ∙ (λ i. sized (policies i).sigop_size (sigop_cost (reported (txs i).inputs (all i)) (txs i).outputs) (txs i)) in
      p ∙ (λ i. price_at (fees i) (sizes i))
