-- The figures of the rules on what a transaction would replace, its sibling among it, from facts of the state's parts.
use Rattle.std.proofs.Common.{◌≡◌, ◌∙◌, ℕ, List, Option, Some, sym, ap}
use Rattle.gate_tx.specs.Tx.{Tx}
use Rattle.gate_rules.specs.declared.Denial.{Denial}
use Rattle.gate_rules.specs.declared.Denial.TheVariants.{LowerFee, LowerDifference, TooManyReplacements}
use Rattle.gate_standard.specs.declared.Feerate.{Feerate}
use Rattle.gate_chain.specs.History.{History}
use Rattle.gate_pool.specs.Pool.{Admitted}
use Rattle.gate_pool.specs.Family.{fees_of}
use Rattle.gate_pool.specs.Counting.{counted_of, replaced_beside}
use Rattle.gate_rbf.specs.Replacing.{descendant_count}
use Rattle.gate_admit.specs.declared.attempt.Attempt.TheVariants.{First}
use Rattle.gate_admit.specs.Policies.{Policy, incremental_feerate}
use Rattle.gate_admit.specs.Standing.{Standing}
use Rattle.gate_admit.specs.Truc.{sibling_of}
use Rattle.gate_figures.specs.declared.figures.Figures.{Figures}
use Rattle.gate_figures.specs.declared.figures.Figures.TheVariants.{Descendants, Pays}
use Rattle.gate_figures.specs.Figures.{fee_at, figures_of, pays_above, paying_figures, vsize_at}

module _ (over : Standing) (tx : Tx) (denial : Denial) (chain : History) (entries : List Admitted) (policy : Policy) (t : Tx) (chains : chain ≡ over.chain) (pools : entries ≡ over.entries) (policies : policy ≡ over.policy) (txs : t ≡ tx) where
  pub lower_fee : (fee gone : ℕ) → denial ≡ LowerFee → fee ≡ fee_at chain entries tx → gone ≡ fees_of (replaced_beside entries (sibling_of First policy entries t) t)
      → Some (Pays fee gone) ≡ paying_figures over tx denial
  unfolding paying_figures
  lower_fee fee gone is f n =
      let fees = f ∙ (λ i. fee_at (chains i) (pools i) tx) in
      let all = n ∙ (λ i. fees_of (replaced_beside (pools i) (sibling_of First (policies i) (pools i) (txs i)) (txs i))) in
      (λ i. Some (Pays (fees i) (all i))) ∙ sym (ap (paying_figures over tx) is)

  pub lower_difference : (found : Option Figures) (rate : Feerate) (gone fee : ℕ) (vsize : Option ℕ) → denial ≡ LowerDifference → found ≡ pays_above rate gone fee vsize
      → rate ≡ incremental_feerate policy → gone ≡ fees_of (replaced_beside entries (sibling_of First policy entries t) t) → fee ≡ fee_at chain entries tx
      → vsize ≡ vsize_at policy.sigop_size chain entries tx → found ≡ paying_figures over tx denial
  unfolding paying_figures
  lower_difference found rate gone fee vsize is p r n f v =
      let rates = r ∙ ap incremental_feerate policies in
      let all = n ∙ (λ i. fees_of (replaced_beside (pools i) (sibling_of First (policies i) (pools i) (txs i)) (txs i))) in
      let fees = f ∙ (λ i. fee_at (chains i) (pools i) tx) in
      let sizes = v ∙ (λ i. vsize_at (policies i).sigop_size (chains i) (pools i) tx) in
      p ∙ (λ i. pays_above (rates i) (all i) (fees i) (sizes i)) ∙ sym (ap (paying_figures over tx) is)

  pub too_many : (count : ℕ) → denial ≡ TooManyReplacements → count ≡ descendant_count entries (counted_of entries (sibling_of First policy entries t) t)
      → Some (Descendants count) ≡ figures_of over tx denial
  unfolding figures_of
  too_many count is n =
      let all = n ∙ (λ i. descendant_count (pools i) (counted_of (pools i) (sibling_of First (policies i) (pools i) (txs i)) (txs i))) in
      (λ i. Some (Descendants (all i))) ∙ sym (ap (figures_of over tx) is)
