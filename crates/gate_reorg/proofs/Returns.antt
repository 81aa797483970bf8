-- Transactions that are tried again one after another.
use Rattle.std.proofs.Common.{◌≡◌, Bool, true, false, not, cond, List, [], ◌∷◌, ◌++◌, Option, Some, Result, refl, ap, ◌∙◌}
use Rattle.gate_tx.specs.Ids.{txid_of}
use Rattle.gate_tx.specs.Tx.{Tx}
use Rattle.gate_pool.specs.Pool.{Admitted}
use Rattle.gate_rules.specs.declared.Denial.{Denial}
use Rattle.gate_admit.specs.declared.Attempt.TheVariants.{Again}
use Rattle.gate_admit.specs.declared.Grant.{Grant}
use Rattle.gate_admit.specs.Rules.{decision_of}
use Rattle.gate_reorg.specs.Reorganisation.{Terms, standing_again, has_id, unconfirmed, tried, tried_again, all_tried_again}

module _ (landed : List Tx) where
  pub unconfirmed_skip : (tx : Tx) (rest : List Tx) → has_id landed (txid_of tx) ≡ true → unconfirmed landed (tx ∷ rest) ≡ unconfirmed landed rest
  unconfirmed_skip tx rest h = ap (λ b. cond (not b) (tx ∷ unconfirmed landed rest) (unconfirmed landed rest)) h

  pub unconfirmed_keep : (tx : Tx) (rest : List Tx) → has_id landed (txid_of tx) ≡ false → unconfirmed landed (tx ∷ rest) ≡ tx ∷ unconfirmed landed rest
  unconfirmed_keep tx rest h = ap (λ b. cond (not b) (tx ∷ unconfirmed landed rest) (unconfirmed landed rest)) h

  unconfirmed_append : (txs rest : List Tx) → unconfirmed landed (txs ++ rest) ≡ unconfirmed landed txs ++ unconfirmed landed rest
  unconfirmed_append [] rest = refl
  unconfirmed_append (tx ∷ txs) rest = go (not (has_id landed (txid_of tx))) (unconfirmed_append txs rest)
    where
      go : (b : Bool) → unconfirmed landed (txs ++ rest) ≡ unconfirmed landed txs ++ unconfirmed landed rest
          → cond b (tx ∷ unconfirmed landed (txs ++ rest)) (unconfirmed landed (txs ++ rest)) ≡ cond b (tx ∷ unconfirmed landed txs) (unconfirmed landed txs) ++ unconfirmed landed rest
      go true ih = ap (λ l. tx ∷ l) ih
      go false ih = ih

module _ (under : Terms) where
  all_tried_append : (txs rest : List Tx) (entries : List Admitted) → all_tried_again under entries (txs ++ rest) ≡ all_tried_again under (all_tried_again under entries txs) rest
  all_tried_append [] rest entries = refl
  all_tried_append (tx ∷ txs) rest entries = all_tried_append txs rest (tried_again under entries tx)

  -- a block's transactions, and then those of others
  pub returned_more : (landed txs rest : List Tx) (entries : List Admitted)
      → all_tried_again under entries (unconfirmed landed (txs ++ rest)) ≡ all_tried_again under (all_tried_again under entries (unconfirmed landed txs)) (unconfirmed landed rest)
  returned_more landed txs rest entries = ap (all_tried_again under entries) (unconfirmed_append landed txs rest) ∙ all_tried_append (unconfirmed landed txs) (unconfirmed landed rest) entries

-- ---- one of them

module _ (under : Terms) (entries : List Admitted) (tx : Tx) where
  -- what a decision comes to, where it is the one on the transaction
  pub tried_from : (prepared : Option Tx) (decision : Result Grant Denial) → decision ≡ decision_of Again (standing_again under entries) prepared → prepared ≡ Some tx
      → tried entries tx under.second decision ≡ tried_again under entries tx
  unfolding tried_again
  tried_from prepared decision h is = ap (tried entries tx under.second) (h ∙ ap (decision_of Again (standing_again under entries)) is)
