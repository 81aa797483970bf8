-- Transactions of new blocks, one block after another.
use Rattle.std.proofs.Common.{◌≡◌, ℕ, Bool, ◌||◌, List, [], ◌∷◌, ◌++◌, refl, sym, ap, ◌∙◌}
use Rattle.std.proofs.Math.Bool.{or_assoc}
use Rattle.std.proofs.lemmas.List.Folds.{list_any-append}
use Rattle.std.specs.Str.{bytes_eq}
use Rattle.gate_tx.specs.Ids.{txid_of}
use Rattle.gate_tx.specs.Tx.{Tx}
use Rattle.gate_pool.specs.Pool.{Admitted}
use Rattle.gate_reorg.specs.Reorganisation.{all_confirmed, confirmed, has_id}

pub all_confirmed_append : (txs rest : List Tx) (entries : List Admitted) → all_confirmed entries (txs ++ rest) ≡ all_confirmed (all_confirmed entries txs) rest
all_confirmed_append [] rest entries = refl
all_confirmed_append (tx ∷ txs) rest entries = all_confirmed_append txs rest (confirmed entries tx)

-- ids that were noted, those of a block, and the rest
pub noted_block : (noted : Bool) (txs rest : List Tx) (id : List ℕ) → ((noted || has_id txs id) || has_id rest id) ≡ (noted || has_id (txs ++ rest) id)
noted_block noted txs rest id =
    or_assoc noted (has_id txs id) (has_id rest id) ∙ ap (λ b. noted || b) (sym (list_any-append (λ (tx : Tx). bytes_eq (txid_of tx) id) txs rest))
