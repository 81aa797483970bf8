-- Taking coins one after another.
use Rattle.std.proofs.Common.{◌≡◌, ℕ, suc, ◌+◌, ◌≤◌, ◌<◌, List, length, refl, sym, ◌∙◌, arith}
use Rattle.std.proofs.Common.{drop, get_or}
use Rattle.std.proofs.Math.Seq.{drop-cons}
use Rattle.std.proofs.lemmas.List.{drop_all}
use Rattle.gate_tx.specs.declared.transaction.TxIn.{TxIn}
use Rattle.gate_psbt.specs.declared.input.PsbtInput.{PsbtInput}
use Rattle.gate_try.specs.declared.trial.SpentCoin.{SpentCoin}
use Rattle.gate_try.specs.declared.trial.TrialCoin.{TrialCoin}
use Rattle.gate_try.specs.Spent.{spent_from, with_coin}

module _ (said : List TrialCoin) (place : ℕ) (before : List SpentCoin) (inputs : List TxIn) (had : List PsbtInput) (total : List SpentCoin) where
  pub coin_next : (input : TxIn) (it : PsbtInput) → place < length inputs → input ≡ get_or inputs place input → place < length had → it ≡ get_or had place it
      → spent_from said before (drop place inputs) (drop place had) ≡ total
      → spent_from said (with_coin said before input.prevout it.coin) (drop (place + 1) inputs) (drop (place + 1) had) ≡ total
  unfolding spent_from
  coin_next input it lt e within f so_far =
      let next : place + 1 ≡ suc place = omega arith in
      let one : spent_from said before (drop place inputs) (drop place had) ≡ spent_from said (with_coin said before input.prevout it.coin) (drop (suc place) inputs) (drop (suc place) had) =
      rw (drop-cons inputs place input lt, drop-cons had place it within, ← e, ← f) refl in
      rw next (sym one ∙ so_far)

  pub coins_lack : (input : TxIn) → place < length inputs → input ≡ get_or inputs place input → length had ≤ place
      → spent_from said before (drop place inputs) (drop place had) ≡ total → before ≡ total
  unfolding spent_from
  coins_lack input lt e none so_far =
      let one : spent_from said before (drop place inputs) (drop place had) ≡ before = rw (drop-cons inputs place input lt, drop_all place had none) refl in
      sym one ∙ so_far

  pub coins_end : length inputs ≤ place → spent_from said before (drop place inputs) (drop place had) ≡ total → before ≡ total
  unfolding spent_from
  coins_end le so_far =
      let one : spent_from said before (drop place inputs) (drop place had) ≡ before = rw (drop_all place inputs le) refl in
      sym one ∙ so_far
