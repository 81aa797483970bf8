-- What learning and forgetting mean to whoever asks a chain.
use Rattle.std.specs.Prelude.{◌≡◌, ℕ, Bool, true, List, [], ◌∷◌, ◌++◌, None}
use Rattle.gate_tx.specs.declared.OutPoint.{OutPoint}
use Rattle.gate_chain.specs.declared.opening.OpeningCoin.{OpeningCoin}
use Rattle.gate_chain.specs.Coins.{coin_of}
use Rattle.gate_chain.specs.Forgetting.{counts, forgotten}
use Rattle.gate_chain.specs.Founding.{AreConnected}
use Rattle.gate_chain.specs.History.{History, opened_from}
use Rattle.gate_chain.specs.Learning.{learn_denial, learnt}
use Rattle.gate_chain.specs.Opening.{open_fault_from}
use Rattle.gate_chain.specs.Times.{tip_of, time_of, mtp_of}

-- a coin that is learnt by a chain without blocks gives the chain that is opened with this coin behind the others
abbrev pub LearningIsOpening : Type 0
LearningIsOpening = (first : ℕ) (coins : List OpeningCoin) (times : List ℕ) (c : OpeningCoin)
    → open_fault_from first coins times ≡ None → learn_denial (opened_from first coins times) c ≡ None
    → (open_fault_from first (coins ++ c ∷ []) times ≡ None) × (learnt (opened_from first coins times) c ≡ opened_from first (coins ++ c ∷ []) times)

-- the coin at an outpoint that counts is the one that it was
abbrev pub KeepsCoins : Type 0
KeepsCoins = (h : History) (n : ℕ) (wanted : OutPoint → Bool) → AreConnected h → (p : OutPoint) → counts h n wanted p ≡ true → coin_of (forgotten h n wanted) p ≡ coin_of h p

-- times, medians and the tip are what they were
abbrev pub KeepsTimes : Type 0
KeepsTimes = (h : History) (n : ℕ) (wanted : OutPoint → Bool)
    → ((height : ℕ) → time_of (forgotten h n wanted) height ≡ time_of h height)
    × ((height : ℕ) → mtp_of (forgotten h n wanted) height ≡ mtp_of h height) × (tip_of (forgotten h n wanted) ≡ tip_of h)
