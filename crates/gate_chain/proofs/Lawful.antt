-- The laws of learning and forgetting.
use Rattle.std.proofs.Common.{◌≡◌, ℕ, ◌+◌, ◌-◌, nat_lt, ◌==◌, ◌||◌, List, [], ◌∷◌, ◌++◌, length, slice_get, Option, Some, None, if◌then◌else◌, refl, sym, ap, ◌∙◌, append_assoc}
use Rattle.std.specs.Option.{option_or}
use Rattle.gate_chain.specs.declared.fault.OpenFault.{OpenFault}
use Rattle.gate_chain.specs.declared.fault.OpenFault.TheVariants.{NoTimes, TimesLimit, CoinValue, CoinUnspendable, CoinAboveTip, CoinTwice}
use Rattle.gate_chain.specs.declared.opening.OpeningCoin.{OpeningCoin}
use Rattle.gate_chain.specs.History.{opened_from}
use Rattle.gate_chain.specs.Laws.{LearningIsOpening, KeepsCoins, KeepsTimes}
use Rattle.gate_chain.specs.Opening.{coin_fault, coins_fault, open_fault_from}
use Rattle.gate_chain.specs.Times.{mtp_at, mtp_of}
use Rattle.gate_chain.proofs.Forgot.{counted_same, times_stay}
use Rattle.gate_chain.proofs.Learnt.{Fits, fits}
use Rattle.gate_chain.proofs.Opened.{passed}

-- the fault of coins, with one more behind them
coins_fault-push : (tip : ℕ) (earlier coins : List OpeningCoin) (c : OpeningCoin) → coins_fault tip earlier (coins ++ c ∷ []) ≡ option_or (coins_fault tip earlier coins) (coin_fault tip (earlier ++ coins) c)
coins_fault-push tip earlier [] c = right (coin_fault tip earlier c) ∙ ap (λ l. coin_fault tip l c) (sym (nothing earlier))
  where
    right : (x : Option OpenFault) → option_or x None ≡ x
    right None = refl
    right (Some x) = refl

    nothing : (l : List OpeningCoin) → l ++ [] ≡ l
    nothing [] = refl
    nothing (x ∷ l) = ap (λ r. x ∷ r) (nothing l)
coins_fault-push tip earlier (d ∷ coins) c =
    ap (option_or (coin_fault tip earlier d)) (coins_fault-push tip (earlier ++ d ∷ []) coins c ∙ ap (λ l. option_or (coins_fault tip (earlier ++ d ∷ []) coins) (coin_fault tip l c)) (append_assoc earlier (d ∷ []) coins))
    ∙ assoc (coin_fault tip earlier d) _ _
  where
    assoc : (a b e : Option OpenFault) → option_or a (option_or b e) ≡ option_or (option_or a b) e
    assoc None b e = refl
    assoc (Some x) b e = refl

pub learning_opens : LearningIsOpening
unfolding open_fault_from
learning_opens first coins times c is none =
    let f : Fits (opened_from first coins times) c = fits (opened_from first coins times) c none in
    let one = passed (length times == 0) NoTimes _ is in
    let two = passed (nat_lt 1000000 (length times) || nat_lt 10000000 (length times + first - 1)) TimesLimit _ one.1 in
    let tip : ℕ = length times + first - 1 in
    let fault : coin_fault tip coins c ≡ None = (λ j. if f.value j then Some (CoinValue (length coins)) else if f.script j then Some (CoinUnspendable (length coins)) else if f.height j then Some (CoinAboveTip (length coins)) else if f.once j then Some (CoinTwice (length coins)) else None) in (
      (λ j. if one.0 j then Some NoTimes else if two.0 j then Some TimesLimit else (coins_fault-push tip [] coins c ∙ (λ k. option_or (two.1 k) (fault k))) j),
      refl,
    )

pub coins_kept : KeepsCoins
coins_kept h n wanted fine p counted = counted_same h n wanted fine p counted

pub times_kept : KeepsTimes
unfolding mtp_of
times_kept h n wanted = (
  (λ height. ap (λ ts. if nat_lt height h.first then None else slice_get ts (height - h.first)) (times_stay h n wanted)),
  (λ height. ap (λ ts. if nat_lt height h.first then None else mtp_at ts (height - h.first)) (times_stay h n wanted)),
  ap (λ (ts : List ℕ). length ts + h.first - 1) (times_stay h n wanted),
)
