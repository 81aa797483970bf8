-- Rules that are taken input by input: where one input fails, and where it passes.
use Rattle.std.proofs.Common.{◌≡◌, ◌<◌, ℕ, suc, ◌+◌, List, ◌∷◌, length, get_or, drop, Some, None, sym, ap, ◌∙◌, drop-cons, add-one}
use Rattle.gate_tx.specs.declared.Coin.{Coin}
use Rattle.gate_tx.specs.declared.TxIn.{TxIn}
use Rattle.gate_rules.specs.declared.Denial.{Denial}
use Rattle.gate_tx.specs.Money.{amount_or_zero}
use Rattle.gate_bytes.specs.Order.{first_failing}
use Rattle.gate_bytes.proofs.OrderLemmas.{found_in_first, found_in_second}
use Rattle.gate_admit.specs.Verdicts.{VerdictTable, verdict_of}
use Rattle.gate_admit.specs.Rules.{rules_of_coin, coin_value_rules}
use Rattle.gate_admit.specs.Reports.{rules_of_verdict, verdict_rules}

pub coin_fails : (next_height sum : ℕ) (coins : List Coin) (i : ℕ) (coin : Coin) (denial : Denial) → i < length coins → coin ≡ get_or coins i coin
    → first_failing (rules_of_coin next_height sum coin) ≡ Some denial → first_failing (coin_value_rules next_height sum (drop i coins)) ≡ Some denial
unfolding coin_value_rules
coin_fails next_height sum coins i coin denial l is fails =
    ap (λ cs. first_failing (coin_value_rules next_height sum cs)) (drop-cons coins i coin l ∙ ap (λ c. c ∷ drop (suc i) coins) (sym is))
    ∙ found_in_first (rules_of_coin next_height sum coin) (coin_value_rules next_height (sum + amount_or_zero coin.value) (drop (suc i) coins)) denial fails

pub verdict_fails : (verdicts : VerdictTable) (wtxid : List ℕ) (index : ℕ) (inputs : List TxIn) (i : ℕ) (d : TxIn) (denial : Denial) → i < length inputs
    → first_failing (rules_of_verdict (verdict_of verdicts wtxid index)) ≡ Some denial → first_failing (verdict_rules verdicts wtxid index (drop i inputs)) ≡ Some denial
unfolding verdict_rules
verdict_fails verdicts wtxid index inputs i d denial l fails =
    ap (λ is. first_failing (verdict_rules verdicts wtxid index is)) (drop-cons inputs i d l)
    ∙ found_in_first (rules_of_verdict (verdict_of verdicts wtxid index)) (verdict_rules verdicts wtxid (index + 1) (drop (suc i) inputs)) denial fails

pub verdict_passes : (verdicts : VerdictTable) (wtxid : List ℕ) (index : ℕ) (inputs : List TxIn) (i : ℕ) (d : TxIn) → i < length inputs
    → first_failing (rules_of_verdict (verdict_of verdicts wtxid index)) ≡ None
    → first_failing (verdict_rules verdicts wtxid index (drop i inputs)) ≡ first_failing (verdict_rules verdicts wtxid (index + 1) (drop (i + 1) inputs))
unfolding verdict_rules
verdict_passes verdicts wtxid index inputs i d l passes =
    ap (λ is. first_failing (verdict_rules verdicts wtxid index is)) (drop-cons inputs i d l)
    ∙ found_in_second (rules_of_verdict (verdict_of verdicts wtxid index)) (verdict_rules verdicts wtxid (index + 1) (drop (suc i) inputs)) passes
    ∙ ap (λ n. first_failing (verdict_rules verdicts wtxid (index + 1) (drop n inputs))) (sym (add-one i))
