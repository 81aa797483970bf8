-- Laws of the figures, and of least fees.
use Rattle.std.specs.Prelude.{◌≡◌, ◌<◌, ◌≤◌, ◌-◌, ℕ, List, Option, Some, None, true, false, IfSome, Ok, Err}
use Rattle.gate_bytes.specs.Order.{first_failing}
use Rattle.gate_tx.specs.Tx.{Tx}
use Rattle.gate_standard.specs.Outputs.{is_below}
use Rattle.gate_rules.specs.declared.Denial.{Denial}
use Rattle.gate_locks.specs.Finality.{threshold_of}
use Rattle.gate_admit.specs.declared.attempt.Attempt.TheVariants.{First}
use Rattle.gate_admit.specs.declared.grant.Grant.{Grant}
use Rattle.gate_admit.specs.Coins.{view_coin}
use Rattle.gate_admit.specs.Rules.{decision_of}
use Rattle.gate_admit.specs.Standing.{Standing}
use Rattle.gate_admit.specs.Verdicts.{verdict_of}
use Rattle.gate_diagram.specs.declared.price.Price.{Price}
use Rattle.gate_diagram.specs.Prices.{price_sum_fee, price_sum_size}
use Rattle.gate_package.specs.declared.role.Role.{Role}
use Rattle.gate_package.specs.Judging.{fee_beside, member_decision, payment_rules, vsize_beside}
use Rattle.gate_package.specs.Together.{unpaid}
use Rattle.gate_figures.specs.declared.figures.Figures.{Figures}
use Rattle.gate_figures.specs.declared.figures.Figures.TheVariants.{Large, Small, Weighs, Script, BareMultisig, DataScript, DataOutputs, DataLeft, Dust, DustPays, Unswept, Final, Spent, NoCoin, Young, HeightLocked, TimeLocked, UntimedLocked, NonstandardSpend, LegacySigops, NonstandardWitness, Balance, Costs, Pays, PayTogether, Ancestors, AncestorsSized, Outpaid, Descendants, Above, Input}
use Rattle.gate_figures.specs.Figures.{figures_of, is_good}
use Rattle.gate_figures.specs.Least.{IsLeastFor}
use Rattle.gate_figures.specs.Members.{asked_by, first_try, paid, paid_together, price_behind}

-- figures are past what is allowed, and the policy allows no less than that, or below what is needed; an outpoint has no coin, or
-- an input no good verdict; and an entry that doesn't signal is named only if the policy asks for signals
abbrev pub Decide : Standing → Figures → Type 0
Decide over (Large size) = 1000000 < size
Decide over (Small size needs) = (needs ≤ over.policy.standards.least_size) × (size < needs)
Decide over (Weighs weight) = 400000 < weight
Decide over (Script output) = Unit {0}
Decide over (BareMultisig output) = over.policy.standards.bare_multisig ≡ false
Decide over (DataScript output size most) = (over.policy.standards.data_size ≤ most) × (most < size)
Decide over (DataOutputs count most) = (over.policy.standards.data_outputs ≤ most) × (most < count)
Decide over (DataLeft output size left) = left < size
Decide over (Dust output value needs) = is_below value needs ≡ true
Decide over (DustPays output fee) = 0 < fee
Decide over (Unswept outpoint) = Unit {0}
Decide over (Final locktime height median) = threshold_of locktime height median ≤ locktime
Decide over (Spent input by) = over.policy.full_rbf ≡ false
Decide over (NoCoin input outpoint) = view_coin over.chain over.entries outpoint ≡ None
Decide over (Young input height next) = next - height < 100
Decide over (HeightLocked input blocks) = 0 < blocks
Decide over (TimeLocked input seconds) = 0 < seconds
Decide over (UntimedLocked input) = Unit {0}
Decide over (NonstandardSpend input) = Unit {0}
Decide over (LegacySigops count most) = (over.policy.legacy_sigops ≡ Some most) × (most < count)
Decide over (NonstandardWitness input) = Unit {0}
Decide over (Balance coins outputs) = coins < outputs
Decide over (Costs cost) = 16000 < cost
Decide over (Pays fee needs) = fee < needs
Decide over (PayTogether count fee vsize needs) = fee < needs
Decide over (Ancestors count most) = (over.policy.ancestors ≤ most) × (most < count)
Decide over (AncestorsSized size most) = (over.policy.ancestors_size ≤ most) × (most < size)
Decide over (Outpaid rate most by) = rate ≤ most
Decide over (Descendants count) = 100 < count
Decide over (Above fee gone needs) = fee - gone < needs
Decide over (Input input wtxid) = is_good (verdict_of over.verdicts wtxid input) ≡ false

-- if a transaction is denied, the figures of the rule that denies it decide
abbrev pub FiguresDecide : Type 0
FiguresDecide = (over : Standing) (tx : Tx) (denial : Denial) → decision_of First over (Some tx) ≡ Err denial → IfSome (figures_of over tx denial) (Decide over)

-- if a member of a package is denied by itself, the figures of the rule that denies it decide, and those of its first try of A36
abbrev pub MemberFiguresDecide : Type 0
MemberFiguresDecide = (max_rate : ℕ) (over : Standing) (tx : Tx) (denial : Denial) → member_decision max_rate over tx ≡ Err denial → IfSome (figures_of over tx denial) (Decide over)

abbrev pub FirstTriesDecide : Type 0
FirstTriesDecide = (over : Standing) (tx : Tx) (vsize : ℕ) → IfSome (first_try over tx vsize) (Decide over)

-- the price of a transaction behind others is what A34 and A35 ask, and if one of them fails, the figures of the price decide
abbrev pub PricesDecide : Type 0
PricesDecide =
    (role : Role) (over : Standing) (others : List Tx) (tx : Tx) (price : Price) (denial : Denial) → price_behind over others tx ≡ Some price
    → first_failing (payment_rules role over.policy tx over.floor (fee_beside others over tx) (vsize_beside others over tx)) ≡ Some denial
    → IfSome (paid (asked_by over) denial price) (Decide over)

-- if A34 or A35 fails for what several pay together, their figures decide
abbrev pub SumsDecide : Type 0
SumsDecide =
    (over : Standing) (prices : List Price) (denial : Denial) → unpaid over.policy over.floor (price_sum_fee prices) (price_sum_size prices) ≡ Some denial
    → IfSome (paid_together (asked_by over) denial prices) (Decide over)

-- a fee is at least the least
abbrev pub Reaches : Option ℕ → ℕ → Type 0
Reaches None fee = ⊥
Reaches (Some least) fee = least ≤ fee

-- what is granted at its first attempt has a least fee, and pays at least that
abbrev pub GrantsReachTheLeastFee : Type 0
GrantsReachTheLeastFee = (over : Standing) (tx : Tx) (grant : Grant) (found : Option ℕ) → decision_of First over (Some tx) ≡ Ok grant → IsLeastFor over (Some tx) found → Reaches found grant.fee
