-- What transactions of a package pay, and what is asked of them, alone and together.
use Rattle.std.specs.Prelude.{ℕ, ◌^◌, ◌-◌, nat_lt, if◌then◌else◌, List, length, Option, Some, None}
use Rattle.gate_tx.specs.Tx.{Tx}
use Rattle.gate_rules.specs.declared.Denial.{Denial}
use Rattle.gate_rules.specs.declared.Denial.TheVariants.{MempoolMinFee, MinRelayFee}
use Rattle.gate_standard.specs.Amounts.{required_fee}
use Rattle.gate_standard.specs.declared.Feerate.{Feerate}
use Rattle.gate_diagram.specs.declared.price.Price.{Price}
use Rattle.gate_diagram.specs.Prices.{price_sum_fee, price_sum_size}
use Rattle.gate_pool.specs.Family.{ancestors_above}
use Rattle.gate_admit.specs.Policies.{feerate_by, relay_feerate}
use Rattle.gate_admit.specs.Reports.{reported, sigop_cost}
use Rattle.gate_admit.specs.Standing.{Standing}
use Rattle.gate_package.specs.Coins.{coins_beside}
use Rattle.gate_package.specs.Judging.{fee_beside}
use Rattle.gate_figures.specs.declared.figures.Figures.{Figures}
use Rattle.gate_figures.specs.declared.figures.Figures.TheVariants.{Pays, PayTogether}
use Rattle.gate_figures.specs.declared.members.AskedRates.{AskedRates}
use Rattle.gate_figures.specs.Figures.{crowded_past, sized}

-- a fee for a size, if 64 bits hold it
abbrev pub price_at : ℕ → Option ℕ → Option Price
price_at fee None = None
price_at fee (Some vsize) = if nat_lt (2 ^ 64 - 1) fee then None else Some (record { fee = fee; vsize = vsize })

-- the cost of a transaction's signature operations behind these others
abbrev pub cost_beside : Standing → List Tx → Tx → ℕ
cost_beside over others tx = sigop_cost (reported tx.inputs (coins_beside over.chain others over.entries tx.inputs)) tx.outputs

-- what a transaction pays behind these others, and for what size
abbrev pub price_behind : Standing → List Tx → Tx → Option Price
price_behind over others tx = price_at (fee_beside others over tx) (sized over.policy.sigop_size (cost_beside over others tx) tx)

-- the figures of A36 for a transaction of this size, by its first try alone
abbrev pub first_try : Standing → Tx → ℕ → Option Figures
first_try over tx vsize = crowded_past over.policy over.policy.ancestors (ancestors_above over.entries tx.inputs) vsize

-- ---- what is asked

abbrev pub asked_by : Standing → AskedRates
asked_by over = record { floor = feerate_by over.policy over.floor; relay = relay_feerate over.policy }

abbrev pub rate_by : AskedRates → Denial → Option Feerate
rate_by asked MempoolMinFee = Some asked.floor
rate_by asked MinRelayFee = Some asked.relay
rate_by asked other = None

abbrev pub paid_at : Option Feerate → Price → Option Figures
paid_at None price = None
paid_at (Some rate) price = Some (Pays price.fee (required_fee rate price.vsize))

-- the figures of A34 or A35 for what pays this
abbrev pub paid : AskedRates → Denial → Price → Option Figures
paid asked denial price = paid_at (rate_by asked denial) price

abbrev pub together_at : Option Feerate → List Price → Option Figures
together_at None prices = None
together_at (Some rate) prices =
    Some (PayTogether (length prices) (price_sum_fee prices) (price_sum_size prices) (required_fee rate (price_sum_size prices)))

-- the figures of A34 or A35 for those that pay this together
abbrev pub paid_together : AskedRates → Denial → List Price → Option Figures
paid_together asked denial prices = together_at (rate_by asked denial) prices
