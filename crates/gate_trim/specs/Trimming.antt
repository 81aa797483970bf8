-- Trimming: while a pool is over its budget, the entry of least score is taken out with all below it.
use Rattle.std.specs.Prelude.{ℕ, zero, suc, ◌+◌, max, List, length, nat_le, if◌then◌else◌, Option, Some, None}
use Rattle.gate_standard.specs.Amounts.{feerate}
use Rattle.gate_pool.specs.Pool.{Admitted, size_of}
use Rattle.gate_pool.specs.Family.{without_family}
use Rattle.gate_pool.specs.Scores.{least_of}
use Rattle.gate_pool.specs.declared.Score.{Score}
use Rattle.gate_graph.specs.declared.held.Sums.{Sums}

-- the largest step by which a floor rises, in satoshi per 1,000 virtual bytes
abbrev pub largest_step : ℕ
largest_step = 100_000_000

-- the floor after a family with these sums was trimmed: a step above its feerate
abbrev pub raised : ℕ → ℕ → Sums → ℕ
raised step floor family = max floor (feerate family.fees family.size + step)

-- what trimming leaves: the entries, and the floor
pub record Trimmed : Type 0 where
  pub entries : List Admitted
  pub floor : ℕ

-- what `go` makes of a least score, or `stop` if there is none
abbrev pub on_least : Option Score → Trimmed → (Score → Trimmed) → Trimmed
on_least None stop go = stop
on_least (Some score) stop go = go score

-- at most n times, while the entries are over the budget of virtual bytes, the one of least score is taken out with all below
-- it
unfoldable pub trim_steps : ℕ → ℕ → ℕ → List Admitted → ℕ → Trimmed
trim_steps step zero budget entries floor = record { entries = entries; floor = floor }
trim_steps step (suc n) budget entries floor =
    if nat_le (size_of entries) budget then record { entries = entries; floor = floor }
    else on_least (least_of entries) (record { entries = entries; floor = floor }) (λ score. trim_steps step n budget (without_family entries score.txid) (raised step floor score.family))

-- trimming to the end, with this step of the floor: as many steps as there are entries are enough
unfoldable pub trim_of : ℕ → ℕ → List Admitted → ℕ → Trimmed
trim_of step budget entries floor = trim_steps step (length entries) budget entries floor
