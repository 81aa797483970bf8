-- A41 and A42 by themselves.
use Rattle.std.specs.Prelude.{ℕ, ◌-◌, nat_lt, List, [], ◌∷◌}
use Rattle.gate_bytes.specs.Order.{Rule}
use Rattle.gate_standard.specs.Amounts.{required_fee}
use Rattle.gate_rules.specs.declared.Denial.{Denial}
use Rattle.gate_standard.specs.declared.Feerate.{Feerate}
use Rattle.gate_rules.specs.declared.Denial.TheVariants.{LowerFee, LowerDifference}

-- the rules on the fee of a transaction of this size that replaces entries which pay `paid`, and pays for its own relay at `rate`
abbrev pub amount_rules : Feerate → ℕ → ℕ → ℕ → List (Rule Denial)
amount_rules rate paid fee vsize = (LowerFee, nat_lt fee paid) ∷ (LowerDifference, nat_lt (fee - paid) (required_fee rate vsize)) ∷ []
