-- What an operator takes for standard.
use Rattle.std.specs.Prelude.{ℕ, nat_lt, Bool, true, false, Option, Some, None}
use Rattle.gate_standard.specs.Amounts.{down}
use Rattle.gate_standard.specs.declared.standards.Standards.{Standards}

-- what an operator who sets nothing takes for standard: Bitcoin Core 22.0's DUST_RELAY_TX_FEE, MAX_OP_RETURN_RELAY,
-- DEFAULT_PERMIT_BAREMULTISIG and MIN_STANDARD_TX_NONWITNESS_SIZE, one output that carries data, by itself, and versions 1 and 2
abbrev pub usual_standards : Standards
usual_standards = record { dust_rate = down 3000; data_size = 83; data_outputs = 1; bare_multisig = true; least_size = 82; data_total = None; truc = false; ephemeral_dust = false }

-- more than a limit, if there is one
abbrev pub is_past : Option ℕ → ℕ → Bool
is_past None number = false
is_past (Some most) number = nat_lt most number
