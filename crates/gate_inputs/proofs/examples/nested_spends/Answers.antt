use Rattle.std.proofs.Common.{refl}
use Rattle.gate_script.specs.Instructions.{instructions_after}
use Rattle.gate_script.specs.Pushes.{items_of}
use Rattle.gate_script.specs.Sigops.{sigops_after}
use Rattle.gate_inputs.specs.Reports.{is_standard_spend, is_witness_standard, sigop_cost_of, redeem_of, from_last}
use Rattle.gate_inputs.proofs.examples.nested_spends.Goals as goal

pub returns-clause-standard : goal.returns-clause-standard
unfolding is_standard_spend is_witness_standard sigop_cost_of redeem_of from_last items_of instructions_after sigops_after
returns-clause-standard c = refl

pub returns-clause-limit : goal.returns-clause-limit
unfolding is_standard_spend is_witness_standard sigop_cost_of redeem_of from_last items_of instructions_after sigops_after
returns-clause-limit c = refl

pub returns-clause-past : goal.returns-clause-past
unfolding is_standard_spend is_witness_standard sigop_cost_of redeem_of from_last items_of instructions_after sigops_after
returns-clause-past c = refl

pub returns-clause-cost : goal.returns-clause-cost
unfolding is_standard_spend is_witness_standard sigop_cost_of redeem_of from_last items_of instructions_after sigops_after
returns-clause-cost c = refl
