use Rattle.std.proofs.Common.{refl}
use Rattle.gate_script.specs.Instructions.{instructions_after}
use Rattle.gate_script.specs.Pushes.{items_of}
use Rattle.gate_script.specs.Sigops.{sigops_after}
use Rattle.gate_inputs.specs.Reports.{is_standard_spend, is_witness_standard, sigop_cost_of, redeem_of, from_last}
use Rattle.gate_inputs.proofs.examples.taproot_spends.Goals as goal

pub returns-clause-key : goal.returns-clause-key
unfolding is_standard_spend is_witness_standard sigop_cost_of redeem_of from_last items_of instructions_after sigops_after
returns-clause-key c = refl

pub returns-clause-leaf : goal.returns-clause-leaf
unfolding is_standard_spend is_witness_standard sigop_cost_of redeem_of from_last items_of instructions_after sigops_after
returns-clause-leaf c = refl

pub returns-clause-past : goal.returns-clause-past
unfolding is_standard_spend is_witness_standard sigop_cost_of redeem_of from_last items_of instructions_after sigops_after
returns-clause-past c = refl

pub returns-clause-other : goal.returns-clause-other
unfolding is_standard_spend is_witness_standard sigop_cost_of redeem_of from_last items_of instructions_after sigops_after
returns-clause-other c = refl

pub returns-clause-annex : goal.returns-clause-annex
unfolding is_standard_spend is_witness_standard sigop_cost_of redeem_of from_last items_of instructions_after sigops_after
returns-clause-annex c = refl

pub returns-clause-control : goal.returns-clause-control
unfolding is_standard_spend is_witness_standard sigop_cost_of redeem_of from_last items_of instructions_after sigops_after
returns-clause-control c = refl

pub returns-clause-cost : goal.returns-clause-cost
unfolding is_standard_spend is_witness_standard sigop_cost_of redeem_of from_last items_of instructions_after sigops_after
returns-clause-cost c = refl
