use Rattle.std.proofs.Common.{refl}
use Rattle.gate_tx.specs.Sizes.{stripped_size_of, weight_of}
use Rattle.gate_script.specs.Instructions.{instructions_after}
use Rattle.gate_standard.specs.Amounts.{required_fee, rounded_down}
use Rattle.gate_standard.specs.Outputs.{is_standard_output, carries_data, is_dust, dust_threshold_of}
use Rattle.gate_standard.specs.Rules.{standard_rules, version_rules, form_rules, output_rules}
use Rattle.gate_standard.proofs.examples.decisions.Goals as goal

pub returns-clause-dust : goal.returns-clause-dust
unfolding standard_rules version_rules form_rules output_rules stripped_size_of weight_of instructions_after required_fee rounded_down is_standard_output carries_data is_dust dust_threshold_of
returns-clause-dust c = refl

pub returns-clause-standard : goal.returns-clause-standard
unfolding standard_rules version_rules form_rules output_rules stripped_size_of weight_of instructions_after required_fee rounded_down is_standard_output carries_data is_dust dust_threshold_of
returns-clause-standard c = refl
