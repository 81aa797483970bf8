use Rattle.gate_script.proofs.Anchors.{anchors_are_patterns}
use Rattle.gate_script.proofs.Multisigs.{multisigs_are_patterns}
use Rattle.gate_script.proofs.PaidKeys.{keys_are_patterns}
use Rattle.gate_script.proofs.law.templates_are_patterns.Goals as goal

pub returns-clause-anchors : goal.returns-clause-anchors
returns-clause-anchors c = anchors_are_patterns

pub returns-clause-keys : goal.returns-clause-keys
returns-clause-keys c = keys_are_patterns

pub returns-clause-multisigs : goal.returns-clause-multisigs
returns-clause-multisigs c = multisigs_are_patterns
