use Rattle.gate_tx.proofs.Stripped.{stripped_forms_stand_apart, stripped_forms_spend_the_same}
use Rattle.gate_tx.proofs.law.stripped_forms_stand_apart.Goals as goal

pub returns-clause-apart : goal.returns-clause-apart
returns-clause-apart c = stripped_forms_stand_apart

pub returns-clause-spend : goal.returns-clause-spend
returns-clause-spend c = stripped_forms_spend_the_same
