use Rattle.gate_tx.proofs.Laws.{each_has_one_text, each_text_is_of_one, texts_stand_apart}
use Rattle.gate_tx.proofs.law.texts_stand_apart.Goals as goal

pub returns-clause-one : goal.returns-clause-one
returns-clause-one c = each_has_one_text

pub returns-clause-of_one : goal.returns-clause-of_one
returns-clause-of_one c = each_text_is_of_one

pub returns-clause-apart : goal.returns-clause-apart
returns-clause-apart c = texts_stand_apart
