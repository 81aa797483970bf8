use Rattle.gate_events.proofs.SpelledTexts.{texts_spell}
use Rattle.gate_events.proofs.laws.texts_spell.Goals as goal

pub returns : goal.returns
returns c = texts_spell
