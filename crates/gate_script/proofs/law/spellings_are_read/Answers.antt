use Rattle.gate_script.proofs.Spelling.{spellings_are_read, scripts_are_spelled}
use Rattle.gate_script.proofs.law.spellings_are_read.Goals as goal

pub returns : goal.returns
returns c = record { read = spellings_are_read; spelled = scripts_are_spelled }
