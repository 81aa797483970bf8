use Rattle.gate_print.proofs.Printed.{written_once}
use Rattle.gate_rounds.proofs.printing.print_conclusion.Goals as goal

pub returns-in-Unknown-clause-printed : goal.returns-in-Unknown-clause-printed
returns-in-Unknown-clause-printed g c = rw c.in-Unknown.is (written_once _ _ _ _ c.write_text.ensures.written)
