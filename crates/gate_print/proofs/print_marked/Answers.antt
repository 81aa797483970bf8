use Rattle.std.proofs.Common.{◌∙◌, Err}
use Rattle.gate_print.proofs.Printed.{handed_on, printed_then, stopped_in_front, written_as, written_once}
use Rattle.gate_print.proofs.print_marked.Goals as goal

pub returns-in_err-write_text-clause-printed : goal.returns-in_err-write_text-clause-printed
returns-in_err-write_text-clause-printed g c =
    handed_on _ _ _ _ _ c.from_residual-in_err-write_text.ensures.1
    (stopped_in_front _ _ c.args.mark.now _ c.in_err-write_text.field-0.0 (written_once _ _ _ (Err c.in_err-write_text.field-0.0) c.in_err-write_text.ensures.written))

pub returns-clause-printed : goal.returns-clause-printed
returns-clause-printed g c =
    printed_then _ _ _ _ _ _ c.in_ok-write_text.ensures.written
    (written_as _ _ _ _ _ (c.as_slice.ensures.value ∙ c.in_ok-line.ensures) c.write_text-2.ensures.written)
