use Rattle.gate_audit.proofs.Bases.{no_number, number_is}
use Rattle.gate_audit.proofs.entry.is_number.Goals as goal

pub returns-in-Ok : goal.returns-in-Ok
returns-in-Ok c = rw c.eq.ensures (number_is c.read_number.result c.in-Ok.text.now c.args.text.now c.args.number c.requires c.read_number.ensures c.in-Ok.ensures.cases.0)

pub returns-in-Err : goal.returns-in-Err
returns-in-Err c = no_number c.args.text.now c.args.number c.requires c.in-Err.ensures.cases.0
