use Rattle.std.proofs.lemmas.Result.{err_from_is_err_and}
use Rattle.gate_shared.proofs.Faults.{faulted}
use Rattle.gate_shared.proofs.shared.Shared.fault.Goals as goal

pub returns-in_err-own_fault-clause-found : goal.returns-in_err-own_fault-clause-found
returns-in_err-own_fault-clause-found g c =
    let p = err_from_is_err_and c.from_residual.result c.from_residual.ensures.1 in
    rw (p.1, p.2) (faulted c.args.self.now _ c.args.pass.now _ c.args.event.now c.in_err-own_fault.field-0.0 c.audit_one.ensures.same c.audit_one.ensures.pass c.audit_one.ensures.stand
    c.in_err-own_fault.ensures.found c.in_err-own_fault.ensures.left).0

pub returns-in_err-own_fault-clause-stand : goal.returns-in_err-own_fault-clause-stand
returns-in_err-own_fault-clause-stand g c =
    let p = err_from_is_err_and c.from_residual.result c.from_residual.ensures.1 in
    rw (p.1, p.2) (faulted c.args.self.now _ c.args.pass.now _ c.args.event.now c.in_err-own_fault.field-0.0 c.audit_one.ensures.same c.audit_one.ensures.pass c.audit_one.ensures.stand
    c.in_err-own_fault.ensures.found c.in_err-own_fault.ensures.left).1

pub returns-in_err-own_fault-clause-pass : goal.returns-in_err-own_fault-clause-pass
returns-in_err-own_fault-clause-pass g c =
    let p = err_from_is_err_and c.from_residual.result c.from_residual.ensures.1 in
    rw (p.1, p.2) (faulted c.args.self.now _ c.args.pass.now _ c.args.event.now c.in_err-own_fault.field-0.0 c.audit_one.ensures.same c.audit_one.ensures.pass c.audit_one.ensures.stand
    c.in_err-own_fault.ensures.found c.in_err-own_fault.ensures.left).2
