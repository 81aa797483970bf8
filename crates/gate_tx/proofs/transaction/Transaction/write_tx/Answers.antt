use Rattle.std.proofs.Common.{ap, cond}
use Rattle.gate_tx.specs.Text.{stripped, extended}
use Rattle.gate_tx.proofs.Laws.{back_if}
use Rattle.gate_tx.proofs.transaction.Transaction.write_tx.Goals as goal

pub returns-then-has_witness-clause-back : goal.returns-then-has_witness-clause-back
returns-then-has_witness-clause-back c =
    let whole = ap (λ b. cond b (extended c.args.self.now) (stripped c.args.self.now)) c.if-has_witness.ensures in
    back_if c.args.self.now (extended c.args.self.now) c.write_extended.result c.recall_invariant.ensures whole c.write_extended.ensures

pub returns-else-has_witness-clause-back : goal.returns-else-has_witness-clause-back
returns-else-has_witness-clause-back c =
    let whole = ap (λ b. cond b (extended c.args.self.now) (stripped c.args.self.now)) c.if-has_witness.ensures in
    back_if c.args.self.now (stripped c.args.self.now) c.write_stripped.result c.recall_invariant.ensures whole c.write_stripped.ensures
