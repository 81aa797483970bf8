use Rattle.std.proofs.Common.{◌+◌, ◌∙◌, ◌++◌, sym, ap, length}
use Rattle.gate_chain.proofs.Growing.{left}
use Rattle.gate_chain.proofs.TwoTables.{take_second}
use Rattle.gate_chain.proofs.entering.leave.Goals as goal

pub returns-clause-left : goal.returns-clause-left
returns-clause-left g c = λ h header made faultless n k a.
    let o = c.args.coins.now.opening.entries in
    let m = c.args.coins.now.made.entries in
    left h header c.args.txs.now (c.args.coins_before + length o) c.args.ids_before (o ++ m) (o ++ c.truncate.new.self.entries) _ _ _ made faultless n k a
    (ap (λ l. o ++ l) c.truncate.ensures.entries ∙ sym (take_second o m c.args.coins_before)) c.truncate-2.ensures.keys c.give_back.ensures.coins c.give_back.ensures.marks
