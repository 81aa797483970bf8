use Rattle.std.proofs.Common.{sym}
use Rattle.gate_chain.proofs.Copies.{on_ok_then}
use Rattle.gate_admit.proofs.Needed.{block_noted, none_noted}
use Rattle.gate_admit.proofs.confirmed.note_block.Goals as goal

pub returns-in-Some : goal.returns-in-Some
returns-in-Some g c = on_ok_then c.note_all.result (block_noted c.args.chain.now.blocks c.args.place c.in-Some.block.now c.transactions.result.now _ _ (sym c.in-Some.ensures) c.transactions.ensures) c.note_all.ensures

pub returns-in-None : goal.returns-in-None
returns-in-None g c = none_noted c.args.chain.now.blocks c.args.place _ (sym c.in-None.ensures)
