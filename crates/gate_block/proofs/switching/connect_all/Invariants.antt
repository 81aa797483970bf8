use Rattle.std.specs.Vec.Iter.{into_iter_items}
use Rattle.gate_block.proofs.Switches.{IsJoining}
use Rattle.gate_block.proofs.switching.connect_all.Given as goal

abbrev pub invariant-loop-block : goal.invariant-loop-block
invariant-loop-block g l = (goal.iterator-loop-block g).can_next l.block-iterator
    × (goal.iterator-loop-block g).is_finite l.block-iterator
    × IsJoining l.fn.chain l.fn.blocks.items l.chain l.connected (into_iter_items l.block-iterator)
