use Rattle.std.proofs.Common.{sym, subst, ◌+◌}
use Rattle.gate_block.proofs.Switches.{IsJoining, joining_goes, joining_stops}
use Rattle.gate_block.proofs.switching.connect_all.Goals as goal
use Rattle.std.specs.Vec.Iter.{into_iter_items}

pub returns-in-Err-clause-denied : goal.returns-in-Err-clause-denied
returns-in-Err-clause-denied g c =
    let joining = subst (IsJoining c.args.chain.now c.args.blocks.items c.loop-block.chain c.loop-block.connected) c.in-Some.ensures.steps.0 c.loop-block.invariant.2 in
    joining_stops c.args.chain.now c.args.blocks.items c.loop-block.chain c.loop-block.connected c.in-Some.block (into_iter_items c.next.new.self) joining c.in-Err.fault c.in-Err.ensures.denied

pub loop-block-preserved : goal.loop-block-preserved
loop-block-preserved g c =
    let joining = subst (IsJoining c.args.chain.now c.args.blocks.items c.loop-block.chain c.loop-block.connected) c.in-Some.ensures.steps.0 c.loop-block.invariant.2 in (
      tt,
      tt,
      subst (λ h. IsJoining c.args.chain.now c.args.blocks.items h (c.loop-block.connected + 1) (into_iter_items c.next.new.self)) (sym c.in_default.ensures.ok)
          (joining_goes c.args.chain.now c.args.blocks.items c.loop-block.chain c.loop-block.connected c.in-Some.block (into_iter_items c.next.new.self) joining c.in_default.ensures.passes),
    )
