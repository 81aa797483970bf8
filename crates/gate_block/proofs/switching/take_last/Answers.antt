use Rattle.std.proofs.Common.{ap, sym, ◌∙◌, reverse, arith}
use Rattle.gate_block.proofs.Switches.{gone_on, pushed, still_last}
use Rattle.gate_block.proofs.switching.take_last.Goals as goal
use Rattle.gate_block.proofs.switching.take_last.Goals.{in-Ok, in_default}

pub loop-preserved : goal.loop-preserved
loop-preserved g c =
    let h = c.args.chain.now in
    let i = c.loop.invariant in (
      gone_on h c.loop.chain c.disconnect.new.self c.loop.counter c.disconnect.result i.0 c.disconnect.ensures.ok c.disconnect.ensures.err c.disconnect.ensures.denied,
      elim c.match-disconnect.branch [
        | in-Ok w ↦ rw w.gone-is (pushed h c.loop.chain c.disconnect.new.self w.in-Ok.block c.loop.counter c.loop.gone.items _ i.0 w.in-Ok.ensures.ok i.1 (rw w.unwrap.ensures at w.push-put.ensures.items))
        | in_default w ↦ rw w.gone-is (i.1 ∙ ap reverse (sym (still_last h c.loop.chain c.disconnect.new.self _ c.loop.counter i.0 w.in_default.ensures.denied w.in_default.ensures.err)))
      ],
      elim c.match-disconnect.branch [
        | in-Ok w ↦ rw w.gone-is (omega (arith, i.2, w.push-put.ensures.upper_bound))
        | in_default w ↦ rw w.gone-is (omega (arith, i.2))
      ],
      elim c.match-disconnect.branch [
        | in-Ok w ↦ rw w.gone-is (omega (arith, i.3, w.push-put.ensures.capacity))
        | in_default w ↦ rw w.gone-is i.3
      ],
    )
