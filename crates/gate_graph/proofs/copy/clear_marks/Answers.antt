use Rattle.std.proofs.Common.{◌≡◌, ◌+◌, refl, sym, subst, arith}
use Rattle.gate_graph.specs.Walking.{AreClear}
use Rattle.gate_graph.proofs.Copying.{clear_more}
use Rattle.gate_graph.proofs.copy.clear_marks.Goals as goal

pub loop-slot-init : goal.loop-slot-init
loop-slot-init c = subst (AreClear 0) (sym c.in_ok-marks.ensures.items) (record { len = refl; clear = λ p. refl })

pub loop-slot-preserved : goal.loop-slot-preserved
loop-slot-preserved c = subst (AreClear (c.loop-slot._slot + 1)) (sym c.in_ok-push.ensures.items) (clear_more c.loop-slot._slot c.loop-slot.marks.items c.loop-slot.invariant)

pub returns : goal.returns
returns c =
    let end : c.loop-slot._slot ≡ c.args.count = omega arith in
    subst (λ n. AreClear n c.loop-slot.marks.items) end c.loop-slot.invariant
