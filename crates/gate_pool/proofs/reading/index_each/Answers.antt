use Rattle.std.proofs.Common.{ap, subst, arith}
use Rattle.std.specs.Str.{bytes_eq}
use Rattle.std.proofs.lemmas.List.{take_all}
use Rattle.gate_tx.specs.Coins.{point_eq}
use Rattle.indexmap.specs.IndexMap.{get}
use Rattle.gate_pool.specs.Keeping.{IsIndexed}
use Rattle.gate_pool.specs.Places.{standing}
use Rattle.gate_pool.proofs.Found.{IsIndexed-none, IsIndexed-push, IsIndexed-same}
use Rattle.gate_pool.proofs.Standing.{one_more, no_more, IsNew-next}
use Rattle.gate_pool.proofs.reading.index_each.Goals as goal
use Rattle.gate_pool.proofs.reading.index_each.Goals.{in-Some+in_ok-index_one-in-Some, in-None}

pub loop-slot-init : goal.loop-slot-init
loop-slot-init g c = IsIndexed-none (get bytes_eq c.args.wtxids.now) (get point_eq c.args.spent.now) c.requires.no_wtxids c.requires.no_points

pub loop-slot-preserved : goal.loop-slot-preserved
loop-slot-preserved g c =
    let slots = c.args.slots.now in
    let i = c.loop-slot.slot-index in
    elim c.match-slot.branch [
      | in-Some+in_ok-index_one-in-Some w ↦
          let h = w.in-Some.held in
          let more = one_more slots i c.slot-item.result h c.loop-slot-test.true c.slot-item.is w.in-Some.is in
          IsIndexed-same
          (IsIndexed-push h.load c.loop-slot.invariant (IsNew-next slots i c.slot-item.result h c.requires.distinct c.loop-slot-test.true c.slot-item.is w.in-Some.is) w.in_ok-index_one-in-Some.ensures.wtxids w.in_ok-index_one-in-Some.ensures.points)
          more (λ k. ap (λ m. get bytes_eq m k) w.wtxids-is) (λ k. ap (λ m. get point_eq m k) w.spent-is)
      | in-None w ↦
          let more = no_more slots i c.slot-item.result c.loop-slot-test.true c.slot-item.is w.in-None.is in
          IsIndexed-same c.loop-slot.invariant more (λ k. ap (λ m. get bytes_eq m k) w.wtxids-is) (λ k. ap (λ m. get point_eq m k) w.spent-is)
    ]

pub returns : goal.returns
returns g c =
    subst (λ l. IsIndexed (standing l) (get bytes_eq c.loop-slot.wtxids) (get point_eq c.loop-slot.spent)) (take_all c.loop-slot.slot-index c.args.slots.now (omega (arith, c.loop-slot-test.false))) c.loop-slot.invariant
