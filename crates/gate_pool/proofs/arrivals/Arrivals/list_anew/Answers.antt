use Rattle.std.proofs.Common.{◌+◌, [], ◌∷◌, length, take, sym, ap, subst, arith, length-append}
use Rattle.std.proofs.lemmas.List.{take_all}
use Rattle.gate_bytes.proofs.Members.{not_in_none}
use Rattle.gate_pool.specs.Arrivals.{Arrived, HaveArrived}
use Rattle.gate_pool.specs.Places.{standing}
use Rattle.gate_pool.proofs.Earliest.{HaveArrived-more}
use Rattle.gate_pool.proofs.Readiness.{HaveArrived-same}
use Rattle.gate_pool.proofs.Standing.{one_more, no_more, standing_more}
use Rattle.gate_pool.proofs.arrivals.Arrivals.list_anew.Goals as goal
use Rattle.gate_pool.proofs.arrivals.Arrivals.list_anew.Goals.{in-Some, in-None}

pub loop-slot-init : goal.loop-slot-init
loop-slot-init c = record { arrived = record { all = λ e m. not_in_none e m }; room = omega (arith, c.clear.ensures.room) }

pub push-requires : goal.push-requires
push-requires c =
    let within = standing_more c.args.slots.now c.loop-slot.slot-index c.slot-item.result c.in-Some.held c.loop-slot-test.true c.slot-item.is c.in-Some.is in
    omega (arith, within, c.loop-slot.invariant.room, c.requires)

pub loop-slot-preserved : goal.loop-slot-preserved
loop-slot-preserved c =
    let slots = c.args.slots.now in
    let i = c.loop-slot.slot-index in
    elim c.match-slot.branch [
      | in-Some w ↦
          let more = one_more slots i c.slot-item.result w.in-Some.held c.loop-slot-test.true c.slot-item.is w.in-Some.is in
          record {
            arrived =
                subst (λ (a : Arrived). HaveArrived (standing (take (i + 1) slots)) a.list) (sym w.self-is)
                (HaveArrived-more w.in-Some.held.load c.loop-slot.invariant.arrived more w.push.ensures.pushed);
            room =
                omega (
                  arith,
                  c.loop-slot.invariant.room,
                  ap (λ (a : Arrived). a.room) w.self-is,
                  w.push.ensures.room,
                  ap length more,
                  length-append (standing (take i slots)) (w.in-Some.held.load ∷ []),
                );
          }
      | in-None w ↦
          let more = no_more slots i c.slot-item.result c.loop-slot-test.true c.slot-item.is w.in-None.is in
          record {
            arrived = subst (λ (a : Arrived). HaveArrived (standing (take (i + 1) slots)) a.list) (sym w.self-is) (HaveArrived-same c.loop-slot.invariant.arrived more);
            room = omega (arith, c.loop-slot.invariant.room, ap (λ (a : Arrived). a.room) w.self-is, ap length more);
          }
    ]

pub returns : goal.returns
returns c =
    let all = ap standing (take_all c.loop-slot.slot-index c.args.slots.now (omega (arith, c.loop-slot-test.false))) in
    record {
      arrived = HaveArrived-same c.loop-slot.invariant.arrived (sym all);
      room = omega (arith, c.loop-slot.invariant.room, ap length all);
    }
