use Rattle.std.proofs.Common.{◌≡◌, length, ap, ◌∙◌, inl, inr, arith}
use Rattle.std.proofs.lemmas.Bool.{cases_lt}
use Rattle.gate_graph.specs.Slots.{at}
use Rattle.gate_graph.proofs.Placing.{length-spots}
use Rattle.gate_pool.proofs.Seats.{past}
use Rattle.gate_pool.proofs.rewinding.take_late.Goals as goal

pub drop_at-requires-clause-within : goal.drop_at-requires-clause-within
drop_at-requires-clause-within g c =
    omega (arith, c.loop-place-test.true, c.loop-place.invariant.len, length-spots c.as_slice-end.result.now, ap length c.as_slice-end.ensures.places)

pub loop-place-preserved : goal.loop-place-preserved
loop-place-preserved g c =
    let inv = c.loop-place.invariant in
    let step = c.drop_at.ensures in
    record {
      stored = step.stored;
      empty = λ p le lt.
          elim (cases_lt p c.loop-place.place) [
            | inl less ↦ step.still p (inv.empty p le less)
            | inr more ↦ let same : p ≡ c.loop-place.place = omega (arith, lt, more) in ap (at c.drop_at.new.nodes.places) same ∙ step.empty
          ];
      len = step.len ∙ inv.len;
      logs = λ log l.
          let v = inv.logs log l in
          let w = step.logs c.args.mark (omega (arith, c.loop-place.auto.place)) log v.0 in
          (w.0, w.1 ∙ v.1);
      fewer = λ e m. inv.fewer e (step.fewer e m);
      count = omega (arith, step.count, inv.count);
      room = step.room ∙ inv.room;
      names = step.names ∙ inv.names;
      wtxid_room = omega (arith, step.wtxid_room, inv.wtxid_room);
      point_room = omega (arith, step.point_room, inv.point_room);
    }

pub returns-clause-early : goal.returns-clause-early
returns-clause-early g c = λ p le.
    elim (cases_lt p c.loop-place.place) [
      | inl less ↦ c.loop-place.invariant.empty p le less
      | inr more ↦ past c.loop-place.nodes.places p (omega (arith, more, c.loop-place-test.false, c.loop-place.invariant.len, length-spots c.as_slice-end.result.now, ap length c.as_slice-end.ensures.places))
    ]
