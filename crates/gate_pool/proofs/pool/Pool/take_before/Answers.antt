use Rattle.std.proofs.Common.{◌≡◌, not, length, sym, ap, subst, ◌∙◌, arith}
use Rattle.gate_pool.specs.Pool.{Admitted, Pooled, is_before}
use Rattle.gate_pool.specs.Family.{is_below_some, without_below}
use Rattle.gate_pool.specs.Scores.{least_of}
use Rattle.gate_pool.proofs.Earliest.{all_late}
use Rattle.gate_pool.proofs.Removals.{without_below-none}
use Rattle.gate_pool.proofs.Readiness.{HaveArrived-same}
use Rattle.gate_pool.proofs.Walking.{shorter}
use Rattle.gate_pool.proofs.pool.Pool.take_before.Goals as goal

pub invariant_of-self : goal.invariant_of-self
invariant_of-self g c =
    let old = c.self.inside.store.entries in
    let settled = c.settle-self-inside.ensures in
    let fewer = shorter (λ (e : Admitted). not (is_below_some (is_before c.args.time) old e)) old in
    record {
      chosen_room = omega (arith, c.self.invariant.chosen_room, fewer, ap length c.take_before.ensures.rest, ap length settled.entries, settled.room);
      arrived = HaveArrived-same c.take_before.ensures.arrived settled.entries;
      arrivals_room = omega (arith, settled.room);
      score = settled.value ∙ ap least_of (sym settled.entries);
      bounded = settled.bounded;
    }

pub returns-then-has_before-clause-entries : goal.returns-then-has_before-clause-entries
returns-then-has_before-clause-entries g c = c.settle-self-inside.ensures.entries ∙ c.take_before.ensures.rest ∙ ap (λ (p : Pooled). without_below (is_before c.args.time) p.entries) c.self.view_is

pub returns-else-has_before-clause-entries : goal.returns-else-has_before-clause-entries
returns-else-has_before-clause-entries g c =
    let test = is_before c.args.time in
    let es = c.self.inside.store.entries in
    subst (λ (p : Pooled). p.entries ≡ without_below test p.entries) c.self.view_is
    (sym (without_below-none test es (all_late es c.self.inside.arrivals.list c.args.time c.self.invariant.arrived (c.has_before.ensures c.if-has_before.false))))
