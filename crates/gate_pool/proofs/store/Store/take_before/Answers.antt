use Rattle.std.proofs.Common.{sym, ◌∙◌}
use Rattle.gate_pool.specs.Pool.{is_before}
use Rattle.gate_pool.proofs.Earliest.{HaveArrived-taken, all_late, taken_falls}
use Rattle.gate_pool.proofs.Removals.{without_below-none}
use Rattle.gate_pool.proofs.store.Store.take_before.Goals as goal

pub loop-txid-smaller : goal.loop-txid-smaller
loop-txid-smaller g c = taken_falls c.in-Some.ensures.some

pub loop-txid-preserved : goal.loop-txid-preserved
loop-txid-preserved g c = record {
  rest = c.take_early.ensures.rest ∙ c.loop-txid.invariant.rest;
  before = c.take_early.ensures.before ∙ c.loop-txid.invariant.before;
  arrived = HaveArrived-taken c.loop-txid.self.entries c.take_early.new.self.entries c.loop-txid.invariant.arrived c.in-Some.ensures.some c.take_early.ensures.fewer c.take_early.ensures.late;
}

pub returns-clause-rest : goal.returns-clause-rest
returns-clause-rest g c =
    let es = c.loop-txid.self.entries in
    let test = is_before c.args.time in
    sym (without_below-none test es (all_late es c.loop-txid.arrivals.list c.args.time c.loop-txid.invariant.arrived c.in_default.ensures.none))
    ∙ c.loop-txid.invariant.rest
