use Rattle.gate_pool.specs.Search.{parents_of}
use Rattle.gate_pool.proofs.Searching.{IsFound-none, IsFound-next, IsFound-end, parents_lt, parents_is}
use Rattle.gate_pool.proofs.closures.add_parents.Goals as goal

pub loop-input-init : goal.loop-input-init
loop-input-init g c = record { found = IsFound-none c.args.found.now.items; lent = λ h. h }

pub returns-then-not-branch-clause-found : goal.returns-then-not-branch-clause-found
returns-then-not-branch-clause-found g c = IsFound-end (parents_of c.args.inputs.now) c.loop-input.input-index c.input-item.result.prevout.txid (parents_lt c.args.inputs.now c.loop-input.input-index c.loop-input-test.true) (parents_is c.args.inputs.now c.loop-input.input-index c.input-item.result c.loop-input-test.true c.input-item.is) c.loop-input.invariant.found c.in_ok-add_lent.ensures.found c.if-not-branch.true

pub returns-then-not-branch-clause-lent : goal.returns-then-not-branch-clause-lent
returns-then-not-branch-clause-lent g c = λ h. c.in_ok-add_lent.ensures.lent (c.loop-input.invariant.lent h)

pub loop-input-preserved : goal.loop-input-preserved
loop-input-preserved g c = record {
  found = IsFound-next (parents_of c.args.inputs.now) c.loop-input.input-index c.input-item.result.prevout.txid (parents_lt c.args.inputs.now c.loop-input.input-index c.loop-input-test.true) (parents_is c.args.inputs.now c.loop-input.input-index c.input-item.result c.loop-input-test.true c.input-item.is) c.loop-input.invariant.found c.in_ok-add_lent.ensures.found c.if-not-branch.false;
  lent = λ h. c.in_ok-add_lent.ensures.lent (c.loop-input.invariant.lent h);
}

pub returns-clause-lent : goal.returns-clause-lent
returns-clause-lent g c = λ h. c.loop-input.invariant.lent h
