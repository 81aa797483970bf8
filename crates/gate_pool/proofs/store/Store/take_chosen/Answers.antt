use Rattle.std.proofs.Common.{refl, sym, ap, ◌∙◌, arith}
use Rattle.std.proofs.lemmas.List.{take_all}
use Rattle.gate_pool.proofs.Chosen.{left, left_none, left_more, left_chosen}
use Rattle.gate_pool.proofs.store.Store.take_chosen.Goals as goal

pub loop-id-init : goal.loop-id-init
loop-id-init g c = record { entries = sym (left_none c.args.self.now.entries); before = refl }

pub loop-id-preserved : goal.loop-id-preserved
loop-id-preserved g c = record {
  entries = left_more c.args.self.now.entries c.args.chosen.now c.loop-id.id-index c.id-item.result c.loop-id.self.entries c.take_out.new.self.entries c.loop-id-test.true c.id-item.is c.loop-id.invariant.entries c.take_out.ensures.rest;
  before = c.take_out.ensures.before ∙ c.loop-id.invariant.before;
}

pub returns-clause-entries : goal.returns-clause-entries
returns-clause-entries g c = λ test is.
    c.loop-id.invariant.entries ∙ ap (left c.args.self.now.entries) (take_all c.loop-id.id-index c.args.chosen.now (omega (arith, c.loop-id-test.false))) ∙ left_chosen c.args.self.now.entries test c.args.chosen.now is
