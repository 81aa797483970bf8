use Rattle.std.proofs.Common.{◌≡◌, ◌-◌, ◌^◌, true, inl, inr, [], refl, sym, subst, arith}
use Rattle.std.proofs.lemmas.Bool.{cases_Bool}
use Rattle.std.proofs.lemmas.List.{length-map, take_all}
use Rattle.gate_tx.specs.declared.TxIn.{TxIn}
use Rattle.gate_pool.specs.Search.{parents_of, IsFound}
use Rattle.gate_pool.proofs.Parented.{found_parents}
use Rattle.gate_pool.proofs.Searching.{IsFound-none, IsFound-next, parents_lt, parents_is}
use Rattle.gate_pool.proofs.closures.parents.Goals as goal

pub loop-input-init : goal.loop-input-init
loop-input-init g c = subst (λ l. IsFound (2 ^ 64 - 1) (g.V.FamilyView.entries c.args.pool.now) [] [] l true) (sym c.new-found.ensures.items) (IsFound-none [])

pub loop-input-preserved : goal.loop-input-preserved
loop-input-preserved g c =
    let inputs = c.args.inputs.now in
    let all : c.in_ok-_few._few ≡ true = (elim (cases_Bool c.in_ok-_few._few) [
      | inl t ↦ t
      | inr t ↦ absurd (omega (arith, c.in_ok-_few.ensures.many t, c.add.new.found.ok))
    ]) in
    IsFound-next (parents_of inputs) c.loop-input.input-index c.input-item.result.prevout.txid (parents_lt inputs c.loop-input.input-index c.loop-input-test.true) (parents_is inputs c.loop-input.input-index c.input-item.result c.loop-input-test.true c.input-item.is) c.loop-input.invariant c.in_ok-_few.ensures all

pub returns : goal.returns
returns g c =
    let inputs = c.args.inputs.now in
    let found = c.loop-input.found.items in
    let whole = take_all c.loop-input.input-index (parents_of inputs) (omega (arith, c.loop-input-test.false, length-map inputs (λ (i : TxIn). i.prevout.txid))) in
    found_parents (2 ^ 64 - 1) (g.V.FamilyView.entries c.args.pool.now) inputs found true
    (subst (λ l. IsFound (2 ^ 64 - 1) (g.V.FamilyView.entries c.args.pool.now) l [] found true) whole c.loop-input.invariant) refl
