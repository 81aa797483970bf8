use Rattle.std.proofs.Common.{◌≡◌, None, sym, subst, ◌∙◌, arith, inl, inr, List}
use Rattle.std.specs.Prelude.{Contains}
use Rattle.std.proofs.lemmas.List.{take_all}
use Rattle.gate_tx.specs.declared.TxIn.{TxIn}
use Rattle.gate_tx.specs.Coins.{spends}
use Rattle.gate_bytes.proofs.Members.{list_any_of}
use Rattle.gate_pool.specs.Pool.{spender_of}
use Rattle.gate_pool.specs.Family.{spends_one_of}
use Rattle.gate_pool.proofs.Points.{Contains-take_more}
use Rattle.gate_pool.proofs.Conflicts.{none_left}
use Rattle.gate_pool.proofs.store.Store.take_conflicts.Goals as goal

pub loop-input-preserved : goal.loop-input-preserved
loop-input-preserved g c =
    let inv = c.loop-input.invariant in
    let inputs = c.args.inputs.now in
    let x = c.input-item.result in
    let taken = c.take_spender.ensures in
    let member : Contains inputs x = (c.loop-input.input-index, c.loop-input-test.true, sym c.input-item.is) in
    record {
      rest = taken.rest (spends_one_of inputs) (λ e s. list_any_of (λ (i : TxIn). spends e.tx.inputs i.prevout) inputs x member s) ∙ inv.rest;
      gone = λ i k.
          elim (Contains-take_more inputs c.loop-input.input-index x i c.loop-input-test.true c.input-item.is k) [
            | inl old ↦ taken.still i.prevout (inv.gone i old)
            | inr same ↦ subst (λ (y : TxIn). spender_of c.take_spender.new.self.entries y.prevout ≡ None) same taken.gone
          ];
      before = taken.before ∙ inv.before;
      room = taken.room ∙ inv.room;
      next = taken.next ∙ inv.next;
      all = taken.all ∙ inv.all;
    }

pub returns-clause-gone : goal.returns-clause-gone
returns-clause-gone g c = λ i m.
    c.loop-input.invariant.gone i (subst (λ (l : List TxIn). Contains l i) (sym (take_all c.loop-input.input-index c.args.inputs.now (omega (arith, c.loop-input-test.false)))) m)

pub returns-clause-rest : goal.returns-clause-rest
returns-clause-rest g c =
    sym (none_left c.args.inputs.now c.loop-input.self.entries (λ i m.
    c.loop-input.invariant.gone i (subst (λ (l : List TxIn). Contains l i) (sym (take_all c.loop-input.input-index c.args.inputs.now (omega (arith, c.loop-input-test.false)))) m)))
    ∙ c.loop-input.invariant.rest
