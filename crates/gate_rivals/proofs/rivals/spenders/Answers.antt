use Rattle.std.proofs.Common.{[], refl, sym, subst, ◌+◌, ℕ, List, take, arith}
use Rattle.std.specs.Prelude.{filter}
use Rattle.std.proofs.lemmas.List.{take_all}
use Rattle.gate_tx.specs.declared.TxIn.{TxIn}
use Rattle.gate_pool.specs.Family.{spends_one_of, AreIdsOf}
use Rattle.gate_rbf.specs.Gathering.{IsPut}
use Rattle.gate_rbf.proofs.Putting.{AreIdsOf-none, AreIdsOf-spender, AreIdsOf-no_spender}
use Rattle.gate_rivals.proofs.rivals.spenders.Goals as goal
use Rattle.gate_rivals.proofs.rivals.spenders.Goals.{in-Some+in_ok-put-in-Some, in-None}

pub loop-input-init : goal.loop-input-init
loop-input-init g c =
    let entries = c.args.pool.now.entries in
    subst (λ (l : List (List ℕ)). AreIdsOf l (filter (spends_one_of []) entries)) (sym c.new-ids.ensures.items) (AreIdsOf-none (spends_one_of []) entries (λ e m. refl))

pub loop-input-preserved : goal.loop-input-preserved
loop-input-preserved g c =
    let entries = c.args.pool.now.entries in
    let items = c.args.inputs.now in
    let k = c.loop-input.input-index in
    elim c.match-spender.branch [
      | in-Some+in_ok-put-in-Some w ↦
          subst (λ f. AreIdsOf f.items (filter (spends_one_of (take (k + 1) items)) entries)) (sym w.ids-is)
          (AreIdsOf-spender entries c.recall_distinct.ensures items k c.input-item.result c.loop-input-test.true (sym c.input-item.is) w.in-Some.spender.now (sym w.in-Some.ensures)
          (subst (λ (t : List ℕ). IsPut c.loop-input.ids.items t w.put.new.ids.items) w.txid.ensures w.in_ok-put-in-Some.ensures) c.loop-input.invariant)
      | in-None w ↦
          subst (λ f. AreIdsOf f.items (filter (spends_one_of (take (k + 1) items)) entries)) (sym w.ids-is)
          (AreIdsOf-no_spender entries items k c.input-item.result c.loop-input-test.true (sym c.input-item.is) (sym w.in-None.ensures) c.loop-input.ids.items c.loop-input.invariant)
    ]

pub returns : goal.returns
returns g c =
    let entries = c.args.pool.now.entries in
    subst (λ (l : List TxIn). AreIdsOf c.loop-input.ids.items (filter (spends_one_of l) entries)) (take_all c.loop-input.input-index c.args.inputs.now (omega (arith, c.loop-input-test.false))) c.loop-input.invariant
