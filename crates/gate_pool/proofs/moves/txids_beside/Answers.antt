use Rattle.std.proofs.Common.{cond, not, Bool, List, [], ◌∷◌, ◌++◌, take, sym, ap, ◌∙◌, arith}
use Rattle.std.specs.Prelude.{filter}
use Rattle.std.specs.Str.{bytes_eq}
use Rattle.std.proofs.lemmas.List.{take_all}
use Rattle.indexmap.specs.IndexSet.{contains}
use Rattle.gate_tx.specs.Ids.{txid_of}
use Rattle.gate_pool.specs.Pool.{Admitted, listing_of}
use Rattle.gate_pool.specs.Places.{standing}
use Rattle.gate_pool.proofs.Entries.{Id}
use Rattle.gate_pool.proofs.Standing.{one_more, no_more, listed_more}
use Rattle.gate_pool.proofs.moves.txids_beside.Goals as goal
use Rattle.gate_pool.proofs.moves.txids_beside.Goals.{in-Some+in_ok-add_beside-in-Some, in-None}

pub loop-slot-preserved : goal.loop-slot-preserved
loop-slot-preserved g c =
    let slots = c.args.slots.now in
    let i = c.loop-slot.slot-index in
    let test : Admitted → Bool = λ e. not (contains bytes_eq c.args.ids.now (txid_of e.tx)) in
    elim c.match-slot.branch [
      | in-Some+in_ok-add_beside-in-Some w ↦
          let e = w.in-Some.held.load in
          let more = one_more slots i c.slot-item.result w.in-Some.held c.loop-slot-test.true c.slot-item.is w.in-Some.is in
          ap (λ v. v.items) w.txids-is ∙ w.in_ok-add_beside-in-Some.ensures
          ∙ ap (λ (l : List Id). l ++ cond (test e) (txid_of e.tx ∷ []) []) c.loop-slot.invariant
          ∙ sym (listed_more test (standing (take i slots)) e)
          ∙ ap (λ (l : List Admitted). listing_of (filter test l)) (sym more)
      | in-None w ↦
          let more = no_more slots i c.slot-item.result c.loop-slot-test.true c.slot-item.is w.in-None.is in
          ap (λ v. v.items) w.txids-is ∙ c.loop-slot.invariant ∙ ap (λ (l : List Admitted). listing_of (filter test l)) (sym more)
    ]

pub returns : goal.returns
returns g c =
    c.loop-slot.invariant ∙ ap (λ l. listing_of (filter (λ e. not (contains bytes_eq c.args.ids.now (txid_of e.tx))) (standing l))) (take_all c.loop-slot.slot-index c.args.slots.now (omega (arith, c.loop-slot-test.false)))
