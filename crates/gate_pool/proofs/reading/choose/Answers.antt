use Rattle.std.proofs.Common.{cond, List, [], ◌∷◌, ◌++◌, length, take, sym, ap, ◌∙◌, arith}
use Rattle.std.specs.Prelude.{filter}
use Rattle.std.specs.Vec.{vec_capacity}
use Rattle.std.proofs.lemmas.List.{take_all}
use Rattle.gate_tx.specs.Ids.{txid_of}
use Rattle.gate_pool.specs.Pool.{Admitted, listing_of}
use Rattle.gate_pool.specs.Places.{standing}
use Rattle.gate_pool.proofs.Entries.{Id}
use Rattle.gate_pool.proofs.Standing.{one_more, no_more, listed_more, room_for_more}
use Rattle.gate_pool.proofs.reading.choose.Goals as goal
use Rattle.gate_pool.proofs.reading.choose.Goals.{in-Some, in-None}

pub loop-slot-init : goal.loop-slot-init
loop-slot-init g c = record { items = c.clear.ensures.items; capacity = c.clear.ensures.capacity }

pub choose_one-requires : goal.choose_one-requires
choose_one-requires g c =
    let room = room_for_more (g.T.Test.chosen c.args.test.now) c.args.slots.now c.loop-slot.slot-index c.slot-item.result c.in-Some.held c.loop-slot-test.true c.slot-item.is c.in-Some.is in
    omega (arith, room, ap length c.loop-slot.invariant.items, c.requires, c.loop-slot.invariant.capacity)

pub loop-slot-preserved : goal.loop-slot-preserved
loop-slot-preserved g c =
    let slots = c.args.slots.now in
    let i = c.loop-slot.slot-index in
    let test = g.T.Test.chosen c.args.test.now in
    let kept = c.loop-slot.invariant in
    elim c.match-slot.branch [
      | in-Some w ↦
          let e = w.in-Some.held.load in
          let more = one_more slots i c.slot-item.result w.in-Some.held c.loop-slot-test.true c.slot-item.is w.in-Some.is in
          record {
            items =
                ap (λ v. v.items) w.chosen-is ∙ w.choose_one.ensures.ids
                ∙ ap (λ (l : List Id). l ++ cond (test e) (txid_of e.tx ∷ []) []) kept.items
                ∙ sym (listed_more test (standing (take i slots)) e)
                ∙ ap (λ (l : List Admitted). listing_of (filter test l)) (sym more);
            capacity = ap vec_capacity w.chosen-is ∙ w.choose_one.ensures.capacity ∙ kept.capacity;
          }
      | in-None w ↦
          let more = no_more slots i c.slot-item.result c.loop-slot-test.true c.slot-item.is w.in-None.is in
          record {
            items = ap (λ v. v.items) w.chosen-is ∙ kept.items ∙ ap (λ (l : List Admitted). listing_of (filter test l)) (sym more);
            capacity = ap vec_capacity w.chosen-is ∙ kept.capacity;
          }
    ]

pub returns-clause-ids : goal.returns-clause-ids
returns-clause-ids g c =
    c.loop-slot.invariant.items ∙ ap (λ l. listing_of (filter (g.T.Test.chosen c.args.test.now) (standing l))) (take_all c.loop-slot.slot-index c.args.slots.now (omega (arith, c.loop-slot-test.false)))
