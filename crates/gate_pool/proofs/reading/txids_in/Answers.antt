use Rattle.std.proofs.Common.{◌≡◌, ◌++◌, ◌∷◌, [], take, sym, ap, ◌∙◌, arith}
use Rattle.std.specs.Prelude.{Vec}
use Rattle.std.proofs.lemmas.List.{map-append, take_all}
use Rattle.gate_tx.specs.Ids.{txid_of}
use Rattle.gate_pool.specs.Pool.{Admitted, listing_of}
use Rattle.gate_pool.specs.Places.{standing}
use Rattle.gate_pool.proofs.Standing.{one_more, no_more}
use Rattle.gate_pool.proofs.reading.txids_in.Goals as goal
use Rattle.gate_pool.proofs.reading.txids_in.Goals.{in-Some+in_ok-push-in-Some, in-None}

same_items : {X A : Type 0} {s t : Vec X A} → s ≡ t → s.items ≡ t.items
same_items e = ap (λ v. v.items) e

pub loop-slot-preserved : goal.loop-slot-preserved
loop-slot-preserved c =
    let slots = c.args.slots.now in
    let i = c.loop-slot.slot-index in
    elim c.match-slot.branch [
      | in-Some+in_ok-push-in-Some w ↦
          let h = w.in-Some.held in
          let more = one_more slots i c.slot-item.result h c.loop-slot-test.true c.slot-item.is w.in-Some.is in
          same_items w.txids-is ∙ w.in_ok-push-in-Some.ensures.items
          ∙ ap (λ l. l ++ w.txid.result ∷ []) c.loop-slot.invariant
          ∙ ap (λ t. listing_of (standing (take i slots)) ++ t ∷ []) w.txid.ensures
          ∙ sym (map-append (λ (x : Admitted). txid_of x.tx) (standing (take i slots)) (h.load ∷ []))
          ∙ ap listing_of (sym more)
      | in-None w ↦
          let more = no_more slots i c.slot-item.result c.loop-slot-test.true c.slot-item.is w.in-None.is in
          same_items w.txids-is ∙ c.loop-slot.invariant ∙ ap listing_of (sym more)
    ]

pub returns : goal.returns
returns c = c.loop-slot.invariant ∙ ap (λ l. listing_of (standing l)) (take_all c.loop-slot.slot-index c.args.slots.now (omega (arith, c.loop-slot-test.false)))
