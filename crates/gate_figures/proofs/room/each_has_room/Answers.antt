use Rattle.std.proofs.Common.{◌≡◌, false, ◌∙◌, sym, subst, take, inl, inr, arith}
use Rattle.std.specs.Prelude.{Contains, filter}
use Rattle.std.proofs.lemmas.List.{take_all}
use Rattle.gate_tx.specs.Ids.{txid_of}
use Rattle.gate_pool.proofs.Points.{Contains-take_more}
use Rattle.gate_pool.proofs.Walking.{Contains-from_filter}
use Rattle.gate_admit.specs.Limits.{has_room_below}
use Rattle.gate_admit.proofs.Families.{list_all_of, list_all_not}
use Rattle.gate_figures.specs.Rooms.{limits_by}
use Rattle.gate_figures.proofs.room.each_has_room.Goals as goal

pub returns-then-not-has_room_below : goal.returns-then-not-has_room_below
returns-then-not-has_room_below g c = λ test ids.
    let entries = c.args.pool.now.entries in
    let asked : Contains c.args.above.now c.txid-item.result = (c.loop-txid.txid-index, c.loop-txid-test.true, sym c.txid-item.is) in
    let found = ids.only c.txid-item.result asked in
    let fails : has_room_below (limits_by c.args.room) entries c.args.vsize found.0 ≡ false = sym (c.has_room_below.ensures found.0 (Contains-from_filter test entries found.0 found.1) found.2) ∙ c.if-not-has_room_below.true in
    sym (list_all_not (has_room_below (limits_by c.args.room) entries c.args.vsize) (filter test entries) found.0 found.1 fails)

pub loop-txid-preserved : goal.loop-txid-preserved
loop-txid-preserved g c = λ a m at.
    let entries = c.args.pool.now.entries in
    elim (Contains-take_more c.args.above.now c.loop-txid.txid-index c.txid-item.result (txid_of a.tx) c.loop-txid-test.true c.txid-item.is at) [
      | inl before ↦ c.loop-txid.invariant a m before
      | inr now ↦ sym (c.has_room_below.ensures a m (sym now)) ∙ c.if-not-has_room_below.false
    ]

pub returns : goal.returns
returns g c = λ test ids.
    let entries = c.args.pool.now.entries in
    let all : take c.loop-txid.txid-index c.args.above.now ≡ c.args.above.now = take_all c.loop-txid.txid-index c.args.above.now (omega (arith, c.loop-txid-test.false)) in
    sym (list_all_of (has_room_below (limits_by c.args.room) entries c.args.vsize) (filter test entries) (λ a m.
    c.loop-txid.invariant a (Contains-from_filter test entries a m) (subst (λ l. Contains l (txid_of a.tx)) (sym all) (ids.all a m))))
