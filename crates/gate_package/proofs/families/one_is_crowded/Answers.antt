use Rattle.std.proofs.Common.{◌≡◌, ◌∙◌, sym, subst, take, inl, inr, arith}
use Rattle.std.specs.Prelude.{Contains, filter}
use Rattle.std.proofs.lemmas.Bool.{true≢false, false_from_ne_true}
use Rattle.std.proofs.lemmas.List.{take_all}
use Rattle.gate_bytes.proofs.Members.{any_is, list_any_of}
use Rattle.gate_tx.specs.Ids.{txid_of}
use Rattle.gate_pool.proofs.Points.{Contains-take_more}
use Rattle.gate_pool.proofs.Walking.{Contains-from_filter}
use Rattle.gate_package.specs.Together.{is_crowded}
use Rattle.gate_package.proofs.families.one_is_crowded.Goals as goal

pub returns-then-is_crowded : goal.returns-then-is_crowded
returns-then-is_crowded g c = λ test ids.
    let entries = c.args.pool.now.entries in
    let asked : Contains c.args.above.now c.txid-item.result = (c.loop-txid.txid-index, c.loop-txid-test.true, sym c.txid-item.is) in
    let found = ids.only c.txid-item.result asked in
    sym (list_any_of (is_crowded c.args.limits c.args.pool.now.entries c.args.count c.args.vsize) (filter test entries) found.0 found.1
    (sym (c.is_crowded.ensures found.0 (Contains-from_filter test entries found.0 found.1) found.2) ∙ c.if-is_crowded.true))

pub loop-txid-preserved : goal.loop-txid-preserved
loop-txid-preserved g c = λ a m at.
    elim (Contains-take_more c.args.above.now c.loop-txid.txid-index c.txid-item.result (txid_of a.tx) c.loop-txid-test.true c.txid-item.is at) [
      | inl before ↦ c.loop-txid.invariant a m before
      | inr now ↦ sym (c.is_crowded.ensures a m (sym now)) ∙ c.if-is_crowded.false
    ]

pub returns : goal.returns
returns g c = λ test ids.
    let entries = c.args.pool.now.entries in
    let all : take c.loop-txid.txid-index c.args.above.now ≡ c.args.above.now = take_all c.loop-txid.txid-index c.args.above.now (omega (arith, c.loop-txid-test.false)) in
    sym (false_from_ne_true _ (λ t.
    let w = any_is (is_crowded c.args.limits c.args.pool.now.entries c.args.count c.args.vsize) (filter test entries) t in
    true≢false (sym w.2 ∙ c.loop-txid.invariant w.0 (Contains-from_filter test entries w.0 w.1) (subst (λ l. Contains l (txid_of w.0.tx)) (sym all) (ids.all w.0 w.1)))))
