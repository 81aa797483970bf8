use Rattle.std.proofs.Common.{◌≡◌, false, ◌∙◌, sym, ap, subst, take, inl, inr, arith}
use Rattle.std.specs.Prelude.{Contains, filter}
use Rattle.std.proofs.lemmas.List.{take_all}
use Rattle.gate_tx.specs.Ids.{txid_of}
use Rattle.gate_pool.proofs.Points.{Contains-take_more}
use Rattle.gate_pool.proofs.Walking.{Contains-from_filter}
use Rattle.gate_admit.specs.Limits.{is_limited}
use Rattle.gate_admit.proofs.Families.{list_all_of, list_all_not}
use Rattle.gate_admit.proofs.again.all_limited.Goals as goal

pub is_limited-requires : goal.is_limited-requires
is_limited-requires g c = c.requires.only c.txid-item.result (c.loop-txid.txid-index, c.loop-txid-test.true, sym c.txid-item.is)

pub returns-then-not-branch : goal.returns-then-not-branch
returns-then-not-branch g c = λ test ids.
    let entries = g.V.FamilyView.entries c.args.pool.now in
    let asked : Contains c.args.txids.now c.txid-item.result = (c.loop-txid.txid-index, c.loop-txid-test.true, sym c.txid-item.is) in
    let found = ids.only c.txid-item.result asked in
    let fails : is_limited c.args.policy.now entries (txid_of found.0.tx) ≡ false = ap (is_limited c.args.policy.now entries) found.2 ∙ sym c.in_ok-is_limited.ensures ∙ c.if-not-branch.true in
    sym (list_all_not (λ e. is_limited c.args.policy.now entries (txid_of e.tx)) (filter test entries) found.0 found.1 fails)

pub loop-txid-preserved : goal.loop-txid-preserved
loop-txid-preserved g c = λ a m at.
    let entries = g.V.FamilyView.entries c.args.pool.now in
    elim (Contains-take_more c.args.txids.now c.loop-txid.txid-index c.txid-item.result (txid_of a.tx) c.loop-txid-test.true c.txid-item.is at) [
      | inl before ↦ c.loop-txid.invariant a m before
      | inr now ↦ ap (is_limited c.args.policy.now entries) (sym now) ∙ sym c.in_ok-is_limited.ensures ∙ c.if-not-branch.false
    ]

pub returns : goal.returns
returns g c = λ test ids.
    let entries = g.V.FamilyView.entries c.args.pool.now in
    let all : take c.loop-txid.txid-index c.args.txids.now ≡ c.args.txids.now = take_all c.loop-txid.txid-index c.args.txids.now (omega (arith, c.loop-txid-test.false)) in
    sym (list_all_of (λ e. is_limited c.args.policy.now entries (txid_of e.tx)) (filter test entries) (λ a m.
    c.loop-txid.invariant a (Contains-from_filter test entries a m) (subst (λ l. Contains l (txid_of a.tx)) (sym all) (ids.all a m))))
