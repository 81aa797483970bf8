use Rattle.std.proofs.Common.{◌≡◌, true, sym, subst, take, inl, inr, arith, true≢false}
use Rattle.std.specs.Prelude.{Contains}
use Rattle.std.proofs.lemmas.List.{take_all}
use Rattle.gate_tx.specs.declared.TxIn.{TxIn}
use Rattle.gate_graph.specs.Family.{reaches}
use Rattle.gate_bytes.proofs.Members.{not_in_none}
use Rattle.gate_pool.specs.Family.{steps}
use Rattle.gate_pool.specs.Search.{IsEntry}
use Rattle.gate_pool.proofs.Points.{Contains-take_more}
use Rattle.gate_admit.proofs.again.adds_no_chain.Goals as goal

pub loop-input-init : goal.loop-input-init
loop-input-init g c = λ i at entry txid m. not_in_none i at

pub loop-input-preserved : goal.loop-input-preserved
loop-input-preserved g c = λ i at entry txid m.
    let entries = c.args.pool.now.entries in
    elim (Contains-take_more c.args.inputs.now c.loop-input.input-index c.input-item.result i c.loop-input-test.true c.input-item.is at) [
      | inl before ↦ c.loop-input.invariant i before entry txid m
      | inr now ↦
          subst (λ (z : TxIn). reaches (steps entries) z.prevout.txid txid ≡ true) now
          (c.in_ok-is_above_all.ensures c.if-not-branch.false (subst (λ (z : TxIn). IsEntry entries z.prevout.txid) (sym now) entry) txid m)
    ]

pub returns-then-not-branch : goal.returns-then-not-branch
returns-then-not-branch g c = λ t i m entry txid k. absurd (true≢false (sym t))

pub returns : goal.returns
returns g c = λ t i m entry txid k.
    let all : take c.loop-input.input-index c.args.inputs.now ≡ c.args.inputs.now = take_all c.loop-input.input-index c.args.inputs.now (omega (arith, c.loop-input-test.false)) in
    c.loop-input.invariant i (subst (λ l. Contains l i) (sym all) m) entry txid k
