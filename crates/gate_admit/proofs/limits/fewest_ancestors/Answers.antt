use Rattle.std.proofs.Common.{◌≡◌, length, max, sym, ap, subst, take, inl, inr, arith}
use Rattle.std.specs.Prelude.{Contains}
use Rattle.std.proofs.lemmas.List.{take_all}
use Rattle.gate_tx.specs.declared.TxIn.{TxIn}
use Rattle.gate_pool.specs.Family.{ancestors_of}
use Rattle.gate_pool.proofs.Points.{Contains-take_more}
use Rattle.gate_admit.proofs.Parents.{above_one, above_none, greater_is}
use Rattle.gate_admit.proofs.limits.fewest_ancestors.Goals as goal

pub loop-input-init : goal.loop-input-init
loop-input-init g c = record { least = omega arith; each = λ i m. absurd (omega (arith, m.1)) }

pub loop-input-preserved : goal.loop-input-preserved
loop-input-preserved g c =
    let entries = c.args.pool.now.entries in
    let inputs = c.args.inputs.now in
    let one = above_one entries inputs c.input-item.result (c.loop-input.input-index, c.loop-input-test.true, sym c.input-item.is) in
    let greater : c.max-fewest.result ≡ max c.loop-input.fewest c.count_above.result = greater_is _ _ _ c.max-fewest.ensures in
    record {
      least = omega (arith, c.loop-input.invariant.least, one, c.count_above.ensures, greater);
      each = λ i m.
          elim (Contains-take_more inputs c.loop-input.input-index c.input-item.result i c.loop-input-test.true c.input-item.is m) [
            | inl before ↦ omega (arith, c.loop-input.invariant.each i before, greater)
            | inr now ↦ omega (arith, ap (λ (j : TxIn). length (ancestors_of entries j.prevout.txid)) now, c.count_above.ensures, greater)
          ];
    }

pub returns-clause-none : goal.returns-clause-none
returns-clause-none g c = λ zero.
    let entries = c.args.pool.now.entries in
    let inputs = c.args.inputs.now in
    let all : take c.loop-input.input-index inputs ≡ inputs = take_all c.loop-input.input-index inputs (omega (arith, c.loop-input-test.false)) in
    above_none entries inputs (λ i m. omega (arith, zero, c.loop-input.invariant.each i (subst (λ l. Contains l i) (sym all) m)))
