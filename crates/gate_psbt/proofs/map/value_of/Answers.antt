use Rattle.std.proofs.Common.{◌≡◌, ◌∙◌, true, false, sym, ap}
use Rattle.gate_psbt.specs.Maps.{is_key, value_of}
use Rattle.gate_psbt.proofs.Steps.{value_here, value_lacks, value_past}
use Rattle.gate_psbt.proofs.map.value_of.Goals as goal

pub returns-then-is_key : goal.returns-then-is_key
returns-then-is_key c =
    let is : is_key c.args.kind c.pair-item.result.0 ≡ true = ap (is_key c.args.kind) (sym c.key.ensures) ∙ (sym c.is_key.ensures ∙ c.if-is_key.true) in
    rw c.value.ensures (value_here c.args.kind c.args.pairs.now c.loop-pair.pair-index (value_of c.args.kind c.args.pairs.now) c.pair-item.result c.loop-pair-test.true c.pair-item.is is c.loop-pair.invariant)

pub loop-pair-preserved : goal.loop-pair-preserved
loop-pair-preserved c =
    let is : is_key c.args.kind c.pair-item.result.0 ≡ false = ap (is_key c.args.kind) (sym c.key.ensures) ∙ (sym c.is_key.ensures ∙ c.if-is_key.false) in
    value_past c.args.kind c.args.pairs.now c.loop-pair.pair-index (value_of c.args.kind c.args.pairs.now) c.pair-item.result c.loop-pair-test.true c.pair-item.is is c.loop-pair.invariant

pub returns : goal.returns
returns c = value_lacks c.args.kind c.args.pairs.now c.loop-pair.pair-index (value_of c.args.kind c.args.pairs.now) c.loop-pair-test.false c.loop-pair.invariant
