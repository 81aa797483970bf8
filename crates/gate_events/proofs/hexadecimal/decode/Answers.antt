use Rattle.std.proofs.Common.{arith, ◌+◌, ◌*◌, ◌%◌, ◌∙◌}
use Rattle.std.proofs.lemmas.List.{length-set}
use Rattle.hex.proofs.Pairs.{decode_done}
use Rattle.gate_events.proofs.Digits.{greatest_of, max_is, step, whole_pairs}
use Rattle.gate_events.proofs.hexadecimal.decode.Goals as goal

pub bytes-preserved : goal.bytes-preserved
bytes-preserved c = (
  length-set c.bytes.bytes.items c.bytes.i (c.digit-high.result % 16 * 16 + c.digit-low.result % 16) ∙ c.bytes.invariant.0,
  step c.args.text.now c.bytes.bytes.items c.bytes.i c.digit-high.result c.digit-low.result c.bytes.greatest c.max-greatest.result
      (omega (arith, c.in_ok-bytes.ensures.len)) (omega (arith, c.in_ok-bytes.ensures.len))
      (c.digit-high.ensures.value, c.digit-high.ensures.none) (c.digit-low.ensures.value, c.digit-low.ensures.none)
      (greatest_of c.bytes.greatest c.digit-high.result c.digit-low.result c.max.result c.max-greatest.result (max_is _ _ _ c.max.ensures) c.max-greatest.ensures) c.bytes.invariant.1,
)

pub returns-then-greatest-lt16 : goal.returns-then-greatest-lt16
returns-then-greatest-lt16 c =
    whole_pairs c.args.text.now c.if-text-ne0.false
    ∙ decode_done c.args.text.now c.bytes.bytes.items c.bytes.i (omega (arith, c.in_ok-bytes.ensures.len)) (omega (arith, c.in_ok-bytes.ensures.len)) (c.bytes.invariant.1.0 c.if-greatest-lt16.true)
