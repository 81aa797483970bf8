use Rattle.std.proofs.Common.{◌≡◌, ◌-◌, arith}
use Rattle.std.proofs.lemmas.Str.{IsCharBoundary-after_ascii}
use Rattle.gate_lines.proofs.NumberParts.{parted_at, unparted, space_is}
use Rattle.gate_lines.proofs.word.next_word.Goals as goal

pub returns-in_err-space : goal.returns-in_err-space
returns-in_err-space c =
    let none = rw c.as_bytes.ensures.value at c.in_err-space.ensures in
    rw c.from_residual.ensures (unparted c.args.line.now none)

pub range_from-requires : goal.range_from-requires
range_from-requires c =
    let first = rw c.as_bytes.ensures.value at c.in_ok-space.ensures in
    λ some. IsCharBoundary-after_ascii c.args.line.now c.in_ok-space.space c.utf8.line first.0.high (omega (arith, space_is _ first.1))

pub returns : goal.returns
returns c =
    let first = rw c.as_bytes.ensures.value at c.in_ok-space.ensures in
    let whole : c.in_ok-space.space - 0 ≡ c.in_ok-space.space = omega arith in
    rw (c.range.ensures.value, c.range_from.ensures.value, whole) (parted_at c.args.line.now c.in_ok-space.space first)
