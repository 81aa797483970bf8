use Rattle.std.proofs.Common.{◌≡◌, ◌-◌, length, rules}
use Rattle.gate_check.specs.Inputs.{input_limit}
use Rattle.gate_check.proofs.InputParts.{line_within, long_within}
use Rattle.gate_check.proofs.input.read_input.Goals as goal

pub returns-then-len-eq-MAX_INPUT-clause-within : goal.returns-then-len-eq-MAX_INPUT-clause-within
returns-then-len-eq-MAX_INPUT-clause-within g c =
    let left : input_limit - c.len-room.result ≡ input_limit - length c.loop-input.input.items = search rules in
    line_within _ (g.R.Read.remaining c.loop-input.reader) _ c.loop-input.input.items _ _ c.loop-input.invariant left (rw c.in-Newline.is at c.in_ok-take_part.ensures.taken)

pub returns-in_err-push-in-Newline-clause-within : goal.returns-in_err-push-in-Newline-clause-within
returns-in_err-push-in-Newline-clause-within g c =
    let left : input_limit - c.len-room.result ≡ input_limit - length c.loop-input.input.items = search rules in
    line_within _ (g.R.Read.remaining c.loop-input.reader) _ c.loop-input.input.items _ _ c.loop-input.invariant left (rw c.in-Newline.is at c.in_ok-take_part.ensures.taken)

pub returns-in-TooLong-clause-within : goal.returns-in-TooLong-clause-within
returns-in-TooLong-clause-within g c =
    let left : input_limit - c.len-room.result ≡ input_limit - length c.loop-input.input.items = search rules in
    long_within _ (g.R.Read.remaining c.loop-input.reader) _ c.loop-input.input.items _ _ c.loop-input.invariant left (rw c.in-TooLong.is at c.in_ok-take_part.ensures.taken)
