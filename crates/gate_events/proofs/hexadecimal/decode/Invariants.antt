use Rattle.std.proofs.Common.{◌≡◌, ◌/◌, length}
use Rattle.gate_events.proofs.Digits.{SoFar}
use Rattle.gate_events.proofs.hexadecimal.decode.Given as goal

abbrev pub invariant-bytes : goal.invariant-bytes
invariant-bytes l = (length l.bytes.items ≡ length l.fn.text / 2) × SoFar l.fn.text l.bytes.items l.i l.greatest
