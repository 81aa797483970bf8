use Rattle.std.proofs.Common.{◌≡◌, take}
use Rattle.std.specs.List.{filter}
use Rattle.gate_psbt.specs.Encoding.{is_ink}
use Rattle.gate_psbt.proofs.encoding.without_space.Given as goal

abbrev pub invariant-loop-byte : goal.invariant-loop-byte
invariant-loop-byte l = l.ink.items ≡ filter is_ink (take l.byte-index l.text)
