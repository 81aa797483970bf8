use Rattle.std.proofs.Common.{◌≡◌, take, map}
use Rattle.gate_rpc.proofs.entry.words_in.Given as goal

abbrev pub invariant-loop-part : goal.invariant-loop-part
invariant-loop-part l = l.words.items ≡ map (λ part. part.now) (take l.part-index l.part-items)
