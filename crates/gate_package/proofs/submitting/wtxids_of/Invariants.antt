use Rattle.std.proofs.Common.{◌≡◌, take, map}
use Rattle.gate_tx.specs.Ids.{wtxid_of}
use Rattle.gate_package.proofs.submitting.wtxids_of.Given as goal

abbrev pub invariant-loop-candidate : goal.invariant-loop-candidate
invariant-loop-candidate l = l.wtxids.items ≡ map wtxid_of (take l.candidate-index l.these)
