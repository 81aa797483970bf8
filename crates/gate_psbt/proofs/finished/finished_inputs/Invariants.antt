use Rattle.std.proofs.Common.{[], ◌≡◌, drop}
use Rattle.gate_psbt.specs.Finished.{finished_at}
use Rattle.gate_psbt.proofs.finished.finished_inputs.Given as goal

abbrev pub invariant-loop-input : goal.invariant-loop-input
invariant-loop-input l =
    (l.place ≡ l.input-index) × (finished_at l.place l.all.items (drop l.place l.inputs) (drop l.place l.said) ≡ finished_at 0 [] l.inputs l.said)
