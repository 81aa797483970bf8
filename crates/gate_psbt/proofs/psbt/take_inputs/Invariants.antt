use Rattle.std.proofs.Common.{[], ◌≡◌, drop}
use Rattle.gate_psbt.specs.Psbts.{inputs_at}
use Rattle.gate_psbt.proofs.psbt.take_inputs.Given as goal

abbrev pub invariant-loop-input : goal.invariant-loop-input
invariant-loop-input l =
    (l.place ≡ l.input-index) × (inputs_at l.place l.all.items (drop l.input-index l.inputs) l.cursor ≡ inputs_at 0 [] l.inputs l.initial.cursor)
