use Rattle.std.proofs.Common.{◌≡◌, ◌≤◌, ◌*◌, ◌^◌, take}
use Rattle.std.specs.Prelude.{sum_by}
use Rattle.gate_inputs.specs.declared.Answers.{Answers}
use Rattle.gate_admit.proofs.reporting.legacy_sigops.Given as goal

abbrev pub invariant-loop-answer : goal.invariant-loop-answer
invariant-loop-answer l =
    (l.count ≡ sum_by (λ (a : Answers). a.legacy_sigops) (take l.answer-index l.answers)) × (l.count ≤ l.answer-index * 2 ^ 64)
