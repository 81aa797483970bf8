use Rattle.std.proofs.Common.{ap, ◌∙◌}
use Rattle.gate_inputs.specs.declared.answer.Answers.{Answers}
use Rattle.gate_inputs.specs.declared.piece.Piece.{Piece}
use Rattle.gate_inputs.specs.Answers.{answers_of}
use Rattle.gate_inputs.proofs.reporting.InputReport.sigop_cost.Goals as goal

pub returns : goal.returns
unfolding answers_of
returns c = ap (λ (a : Answers). a.sigop_cost) c.self.invariant ∙ ap (λ (p : Piece). (answers_of p.input p.coin.script).sigop_cost) c.self.view_is
