use Rattle.std.proofs.Common.{◌∙◌, None, Some, refl, sym}
use Rattle.gate_inputs.specs.Internal.{answers_by}
use Rattle.gate_inputs.proofs.Forms.{same_answers, program_by-direct, locking-direct, cost-capped, legacy-capped, allows-same, bare-is}
use Rattle.gate_inputs.proofs.judging.direct.Goals as goal

pub returns : goal.returns
unfolding answers_by
returns c =
    let program = c.witness_program-program.ensures ∙ sym (program_by-direct c.args.form c.args.script.now c.requires) in
    same_answers c.is_relayed.ensures (c.allows_witness.ensures ∙ allows-same c.args.form refl program) (c.cost.ensures ∙ cost-capped c.args.input.now None 0 refl program) c.is_anchor.ensures
    (bare-is c.args.input.now.witness c.is_empty-bare.result c.is_empty-bare.ensures.0 c.is_empty-bare.ensures.1)
    (c.legacy_sigops.ensures ∙ legacy-capped c.args.input.now.script {locking = Some c.args.script.now} c.sigops-operations.result c.sigops-operations.ensures.exact (sym (locking-direct c.args.form c.args.script.now c.requires)))
