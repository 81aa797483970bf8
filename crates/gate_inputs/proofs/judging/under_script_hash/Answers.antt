use Rattle.std.proofs.Common.{◌∙◌, true, Some, refl}
use Rattle.gate_script.specs.Sigops.{sigops_of}
use Rattle.gate_script.specs.declared.templates.Template.TheVariants.{ScriptHash}
use Rattle.gate_inputs.specs.Internal.{answers_by}
use Rattle.gate_inputs.proofs.Forms.{same_answers, leb-capped, cost-capped, legacy-capped, allows-same, bare-is}
use Rattle.gate_inputs.proofs.judging.under_script_hash.Goals as goal

pub returns : goal.returns
unfolding answers_by
returns c =
    let program = c.witness_program-program.ensures in
    let light = leb-capped (sigops_of true c.args.redeem.now) c.sigops-operations.result c.sigops-operations.ensures.exact in
    same_answers light (c.allows_witness.ensures ∙ allows-same ScriptHash refl program) (c.cost.ensures ∙ cost-capped c.args.input.now (Some c.args.redeem.now) c.sigops-operations.result c.sigops-operations.ensures.exact program) refl
    (bare-is c.args.input.now.witness c.is_empty-bare.result c.is_empty-bare.ensures.0 c.is_empty-bare.ensures.1)
    (c.legacy_sigops.ensures ∙ legacy-capped c.args.input.now.script {locking = Some c.args.redeem.now} c.sigops-operations.result c.sigops-operations.ensures.exact refl)
