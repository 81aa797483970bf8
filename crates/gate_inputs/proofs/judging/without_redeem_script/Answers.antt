use Rattle.std.proofs.Common.{◌∙◌, None, refl}
use Rattle.gate_script.specs.declared.templates.Template.TheVariants.{ScriptHash}
use Rattle.gate_inputs.specs.Internal.{answers_by}
use Rattle.gate_inputs.proofs.Forms.{same_answers, cost-capped, legacy-capped, allows-none, bare-is}
use Rattle.gate_inputs.proofs.judging.without_redeem_script.Goals as goal

pub returns : goal.returns
unfolding answers_by
returns c =
    same_answers refl (allows-none ScriptHash c.args.input.now.witness c.is_empty-bare.result c.is_empty-bare.ensures.0 c.is_empty-bare.ensures.1) (c.cost.ensures ∙ cost-capped c.args.input.now None {p = None} {p' = None} 0 refl refl) refl
    (bare-is c.args.input.now.witness c.is_empty-bare.result c.is_empty-bare.ensures.0 c.is_empty-bare.ensures.1)
    (c.legacy_sigops.ensures ∙ legacy-capped c.args.input.now.script {locking = None} 0 refl refl)
