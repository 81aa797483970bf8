use Rattle.std.proofs.Common.{◌≡◌, ◌∙◌, [], Some, ap, false, sym}
use Rattle.gate_script.specs.declared.templates.Template.TheVariants.{ScriptHash}
use Rattle.gate_inputs.specs.Internal.{answers_by}
use Rattle.gate_inputs.specs.Reports.{is_pay_to_script_hash, redeem_of}
use Rattle.gate_inputs.proofs.Forms.{answers_of-script_hash, answers_of-direct, is_pay_to_script_hash-other}
use Rattle.gate_inputs.proofs.judging.answers.Goals as goal

pub returns-in_default : goal.returns-in_default
returns-in_default c =
    let is = sym c.template-form.ensures in
    let other : is_pay_to_script_hash c.template-form.result ≡ false = is_pay_to_script_hash-other c.template-form.result c.in_default.not-ScriptHash in
    c.direct.ensures ∙ sym (answers_of-direct c.template-form.result c.args.input.now c.args.script.now is other)

pub returns-in-Some : goal.returns-in-Some
returns-in-Some c =
    let is = sym c.template-form.ensures ∙ c.in-ScriptHash.is in
    let redeem = ap Some c.as_slice-in-Some.ensures ∙ sym c.in-Some.is ∙ c.in_ok-redeem-in-ScriptHash.ensures ∙ ap redeem_of c.as_slice.ensures in
    c.under_script_hash.ensures ∙ ap (λ r. answers_by ScriptHash c.args.input.now r []) redeem ∙ sym (answers_of-script_hash c.args.input.now c.args.script.now is)

pub returns-in-None : goal.returns-in-None
returns-in-None c =
    let is = sym c.template-form.ensures ∙ c.in-ScriptHash.is in
    let redeem = sym c.in-None.is ∙ c.in_ok-redeem-in-ScriptHash.ensures ∙ ap redeem_of c.as_slice.ensures in
    c.without_redeem_script.ensures ∙ ap (λ r. answers_by ScriptHash c.args.input.now r []) redeem ∙ sym (answers_of-script_hash c.args.input.now c.args.script.now is)
