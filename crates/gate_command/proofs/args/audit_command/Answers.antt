use Rattle.std.proofs.Common.{◌∙◌, ap, codes}
use Rattle.std.proofs.lemmas.Result.{IfOk-weaker}
use Rattle.clap.specs.Simple.{app_of_fields}
use Rattle.clap.specs.Words.{new_app}
use Rattle.clap.specs.declared.builder.command.Command.{Command}
use Rattle.clap.specs.declared.builder.command.Command.TheOpen.{Command-F}
use Rattle.gate_command.specs.Commands.{IsCommandOf}
use Rattle.gate_command.proofs.CommandLemmas.{one_more}
use Rattle.gate_command.proofs.args.audit_command.Goals as goal

pub returns : goal.returns
returns c =
    let bare : IsCommandOf (new_app (codes "audit")) c.after_help.result = (
      ap app_of_fields c.after_help.ensures ∙ ap app_of_fields c.about.ensures ∙ c.new.ensures.app,
      ap (λ (f : Command-F Command). f.has_globals) c.after_help.ensures ∙ ap (λ (f : Command-F Command). f.has_globals) c.about.ensures ∙ c.new.ensures.local,
    ) in
    let one = one_more _ _ _ _ _ bare c.explain_switch.ensures c.in_ok-arg.ensures in
    IfOk-weaker c.arg-2.result _ _ (λ r added. one_more _ r _ _ _ one c.explain_json_switch.ensures added) c.arg-2.ensures
