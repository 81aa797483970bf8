use Rattle.std.proofs.Common.{◌∙◌, ap, codes}
use Rattle.std.proofs.lemmas.Result.{IfOk-weaker}
use Rattle.clap.specs.Simple.{app_of_fields}
use Rattle.clap.specs.Words.{new_app}
use Rattle.clap.specs.declared.builder.command.Command.{Command}
use Rattle.clap.specs.declared.builder.command.Command.TheOpen.{Command-F}
use Rattle.gate_command.specs.Commands.{IsCommandOf}
use Rattle.gate_command.proofs.CommandLemmas.{one_more}
use Rattle.gate_command.proofs.args.try_command.Goals as goal

pub returns : goal.returns
returns c =
    let bare : IsCommandOf (new_app (codes "try")) c.after_help.result = (
      ap app_of_fields c.after_help.ensures ∙ ap app_of_fields c.about.ensures ∙ c.new.ensures.app,
      ap (λ (f : Command-F Command). f.has_globals) c.after_help.ensures ∙ ap (λ (f : Command-F Command). f.has_globals) c.about.ensures ∙ c.new.ensures.local,
    ) in
    let one = one_more _ _ _ _ _ bare c.try_word.ensures c.in_ok-arg.ensures in
    let two = one_more _ _ _ _ _ one c.try_option.ensures c.in_ok-arg-2.ensures in
    let three = one_more _ _ _ _ _ two c.try_option-2.ensures c.in_ok-arg-3.ensures in
    let four = one_more _ _ _ _ _ three c.try_option-3.ensures c.in_ok-arg-4.ensures in
    let five = one_more _ _ _ _ _ four c.try_option-4.ensures c.in_ok-arg-5.ensures in
    let six = one_more _ _ _ _ _ five c.try_option-5.ensures c.in_ok-arg-6.ensures in
    let seven = one_more _ _ _ _ _ six c.try_option-6.ensures c.in_ok-arg-7.ensures in
    let eight = one_more _ _ _ _ _ seven c.try_option-7.ensures c.in_ok-arg-8.ensures in
    let nine = one_more _ _ _ _ _ eight c.try_option-8.ensures c.in_ok-arg-9.ensures in
    IfOk-weaker c.arg-10.result _ _ (λ r added. one_more _ r _ _ _ nine c.json_switch.ensures added) c.arg-10.ensures
