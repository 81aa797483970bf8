use Rattle.std.proofs.Common.{true, ap, codes, ◌≡◌, ◌∙◌}
use Rattle.std.proofs.lemmas.Result.{IfOk-weaker}
use Rattle.clap.specs.Simple.{app_of_fields, on_top}
use Rattle.clap.specs.Words.{App, app_of, new_app}
use Rattle.gate_command.specs.Commands.{bare_app, with_commands}
use Rattle.gate_command.proofs.args.bare_command.Goals as goal

pub returns : goal.returns
returns c =
    let gate_named : app_of c.after_help.result ≡ new_app (codes "gate") = ap app_of_fields c.after_help.ensures ∙ ap app_of_fields c.about.ensures ∙ c.new.ensures.app in
    let words_begin : app_of c.no_binary_name.result ≡ on_top (λ s. record s { has_version = true; no_binary_name = true }) (new_app (codes "gate")) =
    ap app_of_fields c.no_binary_name.ensures ∙ ap (on_top (λ s. record s { no_binary_name = true })) (ap app_of_fields c.version.ensures ∙ ap (on_top (λ s. record s { has_version = true })) gate_named) in
    let top_is : app_of c.subcommand_required.result ≡ bare_app =
    ap app_of_fields c.subcommand_required.ensures ∙ ap (on_top (λ s. record s { subcommand_required = true })) words_begin in
    IfOk-weaker c.bin_name.result _ _ (λ r named. ap app_of_fields named.0 ∙ top_is) c.bin_name.ensures
