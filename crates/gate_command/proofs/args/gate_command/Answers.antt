use Rattle.std.proofs.Common.{ap, ap₂, ◌≡◌, ◌∙◌}
use Rattle.std.proofs.lemmas.Result.{IfOk-weaker}
use Rattle.clap.specs.Words.{App, app_of, with_subcommand}
use Rattle.gate_command.specs.Commands.{audit_app, bare_app, check_app, explain_app, lanes_app, rules_app, run_app, settings_app, try_app}
use Rattle.gate_command.proofs.args.gate_command.Goals as goal

abbrev top : App → App → App
top above below = with_subcommand above below.top

pub returns : goal.returns
returns c =
    let try_is = c.in_ok-try_command.ensures in
    let one : app_of c.in_ok-subcommand.field-0 ≡ top bare_app try_app =
    c.in_ok-subcommand.ensures.shape try_is.1 ∙ ap₂ top c.in_ok-bare_command.ensures try_is.0 in
    let check_is = c.in_ok-check_command.ensures in
    let two : app_of c.in_ok-subcommand-2.field-0 ≡ top (top bare_app try_app) check_app =
    c.in_ok-subcommand-2.ensures.shape check_is.1 ∙ ap₂ top one check_is.0 in
    let run_is = c.in_ok-run_command.ensures in
    let three : app_of c.in_ok-subcommand-3.field-0 ≡ top (top (top bare_app try_app) check_app) run_app =
    c.in_ok-subcommand-3.ensures.shape run_is.1 ∙ ap₂ top two run_is.0 in
    let lanes_is = c.in_ok-lanes_command.ensures in
    let four : app_of c.in_ok-subcommand-4.field-0 ≡ top (top (top (top bare_app try_app) check_app) run_app) lanes_app =
    c.in_ok-subcommand-4.ensures.shape lanes_is.1 ∙ ap₂ top three lanes_is.0 in
    let audit_is = c.in_ok-audit_command.ensures in
    let five : app_of c.in_ok-subcommand-5.field-0 ≡ top (top (top (top (top bare_app try_app) check_app) run_app) lanes_app) audit_app =
    c.in_ok-subcommand-5.ensures.shape audit_is.1 ∙ ap₂ top four audit_is.0 in
    let rules_is = c.rules_command.ensures in
    let six : app_of c.in_ok-subcommand-6.field-0 ≡ top (top (top (top (top (top bare_app try_app) check_app) run_app) lanes_app) audit_app) rules_app =
    c.in_ok-subcommand-6.ensures.shape rules_is.1 ∙ ap₂ top five rules_is.0 in
    let settings_is = c.settings_command.ensures in
    let seven : app_of c.in_ok-subcommand-7.field-0 ≡ top (top (top (top (top (top (top bare_app try_app) check_app) run_app) lanes_app) audit_app) rules_app) settings_app =
    c.in_ok-subcommand-7.ensures.shape settings_is.1 ∙ ap₂ top six settings_is.0 in
    let explain_is = c.in_ok-explain_command.ensures in
    IfOk-weaker c.subcommand-8.result _ _ (λ r added. added.shape explain_is.1 ∙ ap₂ top seven explain_is.0) c.subcommand-8.ensures
