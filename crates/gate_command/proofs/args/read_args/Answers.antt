use Rattle.std.proofs.Common.{◌∙◌, ap, ap₂, refl, Some, None}
use Rattle.clap.specs.Words.{is_simple, subcommand_of, takes}
use Rattle.gate_command.specs.Commands.{lanes_job, named_of}
use Rattle.gate_command.specs.declared.job.Job.TheVariants as jobs
use Rattle.gate_command.proofs.CommandLemmas.{answers_to, audit_job, check_job, former_job, lanes_job_of, out_of_memory, run_of}
use Rattle.gate_command.proofs.CommandWords.{audit_named, audit_taken, explain_named, explain_taken, former_named, former_taken, input_named, input_taken, lanes_named, lanes_taken, plain_named, plain_taken, rules_named, rules_taken, run_named, run_taken, settings_named, settings_taken}
use Rattle.gate_command.proofs.args.read_args.Goals as goal

pub returns-in-Ok-clause-run : goal.returns-in-Ok-clause-run
returns-in-Ok-clause-run c file explain strict plain h =
    let gate_is = c.in_ok-gate_command.ensures in
    let found = (c.in-Ok.ensures.matches (ap is_simple gate_is)).1 ∙ ap₂ subcommand_of gate_is h in
    answers_to _ _ (Some (jobs.Run explain strict file)) _ (ap named_of found ∙ run_named file explain strict plain) (run_of file explain strict) c.job_of.ensures

pub returns-in-Ok-clause-former : goal.returns-in-Ok-clause-former
returns-in-Ok-clause-former c workers explain plain h =
    let gate_is = c.in_ok-gate_command.ensures in
    let found = (c.in-Ok.ensures.matches (ap is_simple gate_is)).1 ∙ ap₂ subcommand_of gate_is h in
    answers_to _ _ None _ (ap named_of found ∙ former_named workers explain plain) (former_job workers explain) c.job_of.ensures

pub returns-in-Ok-clause-check : goal.returns-in-Ok-clause-check
returns-in-Ok-clause-check c digits plain h =
    let gate_is = c.in_ok-gate_command.ensures in
    let found = (c.in-Ok.ensures.matches (ap is_simple gate_is)).1 ∙ ap₂ subcommand_of gate_is h in
    answers_to _ _ (Some (jobs.Check digits)) _ (ap named_of found ∙ plain_named digits plain) (check_job digits plain) c.job_of.ensures

pub returns-in-Ok-clause-input : goal.returns-in-Ok-clause-input
returns-in-Ok-clause-input c h =
    let gate_is = c.in_ok-gate_command.ensures in
    let found = (c.in-Ok.ensures.matches (ap is_simple gate_is)).1 ∙ ap₂ subcommand_of gate_is h in
    answers_to _ _ (Some jobs.CheckInput) _ (ap named_of found ∙ input_named) refl c.job_of.ensures

pub returns-in-Ok-clause-lanes : goal.returns-in-Ok-clause-lanes
returns-in-Ok-clause-lanes c workers journal explain plain h =
    let gate_is = c.in_ok-gate_command.ensures in
    let found = (c.in-Ok.ensures.matches (ap is_simple gate_is)).1 ∙ ap₂ subcommand_of gate_is h in
    answers_to _ _ (lanes_job workers journal explain) _ (ap named_of found ∙ lanes_named workers journal explain plain) (lanes_job_of workers journal explain) c.job_of.ensures

pub returns-in-Ok-clause-audit : goal.returns-in-Ok-clause-audit
returns-in-Ok-clause-audit c explain h =
    let gate_is = c.in_ok-gate_command.ensures in
    let found = (c.in-Ok.ensures.matches (ap is_simple gate_is)).1 ∙ ap₂ subcommand_of gate_is h in
    answers_to _ _ (Some (jobs.Audit explain)) _ (ap named_of found ∙ audit_named explain) (audit_job explain) c.job_of.ensures

pub returns-in-Ok-clause-rules : goal.returns-in-Ok-clause-rules
returns-in-Ok-clause-rules c h =
    let gate_is = c.in_ok-gate_command.ensures in
    let found = (c.in-Ok.ensures.matches (ap is_simple gate_is)).1 ∙ ap₂ subcommand_of gate_is h in
    answers_to _ _ (Some jobs.Rules) _ (ap named_of found ∙ rules_named) refl c.job_of.ensures

pub returns-in-Ok-clause-settings : goal.returns-in-Ok-clause-settings
returns-in-Ok-clause-settings c h =
    let gate_is = c.in_ok-gate_command.ensures in
    let found = (c.in-Ok.ensures.matches (ap is_simple gate_is)).1 ∙ ap₂ subcommand_of gate_is h in
    answers_to _ _ (Some jobs.Settings) _ (ap named_of found ∙ settings_named) refl c.job_of.ensures

pub returns-in-Ok-clause-explain : goal.returns-in-Ok-clause-explain
returns-in-Ok-clause-explain c word plain h =
    let gate_is = c.in_ok-gate_command.ensures in
    let found = (c.in-Ok.ensures.matches (ap is_simple gate_is)).1 ∙ ap₂ subcommand_of gate_is h in
    answers_to _ _ (Some (jobs.Explain word)) _ (ap named_of found ∙ explain_named word plain) refl c.job_of.ensures

pub returns-in-Err-clause-run : goal.returns-in-Err-clause-run
returns-in-Err-clause-run c file explain strict plain h =
    out_of_memory (Some (jobs.Run explain strict file)) _ (c.fault_of.ensures (c.in-Err.ensures.passes (ap₂ takes c.in_ok-gate_command.ensures h ∙ run_taken file explain strict plain)))

pub returns-in-Err-clause-former : goal.returns-in-Err-clause-former
returns-in-Err-clause-former c workers explain plain h =
    out_of_memory None _ (c.fault_of.ensures (c.in-Err.ensures.passes (ap₂ takes c.in_ok-gate_command.ensures h ∙ former_taken workers explain plain)))

pub returns-in-Err-clause-check : goal.returns-in-Err-clause-check
returns-in-Err-clause-check c digits plain h =
    out_of_memory (Some (jobs.Check digits)) _ (c.fault_of.ensures (c.in-Err.ensures.passes (ap₂ takes c.in_ok-gate_command.ensures h ∙ plain_taken digits plain)))

pub returns-in-Err-clause-input : goal.returns-in-Err-clause-input
returns-in-Err-clause-input c h =
    out_of_memory (Some jobs.CheckInput) _ (c.fault_of.ensures (c.in-Err.ensures.passes (ap₂ takes c.in_ok-gate_command.ensures h ∙ input_taken)))

pub returns-in-Err-clause-lanes : goal.returns-in-Err-clause-lanes
returns-in-Err-clause-lanes c workers journal explain plain h =
    out_of_memory (lanes_job workers journal explain) _ (c.fault_of.ensures (c.in-Err.ensures.passes (ap₂ takes c.in_ok-gate_command.ensures h ∙ lanes_taken workers journal explain plain)))

pub returns-in-Err-clause-audit : goal.returns-in-Err-clause-audit
returns-in-Err-clause-audit c explain h =
    out_of_memory (Some (jobs.Audit explain)) _ (c.fault_of.ensures (c.in-Err.ensures.passes (ap₂ takes c.in_ok-gate_command.ensures h ∙ audit_taken explain)))

pub returns-in-Err-clause-rules : goal.returns-in-Err-clause-rules
returns-in-Err-clause-rules c h =
    out_of_memory (Some jobs.Rules) _ (c.fault_of.ensures (c.in-Err.ensures.passes (ap₂ takes c.in_ok-gate_command.ensures h ∙ rules_taken)))

pub returns-in-Err-clause-settings : goal.returns-in-Err-clause-settings
returns-in-Err-clause-settings c h =
    out_of_memory (Some jobs.Settings) _ (c.fault_of.ensures (c.in-Err.ensures.passes (ap₂ takes c.in_ok-gate_command.ensures h ∙ settings_taken)))

pub returns-in-Err-clause-explain : goal.returns-in-Err-clause-explain
returns-in-Err-clause-explain c word plain h =
    out_of_memory (Some (jobs.Explain word)) _ (c.fault_of.ensures (c.in-Err.ensures.passes (ap₂ takes c.in_ok-gate_command.ensures h ∙ explain_taken word plain)))
