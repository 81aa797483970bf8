use Rattle.gate_report.proofs.SettingsTold.{settings_printed, settings_stopped}
use Rattle.gate_report.proofs.settings_job.run_settings.Goals as goal

pub returns-clause-done : goal.returns-clause-done
returns-clause-done g c = settings_printed _ c.rows.ensures _ _ _ c.print_rows.ensures.done

pub returns-clause-stopped : goal.returns-clause-stopped
returns-clause-stopped g c = settings_stopped _ c.rows.ensures _ _ _ c.print_rows.ensures.stopped
