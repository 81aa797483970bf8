-- The rows of all settings were printed, or not whole.
use Rattle.std.proofs.Common.{◌≡◌, ℕ, List, map, Option, Result, Ok, Err, IfOk, IfErr}
use Rattle.gate_lines.specs.declared.fault.LaneFault.{LaneFault}
use Rattle.gate_lines.specs.declared.fault.LaneFault.TheVariants as lane
use Rattle.gate_report.specs.SettingsTold.{SettingsPrinted, SettingsStopped, TheseRowsPrinted, TheseRowsStopped}
use Rattle.gate_register.specs.Texts.{key_of, keys}
use Rattle.gate_register.specs.declared.Row.{Row}

pub settings_printed : (rows : List Row) → map key_of rows ≡ keys → (before after : Option (List ℕ)) (result : Result ℕ LaneFault)
    → IfOk result (λ status. TheseRowsPrinted rows before after status) → IfOk result (λ status. SettingsPrinted before after status)
settings_printed rows e before after (Ok status) h = (rows, e, h)
settings_printed rows e before after (Err fault) h = tt

pub settings_stopped : (rows : List Row) → map key_of rows ≡ keys → (before after : Option (List ℕ)) (result : Result ℕ LaneFault)
    → IfErr result (λ fault. TheseRowsStopped rows before after fault) → IfErr result (λ fault. SettingsStopped before after fault)
settings_stopped rows e before after (Ok status) h = tt
settings_stopped rows e before after (Err lane.Read) h = h
settings_stopped rows e before after (Err lane.Write) h = (rows, e, h)
settings_stopped rows e before after (Err lane.Memory) h = h
