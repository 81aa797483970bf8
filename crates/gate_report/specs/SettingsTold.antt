-- What is printed of the settings.
use Rattle.std.specs.Prelude.{◌≡◌, ℕ, List, [], ◌∷◌, map, Option}
use Rattle.std.specs.Io.KnownBytes.{Appends}
use Rattle.gate_lines.specs.declared.fault.LaneFault.{LaneFault}
use Rattle.gate_lines.specs.declared.fault.LaneFault.TheVariants as lane
use Rattle.gate_print.specs.Printing.{PartSent}
use Rattle.gate_register.specs.Texts.{key_of, keys, rows_text}
use Rattle.gate_register.specs.declared.Row.{Row}

-- the lines of these rows were printed
abbrev pub TheseRowsPrinted : List Row → Option (List ℕ) → Option (List ℕ) → ℕ → Type 0
TheseRowsPrinted rows before after status = Appends before after (rows_text rows) × (status ≡ 0)

abbrev pub TheseRowsStopped : List Row → Option (List ℕ) → Option (List ℕ) → LaneFault → Type 0
TheseRowsStopped rows before after lane.Read = ⊥
TheseRowsStopped rows before after lane.Write = PartSent before after (rows_text rows)
TheseRowsStopped rows before after lane.Memory = Appends before after []

-- the rows of all settings were printed, in their order
abbrev pub SettingsPrinted : Option (List ℕ) → Option (List ℕ) → ℕ → Type 0
SettingsPrinted before after status = (rows : List Row) × (map key_of rows ≡ keys) × TheseRowsPrinted rows before after status

-- printing them stopped: nothing was written if memory ran out
abbrev pub SettingsStopped : Option (List ℕ) → Option (List ℕ) → LaneFault → Type 0
SettingsStopped before after lane.Read = ⊥
SettingsStopped before after lane.Write = (rows : List Row) × (map key_of rows ≡ keys) × PartSent before after (rows_text rows)
SettingsStopped before after lane.Memory = Appends before after []
