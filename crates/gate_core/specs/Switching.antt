-- What the operator turns on and off.
use Rattle.std.specs.Prelude.{Bool, false}
use Rattle.gate_message.specs.declared.switch.Switch.{Switch}
use Rattle.gate_message.specs.declared.switch.Switch.TheVariants.{Bloom, Upload, Historic, Download}
use Rattle.gate_core.specs.declared.switches.Switches.{Switches}

-- the switches of an opening: only bloom filters may be on there
abbrev pub unswitched : Bool → Switches
unswitched bloom = record { bloom = bloom; upload = false; historic = false; download = false }

abbrev pub switched : Switches → Switch → Bool → Switches
switched switches Bloom on = record switches { bloom = on }
switched switches Upload on = record switches { upload = on }
switched switches Historic on = record switches { historic = on }
switched switches Download on = record switches { download = on }
