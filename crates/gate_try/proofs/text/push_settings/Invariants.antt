use Rattle.std.proofs.Common.{◌≡◌, ◌++◌, take, string_bytes}
use Rattle.gate_try.specs.Trials.{setting_lines}
use Rattle.gate_try.proofs.text.push_settings.Given as goal

abbrev pub invariant-loop-said : goal.invariant-loop-said
invariant-loop-said l = string_bytes l.text ≡ string_bytes l.fn.text ++ setting_lines (take l.said-index l.settings)
