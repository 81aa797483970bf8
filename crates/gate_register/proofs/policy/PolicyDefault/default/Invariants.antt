use Rattle.std.proofs.Common.{◌≡◌, ℕ, ◌<◌, length, get_or}
use Rattle.gate_register.specs.Settings.{count, settings, usual_of}
use Rattle.gate_register.specs.declared.setting.Setting.TheVariants.{AncestorCount}
use Rattle.gate_register.proofs.policy.PolicyDefault.default.Given as goal

abbrev pub invariant-loop-place : goal.invariant-loop-place
invariant-loop-place l = (length l.numbers ≡ count) × ((k : ℕ) → k < l.place → get_or l.numbers k 0 ≡ usual_of (get_or settings k AncestorCount))
