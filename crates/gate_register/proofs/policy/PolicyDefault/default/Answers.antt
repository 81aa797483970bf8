use Rattle.std.proofs.Common.{rules, get_or}
use Rattle.std.proofs.lemmas.List.FromFn.{fill_by_all}
use Rattle.gate_register.specs.Settings.{count, settings, usual_of}
use Rattle.gate_register.specs.declared.setting.Setting.TheVariants.{AncestorCount}
use Rattle.gate_register.proofs.policy.PolicyDefault.default.Goals as goal

pub returns : goal.returns
returns c = fill_by_all (λ k. usual_of (get_or settings k AncestorCount)) c.loop-place.numbers count 0 c.loop-place.invariant.0 (search rules)
