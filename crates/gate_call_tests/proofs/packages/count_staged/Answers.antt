use Rattle.std.proofs.Common.{sym, ◌∙◌}
use Rattle.gate_package.proofs.Shaping.{shape_passes}
use Rattle.gate_call_tests.proofs.packages.count_staged.Goals as goal

pub stage_package-requires-clause-distinct : goal.stage_package-requires-clause-distinct
stage_package-requires-clause-distinct c = (shape_passes _ _ c.args.members.now (sym c.check_shape.ensures ∙ c.in_default.is)).0

pub stage_package-requires-clause-apart : goal.stage_package-requires-clause-apart
stage_package-requires-clause-apart c = (shape_passes _ _ c.args.members.now (sym c.check_shape.ensures ∙ c.in_default.is)).1
