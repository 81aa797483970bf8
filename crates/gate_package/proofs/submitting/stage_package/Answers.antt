use Rattle.gate_package.proofs.Rewinding.{marked_rewindable}
use Rattle.gate_package.proofs.submitting.stage_package.Goals as goal

pub rewind-requires : goal.rewind-requires
rewind-requires g c = c.judge_on.ensures.rewindable (marked_rewindable c.mark.new.self c.mark.ensures.left)
