use Rattle.std.proofs.Common.{arith, ◌∙◌}
use Rattle.std.proofs.lemmas.Grind.{common_steps}
use Rattle.gate_reorg.specs.Following.{terms_of}
use Rattle.gate_reorg.proofs.Returns.{returned_more}
use Rattle.gate_reorg.proofs.returning.return_all.Goals as goal

pub loop-block-preserved : goal.loop-block-preserved
loop-block-preserved g c = (
  λ landed same. grind (arith, common_steps, returned_more (terms_of c.args.under.now), c.loop-block.invariant.0 landed same, c.in_ok-return_block.ensures.entries landed same),
  c.in_ok-return_block.ensures.before ∙ c.loop-block.invariant.1,
)
