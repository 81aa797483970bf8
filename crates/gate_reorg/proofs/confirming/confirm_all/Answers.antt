use Rattle.std.proofs.Common.{◌+◌, ◌∷◌, List, Option, drop, sym, ap, ◌∙◌}
use Rattle.gate_chain.specs.Blocks.{Block}
use Rattle.gate_submission.specs.Blocks.{present, transactions_of}
use Rattle.gate_reorg.specs.Reorganisation.{all_confirmed}
use Rattle.gate_reorg.proofs.ByBlock.{all_confirmed_append}
use Rattle.gate_reorg.proofs.Listed.{drop_item}
use Rattle.gate_reorg.proofs.confirming.confirm_all.Goals as goal
use Rattle.gate_reorg.proofs.confirming.confirm_all.Goals.{in-Some, in_default}

pub loop-block-preserved : goal.loop-block-preserved
loop-block-preserved g c =
    let blocks = c.args.blocks.now in
    let i = c.loop-block.block-index in
    let others = drop (i + 1) blocks in
    let rest = transactions_of (present others) in
    let before = c.loop-block.pool.entries in
    let left = drop_item blocks i c.block-item.result c.loop-block-test.true c.block-item.is in
    let confirmed_by = λ (bs : List (Option Block)). all_confirmed before (transactions_of (present bs)) in (
      elim c.match-block.branch [
        | in-Some w ↦
            ap (λ p. all_confirmed p.entries rest) w.pool-is
            ∙ ap (λ es. all_confirmed es rest) w.confirm_block.ensures.entries
            ∙ ap (λ l. all_confirmed (all_confirmed before l) rest) w.transactions.ensures
            ∙ sym (all_confirmed_append w.in-Some.block.transactions rest before)
            ∙ ap confirmed_by (sym (left ∙ ap (λ (o : Option Block). o ∷ others) w.in-Some.is))
            ∙ c.loop-block.invariant.0
        | in_default w ↦
            ap (λ p. all_confirmed p.entries rest) w.pool-is
            ∙ ap confirmed_by (sym (left ∙ ap (λ (o : Option Block). o ∷ others) w.in_default.is))
            ∙ c.loop-block.invariant.0
      ],
      elim c.match-block.branch [
        | in-Some w ↦ ap (λ p. p.before) w.pool-is ∙ w.confirm_block.ensures.before ∙ c.loop-block.invariant.1
        | in_default w ↦ ap (λ p. p.before) w.pool-is ∙ c.loop-block.invariant.1
      ],
    )
