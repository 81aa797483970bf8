use Rattle.std.proofs.Common.{◌+◌, ◌∷◌, ◌||◌, List, Option, drop, sym, ap, ◌∙◌}
use Rattle.std.specs.Str.{bytes_eq}
use Rattle.indexmap.specs.IndexSet.{contains}
use Rattle.gate_chain.specs.Blocks.{Block}
use Rattle.gate_submission.specs.Blocks.{present, transactions_of}
use Rattle.gate_reorg.specs.Reorganisation.{has_id}
use Rattle.gate_reorg.proofs.ByBlock.{noted_block}
use Rattle.gate_reorg.proofs.Listed.{drop_item}
use Rattle.gate_reorg.proofs.confirming.ids_of.Goals as goal
use Rattle.gate_reorg.proofs.confirming.ids_of.Goals.{in-Some+in_ok-add_ids, in_default}

pub loop-block-preserved : goal.loop-block-preserved
loop-block-preserved g c = λ id.
    let blocks = c.args.blocks.now in
    let i = c.loop-block.block-index in
    let others = drop (i + 1) blocks in
    let rest = transactions_of (present others) in
    let had = contains bytes_eq c.loop-block.ids id in
    let left = drop_item blocks i c.block-item.result c.loop-block-test.true c.block-item.is in
    let noted = λ (bs : List (Option Block)). had || has_id (transactions_of (present bs)) id in
    elim c.match-block.branch [
      | in-Some+in_ok-add_ids w ↦
          ap (λ ids. contains bytes_eq ids id || has_id rest id) w.ids-is
          ∙ ap (λ b. b || has_id rest id) (w.in_ok-add_ids.ensures id)
          ∙ ap (λ l. (had || has_id l id) || has_id rest id) w.transactions.ensures
          ∙ noted_block had w.in-Some.block.transactions rest id
          ∙ ap noted (sym (left ∙ ap (λ (o : Option Block). o ∷ others) w.in-Some.is))
          ∙ c.loop-block.invariant id
      | in_default w ↦
          ap (λ ids. contains bytes_eq ids id || has_id rest id) w.ids-is
          ∙ ap noted (sym (left ∙ ap (λ (o : Option Block). o ∷ others) w.in_default.is))
          ∙ c.loop-block.invariant id
    ]
