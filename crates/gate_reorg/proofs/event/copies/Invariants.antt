use Rattle.std.proofs.Common.{◌≡◌, ◌++◌, drop}
use Rattle.std.specs.Prelude.{is_none}
use Rattle.std.specs.List.{list_any}
use Rattle.gate_submission.specs.Blocks.{present}
use Rattle.gate_reorg.proofs.event.copies.Given as goal

abbrev pub invariant-loop-block : goal.invariant-loop-block
invariant-loop-block l =
    (l.copies.items ++ present (drop l.block-index l.blocks) ≡ present l.blocks)
    × (list_any is_none l.blocks ≡ list_any is_none (drop l.block-index l.blocks))
