use Rattle.std.proofs.Common.{◌≡◌, ◌++◌, map, take, drop}
use Rattle.gate_chain.specs.Parting.{rebased}
use Rattle.gate_chain.proofs.forgetting.rebase.Given as goal

abbrev pub invariant-loop-block : goal.invariant-loop-block
invariant-loop-block l = take l.block-index l.block-items ++ map (rebased l.by) (drop l.block-index l.block-items) ≡ map (rebased l.by) l.fn.blocks.items
