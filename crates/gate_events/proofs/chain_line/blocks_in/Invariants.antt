use Rattle.std.proofs.Common.{◌≡◌, map}
use Rattle.gate_events.specs.ChainLines.{block_of}
use Rattle.gate_events.proofs.chain_line.blocks_in.Given as goal

abbrev pub invariant-loop-word : goal.invariant-loop-word
invariant-loop-word l = l.blocks.items ≡ map (λ word. block_of word.now) l.yielded
