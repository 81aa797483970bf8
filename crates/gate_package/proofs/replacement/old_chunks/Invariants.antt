use Rattle.std.proofs.Common.{◌≡◌, take}
use Rattle.std.specs.Prelude.{All}
use Rattle.gate_diagram.specs.Diagram.{IsSmall}
use Rattle.gate_package.specs.Replacement.{old_chunks}
use Rattle.gate_package.proofs.replacement.old_chunks.Given as goal

abbrev pub invariant-loop-entry : goal.invariant-loop-entry
invariant-loop-entry g l = record { items : l.chunks.items ≡ old_chunks l.pool.entries (take l.entry-index l.replaced); small : All IsSmall l.chunks.items }
