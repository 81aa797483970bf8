use Rattle.std.proofs.Common.{◌≡◌, ◌∷◌, take}
use Rattle.std.specs.Prelude.{All}
use Rattle.std.specs.List.{flat_map}
use Rattle.gate_diagram.specs.Diagram.{IsSmall}
use Rattle.gate_package.specs.Replacement.{left_at}
use Rattle.gate_package.proofs.replacement.new_chunks.Given as goal

abbrev pub invariant-loop-entry : goal.invariant-loop-entry
invariant-loop-entry g l = record { items : l.chunks.items ≡ l.fn.sum ∷ flat_map (left_at l.pool.entries l.gone) (take l.entry-index l.replaced); small : All IsSmall l.chunks.items }
