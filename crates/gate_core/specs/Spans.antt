-- A state with the entries that its pool had before the last event.
use Rattle.std.specs.Prelude.{List}
use Rattle.gate_pool.specs.Pool.{Admitted}
use Rattle.gate_core.specs.World.{World}

-- a state, and the entries of its pool before the last event
pub record Span : Type 0 where
  pub world : World
  pub before : List Admitted
