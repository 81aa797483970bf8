use Rattle.std.proofs.Common.{arith}
use Rattle.gate_shared.proofs.Moves.{gathers}
use Rattle.gate_shared.proofs.tokens.join.Goals as goal

pub join_seat-requires : goal.join_seat-requires
join_seat-requires c = (c.requires.token, c.requires.other.0, c.requires.other.1, omega arith, gathers _ _ _ _)
