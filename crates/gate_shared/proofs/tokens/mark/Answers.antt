use Rattle.std.proofs.Common.{arith}
use Rattle.gate_shared.proofs.Moves.{marks}
use Rattle.gate_shared.proofs.tokens.mark.Goals as goal

pub join_seat-requires : goal.join_seat-requires
join_seat-requires c = (c.requires.token, c.requires.other.0, c.requires.other.1, omega arith, marks _ _ _ _ c.requires.other.2 c.requires.other.3)
