use Rattle.std.proofs.Common.{arith}
use Rattle.gate_shared.proofs.Moves.{enters}
use Rattle.gate_shared.proofs.tokens.enter_by.Goals as goal

pub split_seat-requires : goal.split_seat-requires
split_seat-requires g c = (c.requires.keeper, omega arith, rw c.requires.call (enters _ _ _ c.requires.keeps c.requires.seats c.requires.next))
