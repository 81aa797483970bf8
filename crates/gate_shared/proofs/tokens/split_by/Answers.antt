use Rattle.std.proofs.Common.{arith, subst, sym}
use Rattle.gate_shared.proofs.Moves.{parts}
use Rattle.gate_shared.specs.Tokens.{CanPart}
use Rattle.gate_shared.proofs.tokens.split_by.Goals as goal

pub split_seat-requires : goal.split_seat-requires
split_seat-requires g c = (c.requires.token, omega arith, rw (c.requires.seats.0, c.requires.seats.1) (parts _ _ _ _ c.requires.cut))
