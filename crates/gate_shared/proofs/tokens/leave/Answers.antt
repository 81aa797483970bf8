use Rattle.std.proofs.Common.{arith}
use Rattle.gate_shared.proofs.Moves.{leaves}
use Rattle.gate_shared.proofs.tokens.leave.Goals as goal

pub split_seat-requires : goal.split_seat-requires
split_seat-requires c = (c.requires.token, omega arith, leaves _ _ c.requires.keeps)
