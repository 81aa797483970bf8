use Rattle.std.proofs.Common.{arith}
use Rattle.gate_shared.proofs.Moves.{unmarks}
use Rattle.gate_shared.proofs.tokens.unmark.Goals as goal

pub split_seat-requires : goal.split_seat-requires
split_seat-requires c = (c.requires.token, omega arith, unmarks _ _)
