use Rattle.std.proofs.Common.{arith}
use Rattle.gate_shared.proofs.Moves.{fills}
use Rattle.gate_shared.proofs.tokens.know_full.Goals as goal

pub split_seat-requires : goal.split_seat-requires
split_seat-requires c = (c.requires.keeper, omega arith, fills _ _ c.requires.keeps c.requires.full)
