use Rattle.std.proofs.Common.{arith}
use Rattle.gate_shared.proofs.Moves.{looks}
use Rattle.gate_shared.proofs.tokens.look.Goals as goal

pub load-requires : goal.load-requires
load-requires c = (c.requires.keeper, omega arith, looks _ _ _ c.requires.keeps)
