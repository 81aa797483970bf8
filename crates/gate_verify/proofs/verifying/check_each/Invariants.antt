use Rattle.std.proofs.Common.{◌≡◌, take}
use Rattle.gate_verify.proofs.verifying.check_each.Given as goal

abbrev pub invariant-loop-piece : goal.invariant-loop-piece
invariant-loop-piece g l = l.reports.items ≡ take l.piece-index l.pieces
