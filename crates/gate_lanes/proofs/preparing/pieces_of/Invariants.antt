use Rattle.std.proofs.Common.{◌≤◌, length}
use Rattle.gate_lanes.proofs.preparing.pieces_of.Given as goal

abbrev pub invariant-loop-index : goal.invariant-loop-index
invariant-loop-index l = length l.inputs ≤ 0x0200_0000
