use Rattle.std.proofs.Common.{take}
use Rattle.gate_net.proofs.Flags.{AreSoFar}
use Rattle.gate_net.proofs.whitelist.Whitelist.flags_of.Given as goal

abbrev pub invariant-loop-entry : goal.invariant-loop-entry
invariant-loop-entry l = AreSoFar l.found.flags l.found.is_implicit l.self l.address (take l.entry-index l.self.entries)
