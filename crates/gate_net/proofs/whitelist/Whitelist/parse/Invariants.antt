use Rattle.std.proofs.Common.{drop}
use Rattle.gate_net.proofs.Entries.{AreRead}
use Rattle.gate_net.proofs.whitelist.Whitelist.parse.Given as goal

abbrev pub invariant-loop-text : goal.invariant-loop-text
invariant-loop-text l = AreRead l.entries l.read.items (drop l.text-index l.entries)
