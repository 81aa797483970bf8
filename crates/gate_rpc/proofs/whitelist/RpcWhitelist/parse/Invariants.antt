use Rattle.std.proofs.Common.{◌≡◌, take, map}
use Rattle.gate_rpc.specs.Lists.{entry_of}
use Rattle.gate_rpc.proofs.whitelist.RpcWhitelist.parse.Given as goal

abbrev pub invariant-loop-text : goal.invariant-loop-text
invariant-loop-text l = l.entries.items ≡ map entry_of (take l.text-index l.texts)
