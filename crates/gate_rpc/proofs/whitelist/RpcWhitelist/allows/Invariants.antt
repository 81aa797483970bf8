use Rattle.std.proofs.Common.{◌≡◌, take, None}
use Rattle.std.specs.Prelude.{fold}
use Rattle.gate_rpc.specs.Listing.{listed_with}
use Rattle.gate_rpc.proofs.whitelist.RpcWhitelist.allows.Given as goal

abbrev pub invariant-loop-entry : goal.invariant-loop-entry
invariant-loop-entry l = l.listed ≡ fold (listed_with l.fn.user l.fn.method) None (take l.entry-index l.entry-items)
