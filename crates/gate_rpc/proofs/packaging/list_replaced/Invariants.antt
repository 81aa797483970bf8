use Rattle.std.proofs.Common.{◌≡◌, take}
use Rattle.std.specs.List.{flat_map}
use Rattle.gate_rpc.specs.Packages.{replaced_by}
use Rattle.gate_rpc.proofs.packaging.list_replaced.Given as goal

abbrev pub invariant-loop-member : goal.invariant-loop-member
invariant-loop-member l = l.txids.items ≡ flat_map replaced_by (take l.member-index l.members)
