use Rattle.std.proofs.Common.{◌≡◌, drop}
use Rattle.serde_json.specs.View.{items_view}
use Rattle.gate_rpc.specs.Calls.{each_of, point_in}
use Rattle.gate_rpc.proofs.Each.{behind, rest_of}
use Rattle.gate_rpc.proofs.params.each_point.Given as goal

abbrev pub invariant-loop-item : goal.invariant-loop-item
invariant-loop-item l = each_of point_in (items_view l.items) ≡ behind l.points.items (rest_of point_in (drop l.item-index l.items))
