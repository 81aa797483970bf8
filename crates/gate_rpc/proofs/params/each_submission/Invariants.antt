use Rattle.std.proofs.Common.{◌≡◌, drop}
use Rattle.serde_json.specs.View.{items_view}
use Rattle.std.specs.Option.{option_map}
use Rattle.serde_json.specs.Find.{as_str}
use Rattle.gate_rpc.specs.Calls.{each_of, submission_of}
use Rattle.gate_rpc.proofs.Each.{behind, rest_of}
use Rattle.gate_rpc.proofs.params.each_submission.Given as goal

abbrev pub invariant-loop-item : goal.invariant-loop-item
invariant-loop-item l = each_of (λ d. option_map submission_of (as_str d)) (items_view l.items) ≡ behind l.submissions.items (rest_of (λ d. option_map submission_of (as_str d)) (drop l.item-index l.items))
