use Rattle.std.proofs.Common.{◌≡◌, ◌∷◌, ◌++◌, take, string_bytes}
use Rattle.std.specs.List.{flat_map}
use Rattle.serde_json.specs.Written.{compact_text}
use Rattle.gate_rpc.specs.Replies.{outcome_json}
use Rattle.gate_rpc.proofs.Listed.{later}
use Rattle.gate_rpc.proofs.writing.some_outcomes_json.Given as goal

abbrev pub invariant-loop-outcome : goal.invariant-loop-outcome
invariant-loop-outcome l = string_bytes l.text ≡ 91 ∷ (compact_text (outcome_json l.fn.first) ++ flat_map (later outcome_json) (take l.outcome-index l.others))
