use Rattle.std.proofs.Common.{◌≡◌, ◌∷◌, ◌++◌, take, string_bytes}
use Rattle.std.specs.List.{flat_map}
use Rattle.serde_json.specs.Written.{compact_text}
use Rattle.gate_rpc.specs.Replies.{spending_json}
use Rattle.gate_rpc.proofs.Listed.{later}
use Rattle.gate_rpc.proofs.writing.some_spendings_json.Given as goal

abbrev pub invariant-loop-spending : goal.invariant-loop-spending
invariant-loop-spending l = string_bytes l.text ≡ 91 ∷ (compact_text (spending_json l.fn.first) ++ flat_map (later spending_json) (take l.spending-index l.others))
