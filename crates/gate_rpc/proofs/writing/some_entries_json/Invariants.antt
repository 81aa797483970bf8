use Rattle.std.proofs.Common.{◌≡◌, ◌∷◌, ◌++◌, take, string_bytes}
use Rattle.std.specs.List.{flat_map}
use Rattle.gate_rpc.proofs.Listed.{member_text}
use Rattle.gate_rpc.proofs.writing.some_entries_json.Given as goal

abbrev pub invariant-loop-known : goal.invariant-loop-known
invariant-loop-known l = string_bytes l.text ≡ 123 ∷ (member_text l.fn.first ++ flat_map (λ e. 44 ∷ member_text e) (take l.known-index l.others))
