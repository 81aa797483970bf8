use Rattle.std.proofs.Common.{◌≡◌, ◌∷◌, ◌++◌, take, string_bytes}
use Rattle.std.specs.List.{flat_map}
use Rattle.gate_rpc.proofs.Listed.{fate_text}
use Rattle.gate_rpc.proofs.packaging.some_members_json.Given as goal

abbrev pub invariant-loop-member : goal.invariant-loop-member
invariant-loop-member l = string_bytes l.text ≡ 123 ∷ (fate_text l.all l.fn.first ++ flat_map (λ e. 44 ∷ fate_text l.all e) (take l.member-index l.others))
