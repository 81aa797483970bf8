use Rattle.std.proofs.Common.{◌≡◌, ◌∷◌, ◌++◌, take, string_bytes}
use Rattle.std.specs.List.{flat_map}
use Rattle.json.specs.Print.{quoted}
use Rattle.gate_tx.specs.Ids.{id_text}
use Rattle.gate_rpc.proofs.Listed.{later_text}
use Rattle.gate_rpc.proofs.packaging.some_wtxids_json.Given as goal

abbrev pub invariant-loop-wtxid : goal.invariant-loop-wtxid
invariant-loop-wtxid l = string_bytes l.text ≡ 91 ∷ (quoted (id_text l.fn.first) ++ flat_map later_text (take l.wtxid-index l.others))
