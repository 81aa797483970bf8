use Rattle.std.proofs.Common.{◌≡◌, take, string_bytes}
use Rattle.gate_events.specs.EventTexts.{move_tip_text}
use Rattle.gate_events.proofs.chain_printing.move_tip_text.Given as goal

abbrev pub invariant-loop-block : goal.invariant-loop-block
invariant-loop-block l = string_bytes l.text ≡ move_tip_text l.fn.disconnect l.fn.now (take l.block-index l.blocks)
