use Rattle.std.proofs.Common.{◌∙◌, sym, ap, arith}
use Rattle.std.proofs.lemmas.List.{take_all}
use Rattle.std.specs.List.{list_any}
use Rattle.std.specs.Str.{bytes_eq}
use Rattle.gate_chain.proofs.Copies.{none_from}
use Rattle.gate_admit.specs.Verdicts.{confirms}
use Rattle.gate_admit.proofs.confirmed.Confirmed.above.Goals as goal

pub loop-place-preserved : goal.loop-place-preserved
loop-place-preserved g c = (λ wtxid. c.in_ok-note_block.ensures c.args.from wtxid c.loop-place.invariant.1 (c.loop-place.invariant.0 wtxid), omega arith)
