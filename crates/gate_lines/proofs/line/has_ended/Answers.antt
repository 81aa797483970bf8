use Rattle.std.proofs.Common.{rules}
use Rattle.gate_lines.proofs.PartLemmas.{byte_taken, nothing_kept}
use Rattle.gate_lines.proofs.line.has_ended.Goals as goal

pub returns-in_default : goal.returns-in_default
returns-in_default g c = record {
  told = byte_taken c.in_ok-take_part.field-0 _ _ _ _ c.in_default.not-End c.in_ok-take_part.ensures.taken;
  empty = nothing_kept c.in_ok-take_part.field-0 _ _ _ _ c.in_ok-take_part.ensures.taken (search rules);
  steady = λ h. tt;
}
