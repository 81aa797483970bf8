use Rattle.std.proofs.Common.{refl, arith}
use Rattle.gate_lines.proofs.PartLemmas.{line_shown, none_shown}
use Rattle.gate_lines.proofs.part.append_line.Goals as goal

pub returns-in_default-clause-ok : goal.returns-in_default-clause-ok
returns-in_default-clause-ok c =
    none_shown c.args.shown.now _ _ c.min-most.result c.args.room refl
    (λ fits. omega (arith, fits, c.min-most.ensures, c.saturating_add.ensures, c.ranges.room.fits))
    (λ over. omega (arith, over, c.min-most.ensures, c.saturating_add.ensures, c.ranges.room.fits, c.type_inv.shown)) c.in_default.ensures

pub returns-clause-ok : goal.returns-clause-ok
returns-clause-ok c =
    line_shown c.args.shown.now _ _ _ c.min-most.result c.args.room c.in-Some.at refl
    (omega (arith, c.min-most.ensures, c.saturating_add.ensures)) (omega (arith, c.min-most.ensures, c.saturating_add.ensures))
    c.in-Some.ensures c.in_ok-extend_from_slice.ensures.items
