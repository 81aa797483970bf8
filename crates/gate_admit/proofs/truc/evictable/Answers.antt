use Rattle.std.proofs.Common.{sym, ◌∙◌}
use Rattle.gate_admit.specs.Truc.{others_below}
use Rattle.gate_admit.proofs.Kinship.{evictable_one, evictable_other, evictable_none}
use Rattle.gate_admit.proofs.truc.evictable.Goals as goal

pub returns-in_default : goal.returns-in_default
returns-in_default g c =
    let entries = c.args.pool.now.entries in
    sym (evictable_none entries (others_below entries c.args.txid.now) (c.in_ok-other.ensures.other c.in_default.is))

pub returns-then-not-is_only_child : goal.returns-then-not-is_only_child
returns-then-not-is_only_child g c =
    let entries = c.args.pool.now.entries in
    let w = rw c.in-Some.is at c.in_ok-other.ensures.one in
    sym (evictable_other entries (others_below entries c.args.txid.now) w.0 c.in-Some.other w.1 w.2 (sym c.is_only_child.ensures ∙ c.if-not-is_only_child.true))

pub returns : goal.returns
returns g c =
    let entries = c.args.pool.now.entries in
    let w = rw c.in-Some.is at c.in_ok-other.ensures.one in
    sym (evictable_one entries (others_below entries c.args.txid.now) w.0 c.in-Some.other w.1 w.2 (sym c.is_only_child.ensures ∙ c.if-not-is_only_child.false))
