use Rattle.std.proofs.Common.{◌≤◌, ◌∙◌, ◌++◌, ◌∷◌, [], sym, ap, take, length, rules, arith}
use Rattle.std.specs.Prelude.{sum_by}
use Rattle.std.proofs.lemmas.List.{take_all}
use Rattle.gate_graph.specs.Families.{has}
use Rattle.gate_graph.specs.Holding.{seen_of}
use Rattle.gate_graph.specs.Slots.{entries_of}
use Rattle.gate_graph.proofs.Copying.{same_nodes, seen_more, prefix_fits}
use Rattle.gate_graph.proofs.Loading.{new_before}
use Rattle.gate_graph.proofs.copy.copy_each.Goals as goal

pub loop-slot-init : goal.loop-slot-init
loop-slot-init g c = record { copied = ap seen_of c.requires.empty; linked = c.requires.linked }

pub copy_slot-requires-clause-new : goal.copy_slot-requires-clause-new
copy_slot-requires-clause-new g c h e =
    let slots = c.args.from.now in
    let i = c.loop-slot.slot-index in
    ap (λ l. has l h.id) (same_nodes (entries_of (take i slots)) c.loop-slot.slots.held c.loop-slot.invariant.copied) ∙ new_before slots i c.slot-item.result h c.loop-slot-test.true (sym c.slot-item.is ∙ e) c.requires.apart

pub copy_slot-requires-clause-fits : goal.copy_slot-requires-clause-fits
copy_slot-requires-clause-fits g c h e =
    let slots = c.args.from.now in
    let i = c.loop-slot.slot-index in
    let same = ap (sum_by (λ n. n.size)) (same_nodes (entries_of (take i slots)) c.loop-slot.slots.held c.loop-slot.invariant.copied) in
    omega (arith, same, prefix_fits slots i c.slot-item.result h c.loop-slot-test.true (sym c.slot-item.is ∙ e), c.requires.fits)

pub loop-slot-preserved : goal.loop-slot-preserved
loop-slot-preserved g c =
    let slots = c.args.from.now in
    let i = c.loop-slot.slot-index in
    let x = c.slot-item.result in
    record {
      copied = c.in_ok-copy_slot.ensures.copied ∙ ap (λ l. l ++ seen_of (entries_of (x ∷ []))) c.loop-slot.invariant.copied ∙ seen_more slots i x c.loop-slot-test.true c.slot-item.is;
      linked = c.in_ok-copy_slot.ensures.linked;
    }

pub returns-clause-copied : goal.returns-clause-copied
returns-clause-copied g c =
    let slots = c.args.from.now in
    let i = c.loop-slot.slot-index in
    let end : length slots ≤ i = search rules in
    c.loop-slot.invariant.copied ∙ ap (λ l. seen_of (entries_of l)) (take_all i slots end)
