use Rattle.std.proofs.Common.{rules, ◌≡◌, ◌++◌, ap, subst, ◌∙◌, sym, append-nil, length, refl, List}
use Rattle.gate_tx.specs.declared.OutPoint.{OutPoint}
use Rattle.gate_chain.specs.declared.marked.Marked.{Marked}
use Rattle.gate_chain.specs.Coins.{has_txid}
use Rattle.gate_chain.specs.Linked.{IsLinked, opening_in}
use Rattle.gate_chain.proofs.Chains.{linked_open, relinked}
use Rattle.gate_chain.proofs.chain.Chain.open_from.Goals as goal

pub invariant_of-result : goal.invariant_of-result
invariant_of-result g c =
    let o = c.into_parts-opening.result.0.entries in
    let all : o ++ c.with_hasher.result.entries ≡ o = ap (λ l. o ++ l) c.with_hasher.ensures.empty ∙ append-nil o in
    subst (λ (u : List (OutPoint × Marked)). IsLinked c.args.first (opening_in (length o) u) (length o) c.len-opening_times.result c.into_parts-opening.result.1.keys c.args.times.items c.new.result.items u c.with_hasher-2.result.keys) (sym all)
    (relinked c.args.first c.args.coins.items _ _ _ _ _ _ _ (linked_open c.args.first c.args.coins.items (length o) _ _ _ _ o _
    (rw c.as_slice.ensures.value at c.in_ok-kept.ensures.faultless) (c.len-opening_times.ensures ∙ search rules) c.new.ensures.items
    refl (c.into_parts-opening.ensures.coins ∙ c.in_ok-kept.ensures.kept) c.into_parts-opening.ensures.marks
    (λ id. c.into_parts-opening.ensures.ids id ∙ ap (has_txid id) c.in_ok-kept.ensures.kept) c.with_hasher-2.ensures.empty))
