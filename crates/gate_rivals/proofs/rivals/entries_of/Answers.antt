use Rattle.std.proofs.Common.{◌≡◌, ◌++◌, ◌∷◌, [], Option, Some, None, sym, ap, ◌∙◌}
use Rattle.gate_pool.specs.Pool.{Admitted, entry_by_txid}
use Rattle.gate_rivals.proofs.Rivalry.{found_next}
use Rattle.gate_rivals.proofs.rivals.entries_of.Goals as goal
use Rattle.gate_rivals.proofs.rivals.entries_of.Goals.{in-Some+in_ok-push-in-Some, in-None}

same_found : (o : Option Admitted) (a b : Admitted) → Some a ≡ o → o ≡ Some b → a ≡ b
same_found o a b h k = let e : Some a ≡ Some b = h ∙ k in cc

none_found : {X : Type 0} (o : Option Admitted) (b : Admitted) → None ≡ o → o ≡ Some b → X
none_found o b h k = let e : None ≡ Some b = h ∙ k in absurd (cc)

pub loop-id-preserved : goal.loop-id-preserved
loop-id-preserved g c = λ test listed.
    let entries = c.args.pool.now.entries in
    let k = c.loop-id.id-index in
    let id = c.id-item.result in
    let next = found_next entries c.recall_distinct.ensures test c.args.ids.now k id listed c.loop-id-test.true (sym c.id-item.is) in
    elim c.match-entry.branch [
      | in-Some+in_ok-push-in-Some w ↦
          let same : w.of.result ≡ next.0 = w.of.ensures ∙ same_found (entry_by_txid entries id) w.in-Some.entry.now next.0 w.in-Some.ensures next.1 in
          ap (λ f. f.items) w.found-is ∙ (w.in_ok-push-in-Some.ensures.items ∙ ((λ z. c.loop-id.invariant test listed z ++ same z ∷ []) ∙ sym next.2))
      | in-None w ↦ none_found (entry_by_txid entries id) next.0 w.in-None.ensures next.1
    ]
