use Rattle.std.proofs.Common.{is_some, length, sym, ap, subst, ◌∙◌, arith}
use Rattle.std.specs.List.{list_any}
use Rattle.std.specs.Str.{bytes_eq}
use Rattle.std.specs.Option.{option_copied}
use Rattle.std.proofs.lemmas.List.Kept.{AllPairs-filter}
use Rattle.gate_tx.specs.Ids.{txid_of}
use Rattle.gate_tx.specs.Tx.{Tx}
use Rattle.gate_graph.specs.Family.{reaches}
use Rattle.gate_pool.specs.Pool.{Admitted, entry_by_txid}
use Rattle.gate_pool.specs.Family.{steps, AreIdsOf, ancestors_of, ancestors_above}
use Rattle.gate_pool.proofs.Adding.{DifferById, found_by_id}
use Rattle.gate_pool.proofs.Ids.{ids_length}
use Rattle.gate_pool.proofs.OwnAncestors.{found_here, own_kept, own_pushed, above_few}
use Rattle.gate_pool.proofs.Searching.{copied_some}
use Rattle.gate_pool.proofs.closures.ancestors_with.Goals as goal
use Rattle.gate_pool.proofs.closures.ancestors_with.Goals.{then-not-contains+in_ok-push, else-not-contains}

pub unwrap-entry-requires : goal.unwrap-entry-requires
unwrap-entry-requires g c =
    let entries = g.V.FamilyView.entries c.args.pool.now in
    let has = c.requires in
    sym (copied_some c.entry.result) ∙ ap is_some (c.entry.ensures ∙ ap (entry_by_txid entries) (sym has.2) ∙ found_by_id entries c.recall_apart.ensures has.0 has.1)

pub returns-in_default-clause-many : goal.returns-in_default-clause-many
returns-in_default-clause-many g c = λ none.
    let entries = g.V.FamilyView.entries c.args.pool.now in
    let x = c.args.txid.now in
    let e = c.unwrap-entry.result.now in
    let here = found_here entries x e (sym c.entry.ensures ∙ ap option_copied c.unwrap-entry.ensures) in
    let inputs = c.inputs.ensures ∙ ap (λ (t : Tx). t.inputs) c.transaction.ensures in
    omega (arith, c.in_ok-found.ensures.many c.in_default.is, ap (λ i. length (ancestors_above entries i)) inputs, above_few entries c.recall_apart.ensures e here.0 x here.1)

pub returns-clause-found : goal.returns-clause-found
returns-clause-found g c =
    let entries = g.V.FamilyView.entries c.args.pool.now in
    let x = c.args.txid.now in
    let e = c.unwrap-entry.result.now in
    let here = found_here entries x e (sym c.entry.ensures ∙ ap option_copied c.unwrap-entry.ensures) in
    let inputs = c.inputs.ensures ∙ ap (λ (t : Tx). t.inputs) c.transaction.ensures in
    let are = subst (λ i. AreIdsOf c.in-Some.found.items (ancestors_above entries i)) inputs (rw c.in-Some.is at c.in_ok-found.ensures.found) in
    let has = c.contains.ensures.value ∙ ap (list_any (λ y. bytes_eq y x)) c.deref.ensures.value in
    elim c.if-not-contains.branch [
      | then-not-contains+in_ok-push w ↦
          own_pushed entries c.recall_apart.ensures e here.0 x here.1 are (sym has ∙ w.if-not-contains.true) (ap (λ v. v.items) w.found-is ∙ w.in_ok-push.ensures.items)
      | else-not-contains w ↦
          subst (λ l. AreIdsOf l (ancestors_of entries x)) (sym (ap (λ v. v.items) w.found-is)) (own_kept entries c.recall_apart.ensures e here.0 x here.1 are (sym has ∙ w.if-not-contains.false))
    ]

pub returns-then-len-most-clause-many : goal.returns-then-len-most-clause-many
returns-then-len-most-clause-many g c = λ none.
    let entries = g.V.FamilyView.entries c.args.pool.now in
    let x = c.args.txid.now in
    let e = c.unwrap-entry.result.now in
    let here = found_here entries x e (sym c.entry.ensures ∙ ap option_copied c.unwrap-entry.ensures) in
    let inputs = c.inputs.ensures ∙ ap (λ (t : Tx). t.inputs) c.transaction.ensures in
    let are = subst (λ i. AreIdsOf c.in-Some.found.items (ancestors_above entries i)) inputs (rw c.in-Some.is at c.in_ok-found.ensures.found) in
    let has = c.contains.ensures.value ∙ ap (list_any (λ y. bytes_eq y x)) c.deref.ensures.value in
    let after : AreIdsOf c.if-not-contains.found.items (ancestors_of entries x) =
    elim c.if-not-contains.branch [
      | then-not-contains+in_ok-push w ↦
          own_pushed entries c.recall_apart.ensures e here.0 x here.1 are (sym has ∙ w.if-not-contains.true) (ap (λ v. v.items) w.found-is ∙ w.in_ok-push.ensures.items)
      | else-not-contains w ↦
          subst (λ l. AreIdsOf l (ancestors_of entries x)) (sym (ap (λ v. v.items) w.found-is)) (own_kept entries c.recall_apart.ensures e here.0 x here.1 are (sym has ∙ w.if-not-contains.false))
    ] in
    let apart = AllPairs-filter DifferById (λ (d : Admitted). reaches (steps entries) (txid_of d.tx) x) entries c.recall_apart.ensures in
    omega (arith, c.if-len-most.true, c.len.ensures, c.if-not-contains.found.ok, ids_length c.if-not-contains.found.items (ancestors_of entries x) apart after)
