use Rattle.std.proofs.Common.{◌≡◌, leb, length, [], ◌∷◌, ◌++◌, sym, ap, ◌∙◌, subst, is_some, arith}
use Rattle.std.specs.List.{list_any}
use Rattle.std.specs.Str.{bytes_eq}
use Rattle.gate_pool.specs.Pool.{Admitted}
use Rattle.gate_pool.specs.Search.{IsFound}
use Rattle.gate_pool.proofs.Lending.{AreLent-pushed, AreLent-same}
use Rattle.gate_pool.proofs.OwnAncestors.{found_here}
use Rattle.gate_pool.proofs.Searching.{IsFound-pushed, IsFound-kept, entry_absent, copied_some, among_ids}
use Rattle.gate_pool.proofs.closures.add_lent.Goals as goal
use Rattle.gate_pool.proofs.closures.add_lent.Goals.{then-not-is_among+in-Some+in_ok-push+in_ok-push-2, then-not-is_among+in_default, else-not-is_among}

pub returns-clause-found : goal.returns-clause-found
returns-clause-found g c =
    let x = c.args.txid.now in
    let entries = g.V.FamilyView.entries c.args.pool.now in
    let before = c.args.found.now.items in
    let after = c.if-not-is_among.found.items in
    let len : length after ≡ c.len.result = omega (arith, c.len.ensures, c.if-not-is_among.found.ok) in
    let has : c.is_among.result ≡ list_any (λ y. bytes_eq y x) before = c.is_among.ensures ∙ ap (list_any (λ y. bytes_eq y x)) c.deref.ensures.value in
    subst (λ n. IsFound c.args.most entries (x ∷ []) before after (leb n c.args.most)) len
    (elim c.if-not-is_among.branch [
      | then-not-is_among+in-Some+in_ok-push+in_ok-push-2 w ↦
          let here = found_here entries x w.in-Some.entry.now (sym w.in-Some.ensures) in
          IsFound-pushed x (sym has ∙ w.if-not-is_among.true) (w.in-Some.entry.now, here.0, here.1) (ap (λ v. v.items) w.found-is ∙ w.in_ok-push.ensures.items)
      | then-not-is_among+in_default w ↦
          IsFound-kept x (λ entry. absurd (entry_absent entries x (ap is_some (sym w.entry_near.ensures) ∙ copied_some w.entry_near.result ∙ ap is_some w.in_default.is) entry)) (ap (λ v. v.items) w.found-is)
      | else-not-is_among w ↦
          IsFound-kept x (λ entry. among_ids before x (sym has ∙ w.if-not-is_among.false)) (ap (λ v. v.items) w.found-is)
    ])

pub returns-clause-lent : goal.returns-clause-lent
returns-clause-lent g c = λ h.
    let x = c.args.txid.now in
    let entries = g.V.FamilyView.entries c.args.pool.now in
    elim c.if-not-is_among.branch [
      | then-not-is_among+in-Some+in_ok-push+in_ok-push-2 w ↦
          let here = found_here entries x w.in-Some.entry.now (sym w.in-Some.ensures) in
          AreLent-pushed h x w.in-Some.entry.now here.0 here.1 (ap (λ v. v.items) w.found-is ∙ w.in_ok-push.ensures.items)
          (ap (λ v. v.items) w.lent-is ∙ w.in_ok-push-2.ensures.items ∙ ap (λ (e : Admitted). c.args.lent.now.items ++ e ∷ []) w.beside.ensures)
      | then-not-is_among+in_default w ↦ AreLent-same h (ap (λ v. v.items) w.found-is) (ap (λ v. v.items) w.lent-is)
      | else-not-is_among w ↦ AreLent-same h (ap (λ v. v.items) w.found-is) (ap (λ v. v.items) w.lent-is)
    ]
