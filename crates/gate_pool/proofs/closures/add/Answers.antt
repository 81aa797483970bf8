use Rattle.std.proofs.Common.{◌≡◌, leb, length, [], ◌∷◌, sym, ap, ◌∙◌, subst, is_some, arith}
use Rattle.std.specs.List.{list_any}
use Rattle.std.specs.Str.{bytes_eq}
use Rattle.gate_pool.specs.Search.{IsFound}
use Rattle.gate_pool.proofs.Searching.{IsFound-pushed, IsFound-kept, entry_there, entry_absent, copied_some, among_ids}
use Rattle.gate_pool.proofs.closures.add.Goals as goal
use Rattle.gate_pool.proofs.closures.add.Goals.{then-not-is_among+then-is_some+in_ok-push, else-not-is_among, else-not-is_among-via-then-not-is_among+else-is_some, else-not-is_among-via-else-not-is_among}

pub returns : goal.returns
returns g c =
    let x = c.args.txid.now in
    let entries = g.V.FamilyView.entries c.args.pool.now in
    let before = c.args.found.now.items in
    let after = c.if-not-is_among.found.items in
    let len : length after ≡ c.len.result = omega (arith, c.len.ensures, c.if-not-is_among.found.ok) in
    let has : c.is_among.result ≡ list_any (λ y. bytes_eq y x) before = c.is_among.ensures ∙ ap (list_any (λ y. bytes_eq y x)) c.deref.ensures.value in
    subst (λ n. IsFound c.args.most entries (x ∷ []) before after (leb n c.args.most)) len
    (elim c.if-not-is_among.branch [
      | then-not-is_among+then-is_some+in_ok-push w ↦
          IsFound-pushed x (sym has ∙ w.if-not-is_among.true)
          (entry_there entries x (ap is_some (sym w.entry.ensures) ∙ copied_some w.entry.result ∙ sym w.is_some.ensures ∙ w.if-is_some.true))
          (ap (λ v. v.items) w.found-is ∙ w.in_ok-push.ensures.items)
      | else-not-is_among w ↦
          IsFound-kept x
          (λ entry. elim w.else-not-is_among.branch [
            | else-not-is_among-via-then-not-is_among+else-is_some v ↦
                absurd (entry_absent entries x (ap is_some (sym v.entry.ensures) ∙ copied_some v.entry.result ∙ sym v.is_some.ensures ∙ v.if-is_some.false) entry)
            | else-not-is_among-via-else-not-is_among v ↦ among_ids before x (sym has ∙ v.if-not-is_among.false)
          ])
          (ap (λ v. v.items) w.found-is)
    ])
