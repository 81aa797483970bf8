-- What is above an entry is what is above its inputs, and the entry itself.
use Rattle.std.proofs.Common.{◌≡◌, ◌≤◌, Bool, true, false, Some, List, [], ◌∷◌, ◌++◌, length, refl, sym, subst, ◌∙◌, ◌⊎◌, inl, inr}
use Rattle.std.specs.Prelude.{◌≢◌, Contains, filter}
use Rattle.std.specs.List.{AllPairs, list_any}
use Rattle.std.specs.Str.{bytes_eq}
use Rattle.std.specs.Cmp.Lexicographic.{bytes_decides}
use Rattle.std.proofs.lemmas.List.Kept.{AllPairs-filter}
use Rattle.std.proofs.lemmas.List.Elements.{Contains-append_cases, Contains-append_left, Contains-append_right}
use Rattle.gate_tx.specs.declared.TxIn.{TxIn}
use Rattle.gate_tx.specs.Ids.{txid_of}
use Rattle.gate_graph.specs.Family.{reaches, Leads, here, down}
use Rattle.gate_bytes.proofs.Members.{Contains-cons_cases, Contains-head, any_is, list_any_of, not_in_none}
use Rattle.gate_graph.proofs.Reaching.{reaches-same, reaches_trans, reaches_step, Leads_from_reaches}
use Rattle.gate_pool.specs.Pool.{Admitted, has_txid, entry_by_txid}
use Rattle.gate_pool.specs.Family.{steps, ancestors_of, ancestors_above, AreIdsOf}
use Rattle.gate_pool.proofs.Adding.{DifferById, passed}
use Rattle.gate_pool.proofs.Entries.{Id, entry_step, step_entry, find_some}
use Rattle.gate_pool.proofs.Families.{is_above}
use Rattle.gate_pool.proofs.Ids.{no_more, same_txid}
use Rattle.gate_pool.proofs.Searching.{among_ids, push_once}
use Rattle.gate_pool.proofs.Walking.{Contains-filter, Contains-from_filter}

module _ (g : List Admitted) (apart : AllPairs DifferById g) (e : Admitted) (m : Contains g e) (x : Id) (own : txid_of e.tx ≡ x) where
  step_up : (a : Id) → Contains (steps g) (a, x) → is_above g e.tx.inputs a ≡ true
  step_up a s =
      let p = step_entry g a x s in
      let one : p.entry ≡ e = same_txid g apart p.entry e p.member m (p.child ∙ sym own) in
      list_any_of (λ (i : TxIn). reaches (steps g) a i.prevout.txid) e.tx.inputs p.point (subst (λ (d : Admitted). Contains d.tx.inputs p.point) one p.spent)
      (subst (λ z. reaches (steps g) a z ≡ true) (sym p.parent) (reaches-same (steps g) a))

  up : {a b : Id} → Leads (steps g) a b → b ≡ x → (a ≡ x) ⊎ (is_above g e.tx.inputs a ≡ true)
  up here is = inl is
  up (down {a = a} {b = b} s k) is =
      elim (up k is) [
        | inl same ↦ inr (step_up a (subst (λ z. Contains (steps g) (a, z)) same s))
        | inr above ↦
            let r = any_is (λ (i : TxIn). reaches (steps g) b i.prevout.txid) e.tx.inputs above in
            inr (list_any_of (λ (i : TxIn). reaches (steps g) a i.prevout.txid) e.tx.inputs r.0 r.1 (reaches_trans (steps g) a b r.0.prevout.txid (reaches_step (steps g) a b s) r.2))
      ]

  pub own_or_above : (a : Id) → reaches (steps g) a x ≡ true → (a ≡ x) ⊎ (is_above g e.tx.inputs a ≡ true)
  own_or_above a r = up (Leads_from_reaches (steps g) a x r) refl

  pub above_is : (a : Id) → is_above g e.tx.inputs a ≡ true → reaches (steps g) a x ≡ true
  above_is a above =
      let r = any_is (λ (i : TxIn). reaches (steps g) a i.prevout.txid) e.tx.inputs above in
      reaches_trans (steps g) a r.0.prevout.txid x r.2 (reaches_step (steps g) r.0.prevout.txid x (subst (λ z. Contains (steps g) (r.0.prevout.txid, z)) own (entry_step g e r.0 m r.1)))

  abbrev leads : Admitted → Bool
  leads d = reaches (steps g) (txid_of d.tx) x

  abbrev stands : Admitted → Bool
  stands d = is_above g e.tx.inputs (txid_of d.tx)

  with_own : {found after : List Id} → AreIdsOf found (ancestors_above g e.tx.inputs) → Contains after x → AllPairs (λ (a : Id) (b : Id). a ≢ b) after
      → ((id : Id) → Contains found id → Contains after id) → ((id : Id) → Contains after id → Contains found id ⊎ (id ≡ x)) → AreIdsOf after (ancestors_of g x)
  with_own {after = after} are has once still cases = record {
    once = once;
    all = λ d c.
        elim (own_or_above (txid_of d.tx) (passed leads g d c)) [
          | inl same ↦ subst (Contains after) (sym same) has
          | inr above ↦ still (txid_of d.tx) (are.all d (Contains-filter stands g d (Contains-from_filter leads g d c) above))
        ];
    only = λ id c.
        elim (cases id c) [
          | inl old ↦ let v = are.only id old in (v.0, Contains-filter leads g v.0 (Contains-from_filter stands g v.0 v.1) (above_is (txid_of v.0.tx) (passed stands g v.0 v.1)), v.2)
          | inr same ↦ (e, Contains-filter leads g e m (subst (λ z. reaches (steps g) z x ≡ true) (sym own) (reaches-same (steps g) x)), own ∙ sym same)
        ];
  }

  pub own_kept : {found : List Id} → AreIdsOf found (ancestors_above g e.tx.inputs) → list_any (λ y. bytes_eq y x) found ≡ true → AreIdsOf found (ancestors_of g x)
  own_kept {found} are has = with_own are (among_ids found x has) are.once (λ id c. c) (λ id c. inl c)

  pub own_pushed : {found after : List Id} → AreIdsOf found (ancestors_above g e.tx.inputs) → list_any (λ y. bytes_eq y x) found ≡ false → after ≡ found ++ x ∷ [] → AreIdsOf after (ancestors_of g x)
  own_pushed {found} {after} are new is =
      subst (λ l. AreIdsOf l (ancestors_of g x)) (sym is)
      (with_own are (Contains-append_right found (x ∷ []) x (Contains-head x [])) (push_once found x new are.once) (λ id c. Contains-append_left found (x ∷ []) id c)
      (λ id c.
      elim (Contains-append_cases found (x ∷ []) id c) [
        | inl old ↦ inl old
        | inr last ↦ elim (Contains-cons_cases x [] id last) [ inl same ↦ inr (sym same) | inr none ↦ not_in_none id none ]
      ]))

  pub above_few : length (ancestors_above g e.tx.inputs) ≤ length (ancestors_of g x)
  above_few =
      no_more (λ (d : Admitted). txid_of d.tx) (λ (d : Admitted). txid_of d.tx) (filter stands g) (filter leads g) (AllPairs-filter DifferById stands g apart)
      (λ d c. (d, Contains-filter leads g d (Contains-from_filter stands g d c) (above_is (txid_of d.tx) (passed stands g d c)), refl))

-- the entry that is found has the id
pub found_here : (g : List Admitted) (x : Id) (e : Admitted) → entry_by_txid g x ≡ Some e → Contains g e × (txid_of e.tx ≡ x)
found_here g x e h =
    let w = find_some (λ (d : Admitted). has_txid d x) g e h in
    (w.0, (bytes_decides (txid_of e.tx) x).0 w.1)
