-- Where entries are told apart, the one that is found is the only one.
use Rattle.std.proofs.Common.{◌≡◌, ℕ, get_or, Bool, true, false, ◌&&◌, List, Some, None, sym, ap, ◌∙◌, subst, inl, inr, true≢false}
use Rattle.std.specs.Prelude.{Contains, find}
use Rattle.std.specs.List.{list_any}
use Rattle.std.specs.Cmp.Lexicographic.{bytes_decides}
use Rattle.std.proofs.lemmas.Bool.{and_parts, and_from, false_from_ne_true, cases_order}
use Rattle.std.proofs.lemmas.List.{get_or_read}
use Rattle.gate_tx.specs.declared.OutPoint.{OutPoint}
use Rattle.gate_tx.specs.Coins.{spends}
use Rattle.gate_tx.specs.Ids.{txid_of}
use Rattle.gate_bytes.proofs.Members.{any_is, list_any_of}
use Rattle.gate_graph.proofs.Steps.{same_bool}
use Rattle.gate_pool.specs.Pool.{Admitted, has_txid, spender_of, entry_by_txid}
use Rattle.gate_pool.specs.Distinct.{AreDistinct}
use Rattle.gate_pool.proofs.Entries.{find_some, find_none}
use Rattle.gate_pool.proofs.Ids.{same_entry}

-- entries that spend one outpoint are one
pub same_spender : (entries : List Admitted) → AreDistinct entries → (point : OutPoint) (a b : Admitted) → Contains entries a → Contains entries b → spends a.tx.inputs point ≡ true → spends b.tx.inputs point ≡ true → a ≡ b
same_spender entries distinct point a b m n p q =
    elim (cases_order m.0 n.0) [
      | inl e ↦ get_or_read entries m.0 a m.1 (sym m.2) b ∙ ap (λ k. get_or entries k b) e ∙ n.2
      | inr (inl lt) ↦ absurd (true≢false (sym q ∙ subst (λ (x : Admitted). spends x.tx.inputs point ≡ false) (sym (get_or_read entries n.0 b n.1 (sym n.2) a)) (distinct.points m.0 n.0 a lt n.1 point (ap (λ (x : Admitted). spends x.tx.inputs point) m.2 ∙ p))))
      | inr (inr lt) ↦ absurd (true≢false (sym p ∙ subst (λ (x : Admitted). spends x.tx.inputs point ≡ false) (sym (get_or_read entries m.0 a m.1 (sym m.2) b)) (distinct.points n.0 m.0 b lt m.1 point (ap (λ (x : Admitted). spends x.tx.inputs point) n.2 ∙ q))))
    ]

module _ {X : Type 0} (p q : X → Bool) (xs : List X) where
  -- to ask something of each that passes a test is to ask it of the only one
  any_only : (x : X) → find p xs ≡ Some x → ((y : X) → Contains xs y → p y ≡ true → y ≡ x) → list_any (λ y. p y && q y) xs ≡ q x
  any_only x found only =
      let w = find_some p xs x found in
      same_bool _ _
      (λ h. let v = any_is (λ y. p y && q y) xs h in let t = and_parts _ _ v.2 in ap q (sym (only v.0 v.1 t.0)) ∙ t.1)
      (λ h. list_any_of (λ y. p y && q y) xs x w.0 (and_from _ _ w.1 h))

  -- and where there is none, nothing
  any_nowhere : find p xs ≡ None → list_any (λ y. p y && q y) xs ≡ false
  any_nowhere none = false_from_ne_true _ (λ h.
      let v = any_is (λ y. p y && q y) xs h in
      true≢false (sym (and_parts _ _ v.2).0 ∙ find_none p xs none v.0 v.1))

module _ (entries : List Admitted) (q : Admitted → Bool) where
  -- what is asked of the entry that spends an outpoint
  pub spent_by : AreDistinct entries → (point : OutPoint) (e : Admitted) → spender_of entries point ≡ Some e → list_any (λ (x : Admitted). spends x.tx.inputs point && q x) entries ≡ q e
  spent_by distinct point e found =
      let w = find_some (λ (x : Admitted). spends x.tx.inputs point) entries e found in
      any_only (λ (x : Admitted). spends x.tx.inputs point) q entries e found (λ y m h. same_spender entries distinct point y e m w.0 h w.1)

  pub unspent : (point : OutPoint) → spender_of entries point ≡ None → list_any (λ (x : Admitted). spends x.tx.inputs point && q x) entries ≡ false
  unspent point none = any_nowhere (λ (x : Admitted). spends x.tx.inputs point) q entries none

  -- what is asked of the entry that has an id
  pub held_by : AreDistinct entries → (txid : List ℕ) (e : Admitted) → entry_by_txid entries txid ≡ Some e → list_any (λ (x : Admitted). has_txid x txid && q x) entries ≡ q e
  held_by distinct txid e found =
      let w = find_some (λ (x : Admitted). has_txid x txid) entries e found in
      any_only (λ (x : Admitted). has_txid x txid) q entries e found (λ y m h. same_entry entries distinct y e m w.0 ((bytes_decides (txid_of y.tx) txid).0 h ∙ sym ((bytes_decides (txid_of e.tx) txid).0 w.1)))

  pub unheld : (txid : List ℕ) → entry_by_txid entries txid ≡ None → list_any (λ (x : Admitted). has_txid x txid && q x) entries ≡ false
  unheld txid none = any_nowhere (λ (x : Admitted). has_txid x txid) q entries none
