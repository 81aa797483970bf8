-- What counts as a direct conflict where a sibling does.
use Rattle.std.proofs.Common.{◌≡◌, ℕ, false, List, [], ◌∷◌, ◌++◌, Option, Some, None, sym, ◌∙◌, subst, inl, inr, true≢false}
use Rattle.std.specs.Prelude.{Contains, IfSome}
use Rattle.std.specs.Cmp.Lexicographic.{bytes_decides}
use Rattle.std.proofs.lemmas.Bool.{or_cases, or_left, or_right}
use Rattle.std.proofs.lemmas.List.Elements.{Contains-append_left, Contains-push, Contains-push_cases}
use Rattle.gate_tx.specs.Ids.{txid_of}
use Rattle.gate_tx.specs.Tx.{Tx}
use Rattle.gate_pool.specs.Pool.{Admitted, has_txid, entry_by_txid}
use Rattle.gate_pool.specs.Family.{is_conflict, conflicts_of}
use Rattle.gate_pool.specs.Distinct.{AreDistinct}
use Rattle.gate_pool.proofs.Adding.{passed}
use Rattle.gate_pool.proofs.Entries.{find_some, find_none}
use Rattle.gate_pool.proofs.Ids.{same_entry}
use Rattle.gate_pool.proofs.Walking.{Contains-filter, Contains-from_filter}
use Rattle.gate_pool.specs.Counting.{is_counted, counted_of}
use Rattle.gate_rbf.specs.Direct.{AreThese}

-- what follows of a value that there may be
pub on_some : {X : Type 0} (P Q : X → Type 0) (o : Option X) → ((x : X) → P x → Q x) → IfSome o P → IfSome o Q
on_some P Q None f h = h
on_some P Q (Some x) f h = f x h

module _ (entries : List Admitted) (tx : Tx) (txid : List ℕ) (found : List Admitted) (these : AreThese found (conflicts_of entries tx)) where
  old : (y : Admitted) → Contains found y → Contains (counted_of entries (Some txid) tx) y
  old y m =
      let o = these.only y m in
      Contains-filter (is_counted (Some txid) tx) entries y (Contains-from_filter (is_conflict tx) entries y o) (or_right (has_txid y txid) (is_conflict tx y) (passed (is_conflict tx) entries y o))

  -- no entry has the id of the sibling
  pub nobody : entry_by_txid entries txid ≡ None → AreThese found (counted_of entries (Some txid) tx)
  nobody none = record {
    all = λ y m.
        let n = Contains-from_filter (is_counted (Some txid) tx) entries y m in
        elim (or_cases (has_txid y txid) (is_conflict tx y) (passed (is_counted (Some txid) tx) entries y m)) [
          | inl named ↦ absurd (true≢false (sym named ∙ find_none (λ (x : Admitted). has_txid x txid) entries none y n))
          | inr rival ↦ these.all y (Contains-filter (is_conflict tx) entries y n rival)
        ];
    only = old;
  }

  -- an entry has it
  pub beside_it : AreDistinct entries → (e : Admitted) → entry_by_txid entries txid ≡ Some e → AreThese (found ++ e ∷ []) (counted_of entries (Some txid) tx)
  beside_it distinct e is =
      let w = find_some (λ (x : Admitted). has_txid x txid) entries e is in
      record {
        all = λ y m.
            let n = Contains-from_filter (is_counted (Some txid) tx) entries y m in
            elim (or_cases (has_txid y txid) (is_conflict tx y) (passed (is_counted (Some txid) tx) entries y m)) [
              | inl named ↦ subst (λ (z : Admitted). Contains (found ++ e ∷ []) z)
                  (same_entry entries distinct e y w.0 n ((bytes_decides (txid_of e.tx) txid).0 w.1 ∙ sym ((bytes_decides (txid_of y.tx) txid).0 named))) (Contains-push found e)
              | inr rival ↦ Contains-append_left found (e ∷ []) y (these.all y (Contains-filter (is_conflict tx) entries y n rival))
            ];
        only = λ y m.
            elim (Contains-push_cases found e y m) [
              | inl before ↦ old y before
              | inr same ↦ subst (λ (z : Admitted). Contains (counted_of entries (Some txid) tx) z) same
                  (Contains-filter (is_counted (Some txid) tx) entries e w.0 (or_left (has_txid e txid) (is_conflict tx e) w.1))
            ];
      }
