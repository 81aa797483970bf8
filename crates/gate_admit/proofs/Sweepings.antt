-- To ask each input for dust that its parent leaves is to ask each parent.
use Rattle.std.proofs.Common.{◌≡◌, ℕ, Bool, true, List, Option, Some, None, refl, sym, ap, ◌∙◌}
use Rattle.std.specs.Prelude.{Contains, is_some}
use Rattle.std.specs.List.{list_any}
use Rattle.std.specs.Str.{bytes_eq}
use Rattle.std.specs.Cmp.Lexicographic.{bytes_decides}
use Rattle.std.proofs.lemmas.Bool.{true≢false}
use Rattle.gate_tx.specs.declared.TxIn.{TxIn}
use Rattle.gate_tx.specs.Ids.{txid_of}
use Rattle.gate_bytes.proofs.Members.{any_is, list_any_of}
use Rattle.gate_graph.proofs.Steps.{same_bool}
use Rattle.gate_standard.specs.declared.Feerate.{Feerate}
use Rattle.gate_pool.specs.Pool.{Admitted, has_txid, entry_by_txid}
use Rattle.gate_pool.specs.Family.{parents_above, AreIdsOf}
use Rattle.gate_pool.proofs.Walking.{Contains-filter}
use Rattle.gate_pool.proofs.Adding.{passed}
use Rattle.gate_rbf.proofs.Conflicting.{is_some-find}
use Rattle.gate_admit.specs.Sweeping.{leaves_dust, leaves_dust_at, leaves_dust_of}

-- an input spends from the entry
abbrev is_parent : List TxIn → Admitted → Bool
is_parent inputs e = list_any (λ (i : TxIn). bytes_eq i.prevout.txid (txid_of e.tx)) inputs

-- what leaves dust is there
left_by_some : (rate : Feerate) (inputs : List TxIn) (txid : List ℕ) (parent : Option Admitted) → leaves_dust_of rate inputs txid parent ≡ true → is_some parent ≡ true
left_by_some rate inputs txid None h = absurd (true≢false (sym h))
left_by_some rate inputs txid (Some e) h = refl

module _ (rate : Feerate) (entries : List Admitted) (inputs : List TxIn) (ids : List (List ℕ)) (are : AreIdsOf ids (parents_above entries inputs)) where
  down : list_any (leaves_dust_at rate entries inputs) ids ≡ true → leaves_dust rate entries inputs ≡ true
  down h =
      let w = any_is (leaves_dust_at rate entries inputs) ids h in
      let v = are.only w.0 w.1 in
      let i = any_is (λ (i : TxIn). bytes_eq i.prevout.txid (txid_of v.0.tx)) inputs (passed (is_parent inputs) entries v.0 v.1) in
      let same : i.0.prevout.txid ≡ txid_of v.0.tx = (bytes_decides i.0.prevout.txid (txid_of v.0.tx)).0 i.2 in
      list_any_of (λ (i : TxIn). leaves_dust_at rate entries inputs i.prevout.txid) inputs i.0 i.1 (ap (leaves_dust_at rate entries inputs) (same ∙ v.2) ∙ w.2)

  up : leaves_dust rate entries inputs ≡ true → list_any (leaves_dust_at rate entries inputs) ids ≡ true
  up h =
      let i = any_is (λ (i : TxIn). leaves_dust_at rate entries inputs i.prevout.txid) inputs h in
      let there = left_by_some rate inputs i.0.prevout.txid (entry_by_txid entries i.0.prevout.txid) i.2 in
      let w = any_is (λ (x : Admitted). has_txid x i.0.prevout.txid) entries (sym (is_some-find (λ (x : Admitted). has_txid x i.0.prevout.txid) entries) ∙ there) in
      let same : txid_of w.0.tx ≡ i.0.prevout.txid = (bytes_decides (txid_of w.0.tx) i.0.prevout.txid).0 w.2 in
      let asks : is_parent inputs w.0 ≡ true =
      list_any_of (λ (j : TxIn). bytes_eq j.prevout.txid (txid_of w.0.tx)) inputs i.0 i.1 ((bytes_decides i.0.prevout.txid (txid_of w.0.tx)).1 (sym same)) in
      let member : Contains ids (txid_of w.0.tx) = are.all w.0 (Contains-filter (is_parent inputs) entries w.0 w.1 asks) in
      list_any_of (leaves_dust_at rate entries inputs) ids (txid_of w.0.tx) member (ap (leaves_dust_at rate entries inputs) same ∙ i.2)

  pub parents_asked : list_any (leaves_dust_at rate entries inputs) ids ≡ leaves_dust rate entries inputs
  parents_asked = same_bool _ _ down up
