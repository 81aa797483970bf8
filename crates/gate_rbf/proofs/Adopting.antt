-- To ask each input for a parent that is added is to ask each parent.
use Rattle.std.proofs.Common.{◌≡◌, ℕ, Bool, true, not, ◌&&◌, List, sym, ap, ◌∙◌}
use Rattle.std.specs.Prelude.{Contains, filter, is_some}
use Rattle.std.specs.List.{list_any}
use Rattle.std.specs.Str.{bytes_eq}
use Rattle.std.specs.Cmp.Lexicographic.{bytes_decides}
use Rattle.std.proofs.lemmas.Bool.{and_parts, and_from}
use Rattle.gate_tx.specs.declared.TxIn.{TxIn}
use Rattle.gate_tx.specs.Ids.{txid_of}
use Rattle.gate_bytes.proofs.Members.{any_is, list_any_of}
use Rattle.gate_graph.proofs.Steps.{same_bool}
use Rattle.gate_pool.specs.Pool.{Admitted, has_txid, entry_by_txid}
use Rattle.gate_pool.specs.Family.{names, is_among, parents_above, AreIdsOf}
use Rattle.gate_pool.specs.Distinct.{AreDistinct}
use Rattle.gate_pool.proofs.Walking.{Contains-filter, Contains-from_filter}
use Rattle.gate_pool.proofs.Adding.{passed}
use Rattle.gate_rbf.specs.Replacing.{adds_parent}
use Rattle.gate_rbf.specs.Gathering.{is_new as gathered_new}
use Rattle.gate_rbf.proofs.Conflicting.{is_some-find, list_any-agree}
use Rattle.gate_rbf.proofs.Choosing.{any_among_last}

-- an input spends from the entry
abbrev is_parent : List TxIn → Admitted → Bool
is_parent inputs e = list_any (λ (i : TxIn). bytes_eq i.prevout.txid (txid_of e.tx)) inputs

-- to ask each id for an entry that has it is to ask each entry for its id
pub any_child : (entries : List Admitted) (parent : List ℕ) (ids : List (List ℕ))
    → list_any (λ (id : List ℕ). list_any (λ (e : Admitted). names e parent && has_txid e id) entries) ids ≡ list_any (λ (e : Admitted). names e parent && is_among ids e) entries
any_child entries parent ids = same_bool _ _
    (λ h.
    let i = any_is (λ (id : List ℕ). list_any (λ (e : Admitted). names e parent && has_txid e id) entries) ids h in
    let w = any_is (λ (e : Admitted). names e parent && has_txid e i.0) entries i.2 in
    let p = and_parts _ _ w.2 in
    list_any_of (λ (e : Admitted). names e parent && is_among ids e) entries w.0 w.1 (and_from _ _ p.0 (list_any_of (has_txid w.0) ids i.0 i.1 p.1)))
    (λ h.
    let w = any_is (λ (e : Admitted). names e parent && is_among ids e) entries h in
    let p = and_parts _ _ w.2 in
    let i = any_is (has_txid w.0) ids p.1 in
    list_any_of (λ (id : List ℕ). list_any (λ (e : Admitted). names e parent && has_txid e id) entries) ids i.0 i.1
    (list_any_of (λ (e : Admitted). names e parent && has_txid e i.0) entries w.0 w.1 (and_from _ _ p.0 i.2)))

-- no direct conflict spends from it
abbrev is_new : List Admitted → List ℕ → Bool
is_new direct txid = not (list_any (λ (c : Admitted). names c txid) direct)

module _ (entries direct : List Admitted) (inputs : List TxIn) (ids : List (List ℕ)) (are : AreIdsOf ids (parents_above entries inputs)) where
  down : list_any (is_new direct) ids ≡ true → list_any (adds_parent entries direct) inputs ≡ true
  down h =
      let w = any_is (is_new direct) ids h in
      let v = are.only w.0 w.1 in
      let e = v.0 in
      let i = any_is (λ (i : TxIn). bytes_eq i.prevout.txid (txid_of e.tx)) inputs (passed (is_parent inputs) entries e v.1) in
      let same : i.0.prevout.txid ≡ txid_of e.tx = (bytes_decides i.0.prevout.txid (txid_of e.tx)).0 i.2 in
      let there : is_some (entry_by_txid entries i.0.prevout.txid) ≡ true =
      is_some-find (λ (x : Admitted). has_txid x i.0.prevout.txid) entries ∙ list_any_of (λ (x : Admitted). has_txid x i.0.prevout.txid) entries e (Contains-from_filter (is_parent inputs) entries e v.1) ((bytes_decides (txid_of e.tx) i.0.prevout.txid).1 (sym same)) in
      list_any_of (adds_parent entries direct) inputs i.0 i.1
      (and_from _ _ there (ap (is_new direct) (same ∙ v.2) ∙ w.2))

  up : list_any (adds_parent entries direct) inputs ≡ true → list_any (is_new direct) ids ≡ true
  up h =
      let i = any_is (adds_parent entries direct) inputs h in
      let t = and_parts _ _ i.2 in
      let w = any_is (λ (x : Admitted). has_txid x i.0.prevout.txid) entries (sym (is_some-find (λ (x : Admitted). has_txid x i.0.prevout.txid) entries) ∙ t.0) in
      let e = w.0 in
      let same : txid_of e.tx ≡ i.0.prevout.txid = (bytes_decides (txid_of e.tx) i.0.prevout.txid).0 w.2 in
      let asks : is_parent inputs e ≡ true = list_any_of (λ (i : TxIn). bytes_eq i.prevout.txid (txid_of e.tx)) inputs i.0 i.1 ((bytes_decides i.0.prevout.txid (txid_of e.tx)).1 (sym same)) in
      let member : Contains ids (txid_of e.tx) = are.all e (Contains-filter (is_parent inputs) entries e w.1 asks) in
      list_any_of (is_new direct) ids (txid_of e.tx) member (ap (is_new direct) same ∙ t.1)

  parents_asked : list_any (is_new direct) ids ≡ list_any (adds_parent entries direct) inputs
  parents_asked = same_bool _ _ down up

-- the same, where the direct conflicts are given by their ids
pub any_new_parent : (entries : List Admitted) → AreDistinct entries → (test : Admitted → Bool) (given : List (List ℕ)) → AreIdsOf given (filter test entries)
    → (inputs : List TxIn) (ids : List (List ℕ)) → AreIdsOf ids (parents_above entries inputs)
    → list_any (gathered_new entries given) ids ≡ list_any (adds_parent entries (filter test entries)) inputs
any_new_parent entries distinct test given some inputs ids are =
    list_any-agree (gathered_new entries given) (is_new (filter test entries))
    (λ id. ap not (any_among_last (λ (e : Admitted). names e id) entries test given distinct some)) ids
    ∙ parents_asked entries (filter test entries) inputs ids are
