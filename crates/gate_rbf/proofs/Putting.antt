-- Ids that are gathered as a list is gone through.
use Rattle.std.proofs.Common.{◌≡◌, ℕ, ◌+◌, ◌<◌, ◌≤◌, Bool, true, false, ◌||◌, List, [], length, take, drop, get_or, refl, sym, ap, ◌∙◌, subst, ◌⊎◌, inl, inr, arith, true≢false, Some, None}
use Rattle.std.specs.Prelude.{Contains, filter}
use Rattle.std.specs.List.{list_any}
use Rattle.std.proofs.lemmas.Bool.{or_cases, or_left, or_right}
use Rattle.std.proofs.lemmas.List.Folds.{list_any_more, list_any-append}
use Rattle.std.proofs.lemmas.List.{take-append-drop}
use Rattle.std.specs.Cmp.Lexicographic.{bytes_decides}
use Rattle.gate_tx.specs.declared.TxIn.{TxIn}
use Rattle.gate_tx.specs.Coins.{spends}
use Rattle.gate_tx.specs.Ids.{txid_of}
use Rattle.gate_pool.specs.Pool.{Admitted, has_txid, spender_of, entry_by_txid}
use Rattle.gate_pool.specs.Family.{is_among, spends_one_of, AreIdsOf}
use Rattle.gate_pool.specs.Distinct.{AreDistinct}
use Rattle.gate_pool.proofs.Entries.{find_some, find_none}
use Rattle.gate_pool.proofs.Adding.{passed, same_kept}
use Rattle.gate_pool.proofs.Walking.{Contains-filter, Contains-from_filter}
use Rattle.gate_pool.proofs.Ids.{no_more, same_entry}
use Rattle.gate_rbf.specs.Gathering.{IsPut}
use Rattle.gate_rbf.proofs.Spenders.{same_spender}

-- no ids are those of no entries
pub AreIdsOf-none : (test : Admitted → Bool) (entries : List Admitted) → ((e : Admitted) → Contains entries e → test e ≡ false) → AreIdsOf [] (filter test entries)
AreIdsOf-none test entries none = record {
  once = λ i j d l m. absurd (omega (arith, l, m));
  all = λ e m. absurd (true≢false (sym (passed test entries e m) ∙ none e (Contains-from_filter test entries e m)));
  only = λ id m. absurd (omega (arith, m.1));
}

-- with the id of one entry more, ids are those of the entries that a wider test passes
pub AreIdsOf-put : (entries : List Admitted) (t u : Admitted → Bool) (e : Admitted) → Contains entries e → u e ≡ true
    → ((x : Admitted) → Contains entries x → t x ≡ true → u x ≡ true)
    → ((x : Admitted) → Contains entries x → u x ≡ true → (t x ≡ true) ⊎ (e ≡ x))
    → {ids more : List (List ℕ)} → IsPut ids (txid_of e.tx) more → AreIdsOf ids (filter t entries) → AreIdsOf more (filter u entries)
AreIdsOf-put entries t u e member passes wider new {ids} {more} put are = record {
  once = put.once are.once;
  all = λ x m.
      let n = Contains-from_filter u entries x m in
      elim (new x n (passed u entries x m)) [
        | inl old ↦ put.keeps (txid_of x.tx) (are.all x (Contains-filter t entries x n old))
        | inr same ↦ subst (λ (z : Admitted). Contains more (txid_of z.tx)) same put.has
      ];
  only = λ id m.
      elim (put.only id m) [
        | inl old ↦
            let w = are.only id old in
            let n = Contains-from_filter t entries w.0 w.1 in
            (w.0, Contains-filter u entries w.0 n (wider w.0 n (passed t entries w.0 w.1)), w.2)
        | inr same ↦ (e, Contains-filter u entries e member passes, sym same)
      ];
}

module _ {X : Type 0} (R : X → Admitted → Bool) (items : List X) where
  one_more : (k : ℕ) (x : X) → k < length items → get_or items k x ≡ x → (e : Admitted) → list_any (λ i. R i e) (take (k + 1) items) ≡ (list_any (λ i. R i e) (take k items) || R x e)
  one_more k x within here e = list_any_more (λ i. R i e) items k x within ∙ ap (λ y. list_any (λ i. R i e) (take k items) || R y e) here

  -- the next item answers to one entry
  pub AreIdsOf-found : (entries : List Admitted) (k : ℕ) (x : X) → k < length items → get_or items k x ≡ x → (e : Admitted) → Contains entries e → R x e ≡ true
      → ((y : Admitted) → Contains entries y → R x y ≡ true → e ≡ y) → {ids more : List (List ℕ)} → IsPut ids (txid_of e.tx) more
      → AreIdsOf ids (filter (λ e. list_any (λ i. R i e) (take k items)) entries) → AreIdsOf more (filter (λ e. list_any (λ i. R i e) (take (k + 1) items)) entries)
  AreIdsOf-found entries k x within here e member h only {ids} {more} put are =
      AreIdsOf-put entries (λ e. list_any (λ i. R i e) (take k items)) (λ e. list_any (λ i. R i e) (take (k + 1) items)) e member
      (one_more k x within here e ∙ or_right (list_any (λ i. R i e) (take k items)) (R x e) h)
      (λ y m t. one_more k x within here y ∙ or_left (list_any (λ i. R i y) (take k items)) (R x y) t)
      (λ y m t. elim (or_cases (list_any (λ i. R i y) (take k items)) (R x y) (sym (one_more k x within here y) ∙ t)) [ inl o ↦ inl o | inr r ↦ inr (only y m r) ])
      put are

  -- the next item answers to none
  pub AreIdsOf-passed : (entries : List Admitted) (k : ℕ) (x : X) → k < length items → get_or items k x ≡ x → ((y : Admitted) → Contains entries y → R x y ≡ false) → (ids : List (List ℕ))
      → AreIdsOf ids (filter (λ e. list_any (λ i. R i e) (take k items)) entries) → AreIdsOf ids (filter (λ e. list_any (λ i. R i e) (take (k + 1) items)) entries)
  AreIdsOf-passed entries k x within here none ids are =
      subst (AreIdsOf ids)
      (same_kept (λ e. list_any (λ i. R i e) (take k items)) (λ e. list_any (λ i. R i e) (take (k + 1) items)) entries
      (λ y m. sym (one_more k x within here y ∙ ap (λ b. list_any (λ i. R i y) (take k items) || b) (none y m) ∙ or-false (list_any (λ i. R i y) (take k items))))) are
    where
      or-false : (b : Bool) → (b || false) ≡ b
      or-false true = refl
      or-false false = refl

  -- those that answer to the first items are no more than those that answer to all
  pub AreIdsOf-fewer : (entries : List Admitted) (k : ℕ) (ids : List (List ℕ)) → AreIdsOf ids (filter (λ e. list_any (λ i. R i e) (take k items)) entries) → length ids ≤ length (filter (λ e. list_any (λ i. R i e) items) entries)
  AreIdsOf-fewer entries k ids are =
      no_more (λ (id : List ℕ). id) (λ (e : Admitted). txid_of e.tx) ids (filter (λ e. list_any (λ i. R i e) items) entries) are.once
      (λ id m.
      let w = are.only id m in
      let some : list_any (λ i. R i w.0) (take k items) ≡ true = passed (λ e. list_any (λ i. R i e) (take k items)) entries w.0 w.1 in
      let all : list_any (λ i. R i w.0) items ≡ true =
      ap (list_any (λ i. R i w.0)) (sym (take-append-drop k items)) ∙ list_any-append (λ i. R i w.0) (take k items) (drop k items) ∙ or_left _ (list_any (λ i. R i w.0) (drop k items)) some in
      (w.0, Contains-filter (λ e. list_any (λ i. R i e) items) entries w.0 (Contains-from_filter (λ e. list_any (λ i. R i e) (take k items)) entries w.0 w.1) all, w.2))

module _ (entries : List Admitted) (distinct : AreDistinct entries) where
  -- the next id is that of an entry
  pub AreIdsOf-entry : (items : List (List ℕ)) (k : ℕ) (x : List ℕ) → k < length items → get_or items k x ≡ x → (e : Admitted) → entry_by_txid entries x ≡ Some e → {ids more : List (List ℕ)} → IsPut ids (txid_of e.tx) more
      → AreIdsOf ids (filter (is_among (take k items)) entries) → AreIdsOf more (filter (is_among (take (k + 1) items)) entries)
  AreIdsOf-entry items k x within here e found =
      let w = find_some (λ (y : Admitted). has_txid y x) entries e found in
      AreIdsOf-found (λ (i : List ℕ) (y : Admitted). has_txid y i) items entries k x within here e w.0 w.1
      (λ y m h. same_entry entries distinct e y w.0 m ((bytes_decides (txid_of e.tx) x).0 w.1 ∙ sym ((bytes_decides (txid_of y.tx) x).0 h)))

  -- the next input's outpoint is spent by an entry
  pub AreIdsOf-spender : (items : List TxIn) (k : ℕ) (x : TxIn) → k < length items → get_or items k x ≡ x → (e : Admitted) → spender_of entries x.prevout ≡ Some e → {ids more : List (List ℕ)} → IsPut ids (txid_of e.tx) more
      → AreIdsOf ids (filter (spends_one_of (take k items)) entries) → AreIdsOf more (filter (spends_one_of (take (k + 1) items)) entries)
  AreIdsOf-spender items k x within here e found =
      let w = find_some (λ (y : Admitted). spends y.tx.inputs x.prevout) entries e found in
      AreIdsOf-found (λ (i : TxIn) (y : Admitted). spends y.tx.inputs i.prevout) items entries k x within here e w.0 w.1
      (λ y m h. same_spender entries distinct x.prevout e y w.0 m w.1 h)

-- the next id is that of no entry
pub AreIdsOf-no_entry : (entries : List Admitted) (items : List (List ℕ)) (k : ℕ) (x : List ℕ) → k < length items → get_or items k x ≡ x → entry_by_txid entries x ≡ None → (ids : List (List ℕ))
    → AreIdsOf ids (filter (is_among (take k items)) entries) → AreIdsOf ids (filter (is_among (take (k + 1) items)) entries)
AreIdsOf-no_entry entries items k x within here none =
    AreIdsOf-passed (λ (i : List ℕ) (y : Admitted). has_txid y i) items entries k x within here (find_none (λ (y : Admitted). has_txid y x) entries none)

-- the next input's outpoint is spent by none
pub AreIdsOf-no_spender : (entries : List Admitted) (items : List TxIn) (k : ℕ) (x : TxIn) → k < length items → get_or items k x ≡ x → spender_of entries x.prevout ≡ None → (ids : List (List ℕ))
    → AreIdsOf ids (filter (spends_one_of (take k items)) entries) → AreIdsOf ids (filter (spends_one_of (take (k + 1) items)) entries)
AreIdsOf-no_spender entries items k x within here none =
    AreIdsOf-passed (λ (i : TxIn) (y : Admitted). spends y.tx.inputs i.prevout) items entries k x within here (find_none (λ (y : Admitted). spends y.tx.inputs x.prevout) entries none)

-- the entries that the first inputs conflict with are no more than all
pub conflicts-fewer : (entries : List Admitted) (items : List TxIn) (k : ℕ) (ids : List (List ℕ)) → AreIdsOf ids (filter (spends_one_of (take k items)) entries) → length ids ≤ length (filter (spends_one_of items) entries)
conflicts-fewer entries items = AreIdsOf-fewer (λ (i : TxIn) (y : Admitted). spends y.tx.inputs i.prevout) items entries
