-- Ids that are those of entries.
use Rattle.std.proofs.Common.{◌≡◌, suc, ◌≤◌, ◌<◌, Bool, true, false, not, ◌&&◌, List, [], ◌∷◌, length, refl, sym, ap, ◌∙◌, subst, inl, inr, arith, get_or, true≢false}
use Rattle.std.specs.Prelude.{◌≢◌, Contains, filter}
use Rattle.std.specs.Str.{bytes_eq}
use Rattle.std.specs.List.{AllPairs}
use Rattle.std.specs.Cmp.Lexicographic.{bytes_decides}
use Rattle.std.proofs.lemmas.Bool.{and_parts, and_from, false_from_ne_true, cases_order}
use Rattle.std.proofs.lemmas.List.Elements.{filter_agree, Contains-get_or}
use Rattle.std.proofs.lemmas.List.{get_or_read}
use Rattle.std.proofs.lemmas.List.Kept.{AllPairs-cons, AllPairs-filter}
use Rattle.gate_tx.specs.declared.OutPoint.{OutPoint}
use Rattle.gate_tx.specs.Coins.{spends}
use Rattle.gate_tx.specs.Ids.{txid_of}
use Rattle.gate_graph.specs.Family.{reaches}
use Rattle.gate_bytes.proofs.Members.{Contains-cons_cases, Contains-head, Contains-rest, any_is, list_any_of, not_in_none}
use Rattle.gate_graph.proofs.Steps.{same_bool}
use Rattle.gate_pool.specs.Pool.{Admitted, has_txid, listing_of}
use Rattle.gate_pool.specs.Family.{steps, all_below, descendants_of, is_among, AreIdsOf}
use Rattle.gate_pool.specs.Distinct.{AreDistinct}
use Rattle.gate_pool.proofs.Adding.{passed, pairs_head, pairs_tail}
use Rattle.gate_pool.proofs.Entries.{Id, Contains-map, Contains-from_map}
use Rattle.gate_pool.proofs.Walking.{Contains-filter, Contains-from_filter, falls, same_id}

module _ {X Y : Type 0} (f : X → Id) (h : Y → Id) where
  -- things that are told apart by their ids are no more than those that have these ids
  pub no_more : (xs : List X) (ys : List Y) → AllPairs (λ (a : X) (b : X). f a ≢ f b) xs → ((x : X) → Contains xs x → (y : Y) × Contains ys y × (h y ≡ f x)) → length xs ≤ length ys
  no_more [] ys apart has = omega arith
  no_more (x ∷ xs) ys apart has =
      let w = has x (Contains-head x xs) in
      let other : Y → Bool = λ y. not (bytes_eq (h y) (f x)) in
      let less : length (filter other ys) < length ys = falls other ys w.0 w.1 (ap not ((bytes_decides (h w.0) (f x)).1 w.2)) in
      let rest : length xs ≤ length (filter other ys) = no_more xs (filter other ys) (λ i j d lt within. apart (suc i) (suc j) d (omega (arith, lt)) (omega (arith, within)))
      (λ z m.
      let v = has z (Contains-rest x xs z m) in
      let differ : bytes_eq (h v.0) (f x) ≡ true → ⊥ = λ e.
      apart 0 (suc m.0) z (omega arith) (omega (arith, m.1)) (sym (sym v.2 ∙ (bytes_decides (h v.0) (f x)).0 e) ∙ sym (ap f m.2)) in
      (v.0, Contains-filter other ys v.0 v.1 (ap not (false_from_ne_true _ differ)), v.2)) in
      omega (arith, less, rest)

-- where each two are told apart, two that are not are one
pub pairs_same : {X : Type 0} (R : X → X → Type 0) (xs : List X) → AllPairs R xs → (a b : X) → Contains xs a → Contains xs b → (R a b → ⊥) → (R b a → ⊥) → a ≡ b
pairs_same {X} R xs apart a b m n left right =
    elim (cases_order m.0 n.0) [
      | inl e ↦ get_or_read xs m.0 a m.1 (sym m.2) b ∙ ap (λ k. get_or xs k b) e ∙ n.2
      | inr (inl lt) ↦ absurd (left (told a b m n lt))
      | inr (inr lt) ↦ absurd (right (told b a n m lt))
    ]
  where
    told : (a b : X) (m : Contains xs a) (n : Contains xs b) → m.0 < n.0 → R a b
    told a b m n lt = subst (λ z. R z b) m.2 (subst (λ z. R (get_or xs m.0 a) z) (sym (get_or_read xs n.0 b n.1 (sym n.2) a)) (apart m.0 n.0 a lt n.1))

-- entries that share an id are one, and so are entries that spend one outpoint
pub same_txid : (entries : List Admitted) → AllPairs (λ (a : Admitted) (b : Admitted). txid_of a.tx ≢ txid_of b.tx) entries → (a b : Admitted) → Contains entries a → Contains entries b → txid_of a.tx ≡ txid_of b.tx → a ≡ b
same_txid entries apart a b m n same = pairs_same (λ (a : Admitted) (b : Admitted). txid_of a.tx ≢ txid_of b.tx) entries apart a b m n (λ differ. differ same) (λ differ. differ (sym same))

pub same_entry : (entries : List Admitted) → AreDistinct entries → (a b : Admitted) → Contains entries a → Contains entries b → txid_of a.tx ≡ txid_of b.tx → a ≡ b
same_entry entries distinct a b m n same = same_txid entries distinct.txids a b m n same

pub same_spender : (entries : List Admitted) → AreDistinct entries → (p : OutPoint) (a b : Admitted) → Contains entries a → Contains entries b → spends a.tx.inputs p ≡ true → spends b.tx.inputs p ≡ true → a ≡ b
same_spender entries distinct p a b m n s t =
    pairs_same (λ (a : Admitted) (b : Admitted). (point : OutPoint) → spends a.tx.inputs point ≡ true → spends b.tx.inputs point ≡ false) entries distinct.points a b m n
    (λ differ. true≢false (sym t ∙ differ p s)) (λ differ. true≢false (sym s ∙ differ p t))

-- the ids are as many as the entries
pub ids_length : (ids : List Id) (entries : List Admitted) → AllPairs (λ (a : Admitted) (b : Admitted). txid_of a.tx ≢ txid_of b.tx) entries → AreIdsOf ids entries → length ids ≡ length entries
ids_length ids entries apart are =
    let most : length ids ≤ length entries = no_more (λ (id : Id). id) (λ (e : Admitted). txid_of e.tx) ids entries are.once are.only in
    let least : length entries ≤ length ids = no_more (λ (e : Admitted). txid_of e.tx) (λ (id : Id). id) entries ids apart (λ e m. (txid_of e.tx, are.all e m, refl)) in
    omega (arith, most, least)

-- what is below the entry of an id is what is below the id
pub descendants_of_one : (entries : List Admitted) (e : Admitted) → Contains entries e → all_below (λ x. has_txid x (txid_of e.tx)) entries ≡ descendants_of entries (txid_of e.tx)
descendants_of_one entries e m =
    filter_agree _ _ (λ x. same_bool _ _
    (λ h.
    let w = any_is (λ a. has_txid a (txid_of e.tx) && reaches (steps entries) (txid_of a.tx) (txid_of x.tx)) entries h in
    let p = and_parts _ _ w.2 in
    subst (λ z. reaches (steps entries) z (txid_of x.tx) ≡ true) ((bytes_decides (txid_of w.0.tx) (txid_of e.tx)).0 p.0) p.1)
    (λ r. list_any_of (λ a. has_txid a (txid_of e.tx) && reaches (steps entries) (txid_of a.tx) (txid_of x.tx)) entries e m (and_from _ _ (same_id (txid_of e.tx)) r))) entries

-- an id of an entry is that of the entries that have it
pub AreIdsOf-one : (entries : List Admitted) (e : Admitted) (txid : Id) → Contains entries e → txid_of e.tx ≡ txid → AreIdsOf (txid ∷ []) (filter (λ x. has_txid x txid) entries)
AreIdsOf-one entries e txid m is = record {
  once = λ i j d lt within. absurd (omega (arith, lt, within));
  all = λ x k. subst (Contains (txid ∷ [])) (sym ((bytes_decides (txid_of x.tx) txid).0 (passed (λ (y : Admitted). has_txid y txid) entries x k))) (Contains-head txid []);
  only = λ id k.
      elim (Contains-cons_cases txid [] id k) [
        | inl same ↦ (e, Contains-filter (λ x. has_txid x txid) entries e m ((bytes_decides (txid_of e.tx) txid).1 is), is ∙ same)
        | inr none ↦ not_in_none id none
      ];
}

-- of a pool's entries those have one of the ids that pass the test
pub is_among_ids : (entries : List Admitted) (test : Admitted → Bool) (ids : List Id) → AreDistinct entries → AreIdsOf ids (filter test entries) → (e : Admitted) → Contains entries e → is_among ids e ≡ test e
is_among_ids entries test ids distinct are e m = same_bool _ _
    (λ h.
    let w = any_is (has_txid e) ids h in
    let v = are.only w.0 w.1 in
    let one : v.0 ≡ e = same_entry entries distinct v.0 e (Contains-from_filter test entries v.0 v.1) m (v.2 ∙ sym ((bytes_decides (txid_of e.tx) w.0).0 w.2)) in
    ap test (sym one) ∙ passed test entries v.0 v.1)
    (λ t. list_any_of (has_txid e) ids (txid_of e.tx) (are.all e (Contains-filter test entries e m t)) (same_id (txid_of e.tx)))

-- the ids of entries that pass a test
pub AreIdsOf-listing : {g : List Admitted} (test : Admitted → Bool) → AreDistinct g → AreIdsOf (listing_of (filter test g)) (filter test g)
AreIdsOf-listing {g} test distinct = record {
  once = pairs_map (filter test g) (AllPairs-filter (λ (a : Admitted) (b : Admitted). txid_of a.tx ≢ txid_of b.tx) test g distinct.txids);
  all = λ e m. Contains-map (λ (x : Admitted). txid_of x.tx) (filter test g) e m;
  only = λ id m. let v = Contains-from_map (λ (x : Admitted). txid_of x.tx) (filter test g) id m in (v.item, v.among, v.is);
}
  where
    pairs_map : (xs : List Admitted) → AllPairs (λ (a : Admitted) (b : Admitted). txid_of a.tx ≢ txid_of b.tx) xs → AllPairs (λ (a : Id) (b : Id). a ≢ b) (listing_of xs)
    pairs_map [] h = λ i j d lt within. absurd (omega (arith, within))
    pairs_map (x ∷ xs) h = AllPairs-cons (λ (a : Id) (b : Id). a ≢ b) (txid_of x.tx) (listing_of xs)
        (λ k d lt same.
        let v = Contains-from_map (λ (y : Admitted). txid_of y.tx) xs (get_or (listing_of xs) k d) (Contains-get_or (listing_of xs) k d lt) in
        pairs_head (λ (a : Admitted) (b : Admitted). txid_of a.tx ≢ txid_of b.tx) x xs h v.item v.among (same ∙ sym v.is))
        (pairs_map xs (pairs_tail (λ (a : Admitted) (b : Admitted). txid_of a.tx ≢ txid_of b.tx) x xs h))
