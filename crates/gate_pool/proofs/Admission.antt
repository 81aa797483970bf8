-- The order of admission: ids sorted by their places.
use Rattle.std.proofs.Common.{◌≡◌, ◌≢◌, ℕ, zero, suc, ◌+◌, ◌<◌, true, false, List, [], ◌∷◌, get_or, Option, Some, None, refl, sym, ap, subst, ◌∙◌, ◌⊎◌, inl, inr, arith, true≢false, not, is_some, if◌then◌else◌}
use Rattle.std.specs.Prelude.{Bool, Contains, IfSome, filter, ◌↔◌}
use Rattle.std.specs.List.{AllPairs, list_all}
use Rattle.std.specs.List.Sorted.{IsPermutation, IsNonDecreasingBy}
use Rattle.std.specs.Option.{option_map, unwrap_or}
use Rattle.std.specs.Str.{bytes_eq}
use Rattle.std.specs.Cmp.Lexicographic.{bytes_decides}
use Rattle.std.proofs.lemmas.Bool.{cases_order, and_parts, and_from}
use Rattle.std.proofs.lemmas.List.Elements.{Contains-get_or}
use Rattle.std.proofs.lemmas.List.Kept.{AllPairs-cons, AllPairs-filter}
use Rattle.std.proofs.lemmas.List.Sorted.{IsPermutation-sym, Contains-permutation}
use Rattle.std.proofs.lemmas.Map.Keys.{IsDistinct-IsPermutation}
use Rattle.std.proofs.lemmas.Map.Made.{AllPairs-from_IsDistinct, IsDistinct-from_AllPairs}
use Rattle.std.proofs.lemmas.Option.{none-some, same_Some}
use Rattle.gate_tx.specs.declared.TxIn.{TxIn}
use Rattle.gate_tx.specs.Ids.{txid_of, wtxid_of}
use Rattle.gate_graph.specs.Slots.{entries_of, at, passes}
use Rattle.gate_graph.proofs.Apart.{bytes_eq-sym}
use Rattle.gate_bytes.proofs.Members.{Contains-cons_cases, Contains-head, Contains-rest, not_in_none}
use Rattle.gate_pool.specs.Pool.{Admitted, entry_by_txid, entry_by_wtxid, spender_of, listing_of}
use Rattle.gate_pool.specs.Family.{AreIdsOf}
use Rattle.gate_pool.specs.Keeping.{IsNew}
use Rattle.gate_pool.specs.Places.{place_in}
use Rattle.gate_pool.proofs.Adding.{pairs_head, pairs_tail}
use Rattle.gate_pool.proofs.Entries.{Id, Contains-map, Contains-from_map}
use Rattle.gate_pool.proofs.Walking.{Contains-from_filter, same_id}

-- an id stands somewhere
pub stands_at : (spots : List (Option Id)) (x : Id) → Contains (entries_of spots) x → (i : ℕ) × (at spots i ≡ Some x)
stands_at [] x m = not_in_none x m
stands_at (None ∷ spots) x m = let w = stands_at spots x m in (suc w.0, w.1)
stands_at (Some y ∷ spots) x m =
    elim (Contains-cons_cases y (entries_of spots) x m) [
      | inl same ↦ (0, ap Some same)
      | inr k ↦ let w = stands_at spots x k in (suc w.0, w.1)
    ]

-- what stands at a place is among all
stands_among : (spots : List (Option Id)) (i : ℕ) (x : Id) → at spots i ≡ Some x → Contains (entries_of spots) x
stands_among [] i x e = absurd (none-some x e)
stands_among (None ∷ spots) zero x e = absurd (none-some x e)
stands_among (None ∷ spots) (suc i) x e = stands_among spots i x e
stands_among (Some y ∷ spots) zero x e = subst (Contains (y ∷ entries_of spots)) (same_Some y x e) (Contains-head y (entries_of spots))
stands_among (Some y ∷ spots) (suc i) x e = Contains-rest y (entries_of spots) x (stands_among spots i x e)

-- an id that stands somewhere has a place, at which it stands
in_some : (o : Option ℕ) (p : ℕ) → option_map suc o ≡ Some p → (q : ℕ) × (o ≡ Some q) × (p ≡ suc q)
in_some None p e = absurd (none-some p e)
in_some (Some q) p e = (q, refl, sym (same_Some (suc q) p e))

place_head : (s : Option Id) (x : Id) → passes (λ y. bytes_eq y x) s ≡ true → s ≡ Some x
place_head None x t = absurd (true≢false (sym t))
place_head (Some y) x t = ap Some ((bytes_decides y x).0 t)

pub place_stands : (spots : List (Option Id)) (x : Id) (p : ℕ) → place_in spots x ≡ Some p → at spots p ≡ Some x
place_stands [] x p e = absurd (none-some p e)
place_stands (s ∷ spots) x p e = by (λ q k. place_stands spots x q k) (passes (λ y. bytes_eq y x) s) refl e
  where
    by : ((q : ℕ) → place_in spots x ≡ Some q → at spots q ≡ Some x) → (b : Bool) → passes (λ y. bytes_eq y x) s ≡ b → (if b then Some 0 else option_map suc (place_in spots x)) ≡ Some p → at (s ∷ spots) p ≡ Some x
    by ih true t k = subst (λ q. at (s ∷ spots) q ≡ Some x) (same_Some 0 p k) (place_head s x t)
    by ih false t k = let w = in_some (place_in spots x) p k in subst (λ q. at (s ∷ spots) q ≡ Some x) (sym w.2) (ih w.0 w.1)

place_later : (o : Option ℕ) → is_some o ≡ true → is_some (option_map suc o) ≡ true
place_later None h = h
place_later (Some q) h = refl

pub place_some : (spots : List (Option Id)) (x : Id) (p : ℕ) → at spots p ≡ Some x → is_some (place_in spots x) ≡ true
place_some [] x p e = absurd (none-some x e)
place_some (s ∷ spots) x p e = by (λ q k. place_some spots x q k) (passes (λ y. bytes_eq y x) s) refl p e
  where
    by : ((q : ℕ) → at spots q ≡ Some x → is_some (place_in spots x) ≡ true) → (b : Bool) → passes (λ y. bytes_eq y x) s ≡ b → (q : ℕ) → at (s ∷ spots) q ≡ Some x → is_some (if b then Some 0 else option_map suc (place_in spots x)) ≡ true
    by ih true t q k = refl
    by ih false t zero k = absurd (true≢false (sym (ap (passes (λ y. bytes_eq y x)) k ∙ same_id x) ∙ t))
    by ih false t (suc q) k = place_later (place_in spots x) (ih q k)

-- an answer that names the only place
pub only_place : (spots : List (Option Id)) (x : Id) (r : Option ℕ) → ((p : ℕ) → r ≡ Some p → at spots p ≡ Some x) → ((p : ℕ) → at spots p ≡ Some x → r ≡ Some p) → r ≡ place_in spots x
only_place spots x r sound whole = by (place_in spots x) refl r refl
  where
    by : (o : Option ℕ) → place_in spots x ≡ o → (q : Option ℕ) → r ≡ q → r ≡ o
    by (Some p) e q is = whole p (place_stands spots x p e)
    by None e None is = is
    by None e (Some p) is = absurd (true≢false (sym (place_some spots x p (sound p is)) ∙ ap is_some e))

module _ (n : Id → ℕ) where
  -- each id has a smaller number than the later ones
  abbrev pub Rises : List Id → Type 0
  Rises ids = AllPairs (λ (a : Id) (b : Id). n a < n b) ids

  -- the same of entries, by their ids
  abbrev pub Follow : List Admitted → Type 0
  Follow entries = AllPairs (λ (a : Admitted) (b : Admitted). n (txid_of a.tx) < n (txid_of b.tx)) entries

  -- two lists that rise and have the same members are one
  pub same_rising : (xs ys : List Id) → Rises xs → Rises ys → ((x : Id) → Contains xs x → Contains ys x) → ((x : Id) → Contains ys x → Contains xs x) → xs ≡ ys
  same_rising [] [] a b f h = refl
  same_rising [] (y ∷ ys) a b f h = not_in_none y (h y (Contains-head y ys))
  same_rising (x ∷ xs) [] a b f h = not_in_none x (f x (Contains-head x xs))
  same_rising (x ∷ xs) (y ∷ ys) a b f h =
      ap (λ z. z ∷ xs) heads ∙ ap (λ l. y ∷ l) (same_rising xs ys (pairs_tail R x xs a) (pairs_tail R y ys b) left right)
    where
      R : Id → Id → Type 0
      R = λ c d. n c < n d

      one : (y ≡ x) ⊎ Contains ys x → (x ≡ y) ⊎ Contains xs y → x ≡ y
      one (inl e) k = sym e
      one (inr m) (inl e) = e
      one (inr m) (inr k) = absurd (omega (arith, pairs_head R y ys b x m, pairs_head R x xs a y k))

      heads : x ≡ y
      heads = one (Contains-cons_cases y ys x (f x (Contains-head x xs))) (Contains-cons_cases x xs y (h y (Contains-head y ys)))

      left : (z : Id) → Contains xs z → Contains ys z
      left z m = elim (Contains-cons_cases y ys z (f z (Contains-rest x xs z m))) [ inl e ↦ absurd (omega (arith, pairs_head R x xs a z m, ap n (heads ∙ e))) | inr k ↦ k ]

      right : (z : Id) → Contains ys z → Contains xs z
      right z m = elim (Contains-cons_cases x xs z (h z (Contains-rest y ys z m))) [ inl e ↦ absurd (omega (arith, pairs_head R y ys b z m, ap n (sym heads ∙ e))) | inr k ↦ k ]

  -- ids rise by their places
  pub Rises-spots : (spots : List (Option Id)) (o : ℕ) → ((i : ℕ) (x : Id) → at spots i ≡ Some x → n x ≡ o + i) → Rises (entries_of spots)
  Rises-spots [] o h = λ i j d lt within. absurd (omega (arith, within))
  Rises-spots (None ∷ spots) o h = Rises-spots spots (suc o) (λ i x k. omega (arith, h (suc i) x k))
  Rises-spots (Some y ∷ spots) o h =
      AllPairs-cons (λ (a : Id) (b : Id). n a < n b) y (entries_of spots)
      (λ j d within.
      let w = stands_at spots (get_or (entries_of spots) j d) (Contains-get_or (entries_of spots) j d within) in
      omega (arith, h 0 y refl, h (suc w.0) (get_or (entries_of spots) j d) w.1))
      (Rises-spots spots (suc o) (λ i x k. omega (arith, h (suc i) x k)))

  -- the same of entries that have these ids
  pub Follow-listing : (entries : List Admitted) → Rises (listing_of entries) → Follow entries
  Follow-listing [] h = λ i j d lt within. absurd (omega (arith, within))
  Follow-listing (x ∷ entries) h =
      AllPairs-cons (λ (a : Admitted) (b : Admitted). n (txid_of a.tx) < n (txid_of b.tx)) x entries
      (λ j d within. pairs_head (λ (a : Id) (b : Id). n a < n b) (txid_of x.tx) (listing_of entries) h (txid_of (get_or entries j d).tx)
      (Contains-map (λ (e : Admitted). txid_of e.tx) entries (get_or entries j d) (Contains-get_or entries j d within)))
      (Follow-listing entries (pairs_tail (λ (a : Id) (b : Id). n a < n b) (txid_of x.tx) (listing_of entries) h))

  -- so their ids rise
  pub Rises-listing : (entries : List Admitted) → Follow entries → Rises (listing_of entries)
  Rises-listing [] h = λ i j d lt within. absurd (omega (arith, within))
  Rises-listing (x ∷ entries) h =
      AllPairs-cons (λ (a : Id) (b : Id). n a < n b) (txid_of x.tx) (listing_of entries)
      (λ j d within.
      let w = Contains-from_map (λ (e : Admitted). txid_of e.tx) entries (get_or (listing_of entries) j d) (Contains-get_or (listing_of entries) j d within) in
      omega (arith, pairs_head (λ (a : Admitted) (b : Admitted). n (txid_of a.tx) < n (txid_of b.tx)) x entries h w.item w.among, ap n w.is))
      (Rises-listing entries (pairs_tail (λ (a : Admitted) (b : Admitted). n (txid_of a.tx) < n (txid_of b.tx)) x entries h))

  -- ids in order that differ, and of which no two have one number, rise
  pub Rises-sorted : (ids : List Id) → IsNonDecreasingBy n ids → AllPairs (λ (a : Id) (b : Id). a ≢ b) ids → ((a b : Id) → Contains ids a → Contains ids b → n a ≡ n b → a ≡ b) → Rises ids
  Rises-sorted ids up once apart = λ i j d lt within.
      let a = get_or ids i d in
      let b = get_or ids j d in
      elim (cases_order (n a) (n b)) [
        | inl same ↦ absurd (once i j d lt within (apart a b (Contains-get_or ids i d (omega (arith, lt, within))) (Contains-get_or ids j d within) same))
        | inr (inl less) ↦ less
        | inr (inr more) ↦ absurd (omega (arith, more, up i j d (omega (arith, lt)) within))
      ]

-- ids are those of the same entries in any order
AreIdsOf-moved : (old ids : List Id) (entries : List Admitted) → IsPermutation old ids → AreIdsOf old entries → AreIdsOf ids entries
AreIdsOf-moved old ids entries moved are = record {
  once = AllPairs-from_IsDistinct bytes_decides ids (IsDistinct-IsPermutation bytes_eq bytes_eq-sym old ids moved (IsDistinct-from_AllPairs bytes_decides old are.once));
  all = λ e m. Contains-permutation old ids (txid_of e.tx) moved (are.all e m);
  only = λ id m. are.only id (Contains-permutation ids old id (IsPermutation-sym old ids moved) m);
}

-- the place of an id, or 0
abbrev pub number_in : List (Option Id) → Id → ℕ
number_in spots id = unwrap_or (place_in spots id) 0

module _ (entries : List Admitted) (spots : List (Option Id)) (is : entries_of spots ≡ listing_of entries) (distinct : AllPairs (λ (a : Admitted) (b : Admitted). txid_of a.tx ≢ txid_of b.tx) entries) where
  once : (xs : List Admitted) → AllPairs (λ (a : Admitted) (b : Admitted). txid_of a.tx ≢ txid_of b.tx) xs → AllPairs (λ (a : Id) (b : Id). a ≢ b) (listing_of xs)
  once [] h = λ i j d lt within. absurd (omega (arith, within))
  once (x ∷ xs) h = AllPairs-cons (λ (a : Id) (b : Id). a ≢ b) (txid_of x.tx) (listing_of xs)
      (λ k d lt same.
      let v = Contains-from_map (λ (y : Admitted). txid_of y.tx) xs (get_or (listing_of xs) k d) (Contains-get_or (listing_of xs) k d lt) in
      pairs_head (λ (a : Admitted) (b : Admitted). txid_of a.tx ≢ txid_of b.tx) x xs h v.item v.among (same ∙ sym v.is))
      (once xs (pairs_tail (λ (a : Admitted) (b : Admitted). txid_of a.tx ≢ txid_of b.tx) x xs h))

  -- no id stands twice
  one_spot : (ss : List (Option Id)) → AllPairs (λ (a : Id) (b : Id). a ≢ b) (entries_of ss) → (i j : ℕ) (x : Id) → at ss i ≡ Some x → at ss j ≡ Some x → i ≡ j
  one_spot [] h i j x p q = absurd (none-some x p)
  one_spot (None ∷ ss) h zero j x p q = absurd (none-some x p)
  one_spot (None ∷ ss) h (suc i) zero x p q = absurd (none-some x q)
  one_spot (None ∷ ss) h (suc i) (suc j) x p q = ap suc (one_spot ss h i j x p q)
  one_spot (Some y ∷ ss) h zero zero x p q = refl
  one_spot (Some y ∷ ss) h zero (suc j) x p q = absurd (pairs_head (λ (a : Id) (b : Id). a ≢ b) y (entries_of ss) h x (stands_among ss j x q) (same_Some y x p))
  one_spot (Some y ∷ ss) h (suc i) zero x p q = absurd (pairs_head (λ (a : Id) (b : Id). a ≢ b) y (entries_of ss) h x (stands_among ss i x p) (same_Some y x q))
  one_spot (Some y ∷ ss) h (suc i) (suc j) x p q = ap suc (one_spot ss (pairs_tail (λ (a : Id) (b : Id). a ≢ b) y (entries_of ss) h) i j x p q)

  pub one_place : (i j : ℕ) (x : Id) → at spots i ≡ Some x → at spots j ≡ Some x → i ≡ j
  one_place = one_spot spots (subst (AllPairs (λ (a : Id) (b : Id). a ≢ b)) (sym is) (once entries distinct))

  pub number_at : (i : ℕ) (x : Id) → at spots i ≡ Some x → number_in spots x ≡ i
  number_at i x e = by (place_in spots x) refl
    where
      by : (o : Option ℕ) → place_in spots x ≡ o → unwrap_or o 0 ≡ i
      by None k = absurd (true≢false (sym (place_some spots x i e) ∙ ap is_some k))
      by (Some p) k = one_place p i x (place_stands spots x p k) e

  follow : Follow (number_in spots) entries
  follow = Follow-listing (number_in spots) entries (subst (Rises (number_in spots)) is (Rises-spots (number_in spots) spots 0 (λ i x e. number_at i x e ∙ from_none i)))
    where
      from_none : (i : ℕ) → i ≡ 0 + i
      from_none i = omega arith

  -- ids of entries at one place are one
  one_id : (x y : Id) → Contains (listing_of entries) x → Contains (listing_of entries) y → number_in spots x ≡ number_in spots y → x ≡ y
  one_id x y m k same =
      let v = stands_at spots x (subst (λ l. Contains l x) (sym is) m) in
      let w = stands_at spots y (subst (λ l. Contains l y) (sym is) k) in
      let place : v.0 ≡ w.0 = sym (number_at v.0 x v.1) ∙ same ∙ number_at w.0 y w.1 in
      same_Some x y (sym v.1 ∙ ap (at spots) place ∙ w.1)

  listed : (es : List Admitted) (e : Admitted) → Contains es e → Contains (listing_of es) (txid_of e.tx)
  listed es e m = Contains-map (λ (x : Admitted). txid_of x.tx) es e m

  -- ids of entries that were sorted by their places are in order of admission
  pub in_order : (test : Admitted → Bool) (old ids : List Id) → IsPermutation old ids → IsNonDecreasingBy (number_in spots) ids → AreIdsOf old (filter test entries) → ids ≡ listing_of (filter test entries)
  in_order test old ids moved up was =
      same_rising (number_in spots) ids (listing_of some)
      (Rises-sorted (number_in spots) ids up are.once (λ a b m k same. one_id a b (all_of_it a m) (all_of_it b k) same))
      (Rises-listing (number_in spots) some (AllPairs-filter (λ (a : Admitted) (b : Admitted). number_in spots (txid_of a.tx) < number_in spots (txid_of b.tx)) test entries follow))
      (λ id m. let w = are.only id m in subst (Contains (listing_of some)) w.2 (listed some w.0 w.1))
      (λ id m. let w = Contains-from_map (λ (e : Admitted). txid_of e.tx) some id m in subst (Contains ids) w.is (are.all w.item w.among))
    where
      some : List Admitted
      some = filter test entries

      are : AreIdsOf ids some
      are = AreIdsOf-moved old ids some moved was

      all_of_it : (x : Id) → Contains ids x → Contains (listing_of entries) x
      all_of_it x m = let w = are.only x m in subst (Contains (listing_of entries)) w.2 (listed entries w.0 (Contains-from_filter test entries w.0 w.1))

none_of : {X : Type 0} (o : Option X) → not (is_some o) ≡ true → o ≡ None
none_of None h = refl
none_of (Some x) h = absurd (true≢false (sym h))

all_of : {X : Type 0} (p : X → Bool) (xs : List X) → list_all p xs ≡ true → (x : X) → Contains xs x → p x ≡ true
all_of p [] h x c = not_in_none x c
all_of p (y ∷ xs) h x c = elim (Contains-cons_cases y xs x c) [ inl e ↦ ap p (sym e) ∙ (and_parts _ _ h).0 | inr k ↦ all_of p xs (and_parts _ _ h).1 x k ]

from_all : {X : Type 0} (p : X → Bool) (xs : List X) → ((x : X) → Contains xs x → p x ≡ true) → list_all p xs ≡ true
from_all p [] f = refl
from_all p (x ∷ xs) f = and_from _ _ (f x (Contains-head x xs)) (from_all p xs (λ y c. f y (Contains-rest x xs y c)))

-- whether nothing spends what the inputs spend
abbrev pub are_free : List Admitted → List TxIn → Bool
are_free entries inputs = list_all (λ (i : TxIn). not (is_some (spender_of entries i.prevout))) inputs

-- an entry whose ids are of none is new where its inputs are free
pub IsNew-free : (entries : List Admitted) (e : Admitted) (free : Bool) → is_some (entry_by_txid entries (txid_of e.tx)) ≡ false → is_some (entry_by_wtxid entries (wtxid_of e.tx)) ≡ false → free ≡ are_free entries e.tx.inputs → (free ≡ true) ↔ IsNew entries e
IsNew-free entries e free no_txid no_wtxid is = (
  λ h. record {
    txid = none_of _ (ap not no_txid);
    wtxid = none_of _ (ap not no_wtxid);
    points = λ i c. none_of _ (all_of (λ (j : TxIn). not (is_some (spender_of entries j.prevout))) e.tx.inputs (sym is ∙ h) i c);
  },
  λ new. is ∙ from_all (λ (j : TxIn). not (is_some (spender_of entries j.prevout))) e.tx.inputs (λ i c. ap (λ o. not (is_some o)) (new.points i c)),
)

-- an answer about an id, told of another that is the same
pub told_place : (spots : List (Option Id)) (y x : Id) (r : Option ℕ) → y ≡ x → IfSome r (λ p. at spots p ≡ Some y) → ((p : ℕ) → at spots p ≡ Some y → r ≡ Some p) → r ≡ place_in spots x
told_place spots y x r same sound whole =
    only_place spots x r
    (λ p e. subst (λ (o : Option ℕ). IfSome o (λ p. at spots p ≡ Some y)) e sound ∙ ap Some same)
    (λ p e. whole p (e ∙ ap Some (sym same)))
