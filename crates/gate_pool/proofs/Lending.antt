-- Entries beside the ids that a walk found.
use Rattle.std.proofs.Common.{Some, ◌≡◌, ℕ, ◌+◌, ◌<◌, List, [], ◌∷◌, ◌++◌, length, get_or, refl, sym, ap, ◌∙◌, subst, inl, inr, arith}
use Rattle.std.specs.Prelude.{Bool, Contains, filter, sum_by}
use Rattle.std.specs.List.{AllPairs}
use Rattle.std.proofs.lemmas.List.{map-append, length-map, get_or-map}
use Rattle.std.proofs.lemmas.List.Elements.{Contains-append_cases}
use Rattle.std.proofs.lemmas.List.Sums.{sum_by-cons}
use Rattle.gate_tx.specs.Ids.{txid_of}
use Rattle.gate_bytes.proofs.Members.{Contains-cons_cases, Contains-head, Contains-rest, not_in_none}
use Rattle.gate_pool.specs.Pool.{Admitted, entry_by_txid, listing_of}
use Rattle.gate_pool.specs.Family.{AreIdsOf, sums_of}
use Rattle.gate_pool.specs.Search.{AreLent}
use Rattle.gate_graph.specs.declared.held.Sums.{Sums}
use Rattle.gate_pool.proofs.Adding.{DifferById, weight, weigh, weighed, found_by_id, length-ones}
use Rattle.gate_pool.proofs.Entries.{Id}

module _ {g : List Admitted} where
  pub AreLent-none : {found : List Id} {lent : List Admitted} → found ≡ [] → lent ≡ [] → AreLent g found lent
  AreLent-none a b = record {
    listed = a ∙ ap listing_of (sym b);
    only = λ e m. not_in_none e (subst (λ l. Contains l e) b m);
  }

  -- one more
  pub AreLent-pushed : {found after : List Id} {lent more : List Admitted} → AreLent g found lent → (x : Id) (e : Admitted) → Contains g e → txid_of e.tx ≡ x → after ≡ found ++ x ∷ [] → more ≡ lent ++ e ∷ [] → AreLent g after more
  AreLent-pushed {found} {after} {lent} {more} h x e m same a b = record {
    listed = a ∙ ap (λ l. l ++ x ∷ []) h.listed ∙ ap (λ y. listing_of lent ++ y ∷ []) (sym same) ∙ sym (map-append (λ (d : Admitted). txid_of d.tx) lent (e ∷ [])) ∙ ap listing_of (sym b);
    only = λ d c.
        elim (Contains-append_cases lent (e ∷ []) d (subst (λ l. Contains l d) b c)) [
          | inl k ↦ h.only d k
          | inr k ↦ elim (Contains-cons_cases e [] d k) [ inl is ↦ subst (Contains g) is m | inr none ↦ not_in_none d none ]
        ];
  }

  -- as many as the ids, and each at the place of its own
  pub AreLent-length : {found : List Id} {lent : List Admitted} → AreLent g found lent → length found ≡ length lent
  AreLent-length {found} {lent} h = ap (λ (l : List Id). length l) h.listed ∙ length-map lent (λ (d : Admitted). txid_of d.tx)

  pub AreLent-at : {found : List Id} {lent : List Admitted} → AreLent g found lent → (k : ℕ) (e : Admitted) → k < length lent → e ≡ get_or lent k e → txid_of e.tx ≡ get_or found k (txid_of e.tx)
  AreLent-at {found} {lent} h k e lt is =
      ap (λ (d : Admitted). txid_of d.tx) is ∙ sym (get_or-map (λ (d : Admitted). txid_of d.tx) lent k e (txid_of e.tx) lt) ∙ ap (λ (l : List Id). get_or l k (txid_of e.tx)) (sym h.listed)

  -- nothing was added
  pub AreLent-same : {found after : List Id} {lent more : List Admitted} → AreLent g found lent → after ≡ found → more ≡ lent → AreLent g after more
  AreLent-same h a b = record {
    listed = a ∙ h.listed ∙ ap listing_of (sym b);
    only = λ d c. h.only d (subst (λ l. Contains l d) b c);
  }

same_sums : (s t : Sums) → s.count ≡ t.count → s.size ≡ t.size → s.fees ≡ t.fees → s ≡ t
same_sums s t a b c = λ i. record { count = a i; size = b i; fees = c i }

module _ (g : List Admitted) (apart : AllPairs DifferById g) where
  -- the next of them is the entry of the next id
  pub lent_next : {found : List Id} {lent : List Admitted} → AreLent g found lent → (k : ℕ) (e : Admitted) → k < length lent → e ≡ get_or lent k e
      → (k < length found) × (txid_of e.tx ≡ get_or found k (txid_of e.tx)) × (entry_by_txid g (txid_of e.tx) ≡ Some e)
  lent_next h k e lt is = (omega (arith, lt, AreLent-length h), AreLent-at h k e lt is, found_by_id g apart e (h.only e (k, lt, sym is)))

  -- they weigh what their ids do
  pub weigh-lent : (w : Admitted → ℕ) (lent : List Admitted) → ((e : Admitted) → Contains lent e → Contains g e) → weigh w g (listing_of lent) ≡ sum_by w lent
  weigh-lent w [] only = refl
  weigh-lent w (e ∷ lent) only =
      sum_by-cons (λ (x : Id). weight w (entry_by_txid g x)) (txid_of e.tx) (listing_of lent)
      ∙ ap (λ n. n + weigh w g (listing_of lent)) (ap (weight w) (found_by_id g apart e (only e (Contains-head e lent))))
      ∙ ap (λ n. w e + n) (weigh-lent w lent (λ d m. only d (Contains-rest e lent d m)))
      ∙ sym (sum_by-cons w e lent)

  -- they come to what the entries do that have their ids
  pub lent_sums : {found : List Id} {lent : List Admitted} → AreLent g found lent → (test : Admitted → Bool) → AreIdsOf found (filter test g) → sums_of lent ≡ sums_of (filter test g)
  lent_sums {found} {lent} h test are =
      let all : (w : Admitted → ℕ) → sum_by w lent ≡ sum_by w (filter test g) = λ w. sym (weigh-lent w lent h.only) ∙ ap (weigh w g) (sym h.listed) ∙ weighed w g apart found test are in
      same_sums (sums_of lent) (sums_of (filter test g))
      (sym (length-ones lent) ∙ all (λ (e : Admitted). 1) ∙ length-ones (filter test g))
      (all (λ (e : Admitted). e.vsize)) (all (λ (e : Admitted). e.fee))
