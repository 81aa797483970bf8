-- Families that go one after the other.
use Rattle.std.proofs.Common.{◌≡◌, ℕ, ◌+◌, ◌<◌, Bool, true, false, not, ◌||◌, ◌&&◌, List, [], take, get_or, length, refl, sym, ap, ◌∙◌, subst, true≢false}
use Rattle.std.specs.Prelude.{Contains, filter}
use Rattle.std.specs.List.{list_any}
use Rattle.std.proofs.lemmas.Bool.{not-true, or_left, and_from, and_parts}
use Rattle.gate_tx.specs.Ids.{txid_of}
use Rattle.gate_graph.specs.Family.{reaches}
use Rattle.gate_graph.proofs.Filters.{filter_all, filter_same_on}
use Rattle.gate_bytes.proofs.Members.{any_is, list_any_of}
use Rattle.gate_graph.proofs.Steps.{same_bool}
use Rattle.gate_pool.specs.Pool.{Admitted, listing_of}
use Rattle.gate_pool.specs.Family.{steps, without_family, without_below, is_below_some}
use Rattle.gate_pool.proofs.Adding.{passed}
use Rattle.gate_pool.proofs.Entries.{Id, Contains-map, Contains-from_map}
use Rattle.gate_pool.proofs.Points.{any_more}
use Rattle.gate_pool.proofs.Removals.{kept, reaches_kept, filter_twice, below_closed}
use Rattle.gate_pool.proofs.Walking.{Contains-filter, Contains-from_filter}

-- an id is below one of some
abbrev pub is_under : List Admitted → List Id → Id → Bool
is_under g ids id = list_any (λ x. reaches (steps g) x id) ids

-- what is left without these and all that is below them
abbrev pub left : List Admitted → List Id → List Admitted
left g ids = kept (is_under g ids) g

under_closed : (g : List Admitted) (ids : List Id) (a b : Id) → Contains (steps g) (a, b) → is_under g ids a ≡ true → is_under g ids b ≡ true
under_closed g ids a b s h =
    let w = any_is (λ x. reaches (steps g) x a) ids h in
    list_any_of (λ x. reaches (steps g) x b) ids w.0 w.1 (below_closed g w.0 a b s w.2)

pub left_none : (g : List Admitted) → left g [] ≡ g
left_none g = filter_all (λ (e : Admitted). not (is_under g [] (txid_of e.tx))) g (λ e c. refl)

-- one family more goes
pub left_more : (g : List Admitted) (ids : List Id) (i : ℕ) (x : Id) (rest after : List Admitted) → i < length ids → x ≡ get_or ids i x → rest ≡ left g (take i ids) → after ≡ without_family rest x → after ≡ left g (take (i + 1) ids)
left_more g ids i x rest after lt is was now =
    now
    ∙ ap (λ l. without_family l x) was
    ∙ filter_twice (λ e. not (reaches (steps (left g (take i ids))) x (txid_of e.tx))) (λ e. not (D (txid_of e.tx))) (λ e. not (is_under g (take (i + 1) ids) (txid_of e.tx))) g
    (λ e m k. ap not (sym (reaches_kept g D (under_closed g (take i ids)) x (txid_of e.tx) (not-true _ k)) ∙ sym (plain (D (txid_of e.tx)) (reaches (steps g) x (txid_of e.tx)) (not-true _ k)) ∙ sym (more (txid_of e.tx))))
    (λ e m k. ap not (more (txid_of e.tx) ∙ or_left _ _ (was_true _ k)))
  where
    D : Id → Bool
    D b = is_under g (take i ids) b

    was_true : (b : Bool) → not b ≡ false → b ≡ true
    was_true true h = refl
    was_true false h = sym h

    plain : (b d : Bool) → b ≡ false → (b || (d || false)) ≡ d
    plain true d e = absurd (true≢false e)
    plain false true e = refl
    plain false false e = refl

    more : (id : Id) → is_under g (take (i + 1) ids) id ≡ (D id || (reaches (steps g) x id || false))
    more id = any_more (λ y. reaches (steps g) y id) ids i x lt is

-- those that pass a test, and all that is below them
pub left_chosen : (g : List Admitted) (test : Admitted → Bool) (ids : List Id) → ids ≡ listing_of (filter test g) → left g ids ≡ without_below test g
left_chosen g test ids is =
    ap (left g) is ∙ filter_same_on (λ (e : Admitted). not (is_under g (listing_of (filter test g)) (txid_of e.tx))) (λ (e : Admitted). not (is_below_some test g e)) g (λ e c. ap not (same_bool _ _ (below e) (under e)))
  where
    below : (e : Admitted) → is_under g (listing_of (filter test g)) (txid_of e.tx) ≡ true → is_below_some test g e ≡ true
    below e h =
        let w = any_is (λ x. reaches (steps g) x (txid_of e.tx)) (listing_of (filter test g)) h in
        let v = Contains-from_map (λ (d : Admitted). txid_of d.tx) (filter test g) w.0 w.1 in
        list_any_of (λ a. test a && reaches (steps g) (txid_of a.tx) (txid_of e.tx)) g v.item (Contains-from_filter test g v.item v.among)
        (and_from _ _ (passed test g v.item v.among) (subst (λ z. reaches (steps g) z (txid_of e.tx) ≡ true) (sym v.is) w.2))

    under : (e : Admitted) → is_below_some test g e ≡ true → is_under g (listing_of (filter test g)) (txid_of e.tx) ≡ true
    under e h =
        let w = any_is (λ a. test a && reaches (steps g) (txid_of a.tx) (txid_of e.tx)) g h in
        let p = and_parts _ _ w.2 in
        list_any_of (λ x. reaches (steps g) x (txid_of e.tx)) (listing_of (filter test g)) (txid_of w.0.tx) (Contains-map (λ (d : Admitted). txid_of d.tx) (filter test g) w.0 (Contains-filter test g w.0 w.1 p.0)) p.1
