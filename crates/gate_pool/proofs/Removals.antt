-- A set that takes with it all that is below its members goes out.
use Rattle.std.proofs.Common.{◌≡◌, ◌<◌, Bool, true, false, cond, not, ◌&&◌, ◌||◌, List, [], ◌∷◌, length, refl, sym, ap, ◌∙◌, subst, None, inl, inr}
use Rattle.std.specs.Prelude.{Contains, find, filter}
use Rattle.std.specs.List.{list_any}
use Rattle.std.proofs.lemmas.Bool.{true≢false, and_parts, and_from, or_cases, or_left, or_right, false_from_ne_true, not-false, not-true, cond-true, cond-false}
use Rattle.gate_tx.specs.Ids.{txid_of}
use Rattle.gate_graph.specs.Family.{reaches}
use Rattle.gate_bytes.proofs.Members.{Contains-head, Contains-rest, any_is, list_any_of}
use Rattle.gate_graph.proofs.Reaching.{reaches-same, reaches_trans, reaches_step}
use Rattle.gate_graph.proofs.Steps.{same_bool, kept_reaches}
use Rattle.gate_pool.specs.Pool.{Admitted}
use Rattle.gate_pool.specs.Family.{steps, without_family, without_below, is_below_some}
use Rattle.gate_pool.proofs.Entries.{Id, find_none, entry_step, step_entry}
use Rattle.gate_pool.proofs.Walking.{Contains-filter, Contains-from_filter, falls}

-- the set goes out
abbrev pub kept : (Id → Bool) → List Admitted → List Admitted
kept D g = filter (λ e. not (D (txid_of e.tx))) g

module _ (g : List Admitted) (D : Id → Bool) (closed : (a b : Id) → Contains (steps g) (a, b) → D a ≡ true → D b ≡ true) where
  pub kept_was : (a b : Id) → Contains (steps (kept D g)) (a, b) → Contains (steps g) (a, b)
  kept_was a b s =
      let w = step_entry (kept D g) a b s in
      subst (λ z. Contains (steps g) (z, b)) w.parent
      (subst (λ z. Contains (steps g) (w.point.prevout.txid, z)) w.child
      (entry_step g w.entry w.point (Contains-from_filter (λ (e : Admitted). not (D (txid_of e.tx))) g w.entry w.member) w.spent))

  pub kept_stays : (a b : Id) → Contains (steps g) (a, b) → D b ≡ false → Contains (steps (kept D g)) (a, b)
  kept_stays a b s h =
      let w = step_entry g a b s in
      subst (λ z. Contains (steps (kept D g)) (z, b)) w.parent
      (subst (λ z. Contains (steps (kept D g)) (w.point.prevout.txid, z)) w.child
      (entry_step (kept D g) w.entry w.point (Contains-filter (λ (e : Admitted). not (D (txid_of e.tx))) g w.entry w.member (ap (λ z. not (D z)) w.child ∙ ap not h)) w.spent))

  pub reaches_kept : (a b : Id) → D b ≡ false → reaches (steps g) a b ≡ reaches (steps (kept D g)) a b
  reaches_kept = kept_reaches (steps g) (steps (kept D g)) D kept_was kept_stays closed

-- filters one after the other
pub filter_twice : {X : Type 0} (p k q : X → Bool) (xs : List X) → ((x : X) → Contains xs x → k x ≡ true → p x ≡ q x) → ((x : X) → Contains xs x → k x ≡ false → q x ≡ false) → filter p (filter k xs) ≡ filter q xs
filter_twice p k q [] f h = refl
filter_twice {X} p k q (x ∷ xs) f h = go (k x) refl (filter_twice p k q xs (λ y c. f y (Contains-rest x xs y c)) (λ y c. h y (Contains-rest x xs y c)))
  where
    go : (b : Bool) → k x ≡ b → filter p (filter k xs) ≡ filter q xs → filter p (cond b (x ∷ filter k xs) (filter k xs)) ≡ cond (q x) (x ∷ filter q xs) (filter q xs)
    go true e ih = ap (λ l. cond (p x) (x ∷ l) l) ih ∙ ap (λ b. cond b (x ∷ filter q xs) (filter q xs)) (f x (Contains-head x xs) e)
    go false e ih = ih ∙ sym (cond-false (q x) (x ∷ filter q xs) (filter q xs) (h x (Contains-head x xs) e))

-- what is below an id is closed
pub below_closed : (g : List Admitted) (x a b : Id) → Contains (steps g) (a, b) → reaches (steps g) x a ≡ true → reaches (steps g) x b ≡ true
below_closed g x a b s h = reaches_trans (steps g) x a b h (reaches_step (steps g) a b s)

-- the family of one that passes may go first
pub without_below-family : (test : Admitted → Bool) (g : List Admitted) (a : Admitted) → Contains g a → test a ≡ true → without_below test (without_family g (txid_of a.tx)) ≡ without_below test g
without_below-family test g a c t =
    filter_twice (λ e. not (is_below_some test (without_family g (txid_of a.tx)) e)) (λ e. not (reaches (steps g) (txid_of a.tx) (txid_of e.tx))) (λ e. not (is_below_some test g e)) g
    (λ e m k. ap not (same_bool _ _ (less e (not-true _ k)) (more e (not-true _ k))))
    (λ e m k. ap not (list_any_of (λ b. test b && reaches (steps g) (txid_of b.tx) (txid_of e.tx)) g a c (and_from _ _ t (was_true _ k))))
  where
    was_true : (b : Bool) → not b ≡ false → b ≡ true
    was_true true h = refl
    was_true false h = sym h

    D : Id → Bool
    D b = reaches (steps g) (txid_of a.tx) b

    less : (e : Admitted) → reaches (steps g) (txid_of a.tx) (txid_of e.tx) ≡ false → is_below_some test (without_family g (txid_of a.tx)) e ≡ true → is_below_some test g e ≡ true
    less e n h =
        let w = any_is (λ b. test b && reaches (steps (without_family g (txid_of a.tx))) (txid_of b.tx) (txid_of e.tx)) (without_family g (txid_of a.tx)) h in
        let p = and_parts _ _ w.2 in
        let m = Contains-from_filter (λ e. not (reaches (steps g) (txid_of a.tx) (txid_of e.tx))) g w.0 w.1 in
        list_any_of (λ b. test b && reaches (steps g) (txid_of b.tx) (txid_of e.tx)) g w.0 m
        (and_from _ _ p.0 (reaches_kept g (λ b. reaches (steps g) (txid_of a.tx) b) (below_closed g (txid_of a.tx)) (txid_of w.0.tx) (txid_of e.tx) n ∙ p.1))

    more : (e : Admitted) → reaches (steps g) (txid_of a.tx) (txid_of e.tx) ≡ false → is_below_some test g e ≡ true → is_below_some test (without_family g (txid_of a.tx)) e ≡ true
    more e n h =
        let w = any_is (λ b. test b && reaches (steps g) (txid_of b.tx) (txid_of e.tx)) g h in
        let p = and_parts _ _ w.2 in
        let out : reaches (steps g) (txid_of a.tx) (txid_of w.0.tx) ≡ false = false_from_ne_true _ (λ r. true≢false (sym (reaches_trans (steps g) (txid_of a.tx) (txid_of w.0.tx) (txid_of e.tx) r p.1) ∙ n)) in
        list_any_of (λ b. test b && reaches (steps (without_family g (txid_of a.tx))) (txid_of b.tx) (txid_of e.tx)) (without_family g (txid_of a.tx)) w.0
        (Contains-filter (λ e. not (reaches (steps g) (txid_of a.tx) (txid_of e.tx))) g w.0 w.1 (ap not out))
        (and_from _ _ p.0 (sym (reaches_kept g (λ b. reaches (steps g) (txid_of a.tx) b) (below_closed g (txid_of a.tx)) (txid_of w.0.tx) (txid_of e.tx) n) ∙ p.1))

-- what is below those that pass is closed
below_some_reached : (test : Admitted → Bool) (g : List Admitted) (a b : Id) → reaches (steps g) a b ≡ true
    → list_any (λ (c : Admitted). test c && reaches (steps g) (txid_of c.tx) a) g ≡ true → list_any (λ (c : Admitted). test c && reaches (steps g) (txid_of c.tx) b) g ≡ true
below_some_reached test g a b r h =
    let w = any_is (λ (c : Admitted). test c && reaches (steps g) (txid_of c.tx) a) g h in
    let p = and_parts _ _ w.2 in
    list_any_of (λ (c : Admitted). test c && reaches (steps g) (txid_of c.tx) b) g w.0 w.1 (and_from _ _ p.0 (reaches_trans (steps g) (txid_of w.0.tx) a b p.1 r))

below_some_step : (test : Admitted → Bool) (g : List Admitted) (a b : Id) → Contains (steps g) (a, b)
    → list_any (λ (c : Admitted). test c && reaches (steps g) (txid_of c.tx) a) g ≡ true → list_any (λ (c : Admitted). test c && reaches (steps g) (txid_of c.tx) b) g ≡ true
below_some_step test g a b s h = below_some_reached test g a b (reaches_step (steps g) a b s) h

-- those that pass one test may go before those that pass another
module _ (p q : Admitted → Bool) (g : List Admitted) where
  less : (e : Admitted) → is_below_some p g e ≡ false → is_below_some q (without_below p g) e ≡ true → is_below_some (λ a. p a || q a) g e ≡ true
  less e n h =
      let w = any_is (λ (b : Admitted). q b && reaches (steps (without_below p g)) (txid_of b.tx) (txid_of e.tx)) (without_below p g) h in
      let parts = and_parts _ _ w.2 in
      list_any_of (λ (b : Admitted). (p b || q b) && reaches (steps g) (txid_of b.tx) (txid_of e.tx)) g w.0 (Contains-from_filter (λ (d : Admitted). not (is_below_some p g d)) g w.0 w.1)
      (and_from _ _ (or_right (p w.0) (q w.0) parts.0)
      (reaches_kept g (λ (y : Id). list_any (λ (c : Admitted). p c && reaches (steps g) (txid_of c.tx) y) g) (below_some_step p g) (txid_of w.0.tx) (txid_of e.tx) n ∙ parts.1))

  more : (e : Admitted) → is_below_some p g e ≡ false → is_below_some (λ a. p a || q a) g e ≡ true → is_below_some q (without_below p g) e ≡ true
  more e n h =
      let D : Id → Bool = λ y. list_any (λ (c : Admitted). p c && reaches (steps g) (txid_of c.tx) y) g in
      let w = any_is (λ (b : Admitted). (p b || q b) && reaches (steps g) (txid_of b.tx) (txid_of e.tx)) g h in
      let parts = and_parts _ _ w.2 in
      let out : is_below_some p g w.0 ≡ false = false_from_ne_true _ (λ r. true≢false (sym (below_some_reached p g (txid_of w.0.tx) (txid_of e.tx) parts.1 r) ∙ n)) in
      elim (or_cases (p w.0) (q w.0) parts.0) [
        | inl first ↦ absurd (true≢false (sym (list_any_of (λ (c : Admitted). p c && reaches (steps g) (txid_of c.tx) (txid_of e.tx)) g w.0 w.1 (and_from _ _ first parts.1)) ∙ n))
        | inr second ↦ list_any_of (λ (b : Admitted). q b && reaches (steps (without_below p g)) (txid_of b.tx) (txid_of e.tx)) (without_below p g) w.0
            (Contains-filter (λ (d : Admitted). not (is_below_some p g d)) g w.0 w.1 (ap not out))
            (and_from _ _ second (sym (reaches_kept g D (below_some_step p g) (txid_of w.0.tx) (txid_of e.tx) n) ∙ parts.1))
      ]

  wider : (e : Admitted) → is_below_some p g e ≡ true → is_below_some (λ a. p a || q a) g e ≡ true
  wider e h =
      let w = any_is (λ (c : Admitted). p c && reaches (steps g) (txid_of c.tx) (txid_of e.tx)) g h in
      let parts = and_parts _ _ w.2 in
      list_any_of (λ (b : Admitted). (p b || q b) && reaches (steps g) (txid_of b.tx) (txid_of e.tx)) g w.0 w.1 (and_from _ _ (or_left (p w.0) (q w.0) parts.0) parts.1)

  pub without_below-either : without_below q (without_below p g) ≡ without_below (λ a. p a || q a) g
  without_below-either =
      filter_twice (λ e. not (is_below_some q (without_below p g) e)) (λ e. not (is_below_some p g e)) (λ e. not (is_below_some (λ a. p a || q a) g e)) g
      (λ e m k. ap not (same_bool _ _ (less e (not-true _ k)) (more e (not-true _ k))))
      (λ e m k. ap not (wider e (not-false _ k)))

-- where none passes nothing goes
pub without_below-none : (test : Admitted → Bool) (g : List Admitted) → find test g ≡ None → without_below test g ≡ g
without_below-none test g h = all_pass (λ e. not (is_below_some test g e)) g (λ e m. ap not (false_from_ne_true _ (λ t.
    let w = any_is (λ b. test b && reaches (steps g) (txid_of b.tx) (txid_of e.tx)) g t in
    true≢false (sym (and_parts _ _ w.2).0 ∙ find_none test g h w.0 w.1))))
  where
    all_pass : {X : Type 0} (p : X → Bool) (xs : List X) → ((x : X) → Contains xs x → p x ≡ true) → filter p xs ≡ xs
    all_pass p [] f = refl
    all_pass p (x ∷ xs) f = cond-true (p x) (x ∷ filter p xs) (filter p xs) (f x (Contains-head x xs)) ∙ ap (λ l. x ∷ l) (all_pass p xs (λ y c. f y (Contains-rest x xs y c)))

-- an entry goes with its family, so fewer are left
pub family_falls : (g : List Admitted) (a : Admitted) → Contains g a → length (without_family g (txid_of a.tx)) < length g
family_falls g a c = falls (λ (e : Admitted). not (reaches (steps g) (txid_of a.tx) (txid_of e.tx))) g a c (ap not (reaches-same (steps g) (txid_of a.tx)))
