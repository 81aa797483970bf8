-- A node that comes last, between others, and adds no chain between these.
use Rattle.std.proofs.Common.{◌≡◌, ◌≤◌, ◌<◌, ◌+◌, ◌^◌, ℕ, Bool, true, false, cond, List, [], ◌∷◌, ◌++◌, length, length-append, append-nil, take, get_or, refl, sym, ap, ◌∙◌, subst, map, ◌⊎◌, inl, inr, arith, true≢false}
use Rattle.std.specs.Prelude.{Contains, filter, leb}
use Rattle.std.proofs.lemmas.Bool.Decides.{nat_tests}
use Rattle.std.specs.Str.{bytes_eq}
use Rattle.std.specs.Cmp.Lexicographic.{bytes_decides}
use Rattle.std.proofs.lemmas.Bool.{false_from_ne_true, cond-true, cond-false}
use Rattle.std.proofs.lemmas.List.{map-append, length-map, take_more}
use Rattle.std.proofs.lemmas.List.Elements.{Contains-append_cases, Contains-append_left, Contains-append_right}
use Rattle.gate_graph.specs.Family.{Node, steps_of, reaches, Leads, here, down}
use Rattle.gate_graph.specs.Families.{among, has, are_apart, ancestors_of, descendants_of}
use Rattle.gate_bytes.proofs.Members.{Contains-cons_cases, Contains-head, Contains-rest, any_is, not_in_none}
use Rattle.gate_graph.proofs.Reaching.{reaches-same, reaches_trans, reaches_step, reaches_from_Leads, Leads_from_reaches, Leads_more}
use Rattle.gate_graph.proofs.Steps.{step_node, node_step, same_bool}
use Rattle.gate_graph.proofs.Apart.{has-node, apart_before}
use Rattle.gate_graph.proofs.Filters.{filter_same_on, Contains-from_map}
use Rattle.gate_graph.specs.declared.held.Held.{Held}
use Rattle.gate_graph.specs.declared.held.Totals.{Totals}
use Rattle.gate_graph.specs.declared.weigh.Side.TheVariants.{Above, Below}
use Rattle.gate_graph.specs.declared.weigh.Sign.TheVariants.{Plus}
use Rattle.gate_graph.specs.Holding.{node_of, nodes_of, loaded, at_id, with_totals}
use Rattle.gate_graph.specs.Weighing.{sums_of, totals_of, more, changed, changed_of, Fits, AreSmall, IsWeighed, IsNewLast}
use Rattle.gate_graph.specs.Merging.{AddsNoChain, GainsOne}
use Rattle.gate_graph.proofs.Changing.{by, one_held, nodes_changed, loaded_changed}
use Rattle.gate_graph.proofs.Crowning.{nodes_written, loaded_written}
use Rattle.gate_graph.proofs.Finding.{shorter}
use Rattle.gate_graph.proofs.Holdings.{node_in}
use Rattle.gate_graph.proofs.Leafing.{filter-append, sums_put}
use Rattle.gate_graph.proofs.Weighings.{sum_small}

abbrev Id : Type 0
Id = List ℕ

pub le_of : (m n : ℕ) → leb m n ≡ true → m ≤ n
le_of m n h = grind (arith, nat_tests)

-- what passes one test passes another: no more pass it, and if no fewer do, the same
module _ {X : Type 0} (p q : X → Bool) where
  fewer_pass : (xs : List X) → ((x : X) → Contains xs x → p x ≡ true → q x ≡ true) → length (filter p xs) ≤ length (filter q xs)
  fewer_pass [] h = omega arith
  fewer_pass (y ∷ ys) h = go (p y) (q y) refl refl (fewer_pass ys (λ x c. h x (Contains-rest y ys x c)))
    where
      go : (b d : Bool) → p y ≡ b → q y ≡ d → length (filter p ys) ≤ length (filter q ys) → length (cond b (y ∷ filter p ys) (filter p ys)) ≤ length (cond d (y ∷ filter q ys) (filter q ys))
      go true true e f k = omega (arith, k)
      go true false e f k = absurd (true≢false (sym (h y (Contains-head y ys) e) ∙ f))
      go false true e f k = omega (arith, k)
      go false false e f k = k

  same_pass : (xs : List X) → ((x : X) → Contains xs x → p x ≡ true → q x ≡ true) → length (filter q xs) ≤ length (filter p xs) → (x : X) → Contains xs x → q x ≡ true → p x ≡ true
  same_pass [] h l x c t = not_in_none x c
  same_pass (y ∷ ys) h l x c t =
      go (p y) (q y) refl refl l (fewer_pass ys (λ x c. h x (Contains-rest y ys x c))) (same_pass ys (λ x c. h x (Contains-rest y ys x c))) (Contains-cons_cases y ys x c)
    where
      go : (b d : Bool) → p y ≡ b → q y ≡ d → length (cond d (y ∷ filter q ys) (filter q ys)) ≤ length (cond b (y ∷ filter p ys) (filter p ys)) → length (filter p ys) ≤ length (filter q ys)
          → (length (filter q ys) ≤ length (filter p ys) → (x : X) → Contains ys x → q x ≡ true → p x ≡ true) → (y ≡ x) ⊎ Contains ys x → p x ≡ true
      go true d e f l k ih (inl is) = ap p (sym is) ∙ e
      go true true e f l k ih (inr rest) = ih (omega (arith, l)) x rest t
      go true false e f l k ih (inr rest) = absurd (true≢false (sym (h y (Contains-head y ys) e) ∙ f))
      go false true e f l k ih w = absurd (omega (arith, l, k))
      go false false e f l k ih (inl is) = absurd (true≢false (sym t ∙ ap q (sym is) ∙ f))
      go false false e f l k ih (inr rest) = ih l x rest t

module _ (g : List Node) (n : Node) (new : has g n.id ≡ false) where
  abbrev g' : List Node
  g' = g ++ n ∷ []

  other : (m : Node) → Contains g m → m.id ≡ n.id → ⊥
  other m c e = true≢false (sym (has-node g m c) ∙ ap (has g) e ∙ new)

  fewer : (a b : Id) → Contains (steps_of g) (a, b) → Contains (steps_of g') (a, b)
  fewer a b s = let w = step_node g a b s in subst (λ z. Contains (steps_of g') (a, z)) w.2 (node_step g' w.0 a (Contains-append_left g (n ∷ []) w.0 w.1) w.3)

  led_more : (a b : Id) → reaches (steps_of g) a b ≡ true → reaches (steps_of g') a b ≡ true
  led_more a b r = reaches_from_Leads (Leads_more fewer (Leads_from_reaches (steps_of g) a b r))

  -- a parent that gains the last node alone led to all else that it leads to now
  parent_led : (p : Id) → Contains n.parents p → length (descendants_of g' p) ≤ length (descendants_of g p) + 1 → (m : Node) → Contains g m → reaches (steps_of g') p m.id ≡ true → reaches (steps_of g) p m.id ≡ true
  parent_led p named few m c r =
      let first : reaches (steps_of g') p n.id ≡ true = reaches_step (steps_of g') p n.id (node_step g' n p (Contains-append_right g (n ∷ []) n (Contains-head n [])) named) in
      let now = filter (λ m. reaches (steps_of g') p m.id) g in
      let split : descendants_of g' p ≡ now ++ n ∷ [] = filter-append (λ m. reaches (steps_of g') p m.id) g (n ∷ []) ∙ ap (λ b. now ++ cond b (n ∷ []) []) first in
      same_pass (λ m. reaches (steps_of g) p m.id) (λ m. reaches (steps_of g') p m.id) g (λ k d t. led_more p k.id t) (omega (arith, few, ap length split, length-append now (n ∷ []))) m c r

  module _ (gains : (p : Id) → Contains n.parents p → has g p ≡ true → length (descendants_of g' p) ≤ length (descendants_of g p) + 1) where
    led : (m : Node) → Contains g m → {a b : Id} → Leads (steps_of g') a b → b ≡ m.id → has g a ≡ true → reaches (steps_of g) a b ≡ true
    led m c (here {a = a}) e h = reaches-same (steps_of g) a
    led m c (down {a = a} {b = z} {c = b} s l) e h =
        let w = step_node g' a z s in
        elim (Contains-append_cases g (n ∷ []) w.0 w.1) [
          | inl old ↦
              let step : Contains (steps_of g) (a, z) = subst (λ y. Contains (steps_of g) (a, y)) w.2 (node_step g w.0 a old w.3) in
              reaches_trans (steps_of g) a z b (reaches_step (steps_of g) a z step) (led m c l e (ap (has g) (sym w.2) ∙ has-node g w.0 old))
          | inr last ↦
              elim (Contains-cons_cases n [] w.0 last) [
                | inl is ↦
                    let named : Contains n.parents a = subst (λ (k : Node). Contains k.parents a) (sym is) w.3 in
                    subst (λ y. reaches (steps_of g) a y ≡ true) (sym e) (parent_led a named (gains a named h) m c (subst (λ y. reaches (steps_of g') a y ≡ true) e (reaches_from_Leads (down s l))))
                | inr none ↦ not_in_none w.0 none
              ]
        ]

    pub same_led : (a : Id) → has g a ≡ true → (m : Node) → Contains g m → reaches (steps_of g') a m.id ≡ reaches (steps_of g) a m.id
    same_led a h m c = same_bool _ _ (λ r. led m c (Leads_from_reaches (steps_of g') a m.id r) refl h) (led_more a m.id)

  -- ---- where the same chains lead between the others

  module _ (same : (a b : Id) → has g a ≡ true → has g b ≡ true → reaches (steps_of g') a b ≡ reaches (steps_of g) a b) where
    descendants_put : (y : Id) → has g y ≡ true → descendants_of g' y ≡ descendants_of g y ++ cond (reaches (steps_of g') y n.id) (n ∷ []) []
    descendants_put y h =
        filter-append (λ m. reaches (steps_of g') y m.id) g (n ∷ [])
        ∙ ap (λ l. l ++ cond (reaches (steps_of g') y n.id) (n ∷ []) []) (filter_same_on (λ m. reaches (steps_of g') y m.id) (λ m. reaches (steps_of g) y m.id) g (λ m c. same y m.id h (has-node g m c)))

    ancestors_put : (y : Id) → has g y ≡ true → ancestors_of g' y ≡ ancestors_of g y ++ cond (reaches (steps_of g') n.id y) (n ∷ []) []
    ancestors_put y h =
        filter-append (λ m. reaches (steps_of g') m.id y) g (n ∷ [])
        ∙ ap (λ l. l ++ cond (reaches (steps_of g') n.id y) (n ∷ []) []) (filter_same_on (λ m. reaches (steps_of g') m.id y) (λ m. reaches (steps_of g) m.id y) g (λ m c. same m.id y (has-node g m c) h))

    with_last : (l : List Node) (b : Bool) → cond b (more n.size n.fee (sums_of l)) (sums_of l) ≡ sums_of (l ++ cond b (n ∷ []) [])
    with_last l true = sym (sums_put l n)
    with_last l false = ap sums_of (sym (append-nil l))

    pub below_put : (y : Id) → has g y ≡ true → (b : Bool) → reaches (steps_of g') y n.id ≡ b → cond b (more n.size n.fee (sums_of (descendants_of g y))) (sums_of (descendants_of g y)) ≡ sums_of (descendants_of g' y)
    below_put y h b e = with_last (descendants_of g y) b ∙ ap sums_of (ap (λ d. descendants_of g y ++ cond d (n ∷ []) []) (sym e) ∙ sym (descendants_put y h))

    pub above_put : (y : Id) → has g y ≡ true → (b : Bool) → reaches (steps_of g') n.id y ≡ b → cond b (more n.size n.fee (sums_of (ancestors_of g y))) (sums_of (ancestors_of g y)) ≡ sums_of (ancestors_of g' y)
    above_put y h b e = with_last (ancestors_of g y) b ∙ ap sums_of (ap (λ d. ancestors_of g y ++ cond d (n ∷ []) []) (sym e) ∙ sym (ancestors_put y h))

pub Contains-take_more : {X : Type 0} (xs : List X) (i : ℕ) (x y : X) → i < length xs → x ≡ get_or xs i x → Contains (take (i + 1) xs) y → Contains (take i xs) y ⊎ (x ≡ y)
Contains-take_more xs i x y h is c =
    elim (Contains-append_cases (take i xs) (x ∷ []) y (subst (λ l. Contains l y) (take_more xs i x h ∙ ap (λ z. take i xs ++ z ∷ []) (sym is)) c)) [
      | inl before ↦ inl before
      | inr last ↦ elim (Contains-cons_cases x [] y last) [ inl e ↦ inr e | inr none ↦ not_in_none y none ]
    ]

-- what a walk down found is what is below
pub counted_below : (g : List Node) (x : Id) (ids : List Id) → ((b : Id) → has g b ≡ true → among ids b ≡ reaches (steps_of g) x b) → filter (λ n. among ids n.id) g ≡ descendants_of g x
counted_below g x ids told = filter_same_on (λ n. among ids n.id) (λ n. reaches (steps_of g) x n.id) g (λ n c. told n.id (has-node g n c))

-- no sums, and no totals
abbrev pub no_totals : Totals
no_totals = record { above = record { count = 0; size = 0; fees = 0 }; below = record { count = 0; size = 0; fees = 0 } }

-- a last node k among those that are held
module _ {T : Type 0} (hs : List (Held T)) (x : Id) (k : Held T) (last : IsNewLast hs x) (apart : are_apart (nodes_of hs) ≡ true) (there : Contains hs k) (id : k.id ≡ x) where
  abbrev g0 : List Node
  g0 = nodes_of last.before

  abbrev n0 : Node
  n0 = node_of k

  is_last : last.last ≡ k
  is_last = one_held hs last.last k apart (subst (λ l. Contains l last.last) (sym last.is) (Contains-append_right last.before (last.last ∷ []) last.last (Contains-head last.last []))) there (last.id_is ∙ sym id)

  is : hs ≡ last.before ++ k ∷ []
  is = last.is ∙ ap (λ z. last.before ++ z ∷ []) is_last

  split : nodes_of hs ≡ g0 ++ n0 ∷ []
  split = ap nodes_of is ∙ map-append node_of last.before (k ∷ [])

  new0 : has g0 n0.id ≡ false
  new0 = apart_before g0 [] n0 (ap are_apart (sym split) ∙ apart)

  -- its parents gain it alone, so it adds no chain
  pub AddsNoChain-gains : ((p : Id) → Contains k.parents.items p → GainsOne hs p) → AddsNoChain hs x
  AddsNoChain-gains gains = record {
    last = last;
    same = λ a b ha hb.
        let w = node_with g0 b hb in
        ap (λ l. reaches (steps_of l) a b) split
        ∙ subst (λ z. reaches (steps_of (g0 ++ n0 ∷ [])) a z ≡ reaches (steps_of g0) a z) w.2 (same_led g0 n0 new0 (λ p named hp. one p named (node_with g0 p hp)) a ha w.0 w.1);
  }
    where
      node_with : (g : List Node) (b : Id) → has g b ≡ true → (m : Node) × Contains g m × (m.id ≡ b)
      node_with g b h = let w = any_is (λ (m : Node). bytes_eq m.id b) g h in (w.0, w.1, (bytes_decides w.0.id b).0 w.2)

      one : (p : Id) → Contains k.parents.items p → (m : Node) × Contains g0 m × (m.id ≡ p) → length (descendants_of (g0 ++ n0 ∷ []) p) ≤ length (descendants_of g0 p) + 1
      one p named m =
          let v = Contains-from_map node_of last.before m.0 m.1 in
          let h = v.0 in
          let named_p : h.id ≡ p = ap (λ (z : Node). z.id) v.2 ∙ m.2 in
          let old : Contains hs h = subst (λ l. Contains l h) (sym last.is) (Contains-append_left last.before (last.last ∷ []) h v.1) in
          let now = gains p named h old named_p in
          let count : h.totals.below.count ≡ length (descendants_of g0 p) = ap (λ (z : Totals). z.below.count) (last.weighed.totals h v.1) ∙ ap (λ y. length (descendants_of g0 y)) named_p in
          omega (arith, now, count, ap (λ l. length (descendants_of l p)) split)

  -- an old node, or the last
  which : (h : Held T) → Contains hs h → Contains last.before h ⊎ (k ≡ h)
  which h c =
      elim (Contains-append_cases last.before (k ∷ []) h (subst (λ l. Contains l h) is c)) [
        | inl old ↦ inl old
        | inr l ↦ elim (Contains-cons_cases k [] h l) [ inl e ↦ inr e | inr none ↦ not_in_none h none ]
      ]

  old_id : (h : Held T) → Contains last.before h → bytes_eq h.id x ≡ false
  old_id h c = false_from_ne_true _ (λ t. other g0 n0 new0 (node_of h) (node_in last.before h c) ((bytes_decides h.id x).0 t ∙ sym id))

  own_id : (h : Held T) → k ≡ h → bytes_eq h.id x ≡ true
  own_id h e = (bytes_decides h.id x).1 (ap (λ (z : Held T). z.id) (sym e) ∙ id)

  old_same : (totals : Totals) (h : Held T) → Contains last.before h → at_id x (with_totals totals) h ≡ h
  old_same totals h c = cond-false (bytes_eq h.id x) (with_totals totals h) h (old_id h c)

  -- ---- it is added to what is above and below it, when it has no totals yet

  abbrev pub emptied : List (Held T)
  emptied = map (at_id x (with_totals no_totals)) hs

  abbrev pub raised : List Id → List (Held T)
  raised up = map (changed_of up (by Below Plus k.size k.fee)) emptied

  abbrev pub crowned : List Id → List Id → List (Held T)
  crowned up low = map (changed_of low (by Above Plus k.size k.fee)) (raised up)

  abbrev pub settled : List Id → List Id → Totals → List (Held T)
  settled up low totals = map (at_id x (with_totals totals)) (crowned up low)

  pub loaded_between : (up low : List Id) (totals : Totals) → loaded (settled up low totals) ≡ loaded hs
  loaded_between up low totals =
      loaded_written x totals (crowned up low) ∙ loaded_changed (by Above Plus k.size k.fee) low (raised up) ∙ loaded_changed (by Below Plus k.size k.fee) up emptied ∙ loaded_written x no_totals hs

  pub nodes_emptied : nodes_of emptied ≡ nodes_of hs
  nodes_emptied = nodes_written x no_totals hs

  pub nodes_raised : (up : List Id) → nodes_of (raised up) ≡ nodes_of hs
  nodes_raised up = nodes_changed (by Below Plus k.size k.fee) up emptied ∙ nodes_emptied

  nodes_settled : (up low : List Id) (totals : Totals) → nodes_of (settled up low totals) ≡ nodes_of hs
  nodes_settled up low totals = nodes_written x totals (crowned up low) ∙ nodes_changed (by Above Plus k.size k.fee) low (raised up) ∙ nodes_raised up

  module _ (small : AreSmall (nodes_of hs)) (len : length hs < 2 ^ 64) where
    small_before : AreSmall g0
    small_before = record {
      size = λ n c. small.size n (subst (λ l. Contains l n) (sym split) (Contains-append_left g0 (n0 ∷ []) n c));
      fee = λ n c. small.fee n (subst (λ l. Contains l n) (sym split) (Contains-append_left g0 (n0 ∷ []) n c));
    }

    small_last : (k.size < 2 ^ 64) × (k.fee < 2 ^ 64)
    small_last = let c = node_in hs k there in (small.size n0 c, small.fee n0 c)

    long : length g0 + 1 ≡ length hs
    long = omega (arith, length-append g0 (n0 ∷ []), ap length split, length-map hs node_of)

    fits_some : (test : Node → Bool) → Fits k.size k.fee (sums_of (filter test g0))
    fits_some test = record {
      count = omega (arith, shorter test g0, long, len);
      size_fits = omega (arith, sum_small (λ n. n.size) test g0 small_before.size, long, len, small_last.0);
      fee_fits = omega (arith, sum_small (λ n. n.fee) test g0 small_before.fee, long, len, small_last.1);
    }

    fits_none : Fits k.size k.fee (record { count = 0; size = 0; fees = 0 })
    fits_none = record { count = omega arith; size_fits = omega (arith, small_last.0); fee_fits = omega (arith, small_last.1) }

    fits_both : (u : Held T) → Contains last.before u ⊎ (k ≡ u) → Fits k.size k.fee (at_id x (with_totals no_totals) u).totals.above × Fits k.size k.fee (at_id x (with_totals no_totals) u).totals.below
    fits_both u (inl old) =
        subst (λ (z : Held T). Fits k.size k.fee z.totals.above × Fits k.size k.fee z.totals.below) (sym (old_same no_totals u old))
        (subst (λ (z : Totals). Fits k.size k.fee z.above × Fits k.size k.fee z.below) (sym (last.weighed.totals u old))
        (fits_some (λ m. reaches (steps_of g0) m.id u.id), fits_some (λ m. reaches (steps_of g0) u.id m.id)))
    fits_both u (inr e) =
        subst (λ (z : Held T). Fits k.size k.fee z.totals.above × Fits k.size k.fee z.totals.below) (sym (cond-true (bytes_eq u.id x) (with_totals no_totals u) u (own_id u e)))
        (fits_none, fits_none)

    pub raise_fits : (h : Held T) → Contains emptied h → Fits k.size k.fee h.totals.below
    raise_fits h c = let w = Contains-from_map (at_id x (with_totals no_totals)) hs h c in subst (λ (z : Held T). Fits k.size k.fee z.totals.below) w.2 (fits_both w.0 (which w.0 w.1)).1

    pub crown_fits : (up : List Id) (h : Held T) → Contains (raised up) h → Fits k.size k.fee h.totals.above
    crown_fits up h c =
        let v = Contains-from_map (changed_of up (by Below Plus k.size k.fee)) emptied h c in
        let w = Contains-from_map (at_id x (with_totals no_totals)) hs v.0 v.1 in
        subst (λ (z : Held T). Fits k.size k.fee z.totals.above) v.2
        (subst (Fits k.size k.fee) (sym (above_stays v.0 (among up v.0.id))) (subst (λ (z : Held T). Fits k.size k.fee z.totals.above) w.2 (fits_both w.0 (which w.0 w.1)).0))
      where
        above_stays : (h : Held T) (b : Bool) → (cond b (changed (by Below Plus k.size k.fee) h) h).totals.above ≡ h.totals.above
        above_stays h true = refl
        above_stays h false = refl

-- each has its totals then
module _ {T : Type 0} (hs : List (Held T)) (x : Id) (k : Held T) (adds : AddsNoChain hs x) (apart : are_apart (nodes_of hs) ≡ true) (there : Contains hs k) (id : k.id ≡ x) (up low : List Id)
    (above : (b : Id) → has (nodes_of hs) b ≡ true → among up b ≡ reaches (steps_of (nodes_of hs)) b x) (below : (b : Id) → has (nodes_of hs) b ≡ true → among low b ≡ reaches (steps_of (nodes_of hs)) x b) where
  abbrev last : IsNewLast hs x
  last = adds.last

  abbrev old : List Node
  old = nodes_of adds.last.before

  two_of : nodes_of hs ≡ old ++ node_of k ∷ []
  two_of = split hs x k adds.last apart there id

  same : (a b : Id) → has old a ≡ true → has old b ≡ true → reaches (steps_of (old ++ node_of k ∷ [])) a b ≡ reaches (steps_of old) a b
  same a b ha hb = ap (λ l. reaches (steps_of l) a b) (sym two_of) ∙ adds.same a b ha hb

  node_there : (h : Held T) → Contains hs h → has (nodes_of hs) h.id ≡ true
  node_there h c = has-node (nodes_of hs) (node_of h) (node_in hs h c)

  twice : (h : Held T) (b : Bool) → changed_of low (by Above Plus k.size k.fee) (cond b (changed (by Below Plus k.size k.fee) h) h) ≡ cond (among low h.id) (changed (by Above Plus k.size k.fee) (cond b (changed (by Below Plus k.size k.fee) h) h)) (cond b (changed (by Below Plus k.size k.fee) h) h)
  twice h true = refl
  twice h false = refl

  totals_twice : (h : Held T) (b d : Bool) → (cond d (changed (by Above Plus k.size k.fee) (cond b (changed (by Below Plus k.size k.fee) h) h)) (cond b (changed (by Below Plus k.size k.fee) h) h)).totals
      ≡ record { above = cond d (more k.size k.fee h.totals.above) h.totals.above; below = cond b (more k.size k.fee h.totals.below) h.totals.below }
  totals_twice h true true = refl
  totals_twice h true false = refl
  totals_twice h false true = refl
  totals_twice h false false = refl

  id_twice : (h : Held T) (b d : Bool) → (cond d (changed (by Above Plus k.size k.fee) (cond b (changed (by Below Plus k.size k.fee) h) h)) (cond b (changed (by Below Plus k.size k.fee) h) h)).id ≡ h.id
  id_twice h true true = refl
  id_twice h true false = refl
  id_twice h false true = refl
  id_twice h false false = refl

  abbrev both : Held T → Held T
  both h = changed_of low (by Above Plus k.size k.fee) (changed_of up (by Below Plus k.size k.fee) h)

  both_id : (h : Held T) → (both h).id ≡ h.id
  both_id h = ap (λ (z : Held T). z.id) (twice h (among up h.id)) ∙ id_twice h (among up h.id) (among low h.id)

  -- the totals of the others
  old_totals : (h : Held T) → Contains hs h → Contains adds.last.before h → (both h).totals ≡ totals_of (nodes_of hs) h.id
  old_totals h c was =
      let there_now = node_there h c in
      let there_old : has old h.id ≡ true = has-node old (node_of h) (node_in adds.last.before h was) in
      let up_is : among up h.id ≡ reaches (steps_of (old ++ node_of k ∷ [])) h.id k.id = above h.id there_now ∙ ap (λ l. reaches (steps_of l) h.id x) two_of ∙ ap (reaches (steps_of (old ++ node_of k ∷ [])) h.id) (sym id) in
      let low_is : among low h.id ≡ reaches (steps_of (old ++ node_of k ∷ [])) k.id h.id = below h.id there_now ∙ ap (λ l. reaches (steps_of l) x h.id) two_of ∙ ap (λ y. reaches (steps_of (old ++ node_of k ∷ [])) y h.id) (sym id) in
      ap (λ (z : Held T). z.totals) (twice h (among up h.id))
      ∙ totals_twice h (among up h.id) (among low h.id)
      ∙ ap (λ (z : Totals). record { above = cond (among low h.id) (more k.size k.fee z.above) z.above; below = cond (among up h.id) (more k.size k.fee z.below) z.below }) (adds.last.weighed.totals h was)
      ∙ (λ i. record {
        above = above_put old (node_of k) (new0 hs x k adds.last apart there id) same h.id there_old (among low h.id) (sym low_is) i;
        below = below_put old (node_of k) (new0 hs x k adds.last apart there id) same h.id there_old (among up h.id) (sym up_is) i;
      })
      ∙ ap (λ l. totals_of l h.id) (sym two_of)

  pub IsWeighed-between : (totals : Totals) (hs' : List (Held T)) → hs' ≡ settled hs x k adds.last apart there id up low totals
      → totals ≡ record { above = sums_of (filter (λ n. among up n.id) (nodes_of hs)); below = sums_of (filter (λ n. among low n.id) (nodes_of hs)) } → IsWeighed hs'
  IsWeighed-between totals hs' made given = record {
    totals = λ h c.
        let w = Contains-from_map (at_id x (with_totals totals)) (crowned hs x k adds.last apart there id up low) h (subst (λ l. Contains l h) made c) in
        let v = Contains-from_map (changed_of low (by Above Plus k.size k.fee)) (raised hs x k adds.last apart there id up) w.0 w.1 in
        let u = Contains-from_map (changed_of up (by Below Plus k.size k.fee)) (emptied hs x k adds.last apart there id) v.0 v.1 in
        let t = Contains-from_map (at_id x (with_totals no_totals)) hs u.0 u.1 in
        let from : at_id x (with_totals totals) (both (at_id x (with_totals no_totals) t.0)) ≡ h =
        ap (λ (z : Held T). at_id x (with_totals totals) (both z)) t.2 ∙ ap (λ (z : Held T). at_id x (with_totals totals) (changed_of low (by Above Plus k.size k.fee) z)) u.2 ∙ ap (at_id x (with_totals totals)) v.2 ∙ w.2 in
        ap (λ (z : Held T). z.totals) (sym from)
        ∙ one t.0 t.1 (which hs x k adds.last apart there id t.0 t.1)
        ∙ ap (totals_of (nodes_of hs)) (sym (written_id totals (both (at_id x (with_totals no_totals) t.0)) ∙ both_id (at_id x (with_totals no_totals) t.0) ∙ written_id no_totals t.0) ∙ ap (λ (z : Held T). z.id) from)
        ∙ ap (λ l. totals_of l h.id) (sym (ap nodes_of made ∙ nodes_settled hs x k adds.last apart there id up low totals));
  }
    where
      written_id : (totals : Totals) (h : Held T) → (at_id x (with_totals totals) h).id ≡ h.id
      written_id totals h = go (bytes_eq h.id x)
        where
          go : (b : Bool) → (cond b (with_totals totals h) h).id ≡ h.id
          go true = refl
          go false = refl

      one : (h : Held T) → Contains hs h → Contains adds.last.before h ⊎ (k ≡ h) → (at_id x (with_totals totals) (both (at_id x (with_totals no_totals) h))).totals ≡ totals_of (nodes_of hs) h.id
      one h c (inl was) =
          let first = old_same hs x k adds.last apart there id no_totals h was in
          ap (λ (z : Held T). (at_id x (with_totals totals) (both z)).totals) first
          ∙ ap (λ (z : Held T). z.totals) (cond-false (bytes_eq (both h).id x) (with_totals totals (both h)) (both h) (ap (λ y. bytes_eq y x) (both_id h) ∙ old_id hs x k adds.last apart there id h was))
          ∙ old_totals h c was
      one h c (inr e) =
          let z = both (at_id x (with_totals no_totals) h) in
          let is_x : h.id ≡ x = ap (λ (z : Held T). z.id) (sym e) ∙ id in
          let own : bytes_eq z.id x ≡ true = (bytes_decides z.id x).1 (both_id (at_id x (with_totals no_totals) h) ∙ written_id no_totals h ∙ is_x) in
          ap (λ (y : Held T). y.totals) (cond-true (bytes_eq z.id x) (with_totals totals z) z own)
          ∙ given
          ∙ (λ i. record {
            above = sums_of (filter_same_on (λ n. among up n.id) (λ n. reaches (steps_of (nodes_of hs)) n.id x) (nodes_of hs) (λ n d. above n.id (has-node (nodes_of hs) n d)) i);
            below = sums_of (filter_same_on (λ n. among low n.id) (λ n. reaches (steps_of (nodes_of hs)) x n.id) (nodes_of hs) (λ n d. below n.id (has-node (nodes_of hs) n d)) i);
          })
          ∙ ap (totals_of (nodes_of hs)) (sym is_x)
