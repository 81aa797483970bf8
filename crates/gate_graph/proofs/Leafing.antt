-- A node that nothing names comes last.
use Rattle.std.proofs.Common.{◌≡◌, ℕ, ◌+◌, ◌^◌, ◌<◌, Bool, true, false, cond, List, [], ◌∷◌, ◌++◌, length, length-append, append-nil, refl, sym, ap, ◌∙◌, subst, map, ◌⊎◌, inl, inr, arith, true≢false}
use Rattle.std.specs.Prelude.{Contains, filter}
use Rattle.std.specs.Str.{bytes_eq}
use Rattle.std.specs.Cmp.Lexicographic.{bytes_decides}
use Rattle.std.proofs.lemmas.Bool.{false_from_ne_true, cond-true, cond-false}
use Rattle.std.proofs.lemmas.List.{map-append, length-map}
use Rattle.std.proofs.lemmas.List.Sums.{sum_by_push}
use Rattle.std.proofs.lemmas.List.Elements.{Contains-append_cases, Contains-append_left, Contains-append_right}
use Rattle.gate_graph.specs.Family.{Node, steps_of, reaches, Leads, here, down}
use Rattle.gate_graph.specs.Families.{among, has, are_apart, ancestors_of, descendants_of}
use Rattle.gate_bytes.proofs.Members.{Contains-cons_cases, Contains-head, not_in_none}
use Rattle.gate_graph.proofs.Reaching.{Leads_from_reaches, reaches-same}
use Rattle.gate_graph.proofs.Steps.{step_node, node_step, leaf_reaches}
use Rattle.gate_graph.proofs.Apart.{has-node, apart_before}
use Rattle.gate_graph.proofs.Filters.{filter_same_on, filter_none, Contains-from_map}
use Rattle.gate_graph.specs.declared.held.Held.{Held}
use Rattle.gate_graph.specs.declared.held.Totals.{Totals}
use Rattle.gate_graph.specs.Holding.{node_of, nodes_of, loaded, at_id, with_totals}
use Rattle.gate_graph.specs.declared.weigh.Side.TheVariants.{Below}
use Rattle.gate_graph.specs.declared.weigh.Sign.TheVariants.{Plus}
use Rattle.gate_graph.proofs.Changing.{by, nodes_changed, loaded_changed}
use Rattle.gate_graph.specs.Weighing.{sums_of, totals_of, more, changed, changed_of, Fits, AreSmall, IsWeighed, IsLeafLast}
use Rattle.gate_graph.proofs.Holdings.{node_in}
use Rattle.gate_graph.proofs.Weighings.{sum_small}
use Rattle.gate_graph.proofs.Finding.{shorter}

abbrev Id : Type 0
Id = List ℕ

pub filter-append : {X : Type 0} (p : X → Bool) (xs ys : List X) → filter p (xs ++ ys) ≡ filter p xs ++ filter p ys
filter-append p [] ys = refl
filter-append p (x ∷ xs) ys = go (p x) (filter-append p xs ys)
  where
    go : (b : Bool) → filter p (xs ++ ys) ≡ filter p xs ++ filter p ys → cond b (x ∷ filter p (xs ++ ys)) (filter p (xs ++ ys)) ≡ cond b (x ∷ filter p xs) (filter p xs) ++ filter p ys
    go true e = ap (λ l. x ∷ l) e
    go false e = e

pub sums_put : (g : List Node) (n : Node) → sums_of (g ++ n ∷ []) ≡ more n.size n.fee (sums_of g)
sums_put g n = λ i. record {
  count = length-append g (n ∷ []) i;
  size = sum_by_push (λ n. n.size) g n i;
  fees = sum_by_push (λ n. n.fee) g n i;
}

module _ (g : List Node) (n : Node) (new : has g n.id ≡ false) (unnamed : (b : Id) → Contains (steps_of (g ++ n ∷ [])) (n.id, b) → ⊥) where
  abbrev g' : List Node
  g' = g ++ n ∷ []

  fewer : (a b : Id) → Contains (steps_of g) (a, b) → Contains (steps_of g') (a, b)
  fewer a b s = let w = step_node g a b s in subst (λ z. Contains (steps_of g') (a, z)) w.2 (node_step g' w.0 a (Contains-append_left g (n ∷ []) w.0 w.1) w.3)

  kept : (a b : Id) → Contains (steps_of g') (a, b) → (b ≡ n.id → ⊥) → Contains (steps_of g) (a, b)
  kept a b s ne =
      let w = step_node g' a b s in
      elim (Contains-append_cases g (n ∷ []) w.0 w.1) [
        | inl old ↦ subst (λ z. Contains (steps_of g) (a, z)) w.2 (node_step g w.0 a old w.3)
        | inr last ↦ elim (Contains-cons_cases n [] w.0 last) [ inl e ↦ absurd (ne (sym w.2 ∙ ap (λ (m : Node). m.id) (sym e))) | inr none ↦ not_in_none w.0 none ]
      ]

  same : (a b : Id) → (b ≡ n.id → ⊥) → reaches (steps_of g') a b ≡ reaches (steps_of g) a b
  same = leaf_reaches (steps_of g') (steps_of g) n.id fewer kept unnamed

  -- it leads to nothing
  none_below : (b : Id) → (b ≡ n.id → ⊥) → reaches (steps_of g') n.id b ≡ false
  none_below b ne = false_from_ne_true _ (λ t. go (Leads_from_reaches (steps_of g') n.id b t) refl ne)
    where
      go : {a b : Id} → Leads (steps_of g') a b → a ≡ n.id → (b ≡ n.id → ⊥) → ⊥
      go here e ne = ne e
      go (down {b = c} s l) e ne = unnamed c (subst (λ z. Contains (steps_of g') (z, c)) e s)

  other : (m : Node) → Contains g m → m.id ≡ n.id → ⊥
  other m c e = true≢false (sym (has-node g m c) ∙ ap (has g) e ∙ new)

  -- what is above others stays
  pub ancestors_put : (b : Id) → (b ≡ n.id → ⊥) → ancestors_of g' b ≡ ancestors_of g b
  ancestors_put b ne =
      filter-append (λ m. reaches (steps_of g') m.id b) g (n ∷ [])
      ∙ (λ i. filter_same_on (λ m. reaches (steps_of g') m.id b) (λ m. reaches (steps_of g) m.id b) g (λ m c. same m.id b ne) i ++ cond (none_below b ne i) (n ∷ []) [])
      ∙ append-nil (ancestors_of g b)

  -- what is below others has it last, where they lead to it
  pub descendants_put : (y : Id) → descendants_of g' y ≡ descendants_of g y ++ cond (reaches (steps_of g') y n.id) (n ∷ []) []
  descendants_put y =
      filter-append (λ m. reaches (steps_of g') y m.id) g (n ∷ [])
      ∙ ap (λ l. l ++ cond (reaches (steps_of g') y n.id) (n ∷ []) []) (filter_same_on (λ m. reaches (steps_of g') y m.id) (λ m. reaches (steps_of g) y m.id) g (λ m c. same y m.id (other m c)))

  pub descendants_self : descendants_of g' n.id ≡ n ∷ []
  descendants_self =
      filter-append (λ m. reaches (steps_of g') n.id m.id) g (n ∷ [])
      ∙ (λ i. filter_none (λ m. reaches (steps_of g') n.id m.id) g (λ m c. none_below m.id (other m c)) i ++ cond (reaches-same (steps_of g') n.id i) (n ∷ []) [])

  pub below_put : (y : Id) (b : Bool) → reaches (steps_of g') y n.id ≡ b → cond b (more n.size n.fee (sums_of (descendants_of g y))) (sums_of (descendants_of g y)) ≡ sums_of (descendants_of g' y)
  below_put y true e = sym (sums_put (descendants_of g y) n) ∙ ap sums_of (ap (λ b. descendants_of g y ++ cond b (n ∷ []) []) (sym e) ∙ sym (descendants_put y))
  below_put y false e = ap sums_of (sym (append-nil (descendants_of g y)) ∙ ap (λ b. descendants_of g y ++ cond b (n ∷ []) []) (sym e) ∙ sym (descendants_put y))

module _ {T : Type 0} (hs : List (Held T)) (x : Id) (size fee : ℕ) (last : IsLeafLast hs x size fee) (apart : are_apart (nodes_of hs) ≡ true) (small : AreSmall (nodes_of hs)) (len : length hs < 2 ^ 64)
    (ids : List Id) (told : (b : Id) → has (nodes_of hs) b ≡ true → among ids b ≡ reaches (steps_of (nodes_of hs)) b x) where
  abbrev g0 : List Node
  g0 = nodes_of last.before

  abbrev n0 : Node
  n0 = node_of last.leaf

  split : nodes_of hs ≡ g0 ++ n0 ∷ []
  split = ap nodes_of last.is ∙ map-append node_of last.before (last.leaf ∷ [])

  new0 : has g0 n0.id ≡ false
  new0 = apart_before g0 [] n0 (ap are_apart (sym split) ∙ apart)

  unnamed0 : (b : Id) → Contains (steps_of (g0 ++ n0 ∷ [])) (n0.id, b) → ⊥
  unnamed0 b s = last.unnamed b (subst (λ z. Contains (steps_of (nodes_of hs)) (z, b)) last.id_is (subst (λ l. Contains (steps_of l) (n0.id, b)) (sym split) s))

  told0 : (b : Id) → has (nodes_of hs) b ≡ true → among ids b ≡ reaches (steps_of (g0 ++ n0 ∷ [])) b n0.id
  told0 b h = told b h ∙ ap (λ z. reaches (steps_of (nodes_of hs)) b z) (sym last.id_is) ∙ ap (λ l. reaches (steps_of l) b n0.id) split

  node_there : (h : Held T) → Contains hs h → has (nodes_of hs) h.id ≡ true
  node_there h c = has-node (nodes_of hs) (node_of h) (node_in hs h c)

  -- an old node, or the last
  which : (h : Held T) → Contains hs h → Contains last.before h ⊎ (last.leaf ≡ h)
  which h c =
      elim (Contains-append_cases last.before (last.leaf ∷ []) h (subst (λ l. Contains l h) last.is c)) [
        | inl old ↦ inl old
        | inr l ↦ elim (Contains-cons_cases last.leaf [] h l) [ inl e ↦ inr e | inr none ↦ not_in_none h none ]
      ]

  small_before : AreSmall g0
  small_before = record {
    size = λ n c. small.size n (subst (λ l. Contains l n) (sym split) (Contains-append_left g0 (n0 ∷ []) n c));
    fee = λ n c. small.fee n (subst (λ l. Contains l n) (sym split) (Contains-append_left g0 (n0 ∷ []) n c));
  }

  small_leaf : (size < 2 ^ 64) × (fee < 2 ^ 64)
  small_leaf =
      let c : Contains (nodes_of hs) n0 = subst (λ l. Contains l n0) (sym split) (Contains-append_right g0 (n0 ∷ []) n0 (Contains-head n0 [])) in
      (subst (λ z. z < 2 ^ 64) last.size_is (small.size n0 c), subst (λ z. z < 2 ^ 64) last.fee_is (small.fee n0 c))

  long : length g0 + 1 ≡ length hs
  long = omega (arith, length-append g0 (n0 ∷ []), ap length split, length-map hs node_of)

  -- it can be added to what is below each
  pub leaf_fits : (h : Held T) → Contains hs h → among ids h.id ≡ true → Fits size fee h.totals.below
  leaf_fits h c t =
      elim (which h c) [
        | inl old ↦
            let test : Node → Bool = λ m. reaches (steps_of g0) h.id m.id in
            subst (Fits size fee) (sym (ap (λ (z : Totals). z.below) (last.weighed.totals h old)))
            (record {
              count = omega (arith, shorter test g0, long, len);
              size_fits = omega (arith, sum_small (λ n. n.size) test g0 small_before.size, long, len, small_leaf.0);
              fee_fits = omega (arith, sum_small (λ n. n.fee) test g0 small_before.fee, long, len, small_leaf.1);
            })
        | inr e ↦
            subst (Fits size fee) (sym (ap (λ (z : Held T). z.totals.below) (sym e) ∙ last.empty))
            (record {
              count = omega arith;
              size_fits = omega (arith, small_leaf.0);
              fee_fits = omega (arith, small_leaf.1);
            })
      ]

  whole : (id : Id) → totals_of (g0 ++ n0 ∷ []) id ≡ totals_of (nodes_of hs) id
  whole id = ap (λ l. totals_of l id) (sym split)

  leaf_id : n0.id ≡ x
  leaf_id = last.id_is

  -- the totals of the last
  leaf_totals : totals_of (nodes_of hs) x ≡ record { above = sums_of (filter (λ n. among ids n.id) (nodes_of hs)); below = record { count = 1; size = size; fees = fee } }
  leaf_totals =
      let one : sums_of (n0 ∷ []) ≡ record { count = 1; size = size; fees = fee } = sums_put [] n0 ∙ (λ i. record { count = 1; size = (let e : 0 + n0.size ≡ size = omega (arith, last.size_is) in e) i; fees = (let e : 0 + n0.fee ≡ fee = omega (arith, last.fee_is) in e) i }) in
      λ i. record {
        above = sums_of (filter_same_on (λ n. reaches (steps_of (nodes_of hs)) n.id x) (λ n. among ids n.id) (nodes_of hs) (λ n c. sym (told n.id (has-node (nodes_of hs) n c))) i);
        below = (ap (λ l. sums_of (descendants_of l x)) split ∙ ap (λ z. sums_of (descendants_of (g0 ++ n0 ∷ []) z)) (sym leaf_id) ∙ ap sums_of (descendants_self g0 n0 new0 unnamed0) ∙ one) i;
      }

  old_id : (h : Held T) → Contains last.before h → h.id ≡ x → ⊥
  old_id h c e = other g0 n0 new0 unnamed0 (node_of h) (node_in last.before h c) (e ∙ sym leaf_id)

  -- the totals of the others
  old_totals : (h : Held T) → Contains last.before h → (b : Bool) → among ids h.id ≡ b → (cond b (changed (by Below Plus size fee) h) h).totals ≡ totals_of (nodes_of hs) h.id
  old_totals h c b t =
      let above : sums_of (ancestors_of g0 h.id) ≡ sums_of (ancestors_of (g0 ++ n0 ∷ []) h.id) = ap sums_of (sym (ancestors_put g0 n0 new0 unnamed0 h.id (λ e. old_id h c (e ∙ leaf_id)))) in
      let there : has (nodes_of hs) h.id ≡ true = node_there h (subst (λ l. Contains l h) (sym last.is) (Contains-append_left last.before (last.leaf ∷ []) h c)) in
      let below : cond b (more n0.size n0.fee (sums_of (descendants_of g0 h.id))) (sums_of (descendants_of g0 h.id)) ≡ sums_of (descendants_of (g0 ++ n0 ∷ []) h.id) = below_put g0 n0 new0 unnamed0 h.id b (sym (told0 h.id there) ∙ t) in
      go b
      ∙ ap (λ (z : Totals). record { above = z.above; below = cond b (more size fee z.below) z.below }) (last.weighed.totals h c)
      ∙ (λ i. record { above = above i; below = (ap (λ s. cond b (more s fee (sums_of (descendants_of g0 h.id))) (sums_of (descendants_of g0 h.id))) (sym last.size_is) ∙ ap (λ s. cond b (more n0.size s (sums_of (descendants_of g0 h.id))) (sums_of (descendants_of g0 h.id))) (sym last.fee_is) ∙ below) i })
      ∙ whole h.id
    where
      go : (b : Bool) → (cond b (changed (by Below Plus size fee) h) h).totals ≡ record { above = h.totals.above; below = cond b (more size fee h.totals.below) h.totals.below }
      go true = refl
      go false = refl

  raised_id : (h : Held T) (b : Bool) → (cond b (changed (by Below Plus size fee) h) h).id ≡ h.id
  raised_id h true = refl
  raised_id h false = refl

  -- each has its totals when the last has been given its own
  pub IsWeighed-settled : (totals : Totals) (hs' : List (Held T)) → hs' ≡ map (at_id x (with_totals totals)) (map (changed_of ids (by Below Plus size fee)) hs)
      → totals ≡ record { above = sums_of (filter (λ n. among ids n.id) (nodes_of hs)); below = record { count = 1; size = size; fees = fee } } → IsWeighed hs'
  IsWeighed-settled totals hs' is given = record {
    totals = λ h c.
        let w = Contains-from_map (at_id x (with_totals totals)) (map (changed_of ids (by Below Plus size fee)) hs) h (subst (λ l. Contains l h) is c) in
        let v = Contains-from_map (changed_of ids (by Below Plus size fee)) hs w.0 w.1 in
        let from : at_id x (with_totals totals) (changed_of ids (by Below Plus size fee) v.0) ≡ h = ap (at_id x (with_totals totals)) v.2 ∙ w.2 in
        ap (λ (z : Held T). z.totals) (sym from)
        ∙ one v.0 v.1
        ∙ ap (totals_of (nodes_of hs)) (sym (same_id_of (changed_of ids (by Below Plus size fee) v.0) (bytes_eq (changed_of ids (by Below Plus size fee) v.0).id x) ∙ raised_id v.0 (among ids v.0.id)) ∙ ap (λ (z : Held T). z.id) from)
        ∙ ap (λ l. totals_of l h.id) (sym (ap nodes_of is ∙ nodes_written totals (map (changed_of ids (by Below Plus size fee)) hs) ∙ nodes_changed (by Below Plus size fee) ids hs));
  }
    where
      same_id_of : (h : Held T) (b : Bool) → (cond b (with_totals totals h) h).id ≡ h.id
      same_id_of h true = refl
      same_id_of h false = refl

      nodes_written : (t : Totals) (ks : List (Held T)) → nodes_of (map (at_id x (with_totals t)) ks) ≡ nodes_of ks
      nodes_written t [] = refl
      nodes_written t (k ∷ ks) = λ i. go (bytes_eq k.id x) i ∷ nodes_written t ks i
        where
          go : (b : Bool) → node_of (cond b (with_totals t k) k) ≡ node_of k
          go true = refl
          go false = refl

      one : (h : Held T) → Contains hs h → (at_id x (with_totals totals) (changed_of ids (by Below Plus size fee) h)).totals ≡ totals_of (nodes_of hs) h.id
      one h c =
          elim (which h c) [
            | inl old ↦
                ap (λ (z : Held T). z.totals) (cond-false (bytes_eq (changed_of ids (by Below Plus size fee) h).id x) (with_totals totals (changed_of ids (by Below Plus size fee) h)) (changed_of ids (by Below Plus size fee) h)
                (false_from_ne_true _ (λ t. old_id h old (sym (raised_id h (among ids h.id)) ∙ (bytes_decides (changed_of ids (by Below Plus size fee) h).id x).0 t))))
                ∙ old_totals h old (among ids h.id) refl
            | inr e ↦
                let is_x : h.id ≡ x = ap (λ (z : Held T). z.id) (sym e) ∙ leaf_id in
                ap (λ (z : Held T). z.totals) (cond-true (bytes_eq (changed_of ids (by Below Plus size fee) h).id x) (with_totals totals (changed_of ids (by Below Plus size fee) h)) (changed_of ids (by Below Plus size fee) h)
                ((bytes_decides (changed_of ids (by Below Plus size fee) h).id x).1 (raised_id h (among ids h.id) ∙ is_x)))
                ∙ given ∙ sym leaf_totals ∙ ap (totals_of (nodes_of hs)) (sym is_x)
          ]

  pub loaded_settled : (totals : Totals) (hs' : List (Held T)) → hs' ≡ map (at_id x (with_totals totals)) (map (changed_of ids (by Below Plus size fee)) hs) → loaded hs' ≡ loaded hs
  loaded_settled totals hs' is = ap loaded is ∙ loaded_written (map (changed_of ids (by Below Plus size fee)) hs) ∙ loaded_changed (by Below Plus size fee) ids hs
    where
      loaded_written : (ks : List (Held T)) → loaded (map (at_id x (with_totals totals)) ks) ≡ loaded ks
      loaded_written [] = refl
      loaded_written (k ∷ ks) = λ i. go (bytes_eq k.id x) i ∷ loaded_written ks i
        where
          go : (b : Bool) → ◌≡◌ {A = Node × T} (node_of (cond b (with_totals totals k) k), (cond b (with_totals totals k) k).load) (node_of k, k.load)
          go true = refl
          go false = refl
