-- A node put below some nodes and above others.
use Rattle.std.proofs.Common.{◌≡◌, ℕ, Bool, true, false, cond, not, ◌&&◌, ◌||◌, List, [], ◌∷◌, ◌++◌, refl, sym, ap, ◌∙◌, subst, ◌⊎◌, inl, inr, ⊎_elim, arith, map}
use Rattle.std.specs.Prelude.{Contains}
use Rattle.std.specs.List.{list_any, list_all}
use Rattle.std.specs.Str.{bytes_eq}
use Rattle.std.specs.Cmp.Lexicographic.{bytes_decides}
use Rattle.std.proofs.lemmas.Bool.{false_from_ne_true, true≢false, or_cases, or_left, or_right, and_parts, and_from}
use Rattle.std.proofs.lemmas.List.Elements.{Contains-append_cases, Contains-append_left, Contains-append_right}
use Rattle.gate_graph.specs.Family.{reaches, Leads, here, down, Node, steps_of}
use Rattle.gate_graph.specs.Families.{among, has, with_parent, with_above, are_apart, IsGraph}
use Rattle.gate_bytes.proofs.Members.{Contains-cons_cases, Contains-head, not_in_none, any_is, list_any_of}
use Rattle.gate_graph.proofs.Reaching.{reaches_from_Leads, Leads_from_reaches, Leads_more, Leads_trans, reaches-same, reaches_trans, reaches_step}
use Rattle.gate_graph.proofs.Steps.{step_node, node_step, same_bool}
use Rattle.gate_graph.proofs.Apart.{has-node, has-append, are_apart-push, all_listed, among_from, Contains-among}
use Rattle.gate_graph.proofs.Filters.{Contains-map, Contains-from_map}

abbrev Id : Type 0
Id = List ℕ

-- nothing leads from an id that no node has
pub unknown_leads : (g : List Node) → ((a b : Id) → Contains (steps_of g) (a, b) → has g a ≡ true) → {a b : Id} → Leads (steps_of g) a b → has g a ≡ false → a ≡ b
unknown_leads g closed here h = refl
unknown_leads g closed (down {a = a} {b = c} s l) h = absurd (true≢false (sym (closed a c s) ∙ h))

push_cases : (b : Bool) (ps : List Id) (x a : Id) → Contains (ps ++ cond b (x ∷ []) []) a → Contains ps a ⊎ ((b ≡ true) × (x ≡ a))
push_cases b ps x a c = ⊎_elim inl (λ k. inr (by b k)) (Contains-append_cases ps (cond b (x ∷ []) []) a c)
  where
    by : (b : Bool) → Contains (cond b (x ∷ []) []) a → (b ≡ true) × (x ≡ a)
    by true k = (refl, ⊎_elim (λ e. e) (λ n. not_in_none a n) (Contains-cons_cases x [] a k))
    by false k = not_in_none a k

push_old : (b : Bool) (ps : List Id) (x a : Id) → Contains ps a → Contains (ps ++ cond b (x ∷ []) []) a
push_old b ps x a c = Contains-append_left ps (cond b (x ∷ []) []) a c

push_new : (b : Bool) (ps : List Id) (x : Id) → b ≡ true → Contains (ps ++ cond b (x ∷ []) []) x
push_new true ps x e = Contains-append_right ps (x ∷ []) x (Contains-head x [])
push_new false ps x e = absurd (true≢false (sym e))

has-with_parent : (x : Id) (cs : List Id) (g : List Node) (y : Id) → has (map (with_parent x cs) g) y ≡ has g y
has-with_parent x cs [] y = refl
has-with_parent x cs (n ∷ g) y = ap (λ b. bytes_eq n.id y || b) (has-with_parent x cs g y)

are_apart-with_parent : (x : Id) (cs : List Id) (g : List Node) → are_apart (map (with_parent x cs) g) ≡ are_apart g
are_apart-with_parent x cs [] = refl
are_apart-with_parent x cs (n ∷ g) = ap (λ b. not b && are_apart (map (with_parent x cs) g)) (has-with_parent x cs g n.id) ∙ ap (λ b. not (has g n.id) && b) (are_apart-with_parent x cs g)

module _ (g : List Node) (n : Node) (children : List Id) (ok : IsGraph g) (new : has g n.id ≡ false) (known : list_all (λ p. has g p) n.parents ≡ true) (below : list_all (λ c. has g c) children ≡ true) where
  -- where a step comes from
  pub middle_step : (a b : Id) → Contains (steps_of (with_above g n children)) (a, b) → Contains (steps_of g) (a, b) ⊎ (((n.id ≡ b) × Contains n.parents a) ⊎ ((n.id ≡ a) × (among children b ≡ true) × (has g b ≡ true)))
  middle_step a b s =
      let w = step_node (with_above g n children) a b s in
      ⊎_elim
      (λ k.
      let v = Contains-from_map (with_parent n.id children) g w.0 k in
      let named : Contains (with_parent n.id children v.0).parents a = subst (λ (m : Node). Contains m.parents a) (sym v.2) w.3 in
      let same : v.0.id ≡ b = ap (λ (m : Node). m.id) v.2 ∙ w.2 in
      ⊎_elim
      (λ k. inl (subst (λ z. Contains (steps_of g) (a, z)) same (node_step g v.0 a v.1 k)))
      (λ k. inr (inr (k.1, ap (among children) (sym same) ∙ k.0, ap (has g) (sym same) ∙ has-node g v.0 v.1)))
      (push_cases (among children v.0.id) v.0.parents n.id a named))
      (λ k. ⊎_elim
      (λ e. inr (inl (ap (λ (m : Node). m.id) e ∙ w.2, subst (λ (m : Node). Contains m.parents a) (sym e) w.3)))
      (λ k. absurd (omega arith))
      (Contains-cons_cases n [] w.0 k))
      (Contains-append_cases (map (with_parent n.id children) g) (n ∷ []) w.0 w.1)

  old_step : (a b : Id) → Contains (steps_of g) (a, b) → Contains (steps_of (with_above g n children)) (a, b)
  old_step a b s =
      let w = step_node g a b s in
      subst (λ z. Contains (steps_of (with_above g n children)) (a, z)) w.2
      (node_step (with_above g n children) (with_parent n.id children w.0) a
      (Contains-append_left (map (with_parent n.id children) g) (n ∷ []) (with_parent n.id children w.0) (Contains-map (with_parent n.id children) g w.0 w.1))
      (push_old (among children w.0.id) w.0.parents n.id a w.3))

  up_step : (p : Id) → Contains n.parents p → Contains (steps_of (with_above g n children)) (p, n.id)
  up_step p c = node_step (with_above g n children) n p (Contains-append_right (map (with_parent n.id children) g) (n ∷ []) n (Contains-head n [])) c

  down_step : (c : Id) → Contains children c → Contains (steps_of (with_above g n children)) (n.id, c)
  down_step c k =
      let w = any_is (λ m. bytes_eq m.id c) g (all_listed (λ c. has g c) children c below k) in
      let e = (bytes_decides w.0.id c).0 w.2 in
      subst (λ z. Contains (steps_of (with_above g n children)) (n.id, z)) e
      (node_step (with_above g n children) (with_parent n.id children w.0) n.id
      (Contains-append_left (map (with_parent n.id children) g) (n ∷ []) (with_parent n.id children w.0) (Contains-map (with_parent n.id children) g w.0 w.1))
      (push_new (among children w.0.id) w.0.parents n.id (among_from children w.0.id (subst (Contains children) (sym e) k))))

  -- up to the new node, and down from it
  abbrev pub up : Id → Bool
  up a = bytes_eq a n.id || list_any (λ p. reaches (steps_of g) a p) n.parents

  abbrev pub under : Id → Bool
  under b = bytes_eq b n.id || list_any (λ c. reaches (steps_of g) c b) children

  child_has : (a b : Id) → Contains (steps_of g) (a, b) → has g b ≡ true
  child_has a b s = let w = step_node g a b s in ap (has g) (sym w.2) ∙ has-node g w.0 w.1

  not_new : (a : Id) → has g a ≡ true → a ≡ n.id → ⊥
  not_new a h e = true≢false (sym h ∙ ap (has g) e ∙ new)

  up_old : (a c : Id) → Contains (steps_of g) (a, c) → up c ≡ true → up a ≡ true
  up_old a c s h = ⊎_elim
      (λ e. absurd (not_new c (child_has a c s) ((bytes_decides c n.id).0 e)))
      (λ k. let w = any_is (λ p. reaches (steps_of g) c p) n.parents k in
      or_right _ _ (list_any_of (λ p. reaches (steps_of g) a p) n.parents w.0 w.1 (reaches_trans (steps_of g) a c w.0 (reaches_step (steps_of g) a c s) w.2)))
      (or_cases _ _ h)

  from_new : (b : Id) → reaches (steps_of g) n.id b ≡ true → n.id ≡ b
  from_new b r = unknown_leads g ok.closed (Leads_from_reaches (steps_of g) n.id b r) new

  no_way_in : {a b : Id} → Leads (steps_of g) a b → b ≡ n.id → (a ≡ n.id → ⊥) → ⊥
  no_way_in here e ne = ne e
  no_way_in (down {a = a} {b = c} s l) e ne = no_way_in l e (not_new c (child_has a c s))

  onward : {a b : Id} → Leads (steps_of (with_above g n children)) a b → (reaches (steps_of g) a b || (up a && under b)) ≡ true
  onward (here {a = a}) = or_left _ _ (reaches-same (steps_of g) a)
  onward (down {a = a} {b = c} {c = b} s l) =
      let ih = or_cases _ _ (onward l) in
      ⊎_elim
      (λ k. ⊎_elim
      (λ r. or_left _ _ (reaches_trans (steps_of g) a c b (reaches_step (steps_of g) a c k) r))
      (λ r. let q = and_parts _ _ r in or_right _ _ (and_from _ _ (up_old a c k q.0) q.1))
      ih)
      (λ k. ⊎_elim
      (λ k.
      let over : up a ≡ true = or_right _ _ (list_any_of (λ p. reaches (steps_of g) a p) n.parents a k.1 (reaches-same (steps_of g) a)) in
      ⊎_elim
      (λ r. or_right _ _ (and_from _ _ over (or_left _ _ ((bytes_decides b n.id).1 (sym (from_new b (subst (λ z. reaches (steps_of g) z b ≡ true) (sym k.0) r)))))))
      (λ r. or_right _ _ (and_from _ _ over (and_parts _ _ r).1))
      ih)
      (λ k.
      let over : up a ≡ true = or_left _ _ ((bytes_decides a n.id).1 (sym k.0)) in
      ⊎_elim
      (λ r. or_right _ _ (and_from _ _ over (or_right _ _ (list_any_of (λ y. reaches (steps_of g) y b) children c (Contains-among children c k.1) r))))
      (λ r. or_right _ _ (and_from _ _ over (and_parts _ _ r).1))
      ih)
      k)
      (middle_step a c s)

  to_middle : (a : Id) → up a ≡ true → Leads (steps_of (with_above g n children)) a n.id
  to_middle a h = ⊎_elim
      (λ e. subst (Leads (steps_of (with_above g n children)) a) ((bytes_decides a n.id).0 e) here)
      (λ k. let w = any_is (λ p. reaches (steps_of g) a p) n.parents k in
      Leads_trans (Leads_more old_step (Leads_from_reaches (steps_of g) a w.0 w.2)) (down (up_step w.0 w.1) here))
      (or_cases _ _ h)

  from_middle : (b : Id) → under b ≡ true → Leads (steps_of (with_above g n children)) n.id b
  from_middle b h = ⊎_elim
      (λ e. subst (Leads (steps_of (with_above g n children)) n.id) (sym ((bytes_decides b n.id).0 e)) here)
      (λ k. let w = any_is (λ c. reaches (steps_of g) c b) children k in
      down (down_step w.0 w.1) (Leads_more old_step (Leads_from_reaches (steps_of g) w.0 b w.2)))
      (or_cases _ _ h)

  -- chains go round the new node or through it once
  pub reaches-with_above : (a b : Id) → reaches (steps_of (with_above g n children)) a b ≡ (reaches (steps_of g) a b || (up a && under b))
  reaches-with_above a b = same_bool _ _
      (λ r. onward (Leads_from_reaches (steps_of (with_above g n children)) a b r))
      (λ r. ⊎_elim
      (λ k. reaches_from_Leads (Leads_more old_step (Leads_from_reaches (steps_of g) a b k)))
      (λ k. let q = and_parts _ _ k in reaches_from_Leads (Leads_trans (to_middle a q.0) (from_middle b q.1)))
      (or_cases _ _ r))

  -- and with no child above a parent, no step leads back
  pub acyclic-with_above : list_any (λ c. list_any (λ p. reaches (steps_of g) c p) n.parents) children ≡ false → (a b : Id) → Contains (steps_of (with_above g n children)) (a, b) → reaches (steps_of (with_above g n children)) b a ≡ false
  acyclic-with_above apart a b s = false_from_ne_true _ (λ r.
      ⊎_elim
      (λ old. ⊎_elim
      (λ k. true≢false (sym k ∙ ok.acyclic a b old))
      (λ k. let q = and_parts _ _ k in
      let u = upward b (not_new b (child_has a b old)) q.0 in
      let d = downward a (not_new a (ok.closed a b old)) q.1 in
      clash d.0 u.0 d.1 u.1 (reaches_trans (steps_of g) d.0 a u.0 d.2 (reaches_trans (steps_of g) a b u.0 (reaches_step (steps_of g) a b old) u.2)))
      (or_cases _ _ (sym (reaches-with_above b a) ∙ r)))
      (λ k. ⊎_elim
      (λ k.
      let a_has = all_listed (λ p. has g p) n.parents a known k.1 in
      ⊎_elim
      (λ t. not_new a a_has (sym (from_new a (subst (λ z. reaches (steps_of g) z a ≡ true) (sym k.0) t))))
      (λ t. let d = downward a (not_new a a_has) (and_parts _ _ t).1 in clash d.0 a d.1 k.1 d.2)
      (or_cases _ _ (sym (reaches-with_above b a) ∙ r)))
      (λ k.
      ⊎_elim
      (λ t. no_way_in (Leads_from_reaches (steps_of g) b a t) (sym k.0) (not_new b k.2))
      (λ t. let u = upward b (not_new b k.2) (and_parts _ _ t).0 in clash b u.0 (Contains-among children b k.1) u.1 u.2)
      (or_cases _ _ (sym (reaches-with_above b a) ∙ r)))
      k)
      (middle_step a b s))
    where
      upward : (a : Id) → (a ≡ n.id → ⊥) → up a ≡ true → (p : Id) × Contains n.parents p × (reaches (steps_of g) a p ≡ true)
      upward a ne h = ⊎_elim (λ e. absurd (ne ((bytes_decides a n.id).0 e))) (λ k. any_is (λ p. reaches (steps_of g) a p) n.parents k) (or_cases _ _ h)

      downward : (b : Id) → (b ≡ n.id → ⊥) → under b ≡ true → (c : Id) × Contains children c × (reaches (steps_of g) c b ≡ true)
      downward b ne h = ⊎_elim (λ e. absurd (ne ((bytes_decides b n.id).0 e))) (λ k. any_is (λ c. reaches (steps_of g) c b) children k) (or_cases _ _ h)

      clash : (c p : Id) → Contains children c → Contains n.parents p → reaches (steps_of g) c p ≡ true → ⊥
      clash c p kc kp r = true≢false (sym (list_any_of (λ c. list_any (λ p. reaches (steps_of g) c p) n.parents) children c kc (list_any_of (λ p. reaches (steps_of g) c p) n.parents p kp r)) ∙ apart)

  pub IsGraph-with_above : list_any (λ c. list_any (λ p. reaches (steps_of g) c p) n.parents) children ≡ false → IsGraph (with_above g n children)
  IsGraph-with_above apart = record {
    apart = are_apart-push (map (with_parent n.id children) g) n (are_apart-with_parent n.id children g ∙ ok.apart) (has-with_parent n.id children g n.id ∙ new);
    closed = λ a b s. has-append (map (with_parent n.id children) g) (n ∷ []) a ∙ ⊎_elim
        (λ k. or_left _ _ (has-with_parent n.id children g a ∙ ok.closed a b k))
        (λ k. ⊎_elim
        (λ k. or_left _ _ (has-with_parent n.id children g a ∙ all_listed (λ p. has g p) n.parents a known k.1))
        (λ k. or_right _ _ (or_left _ _ ((bytes_decides n.id a).1 k.0)))
        k)
        (middle_step a b s);
    acyclic = acyclic-with_above apart;
  }

  pub unnamed : (m : Node) → Contains g m → among m.parents n.id ≡ false
  unnamed m c = false_from_ne_true _ (λ t. not_new n.id (ok.closed n.id m.id (node_step g m n.id c (Contains-among m.parents n.id t))) refl)
