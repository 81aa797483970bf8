-- What is left without a node that has no parents.
use Rattle.std.proofs.Common.{◌≡◌, ℕ, true, false, not, ◌&&◌, ◌||◌, List, [], ◌∷◌, length, refl, sym, ap, ◌∙◌, subst, map, arith}
use Rattle.std.specs.Prelude.{Contains, filter, ◌==◌}
use Rattle.std.specs.Str.{bytes_eq}
use Rattle.std.specs.Cmp.Lexicographic.{bytes_decides}
use Rattle.std.proofs.lemmas.Bool.{false_from_ne_true, true≢false, not-true, and_parts, eqb-true}
use Rattle.gate_graph.specs.Family.{reaches, Node, steps_of}
use Rattle.gate_graph.specs.Families.{among, has, without_id, without_parent, without_root, is_root, are_apart, IsGraph}
use Rattle.gate_bytes.proofs.Members.{any_is, list_any_of}
use Rattle.gate_graph.proofs.Steps.{step_node, node_step, root_reaches}
use Rattle.gate_graph.proofs.Apart.{among_from, are_apart-filter, one_node}
use Rattle.gate_graph.proofs.Filters.{filter_all, Contains-map, Contains-from_map, Contains-filter, Contains-from_filter}

abbrev Id : Type 0
Id = List ℕ

pub not_same : (a x : Id) → (a ≡ x → ⊥) → not (bytes_eq a x) ≡ true
not_same a x ne = ap not (false_from_ne_true _ (λ h. ne ((bytes_decides a x).0 h)))

pub differs : (a x : Id) → not (bytes_eq a x) ≡ true → a ≡ x → ⊥
differs a x h e = true≢false (sym ((bytes_decides a x).1 e) ∙ not-true _ h)

-- an id that is not among others changes nothing where it is left out
pub without_id_none : (x : Id) (ids : List Id) → among ids x ≡ false → without_id x ids ≡ ids
without_id_none x ids h = filter_all (λ y. not (bytes_eq y x)) ids (λ y c. not_same y x (λ e. true≢false (sym (among_from ids x (subst (Contains ids) e c)) ∙ h)))

module _ (g : List Node) (x : Id) (ok : IsGraph g) (root : is_root g x ≡ true) where
  -- a root's node names no parent
  parentless : (m : Node) → Contains g m → m.id ≡ x → (a : Id) → Contains m.parents a → ⊥
  parentless m c e a p =
      let w = any_is (λ n. bytes_eq n.id x && length n.parents == 0) g root in
      let q = and_parts (bytes_eq w.0.id x) (length w.0.parents == 0) w.2 in
      let same = one_node g m w.0 ok.apart c w.1 (e ∙ sym ((bytes_decides w.0.id x).0 q.0)) in
      none w.0.parents q.1 a (subst (λ (n : Node). Contains n.parents a) same p)
    where
      none : (ps : List Id) → (length ps == 0) ≡ true → (a : Id) → Contains ps a → ⊥
      none [] h a p = absurd (omega arith)
      none (b ∷ ps) h a p =
          let e : length (b ∷ ps) ≡ 0 = eqb-true (length (b ∷ ps)) 0 h in
          absurd (omega (arith, e))

  pub rootless : (a : Id) → Contains (steps_of g) (a, x) → ⊥
  rootless a s = let w = step_node g a x s in parentless w.0 w.1 w.2 a w.3

  fewer_steps : (a b : Id) → Contains (steps_of (without_root g x)) (a, b) → Contains (steps_of g) (a, b)
  fewer_steps a b s =
      let w = step_node (without_root g x) a b s in
      let v = Contains-from_map (without_parent x) (filter (λ n. not (bytes_eq n.id x)) g) w.0 w.1 in
      let u = Contains-from_filter (λ n. not (bytes_eq n.id x)) g v.0 v.1 in
      let named : Contains v.0.parents a = (Contains-from_filter (λ p. not (bytes_eq p x)) v.0.parents a (subst (λ (m : Node). Contains m.parents a) (sym v.2) w.3)).0 in
      subst (λ z. Contains (steps_of g) (a, z)) (ap (λ (m : Node). m.id) v.2 ∙ w.2) (node_step g v.0 a u.0 named)

  kept_steps : (a b : Id) → Contains (steps_of g) (a, b) → (a ≡ x → ⊥) → Contains (steps_of (without_root g x)) (a, b)
  kept_steps a b s ne =
      let w = step_node g a b s in
      let stays = not_same w.0.id x (λ e. rootless a (subst (λ z. Contains (steps_of g) (a, z)) (sym w.2 ∙ e) s)) in
      subst (λ z. Contains (steps_of (without_root g x)) (a, z)) w.2
      (node_step (without_root g x) (without_parent x w.0) a
      (Contains-map (without_parent x) (filter (λ n. not (bytes_eq n.id x)) g) w.0 (Contains-filter (λ n. not (bytes_eq n.id x)) g w.0 w.1 stays))
      (Contains-filter (λ p. not (bytes_eq p x)) w.0.parents a w.3 (not_same a x ne)))

  pub reaches-without_root : (a b : Id) → (a ≡ x → ⊥) → reaches (steps_of g) a b ≡ reaches (steps_of (without_root g x)) a b
  reaches-without_root = root_reaches (steps_of g) (steps_of (without_root g x)) x fewer_steps kept_steps rootless

  has-without_parent : (l : List Node) (y : Id) → has (map (without_parent x) l) y ≡ has l y
  has-without_parent [] y = refl
  has-without_parent (n ∷ l) y = ap (λ b. bytes_eq n.id y || b) (has-without_parent l y)

  are_apart-without_parent : (l : List Node) → are_apart (map (without_parent x) l) ≡ are_apart l
  are_apart-without_parent [] = refl
  are_apart-without_parent (n ∷ l) = ap (λ b. not b && are_apart (map (without_parent x) l)) (has-without_parent l n.id) ∙ ap (λ b. not (has l n.id) && b) (are_apart-without_parent l)

  -- a step that is left has neither end at the root
  left_ends : (a b : Id) → Contains (steps_of (without_root g x)) (a, b) → (a ≡ x → ⊥) × (b ≡ x → ⊥)
  left_ends a b s =
      let w = step_node (without_root g x) a b s in
      let v = Contains-from_map (without_parent x) (filter (λ n. not (bytes_eq n.id x)) g) w.0 w.1 in
      let u = Contains-from_filter (λ n. not (bytes_eq n.id x)) g v.0 v.1 in
      let named = Contains-from_filter (λ p. not (bytes_eq p x)) v.0.parents a (subst (λ (m : Node). Contains m.parents a) (sym v.2) w.3) in
      (differs a x named.1, differs b x (subst (λ z. not (bytes_eq z x) ≡ true) (ap (λ (m : Node). m.id) v.2 ∙ w.2) u.1))

  -- it is a graph
  pub IsGraph-without_root : IsGraph (without_root g x)
  IsGraph-without_root = record {
    apart = are_apart-without_parent (filter (λ n. not (bytes_eq n.id x)) g) ∙ are_apart-filter (λ n. not (bytes_eq n.id x)) g ok.apart;
    closed = λ a b s.
        let v = any_is (λ n. bytes_eq n.id a) g (ok.closed a b (fewer_steps a b s)) in
        has-without_parent (filter (λ n. not (bytes_eq n.id x)) g) a
        ∙ list_any_of (λ n. bytes_eq n.id a) (filter (λ n. not (bytes_eq n.id x)) g) v.0
        (Contains-filter (λ n. not (bytes_eq n.id x)) g v.0 v.1 (ap (λ z. not (bytes_eq z x)) ((bytes_decides v.0.id a).0 v.2) ∙ not_same a x (left_ends a b s).0)) v.2;
    acyclic = λ a b s. sym (reaches-without_root b a (left_ends a b s).1) ∙ ok.acyclic a b (fewer_steps a b s);
  }
