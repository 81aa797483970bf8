-- Laws of families: nodes put between others, and roots that go.
use Rattle.std.proofs.Common.{◌≡◌, ℕ, Bool, true, false, cond, not, ◌&&◌, ◌||◌, List, [], ◌∷◌, ◌++◌, length, refl, sym, ap, ◌∙◌, subst, ⊎_elim, map, append-nil}
use Rattle.std.specs.Prelude.{Contains, filter, ◌==◌}
use Rattle.std.specs.Str.{bytes_eq}
use Rattle.std.specs.Cmp.Lexicographic.{bytes_decides}
use Rattle.std.proofs.lemmas.Bool.{false_from_ne_true, true≢false, not-true, cases_Bool, and_parts, and_from, or_parts}
use Rattle.std.proofs.lemmas.List.{map-append}
use Rattle.std.proofs.lemmas.List.Elements.{filter-append}
use Rattle.std.proofs.lemmas.Simd.{map-map}
use Rattle.gate_graph.specs.Family.{Node, Leads, here, down, steps_of, reaches}
use Rattle.gate_graph.specs.Families.{among, has, ids_of, with_parent, with_above, without_id, without_parent, is_root, are_apart, IsGraph}
use Rattle.gate_graph.specs.Laws.{is_above, is_below, HaveEachOnce, HasNoFamily, FitsBetween, JoinsFamilies, LeavesFamilies, ComesAndGoes}
use Rattle.gate_bytes.proofs.Members.{Contains-head, Contains-rest, any_is, list_any_of}
use Rattle.gate_graph.proofs.Reaching.{Leads_from_reaches, reaches-same}
use Rattle.gate_graph.proofs.Steps.{same_bool, step_node}
use Rattle.gate_graph.proofs.Apart.{same_id, has-node, are_apart-filter}
use Rattle.gate_graph.proofs.Filters.{filter_same_on, filter_all, filter_none, filter-map}
use Rattle.gate_graph.proofs.Between.{reaches-with_above, IsGraph-with_above, unnamed, unknown_leads}
use Rattle.gate_graph.proofs.Root.{not_same, without_id_none, reaches-without_root, IsGraph-without_root, rootless}

abbrev Id : Type 0
Id = List ℕ

pub HaveEachOnce-graph : (g : List Node) → IsGraph g → HaveEachOnce g
HaveEachOnce-graph g ok = record {
  above = λ id. are_apart-filter (λ n. reaches (steps_of g) n.id id) g ok.apart;
  below = λ id. are_apart-filter (λ n. reaches (steps_of g) id n.id) g ok.apart;
}

-- an id that no node has
module _ (g : List Node) (x : Id) (ok : IsGraph g) (new : has g x ≡ false) where
  stranger : (m : Node) → Contains g m → m.id ≡ x → ⊥
  stranger m c e = true≢false (sym (has-node g m c) ∙ ap (has g) e ∙ new)

  -- nothing leads to it, and nothing from it
  from_stranger : (m : Node) → Contains g m → reaches (steps_of g) x m.id ≡ false
  from_stranger m c = false_from_ne_true _ (λ r. stranger m c (sym (unknown_leads g ok.closed (Leads_from_reaches (steps_of g) x m.id r) new)))

  to_stranger : (m : Node) → Contains g m → reaches (steps_of g) m.id x ≡ false
  to_stranger m c = false_from_ne_true _ (λ r. no_way (Leads_from_reaches (steps_of g) m.id x r) refl (stranger m c))
    where
      no_way : {a b : Id} → Leads (steps_of g) a b → b ≡ x → (a ≡ x → ⊥) → ⊥
      no_way here e ne = ne e
      no_way (down {a = a} {b = b} s l) e ne = no_way l e (λ same. true≢false (sym (child_has a b s) ∙ ap (has g) same ∙ new))
        where
          child_has : (a b : Id) → Contains (steps_of g) (a, b) → has g b ≡ true
          child_has a b s = let w = step_node g a b s in ap (has g) (sym w.2) ∙ has-node g w.0 w.1

  pub HasNoFamily-stranger : HasNoFamily g x
  HasNoFamily-stranger = record {
    above = filter_none (λ m. reaches (steps_of g) m.id x) g to_stranger;
    below = filter_none (λ m. reaches (steps_of g) x m.id) g from_stranger;
  }

module _ (g : List Node) (n : Node) (children : List Id) (ok : IsGraph g) (fits : FitsBetween g n children) where
  chains : (a b : Id) → reaches (steps_of (with_above g n children)) a b ≡ (reaches (steps_of g) a b || ((bytes_eq a n.id || is_above g n.parents a) && (bytes_eq b n.id || is_below g children b)))
  chains a b = reaches-with_above g n children ok fits.new fits.parents fits.children a b

  other : (m : Node) → Contains g m → m.id ≡ n.id → ⊥
  other = stranger g n.id ok fits.new

  other_false : (m : Node) → Contains g m → bytes_eq m.id n.id ≡ false
  other_false m c = false_from_ne_true _ (λ t. other m c ((bytes_decides m.id n.id).0 t))

  from_new : (m : Node) → Contains g m → reaches (steps_of g) n.id m.id ≡ false
  from_new = from_stranger g n.id ok fits.new

  to_new : (m : Node) → Contains g m → reaches (steps_of g) m.id n.id ≡ false
  to_new = to_stranger g n.id ok fits.new

  family : (p q : Id → Bool) → ((m : Node) → Contains g m → p m.id ≡ q m.id) → p n.id ≡ true → ids_of (filter (λ m. p m.id) (with_above g n children)) ≡ ids_of (filter (λ m. q m.id) g) ++ n.id ∷ []
  family p q same own =
      ap ids_of (filter-append (λ m. p m.id) (map (with_parent n.id children) g) (n ∷ []))
      ∙ map-append (λ (m : Node). m.id) (filter (λ m. p m.id) (map (with_parent n.id children) g)) (filter (λ m. p m.id) (n ∷ []))
      ∙ (λ i. old i ++ ids_of (cond (own i) (n ∷ []) []))
    where
      old : ids_of (filter (λ m. p m.id) (map (with_parent n.id children) g)) ≡ ids_of (filter (λ m. q m.id) g)
      old =
          ap ids_of (filter-map (with_parent n.id children) (λ m. p m.id) g)
          ∙ map-map (λ (m : Node). m.id) (with_parent n.id children) (filter (λ m. p m.id) g)
          ∙ ap ids_of (filter_same_on (λ (m : Node). p m.id) (λ (m : Node). q m.id) g same)

  pub JoinsFamilies-above : JoinsFamilies g n children
  JoinsFamilies-above = record {
    graph = IsGraph-with_above g n children ok fits.new fits.parents fits.children fits.apart;
    chains = chains;
    below = family (λ id. reaches (steps_of (with_above g n children)) n.id id) (is_below g children)
        (λ m c. chains n.id m.id ∙ (λ i. from_new m c i || ((same_id n.id i || is_above g n.parents n.id) && (other_false m c i || is_below g children m.id))))
        (reaches-same (steps_of (with_above g n children)) n.id);
    above = family (λ id. reaches (steps_of (with_above g n children)) id n.id) (is_above g n.parents)
        (λ m c. chains m.id n.id ∙ (λ i. to_new m c i || ((other_false m c i || is_above g n.parents m.id) && (same_id n.id i || is_below g children n.id))) ∙ and_true (is_above g n.parents m.id))
        (reaches-same (steps_of (with_above g n children)) n.id);
  }
    where
      and_true : (b : Bool) → (b && true) ≡ b
      and_true true = refl
      and_true false = refl

  pub ComesAndGoes-root : n.parents ≡ [] → ComesAndGoes g n children
  ComesAndGoes-root none = record {
    root = list_any_of (λ m. bytes_eq m.id n.id && (length m.parents == 0)) (with_above g n children) n (Contains-last (map (with_parent n.id children) g) n) (and_from _ _ (same_id n.id) (ap (λ (ps : List Id). length ps == 0) none));
    back =
        ap (map (without_parent n.id)) (filter-append (λ m. not (bytes_eq m.id n.id)) (map (with_parent n.id children) g) (n ∷ []) ∙ (λ i. filter (λ m. not (bytes_eq m.id n.id)) (map (with_parent n.id children) g) ++ cond (not (same_id n.id i)) (n ∷ []) []) ∙ append-nil (filter (λ m. not (bytes_eq m.id n.id)) (map (with_parent n.id children) g)))
        ∙ ap (map (without_parent n.id)) (filter-map (with_parent n.id children) (λ m. not (bytes_eq m.id n.id)) g ∙ ap (map (with_parent n.id children)) (filter_all (λ m. not (bytes_eq m.id n.id)) g (λ m c. not_same m.id n.id (other m c))))
        ∙ undone g (λ m c. unnamed g n children ok fits.new fits.parents fits.children m c);
  }
    where
      Contains-last : (l : List Node) (m : Node) → Contains (l ++ m ∷ []) m
      Contains-last [] m = Contains-head m []
      Contains-last (k ∷ l) m = Contains-rest k (l ++ m ∷ []) m (Contains-last l m)

      dropped : (b : Bool) (ps : List Id) → among ps n.id ≡ false → without_id n.id (ps ++ cond b (n.id ∷ []) []) ≡ ps
      dropped true ps h =
          filter-append (λ p. not (bytes_eq p n.id)) ps (n.id ∷ [])
          ∙ (λ i. without_id n.id ps ++ cond (not (same_id n.id i)) (n.id ∷ []) [])
          ∙ append-nil (without_id n.id ps)
          ∙ without_id_none n.id ps h
      dropped false ps h = ap (without_id n.id) (append-nil ps) ∙ without_id_none n.id ps h

      undone : (l : List Node) → ((m : Node) → Contains l m → among m.parents n.id ≡ false) → map (without_parent n.id) (map (with_parent n.id children) l) ≡ l
      undone [] h = refl
      undone (m ∷ l) h = λ i. record { id = m.id; size = m.size; fee = m.fee; parents = dropped (among children m.id) m.parents (h m (Contains-head m l)) i } ∷ undone l (λ k c. h k (Contains-rest m l k c)) i

pub LeavesFamilies-root : (g : List Node) (x : Id) → IsGraph g → is_root g x ≡ true → LeavesFamilies g x
LeavesFamilies-root g x ok root = record {
  graph = IsGraph-without_root g x ok root;
  chains = λ a b ne. sym (reaches-without_root g x ok root a b ne);
  above = ap ids_of (filter_same_on (λ (m : Node). reaches (steps_of g) m.id x) (λ (m : Node). bytes_eq m.id x) g (λ m c. same_bool _ _
      (λ r. (bytes_decides m.id x).1 (to_root (Leads_from_reaches (steps_of g) m.id x r) refl))
      (λ t. subst (λ y. reaches (steps_of g) y x ≡ true) (sym ((bytes_decides m.id x).0 t)) (reaches-same (steps_of g) x))))
      ∙ one_left g ok.apart (any_root g root);
}
  where
    to_root : {a b : Id} → Leads (steps_of g) a b → b ≡ x → a ≡ x
    to_root here e = e
    to_root (down {a = a} {b = c} s l) e = absurd (rootless g x ok root a (subst (λ z. Contains (steps_of g) (a, z)) (to_root l e) s))

    any_root : (l : List Node) → is_root l x ≡ true → has l x ≡ true
    any_root l h =
        let w = any_is (λ m. bytes_eq m.id x && (length m.parents == 0)) l h in
        list_any_of (λ m. bytes_eq m.id x) l w.0 w.1 (and_parts _ _ w.2).0

    none_left : (l : List Node) → has l x ≡ false → ids_of (filter (λ m. bytes_eq m.id x) l) ≡ []
    none_left [] h = refl
    none_left (m ∷ l) h =
        let q = or_parts _ _ h in
        ap (λ b. ids_of (cond b (m ∷ filter (λ m. bytes_eq m.id x) l) (filter (λ m. bytes_eq m.id x) l))) q.0 ∙ none_left l q.1

    one_left : (l : List Node) → are_apart l ≡ true → has l x ≡ true → ids_of (filter (λ m. bytes_eq m.id x) l) ≡ x ∷ []
    one_left [] a h = absurd (true≢false (sym h))
    one_left (m ∷ l) a h =
        let q = and_parts _ _ a in
        ⊎_elim
        (λ t.
        let e = (bytes_decides m.id x).0 t in
        ap (λ b. ids_of (cond b (m ∷ filter (λ m. bytes_eq m.id x) l) (filter (λ m. bytes_eq m.id x) l))) t
        ∙ (λ i. e i ∷ none_left l (ap (has l) (sym e) ∙ not-true _ q.0) i))
        (λ f.
        ap (λ b. ids_of (cond b (m ∷ filter (λ m. bytes_eq m.id x) l) (filter (λ m. bytes_eq m.id x) l))) f
        ∙ one_left l q.1 (ap (λ b. b || has l x) (sym f) ∙ h))
        (cases_Bool (bytes_eq m.id x))
