-- A node that goes alone.
use Rattle.std.proofs.Common.{◌≡◌, ℕ, Bool, true, false, not, ◌&&◌, List, sym, ap, ◌∙◌, subst, ◌⊎◌, inl, inr, true≢false}
use Rattle.std.specs.Prelude.{Contains, filter}
use Rattle.std.specs.Str.{bytes_eq}
use Rattle.std.specs.Cmp.Lexicographic.{bytes_decides}
use Rattle.std.proofs.lemmas.Bool.{not-true, false_from_ne_true, cases_Bool}
use Rattle.gate_graph.specs.Family.{Node, steps_of, reaches}
use Rattle.gate_graph.specs.Families.{among, has, ancestors_of, descendants_of}
use Rattle.gate_graph.proofs.Steps.{step_node, node_step}
use Rattle.gate_graph.proofs.Apart.{has-node}
use Rattle.gate_graph.proofs.Filters.{filter_same_on, filter-map, Contains-filter, Contains-from_filter}
use Rattle.gate_graph.specs.declared.held.Held.{Held}
use Rattle.gate_graph.specs.Holding.{has_id, node_of, nodes_of, loaded, without_one}
use Rattle.gate_graph.specs.Weighing.{sums_of, totals_of, AreSmall, IsWeighed}
use Rattle.gate_graph.proofs.Counting.{and_true}
use Rattle.gate_graph.proofs.Holdings.{node_in}
use Rattle.gate_graph.proofs.Leaving.{filter_filter}
use Rattle.gate_graph.proofs.Refreshing.{same_to, same_from, same_below}

abbrev Id : Type 0
Id = List ℕ

-- the nodes without one
module _ (g : List Node) (x : Id) where
  abbrev keep : Node → Bool
  keep n = not (bytes_eq n.id x)

  abbrev pub left : List Node
  left = filter keep g

  pub fewer : (a b : Id) → Contains (steps_of left) (a, b) → Contains (steps_of g) (a, b)
  fewer a b s =
      let w = step_node left a b s in
      subst (λ z. Contains (steps_of g) (a, z)) w.2 (node_step g w.0 a (Contains-from_filter keep g w.0 w.1).0 w.3)

  pub kept : (a b : Id) → Contains (steps_of g) (a, b) → (b ≡ x → ⊥) → Contains (steps_of left) (a, b)
  kept a b s ne =
      let w = step_node g a b s in
      subst (λ z. Contains (steps_of left) (a, z)) w.2
      (node_step left w.0 a (Contains-filter keep g w.0 w.1 (ap not (false_from_ne_true _ (λ t. ne (sym w.2 ∙ (bytes_decides w.0.id x).0 t))))) w.3)

  keeps : (test : Node → Bool) → ((n : Node) → n.id ≡ x → test n ≡ false) → filter test (filter keep g) ≡ filter test g
  keeps test h = filter_filter test keep g ∙ filter_same_on (λ n. test n && keep n) test g (λ n c. go n (cases_Bool (bytes_eq n.id x)))
    where
      go : (n : Node) → (bytes_eq n.id x ≡ true) ⊎ (bytes_eq n.id x ≡ false) → (test n && not (bytes_eq n.id x)) ≡ test n
      go n (inl t) = let e = h n ((bytes_decides n.id x).0 t) in ap (λ b. b && not (bytes_eq n.id x)) e ∙ sym e
      go n (inr f) = ap (λ b. test n && not b) f ∙ and_true (test n)

  -- what it neither comes from nor leads to keeps its families
  pub ancestors_alone : (b : Id) → (b ≡ x → ⊥) → reaches (steps_of left) x b ≡ false → ancestors_of left b ≡ ancestors_of g b
  ancestors_alone b ne h =
      let far : reaches (steps_of g) x b ≡ false = false_from_ne_true _ (λ t. true≢false (sym (same_below (steps_of g) (steps_of left) x fewer kept b ne t) ∙ h)) in
      filter_same_on (λ n. reaches (steps_of left) n.id b) (λ n. reaches (steps_of g) n.id b) left (λ n c. sym (same_to (steps_of g) (steps_of left) x fewer kept n.id b far))
      ∙ keeps (λ n. reaches (steps_of g) n.id b) (λ n e. ap (λ z. reaches (steps_of g) z b) e ∙ far)

  pub descendants_alone : (b : Id) → reaches (steps_of g) b x ≡ false → descendants_of left b ≡ descendants_of g b
  descendants_alone b h =
      filter_same_on (λ n. reaches (steps_of left) b n.id) (λ n. reaches (steps_of g) b n.id) left (λ n c. sym (same_from (steps_of g) (steps_of left) x fewer kept b n.id h))
      ∙ keeps (λ n. reaches (steps_of g) b n.id) (λ n e. ap (reaches (steps_of g) b) e ∙ h)

module _ {T : Type 0} (hs : List (Held T)) (x : Id) where
  pub nodes_alone : nodes_of (filter (λ h. not (has_id h x)) hs) ≡ filter (λ n. not (bytes_eq n.id x)) (nodes_of hs)
  nodes_alone = sym (filter-map node_of (λ n. not (bytes_eq n.id x)) hs)

  pub small_alone : AreSmall (nodes_of hs) → AreSmall (nodes_of (filter (λ h. not (has_id h x)) hs))
  small_alone s = record {
    size = λ n c. s.size n (Contains-from_filter (λ n. not (bytes_eq n.id x)) (nodes_of hs) n (subst (λ l. Contains l n) nodes_alone c)).0;
    fee = λ n c. s.fee n (Contains-from_filter (λ n. not (bytes_eq n.id x)) (nodes_of hs) n (subst (λ l. Contains l n) nodes_alone c)).0;
  }

  pub loaded_alone : loaded (filter (λ h. not (has_id h x)) hs) ≡ without_one (loaded hs) x
  loaded_alone = sym (filter-map (λ (h : Held T). (node_of h, h.load)) (λ (p : Node × T). not (bytes_eq p.0.id x)) hs)

  -- the others keep their totals
  pub rest_alone : (up low : List Id) → IsWeighed hs → ((b : Id) → has (nodes_of hs) b ≡ true → among up b ≡ reaches (steps_of (nodes_of hs)) b x)
      → ((b : Id) → has (nodes_of (filter (λ h. not (has_id h x)) hs)) b ≡ true → among low b ≡ reaches (steps_of (nodes_of (filter (λ h. not (has_id h x)) hs))) x b)
      → (h : Held T) → Contains (filter (λ h. not (has_id h x)) hs) h → among up h.id ≡ false → among low h.id ≡ false → h.totals ≡ totals_of (nodes_of (filter (λ h. not (has_id h x)) hs)) h.id
  rest_alone up low w told_up told_low h c s t =
      let f = Contains-from_filter (λ h. not (has_id h x)) hs h c in
      let ne : h.id ≡ x → ⊥ = λ e. true≢false (sym ((bytes_decides h.id x).1 e) ∙ not-true _ f.1) in
      let there : has (nodes_of hs) h.id ≡ true = has-node (nodes_of hs) (node_of h) (node_in hs h f.0) in
      let there' : has (nodes_of (filter (λ h. not (has_id h x)) hs)) h.id ≡ true = has-node (nodes_of (filter (λ h. not (has_id h x)) hs)) (node_of h) (node_in (filter (λ h. not (has_id h x)) hs) h c) in
      let far_up : reaches (steps_of (nodes_of hs)) h.id x ≡ false = sym (told_up h.id there) ∙ s in
      let far_low : reaches (steps_of (filter (λ n. not (bytes_eq n.id x)) (nodes_of hs))) x h.id ≡ false = ap (λ l. reaches (steps_of l) x h.id) (sym nodes_alone) ∙ sym (told_low h.id there') ∙ t in
      w.totals h f.0
      ∙ (λ i. record {
        above = sums_of (sym (ancestors_alone (nodes_of hs) x h.id ne far_low) i);
        below = sums_of (sym (descendants_alone (nodes_of hs) x h.id far_up) i);
      })
      ∙ ap (λ l. totals_of l h.id) (sym nodes_alone)
