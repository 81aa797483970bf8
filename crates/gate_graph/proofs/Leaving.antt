-- What is left without an id and all that is below it, and its totals.
use Rattle.std.proofs.Common.{◌≡◌, ℕ, Bool, true, false, not, ◌&&◌, cond, List, [], ◌∷◌, refl, sym, ap, ◌∙◌, subst, map, ◌⊎◌, inl, inr, true≢false}
use Rattle.std.specs.Prelude.{Contains, filter}
use Rattle.std.proofs.lemmas.Bool.{not-true, false_from_ne_true, cases_Bool}
use Rattle.gate_graph.specs.Family.{Node, reaches, steps_of}
use Rattle.gate_graph.specs.Families.{among, has, are_apart, ancestors_of, descendants_of}
use Rattle.gate_graph.proofs.Reaching.{reaches_trans, reaches_step}
use Rattle.gate_graph.proofs.Steps.{step_node, node_step, kept_reaches}
use Rattle.gate_graph.proofs.Apart.{has-node, are_apart-filter}
use Rattle.gate_graph.proofs.Filters.{filter_same_on, filter-map, Contains-filter, Contains-from_filter, Contains-from_map}
use Rattle.gate_graph.specs.declared.held.Held.{Held}
use Rattle.gate_graph.specs.declared.held.Totals.{Totals}
use Rattle.gate_graph.specs.Holding.{node_of, nodes_of, loaded, left_of, without_below}
use Rattle.gate_graph.specs.Weighing.{sums_of, left_below, IsCounted, IsWeighed}
use Rattle.gate_graph.proofs.Counting.{and_true}
use Rattle.gate_graph.proofs.Holdings.{node_in}

abbrev Id : Type 0
Id = List ℕ

pub filter_filter : {X : Type 0} (p q : X → Bool) (xs : List X) → filter p (filter q xs) ≡ filter (λ x. p x && q x) xs
filter_filter p q [] = refl
filter_filter p q (x ∷ xs) = go (q x) (p x) refl refl (filter_filter p q xs)
  where
    go : (b c : Bool) → q x ≡ b → p x ≡ c → filter p (filter q xs) ≡ filter (λ x. p x && q x) xs → filter p (cond b (x ∷ filter q xs) (filter q xs)) ≡ cond (c && b) (x ∷ filter (λ x. p x && q x) xs) (filter (λ x. p x && q x) xs)
    go true c e f ih = ap (λ d. cond d (x ∷ filter p (filter q xs)) (filter p (filter q xs))) f ∙ ap (λ l. cond c (x ∷ l) l) ih ∙ ap (λ d. cond d (x ∷ filter (λ x. p x && q x) xs) (filter (λ x. p x && q x) xs)) (sym (and_true c))
    go false true e f ih = ih
    go false false e f ih = ih

module _ (g : List Node) (x : Id) (ids : List Id) (told : (b : Id) → has g b ≡ true → among ids b ≡ reaches (steps_of g) x b) where
  abbrev keep : Node → Bool
  keep n = not (among ids n.id)

  abbrev left : List Node
  left = filter keep g

  gone : (n : Node) → Contains g n → among ids n.id ≡ reaches (steps_of g) x n.id
  gone n c = told n.id (has-node g n c)

  closed : (a b : Id) → Contains (steps_of g) (a, b) → reaches (steps_of g) x a ≡ true → reaches (steps_of g) x b ≡ true
  closed a b s h = reaches_trans (steps_of g) x a b h (reaches_step (steps_of g) a b s)

  fewer : (a b : Id) → Contains (steps_of left) (a, b) → Contains (steps_of g) (a, b)
  fewer a b s =
      let w = step_node left a b s in
      subst (λ z. Contains (steps_of g) (a, z)) w.2 (node_step g w.0 a (Contains-from_filter keep g w.0 w.1).0 w.3)

  stays : (a b : Id) → Contains (steps_of g) (a, b) → reaches (steps_of g) x b ≡ false → Contains (steps_of left) (a, b)
  stays a b s h =
      let w = step_node g a b s in
      subst (λ z. Contains (steps_of left) (a, z)) w.2
      (node_step left w.0 a (Contains-filter keep g w.0 w.1 (ap not (gone w.0 w.1 ∙ ap (reaches (steps_of g) x) w.2 ∙ h))) w.3)

  same : (a b : Id) → reaches (steps_of g) x b ≡ false → reaches (steps_of g) a b ≡ reaches (steps_of left) a b
  same = kept_reaches (steps_of g) (steps_of left) (reaches (steps_of g) x) fewer stays closed

  -- what is below a node is what was, without what went
  pub descendants_left : (b : Id) → descendants_of left b ≡ left_below g ids b
  descendants_left b =
      filter_same_on (λ n. reaches (steps_of left) b n.id) (λ n. reaches (steps_of g) b n.id) left
      (λ n c. let w = Contains-from_filter keep g n c in sym (same b n.id (sym (gone n w.0) ∙ not-true _ w.1)))
      ∙ filter_filter (λ n. reaches (steps_of g) b n.id) keep g

  -- what is above a node that is left is what was
  pub ancestors_left : (b : Id) → reaches (steps_of g) x b ≡ false → ancestors_of left b ≡ ancestors_of g b
  ancestors_left b h =
      filter_same_on (λ n. reaches (steps_of left) n.id b) (λ n. reaches (steps_of g) n.id b) left (λ n c. sym (same n.id b h))
      ∙ filter_filter (λ n. reaches (steps_of g) n.id b) keep g
      ∙ filter_same_on (λ n. reaches (steps_of g) n.id b && keep n) (λ n. reaches (steps_of g) n.id b) g (λ n c. one n c (cases_Bool (reaches (steps_of g) n.id b)))
    where
      one : (n : Node) → Contains g n → (reaches (steps_of g) n.id b ≡ true) ⊎ (reaches (steps_of g) n.id b ≡ false) → (reaches (steps_of g) n.id b && keep n) ≡ reaches (steps_of g) n.id b
      one n c (inl t) =
          let out : among ids n.id ≡ false = false_from_ne_true _ (λ s. true≢false (sym (reaches_trans (steps_of g) x n.id b (sym (gone n c) ∙ s) t) ∙ h)) in
          ap (λ z. reaches (steps_of g) n.id b && not z) out ∙ and_true (reaches (steps_of g) n.id b)
      one n c (inr f) = ap (λ z. z && keep n) f ∙ sym f

module _ {T : Type 0} (hs hs' : List (Held T)) (x : Id) (ids : List Id) (told : (b : Id) → has (nodes_of hs) b ≡ true → among ids b ≡ reaches (steps_of (nodes_of hs)) x b) (counted : IsCounted (nodes_of hs) ids hs') where
  nodes_left : nodes_of (left_of ids hs') ≡ filter (λ n. not (among ids n.id)) (nodes_of hs)
  nodes_left = sym (filter-map node_of (λ n. not (among ids n.id)) hs') ∙ ap (filter (λ n. not (among ids n.id))) counted.nodes

  pub apart_left : are_apart (nodes_of hs) ≡ true → are_apart (nodes_of (left_of ids hs')) ≡ true
  apart_left a = ap are_apart nodes_left ∙ are_apart-filter (λ n. not (among ids n.id)) (nodes_of hs) a

  -- what is left keeps its totals
  pub IsWeighed-left : IsWeighed (left_of ids hs')
  IsWeighed-left = record {
    totals = λ h c.
        let w = Contains-from_filter (λ h. not (among ids h.id)) hs' h c in
        let there : has (nodes_of hs) h.id ≡ true = ap (λ l. has l h.id) (sym counted.nodes) ∙ has-node (nodes_of hs') (node_of h) (node_in hs' h w.0) in
        let out : reaches (steps_of (nodes_of hs)) x h.id ≡ false = sym (told h.id there) ∙ not-true _ w.1 in
        λ i. record {
          above = (counted.above h w.0 ∙ ap sums_of (sym (ancestors_left (nodes_of hs) x ids told h.id out)) ∙ ap (λ l. sums_of (ancestors_of l h.id)) (sym nodes_left)) i;
          below = (counted.below h w.0 ∙ ap sums_of (sym (descendants_left (nodes_of hs) x ids told h.id)) ∙ ap (λ l. sums_of (descendants_of l h.id)) (sym nodes_left)) i;
        };
  }

  -- it is what is not below the id
  pub loaded_left : loaded hs' ≡ loaded hs → loaded (left_of ids hs') ≡ without_below (loaded hs) x
  loaded_left same =
      sym (filter-map (λ (h : Held T). (node_of h, h.load)) (λ (p : Node × T). not (among ids p.0.id)) hs')
      ∙ ap (filter (λ (p : Node × T). not (among ids p.0.id))) same
      ∙ filter_same_on (λ (p : Node × T). not (among ids p.0.id)) (λ (p : Node × T). not (reaches (steps_of (map (λ (p : Node × T). p.0) (loaded hs))) x p.0.id)) (loaded hs)
      (λ p c.
      let w = Contains-from_map (λ (h : Held T). (node_of h, h.load)) hs p c in
      ap not (ap (λ (q : Node × T). among ids q.0.id) (sym w.2) ∙ told w.0.id (has-node (nodes_of hs) (node_of w.0) (node_in hs w.0 w.1)) ∙ ap (λ (q : Node × T). reaches (steps_of (nodes_of hs)) x q.0.id) w.2 ∙ ap (λ l. reaches (steps_of l) x p.0.id) (sym (first hs))))
    where
      first : (hs : List (Held T)) → map (λ (p : Node × T). p.0) (loaded hs) ≡ nodes_of hs
      first [] = refl
      first (h ∷ hs) = ap (λ l. node_of h ∷ l) (first hs)

-- nodes that are weighed are counted without any
pub IsCounted-start : {T : Type 0} (hs : List (Held T)) → IsWeighed hs → IsCounted (nodes_of hs) [] hs
IsCounted-start hs w = record {
  nodes = refl;
  above = λ h c. ap (λ (t : Totals). t.above) (w.totals h c);
  below = λ h c. ap (λ (t : Totals). t.below) (w.totals h c) ∙ ap sums_of (sym (filter_same_on (λ n. reaches (steps_of (nodes_of hs)) h.id n.id && true) (λ n. reaches (steps_of (nodes_of hs)) h.id n.id) (nodes_of hs) (λ n d. and_true (reaches (steps_of (nodes_of hs)) h.id n.id))));
}
