-- Entries as what nodes carry.
use Rattle.std.proofs.Common.{◌≡◌, ℕ, Bool, true, false, cond, not, ◌||◌, ◌+◌, List, [], ◌∷◌, ◌++◌, map, length, Some, is_some, refl, sym, ap, ◌∙◌, subst, inl, inr}
use Rattle.std.specs.Prelude.{Contains, filter, find, sum_by}
use Rattle.std.specs.Option.{option_map}
use Rattle.std.specs.Str.{bytes_eq}
use Rattle.std.proofs.lemmas.List.{map-append, length-map}
use Rattle.std.proofs.lemmas.List.Elements.{Contains-append_cases}
use Rattle.std.proofs.lemmas.List.Sums.{sum_by-cons}
use Rattle.std.proofs.lemmas.Option.{same_Some}
use Rattle.gate_tx.specs.Ids.{txid_of}
use Rattle.gate_graph.specs.Family.{Node, steps_of, reaches}
use Rattle.gate_graph.specs.Families.{has, ancestors_of as nodes_above, descendants_of as nodes_below}
use Rattle.gate_graph.specs.declared.held.Gone.{Gone}
use Rattle.gate_graph.specs.Holding.{nodes_in, load_in, names_in, without_below as nodes_left, without_one}
use Rattle.gate_graph.proofs.Filters.{filter-map, Contains-from_filter}
use Rattle.gate_bytes.proofs.Members.{Contains-cons_cases, not_in_none}
use Rattle.gate_pool.specs.Pool.{Admitted, IsBounded, entry_by_txid, has_txid, size_of}
use Rattle.gate_pool.specs.Family.{node_of, steps, ancestors_of, descendants_of, without_family, fees_of}
use Rattle.gate_pool.specs.Keeping.{entries_in, carried, IsCarried}
use Rattle.gate_pool.specs.Search.{parents_of}

abbrev Id : Type 0
Id = List ℕ

abbrev Nodes : Type 0
Nodes = List (Node × Admitted)

pub nodes_in_carried : (es : List Admitted) → nodes_in (carried es) ≡ map node_of es
nodes_in_carried [] = refl
nodes_in_carried (e ∷ es) = ap (λ l. node_of e ∷ l) (nodes_in_carried es)

pub entries_in_carried : (es : List Admitted) → entries_in (carried es) ≡ es
entries_in_carried [] = refl
entries_in_carried (e ∷ es) = ap (λ l. e ∷ l) (entries_in_carried es)

load_carried : (es : List Admitted) (x : Id) → load_in (carried es) x ≡ entry_by_txid es x
load_carried [] x = refl
load_carried (e ∷ es) x = by (bytes_eq (txid_of e.tx) x) (load_carried es x)
  where
    by : (b : Bool) → load_in (carried es) x ≡ entry_by_txid es x
        → option_map (λ (p : Node × Admitted). p.1) (cond b (Some (node_of e, e)) (find (λ p. bytes_eq p.0.id x) (carried es))) ≡ cond b (Some e) (entry_by_txid es x)
    by true ih = refl
    by false ih = ih

names_carried : (es : List Admitted) (x : Id) → names_in (carried es) x ≡ option_map (λ e. parents_of e.tx.inputs) (entry_by_txid es x)
names_carried [] x = refl
names_carried (e ∷ es) x = by (bytes_eq (txid_of e.tx) x) (names_carried es x)
  where
    by : (b : Bool) → names_in (carried es) x ≡ option_map (λ d. parents_of d.tx.inputs) (entry_by_txid es x)
        → option_map (λ (p : Node × Admitted). p.0.parents) (cond b (Some (node_of e, e)) (find (λ p. bytes_eq p.0.id x) (carried es))) ≡ option_map (λ d. parents_of d.tx.inputs) (cond b (Some e) (entry_by_txid es x))
    by true ih = refl
    by false ih = ih

has_found : (es : List Admitted) (x : Id) → has (map node_of es) x ≡ is_some (entry_by_txid es x)
has_found [] x = refl
has_found (e ∷ es) x = by (bytes_eq (txid_of e.tx) x) (has_found es x)
  where
    by : (b : Bool) → has (map node_of es) x ≡ is_some (entry_by_txid es x) → (b || has (map node_of es) x) ≡ is_some (cond b (Some e) (entry_by_txid es x))
    by true ih = refl
    by false ih = ih

-- the parts of nodes that carry entries
module _ (nodes : Nodes) (k : IsCarried nodes) where
  pub nodes_are : nodes_in nodes ≡ map node_of (entries_in nodes)
  nodes_are = ap nodes_in k.is ∙ nodes_in_carried (entries_in nodes)

  pub load_is : (x : Id) → load_in nodes x ≡ entry_by_txid (entries_in nodes) x
  load_is x = ap (λ l. load_in l x) k.is ∙ load_carried (entries_in nodes) x

  -- what was taken out names the parents of its entry
  pub named_parents : (x : Id) (g : Gone Admitted) → load_in nodes x ≡ Some g.load → names_in nodes x ≡ Some g.parents.items → g.parents.items ≡ parents_of g.load.tx.inputs
  named_parents x g load names =
      let found : entry_by_txid (entries_in nodes) x ≡ Some g.load = sym (load_is x) ∙ load in
      same_Some g.parents.items (parents_of g.load.tx.inputs)
      (sym names ∙ ap (λ l. names_in l x) k.is ∙ names_carried (entries_in nodes) x ∙ ap (option_map (λ e. parents_of e.tx.inputs)) found)

  pub has_is : (x : Id) → has (nodes_in nodes) x ≡ is_some (entry_by_txid (entries_in nodes) x)
  has_is x = ap (λ l. has l x) nodes_are ∙ has_found (entries_in nodes) x

  pub count_is : length nodes ≡ length (entries_in nodes)
  count_is = sym (length-map nodes (λ (p : Node × Admitted). p.1))

  pub steps_are : steps_of (nodes_in nodes) ≡ steps (entries_in nodes)
  unfolding steps
  steps_are = ap steps_of nodes_are

  -- what is left of the nodes are the nodes of the entries that are left
  pub family_left : (nodes' : Nodes) (x : Id) → nodes' ≡ nodes_left nodes x → nodes' ≡ carried (without_family (entries_in nodes) x)
  family_left nodes' x is =
      is
      ∙ ap (λ s. filter (λ (p : Node × Admitted). not (reaches s x p.0.id)) nodes) steps_are
      ∙ ap (filter (λ (p : Node × Admitted). not (reaches (steps (entries_in nodes)) x p.0.id))) k.is
      ∙ filter-map (λ (e : Admitted). (node_of e, e)) (λ (p : Node × Admitted). not (reaches (steps (entries_in nodes)) x p.0.id)) (entries_in nodes)

  pub one_left : (nodes' : Nodes) (x : Id) → nodes' ≡ without_one nodes x → nodes' ≡ carried (filter (λ e. not (has_txid e x)) (entries_in nodes))
  one_left nodes' x is =
      is
      ∙ ap (filter (λ (p : Node × Admitted). not (bytes_eq p.0.id x))) k.is
      ∙ filter-map (λ (e : Admitted). (node_of e, e)) (λ (p : Node × Admitted). not (bytes_eq p.0.id x)) (entries_in nodes)

  pub one_more : (nodes' : Nodes) (n : Node) (e : Admitted) → n ≡ node_of e → nodes' ≡ nodes ++ (n, e) ∷ [] → nodes' ≡ carried (entries_in nodes ++ e ∷ [])
  one_more nodes' n e own is =
      is
      ∙ (λ i. k.is i ++ (own i, e) ∷ [])
      ∙ sym (map-append (λ (d : Admitted). (node_of d, d)) (entries_in nodes) (e ∷ []))

-- nodes that are those of entries
pub entries_are : (nodes : Nodes) (es : List Admitted) → nodes ≡ carried es → entries_in nodes ≡ es
entries_are nodes es is = ap entries_in is ∙ entries_in_carried es

pub IsCarried-of : (nodes : Nodes) (es : List Admitted) → nodes ≡ carried es → ((e : Admitted) → Contains es e → IsBounded e) → IsCarried nodes
IsCarried-of nodes es is bounded =
    let e = entries_are nodes es is in
    record {
      is = is ∙ ap carried (sym e);
      bounded = λ d m. bounded d (subst (λ l. Contains l d) e m);
    }

pub bounded_left : (nodes : Nodes) (keep : Admitted → Bool) → IsCarried nodes → (e : Admitted) → Contains (filter keep (entries_in nodes)) e → IsBounded e
bounded_left nodes keep k e m = k.bounded e (Contains-from_filter keep (entries_in nodes) e m).0

pub bounded_more : (nodes : Nodes) (e : Admitted) → IsCarried nodes → IsBounded e → (d : Admitted) → Contains (entries_in nodes ++ e ∷ []) d → IsBounded d
bounded_more nodes e k own d m =
    elim (Contains-append_cases (entries_in nodes) (e ∷ []) d m) [
      | inl old ↦ k.bounded d old
      | inr new ↦ elim (Contains-cons_cases e [] d new) [ inl same ↦ subst IsBounded same own | inr none ↦ not_in_none d none ]
    ]

-- sizes and fees of nodes are those of the entries
pub sizes_of : (es : List Admitted) → sum_by (λ (n : Node). n.size) (map node_of es) ≡ size_of es
sizes_of [] = refl
sizes_of (e ∷ es) = sum_by-cons (λ (n : Node). n.size) (node_of e) (map node_of es) ∙ ap (λ s. e.vsize + s) (sizes_of es) ∙ sym (sum_by-cons (λ (d : Admitted). d.vsize) e es)

pub fees_in : (es : List Admitted) → sum_by (λ (n : Node). n.fee) (map node_of es) ≡ fees_of es
fees_in [] = refl
fees_in (e ∷ es) = sum_by-cons (λ (n : Node). n.fee) (node_of e) (map node_of es) ∙ ap (λ s. e.fee + s) (fees_in es) ∙ sym (sum_by-cons (λ (d : Admitted). d.fee) e es)

-- what is below an id among the nodes
pub below_are : (es : List Admitted) (x : Id) → nodes_below (map node_of es) x ≡ map node_of (descendants_of es x)
unfolding steps
below_are es x = filter-map node_of (λ (n : Node). reaches (steps_of (map node_of es)) x n.id) es

-- a node of the same parts as an entry's
pub same_node : (id : Id) (size fee : ℕ) (parents : List Id) (e : Admitted) → id ≡ txid_of e.tx → size ≡ e.vsize → fee ≡ e.fee → parents ≡ parents_of e.tx.inputs
    → record { id = id; size = size; fee = fee; parents = parents } ≡ node_of e
same_node id size fee parents e a b c d = λ i. record { id = a i; size = b i; fee = c i; parents = d i }

pub above_are : (es : List Admitted) (x : Id) → nodes_above (map node_of es) x ≡ map node_of (ancestors_of es x)
unfolding steps
above_are es x = filter-map node_of (λ (n : Node). reaches (steps_of (map node_of es)) n.id x) es
