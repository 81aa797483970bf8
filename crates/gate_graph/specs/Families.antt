-- The families of a graph's nodes, and what a graph is.
use Rattle.std.specs.Prelude.{◌≡◌, ℕ, Bool, true, false, ◌&&◌, not, List, [], ◌∷◌, ◌++◌, map, filter, length, cond, ◌==◌, Contains}
use Rattle.std.specs.List.{list_any}
use Rattle.std.specs.Str.{bytes_eq}
use Rattle.gate_graph.specs.Family.{Node, steps_of, reaches}

abbrev pub ids_of : List Node → List (List ℕ)
ids_of g = map (λ n. n.id) g

-- an id is among others
abbrev pub among : List (List ℕ) → List ℕ → Bool
among ids id = list_any (bytes_eq id) ids

-- a node has an id
abbrev pub has : List Node → List ℕ → Bool
has g id = list_any (λ n. bytes_eq n.id id) g

-- ids, without this one
abbrev pub without_id : List ℕ → List (List ℕ) → List (List ℕ)
without_id id ids = filter (λ other. not (bytes_eq other id)) ids

-- the nodes from which a chain of steps leads to an id, its own among them, in the order of adding
abbrev pub ancestors_of : List Node → List ℕ → List Node
ancestors_of g id = filter (λ n. reaches (steps_of g) n.id id) g

-- the nodes to which a chain of steps leads from an id, its own among them, in the order of adding
abbrev pub descendants_of : List Node → List ℕ → List Node
descendants_of g id = filter (λ n. reaches (steps_of g) id n.id) g

-- the ids of the nodes that name an id among their parents, in the order of adding
abbrev pub children_of : List Node → List ℕ → List (List ℕ)
children_of g id = ids_of (filter (λ n. among n.parents id) g)

-- a node that names one parent more, at the end, if it is among the children
abbrev pub with_parent : List ℕ → List (List ℕ) → Node → Node
with_parent id children n = record n { parents = n.parents ++ cond (among children n.id) (id ∷ []) [] }

-- the nodes, and one more at the end, which is below its parents and above these children
abbrev pub with_above : List Node → Node → List (List ℕ) → List Node
with_above g n children = map (with_parent n.id children) g ++ n ∷ []

-- a node without an id among its parents
abbrev pub without_parent : List ℕ → Node → Node
without_parent id n = record n { parents = without_id id n.parents }

-- the nodes, except that of an id, and without that id among the parents of the others
abbrev pub without_root : List Node → List ℕ → List Node
without_root g id = map (without_parent id) (filter (λ n. not (bytes_eq n.id id)) g)

-- an id is that of a node without parents
abbrev pub is_root : List Node → List ℕ → Bool
is_root g id = list_any (λ n. bytes_eq n.id id && length n.parents == 0) g

-- no two nodes have one id
abbrev pub are_apart : List Node → Bool
are_apart [] = true
are_apart (n ∷ g) = not (has g n.id) && are_apart g

-- nodes are a graph: each id is one node's, each parent is a node, and no chain leads back to its start
pub record IsGraph (g : List Node) : Type 0 where
  pub apart : are_apart g ≡ true
  pub closed : (a b : List ℕ) → Contains (steps_of g) (a, b) → has g a ≡ true
  pub acyclic : (a b : List ℕ) → Contains (steps_of g) (a, b) → reaches (steps_of g) b a ≡ false
