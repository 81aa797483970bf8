-- Laws of families.
use Rattle.std.specs.Prelude.{◌≡◌, ◌≢◌, ℕ, Bool, true, false, ◌&&◌, ◌||◌, List, [], ◌∷◌, ◌++◌, filter}
use Rattle.std.specs.List.{list_all, list_any}
use Rattle.std.specs.Str.{bytes_eq}
use Rattle.gate_graph.specs.Family.{Node, steps_of, reaches}
use Rattle.gate_graph.specs.Families.{has, ids_of, ancestors_of, descendants_of, with_above, without_root, is_root, are_apart, IsGraph}

-- an id is one of these, or a chain leads down from it to one
abbrev pub is_above : List Node → List (List ℕ) → List ℕ → Bool
is_above g ids id = list_any (λ other. reaches (steps_of g) id other) ids

-- an id is one of these, or a chain leads down to it from one
abbrev pub is_below : List Node → List (List ℕ) → List ℕ → Bool
is_below g ids id = list_any (λ other. reaches (steps_of g) other id) ids

-- in a graph no family has a node twice, whatever paths lead to it
pub record HaveEachOnce (g : List Node) : Type 0 where
  pub above : (id : List ℕ) → are_apart (ancestors_of g id) ≡ true
  pub below : (id : List ℕ) → are_apart (descendants_of g id) ≡ true

abbrev pub FamiliesHaveEachOnce : Type 0
FamiliesHaveEachOnce = (g : List Node) → IsGraph g → HaveEachOnce g

-- an id that no node of a graph has is above none and below none
pub record HasNoFamily (g : List Node) (id : List ℕ) : Type 0 where
  pub above : ancestors_of g id ≡ []
  pub below : descendants_of g id ≡ []

abbrev pub StrangersHaveNoFamily : Type 0
StrangersHaveNoFamily = (g : List Node) (id : List ℕ) → IsGraph g → has g id ≡ false → HasNoFamily g id

-- a node fits between parents and children: its id is new, they are nodes, and no child is a parent or above one
pub record FitsBetween (g : List Node) (n : Node) (ids : List (List ℕ)) : Type 0 where
  pub new : has g n.id ≡ false
  pub parents : list_all (λ p. has g p) n.parents ≡ true
  pub children : list_all (λ c. has g c) ids ≡ true
  pub apart : list_any (λ c. list_any (λ p. reaches (steps_of g) c p) n.parents) ids ≡ false

-- a node put between others joins their families: a chain leads where one led, and from the node, its parents and all
-- above them to the node, its children and all below them; below the node are its children and all below them, and
-- itself, above it its parents and all above them, and itself
pub record JoinsFamilies (g : List Node) (n : Node) (children : List (List ℕ)) : Type 0 where
  pub graph : IsGraph (with_above g n children)
  pub chains : (a b : List ℕ) → reaches (steps_of (with_above g n children)) a b ≡ (reaches (steps_of g) a b || ((bytes_eq a n.id || is_above g n.parents a) && (bytes_eq b n.id || is_below g children b)))
  pub below : ids_of (descendants_of (with_above g n children) n.id) ≡ ids_of (filter (λ m. is_below g children m.id) g) ++ n.id ∷ []
  pub above : ids_of (ancestors_of (with_above g n children) n.id) ≡ ids_of (filter (λ m. is_above g n.parents m.id) g) ++ n.id ∷ []

abbrev pub NodesJoinFamilies : Type 0
NodesJoinFamilies = (g : List Node) (n : Node) (children : List (List ℕ)) → IsGraph g → FitsBetween g n children → JoinsFamilies g n children

-- without a node that has no parents, a graph stays a graph, with the same chains between all other nodes; no other node
-- was above it
pub record LeavesFamilies (g : List Node) (id : List ℕ) : Type 0 where
  pub graph : IsGraph (without_root g id)
  pub chains : (a b : List ℕ) → a ≢ id → reaches (steps_of (without_root g id)) a b ≡ reaches (steps_of g) a b
  pub above : ids_of (ancestors_of g id) ≡ id ∷ []

abbrev pub RootsLeaveFamilies : Type 0
RootsLeaveFamilies = (g : List Node) (id : List ℕ) → IsGraph g → is_root g id ≡ true → LeavesFamilies g id

-- a node without parents that is put above others and taken out again leaves the graph as it was
pub record ComesAndGoes (g : List Node) (n : Node) (children : List (List ℕ)) : Type 0 where
  pub root : is_root (with_above g n children) n.id ≡ true
  pub back : without_root (with_above g n children) n.id ≡ g

abbrev pub RootsComeAndGo : Type 0
RootsComeAndGo = (g : List Node) (n : Node) (children : List (List ℕ)) → IsGraph g → n.parents ≡ [] → FitsBetween g n children → ComesAndGoes g n children
