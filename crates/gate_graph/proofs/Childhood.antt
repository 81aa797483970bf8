-- The children of an id are those that its list has.
use Rattle.std.proofs.Common.{◌≡◌, ◌<◌, ℕ, List, [], ◌∷◌, length, get_or, refl, sym, subst, arith}
use Rattle.std.specs.Prelude.{Contains, filter}
use Rattle.std.specs.Str.{bytes_eq}
use Rattle.indexmap.specs.IndexSet.{insert_all}
use Rattle.gate_graph.specs.Family.{Node, steps_of}
use Rattle.gate_graph.specs.Families.{among, children_of}
use Rattle.gate_graph.specs.Linking.{Lists, IsLinked, listing}
use Rattle.gate_bytes.proofs.Members.{Contains-head, not_in_none}
use Rattle.gate_graph.proofs.Apart.{among_from, Contains-among}
use Rattle.gate_graph.proofs.Filters.{Contains-filter, Contains-from_filter, Contains-map, Contains-from_map}
use Rattle.gate_graph.proofs.Steps.{step_node, node_step, same_bool}
use Rattle.gate_graph.proofs.Searching.{inserted_found, found_before}

abbrev Id : Type 0
Id = List ℕ

-- a child is what a step leads to
pub child_step : (g : List Node) (a b : Id) → Contains (children_of g a) b → Contains (steps_of g) (a, b)
child_step g a b c =
    let w = Contains-from_map (λ (n : Node). n.id) (filter (λ n. among n.parents a) g) b c in
    let f = Contains-from_filter (λ (n : Node). among n.parents a) g w.0 w.1 in
    subst (λ y. Contains (steps_of g) (a, y)) w.2 (node_step g w.0 a f.0 (Contains-among w.0.parents a f.1))

pub step_child : (g : List Node) (a b : Id) → Contains (steps_of g) (a, b) → Contains (children_of g a) b
step_child g a b s =
    let w = step_node g a b s in
    subst (Contains (children_of g a)) w.2 (Contains-map (λ (n : Node). n.id) (filter (λ n. among n.parents a) g) w.0 (Contains-filter (λ (n : Node). among n.parents a) g w.0 w.1 (among_from w.0.parents a w.3)))

-- one that the list has
pub listed_child : (g : List Node) (lists : Lists) (x b : Id) (i : ℕ) → IsLinked g lists → i < length (listing lists x) → b ≡ get_or (listing lists x) i b → Contains (children_of g x) b
listed_child g lists x b i linked lt is = step_child g x b ((linked.linked x b).0 (i, lt, sym is))

-- the list has the children and no others
pub listed_children : (g : List Node) (lists : Lists) (x : Id) → IsLinked g lists → (other : Id) → among (listing lists x) other ≡ among (children_of g x) other
listed_children g lists x linked other = same_bool _ _
    (λ t. among_from (children_of g x) other (step_child g x other ((linked.linked x other).0 (Contains-among (listing lists x) other t))))
    (λ t. among_from (listing lists x) other ((linked.linked x other).1 (child_step g x other (Contains-among (children_of g x) other t))))

-- an empty list
pub unlisted : (g : List Node) (lists : Lists) (x : Id) → IsLinked g lists → length (listing lists x) ≡ 0 → children_of g x ≡ []
unlisted g lists x linked none = by (children_of g x) refl
  where
    by : (cs : List Id) → cs ≡ children_of g x → children_of g x ≡ []
    by [] e = sym e
    by (b ∷ cs) e =
        let there : Contains (children_of g x) b = subst (λ l. Contains l b) e (Contains-head b cs) in
        let listed = (linked.linked x b).1 (child_step g x b there) in
        absurd (omega (arith, listed.1, none))

-- the list without what it has twice
pub all_children : (g : List Node) (lists : Lists) (x : Id) → IsLinked g lists → (other : Id) → among (insert_all bytes_eq [] (listing lists x)) other ≡ among (children_of g x) other
all_children g lists x linked other = same_bool _ _
    (λ t. among_from (children_of g x) other (found_before (λ z. Contains (children_of g x) z) [] (listing lists x) (λ z c. not_in_none z c) (λ z c. step_child g x z ((linked.linked x z).0 c)) other (Contains-among (insert_all bytes_eq [] (listing lists x)) other t)))
    (λ t. among_from (insert_all bytes_eq [] (listing lists x)) other (inserted_found [] (listing lists x) other ((linked.linked x other).1 (child_step g x other (Contains-among (children_of g x) other t)))))
