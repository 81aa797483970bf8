-- Places that are empty where ids left.
use Rattle.std.proofs.Common.{◌≡◌, ℕ, zero, suc, Bool, true, false, not, ◌||◌, List, [], ◌∷◌, Option, Some, None, refl, sym, ap, ◌∙◌, subst, true≢false}
use Rattle.std.specs.Prelude.{Contains, slice_set, if◌then◌else◌}
use Rattle.std.specs.Str.{bytes_eq}
use Rattle.std.specs.Cmp.Lexicographic.{bytes_decides}
use Rattle.std.proofs.lemmas.Bool.{and_parts, and_from, false_from_ne_true, not-true}
use Rattle.std.proofs.lemmas.Option.{none-some, same_Some}
use Rattle.gate_bytes.proofs.Members.{Contains-head, Contains-rest, list_any_of}
use Rattle.gate_graph.specs.Family.{Node}
use Rattle.gate_graph.specs.Families.{among, has, ids_of, are_apart}
use Rattle.gate_graph.specs.Slots.{at, entries_of}
use Rattle.gate_graph.specs.Walking.{are_once}
use Rattle.gate_graph.specs.Holding.{unless, vacated}
use Rattle.gate_graph.proofs.Apart.{Contains-among, among_from}
use Rattle.gate_graph.proofs.Filters.{Contains-from_map}

abbrev Id : Type 0
Id = List ℕ

abbrev Spots : Type 0
Spots = List (Option Id)

-- what stands at a place is among all
pub stands_among : (spots : Spots) (p : ℕ) (x : Id) → at spots p ≡ Some x → Contains (entries_of spots) x
stands_among [] p x e = absurd (none-some x e)
stands_among (None ∷ spots) zero x e = absurd (none-some x e)
stands_among (None ∷ spots) (suc p) x e = stands_among spots p x e
stands_among (Some y ∷ spots) zero x e = subst (Contains (y ∷ entries_of spots)) (same_Some y x e) (Contains-head y (entries_of spots))
stands_among (Some y ∷ spots) (suc p) x e = Contains-rest y (entries_of spots) x (stands_among spots p x e)

-- tests that agree on all that stands
pub vacated_same : (p q : Id → Bool) (spots : Spots) → ((x : Id) → Contains (entries_of spots) x → p x ≡ q x) → vacated p spots ≡ vacated q spots
vacated_same p q [] h = refl
vacated_same p q (None ∷ spots) h = ap (λ l. None ∷ l) (vacated_same p q spots h)
vacated_same p q (Some y ∷ spots) h = λ i. (if h y (Contains-head y (entries_of spots)) i then None else Some y) ∷ vacated_same p q spots (λ x c. h x (Contains-rest y (entries_of spots) x c)) i

pub vacated_none : (test : Id → Bool) (spots : Spots) → ((x : Id) → Contains (entries_of spots) x → test x ≡ false) → vacated test spots ≡ spots
vacated_none test [] h = refl
vacated_none test (None ∷ spots) h = ap (λ l. None ∷ l) (vacated_none test spots h)
vacated_none test (Some y ∷ spots) h = λ i. (if h y (Contains-head y (entries_of spots)) i then None else Some y) ∷ vacated_none test spots (λ x c. h x (Contains-rest y (entries_of spots) x c)) i

-- one test after the other
pub vacated_twice : (p q : Id → Bool) (spots : Spots) → vacated q (vacated p spots) ≡ vacated (λ x. p x || q x) spots
vacated_twice p q [] = refl
vacated_twice p q (None ∷ spots) = ap (λ l. None ∷ l) (vacated_twice p q spots)
vacated_twice p q (Some y ∷ spots) = λ i. one (p y) i ∷ vacated_twice p q spots i
  where
    one : (b : Bool) → unless q (if b then None else Some y) ≡ (if b || q y then None else Some y)
    one true = refl
    one false = refl

-- nodes that are apart have each id once
pub once_apart : (g : List Node) → are_apart g ≡ true → are_once (ids_of g) ≡ true
once_apart [] a = refl
once_apart (n ∷ g) a = let p = and_parts _ _ a in and_from _ _ (ap not (absent g n.id (not-true _ p.0))) (once_apart g p.1)
  where
    absent : (g : List Node) (x : Id) → has g x ≡ false → among (ids_of g) x ≡ false
    absent [] x h = refl
    absent (m ∷ g) x h = false_from_ne_true _ (λ t.
        let w = Contains-from_map (λ (k : Node). k.id) (m ∷ g) x (Contains-among (ids_of (m ∷ g)) x t) in
        true≢false (sym (list_any_of (λ (k : Node). bytes_eq k.id x) (m ∷ g) w.0 w.1 ((bytes_decides w.0.id x).1 w.2)) ∙ h))

pub once_spots : (g : List Node) (spots : Spots) → are_apart g ≡ true → ids_of g ≡ entries_of spots → are_once (entries_of spots) ≡ true
once_spots g spots a e = ap are_once (sym e) ∙ once_apart g a

-- the place at which an id stood is empty
pub set_vacates : (spots : Spots) (p : ℕ) (x : Id) → are_once (entries_of spots) ≡ true → at spots p ≡ Some x → slice_set spots p None ≡ vacated (λ y. bytes_eq y x) spots
set_vacates [] p x o e = absurd (none-some x e)
set_vacates (None ∷ spots) zero x o e = absurd (none-some x e)
set_vacates (None ∷ spots) (suc p) x o e = ap (λ l. None ∷ l) (set_vacates spots p x o e)
set_vacates (Some y ∷ spots) zero x o e =
    let same : y ≡ x = same_Some y x e in
    let w = and_parts _ _ o in
    λ i. (if sym ((bytes_decides y x).1 same) i then None else Some y) ∷ sym (vacated_none (λ z. bytes_eq z x) spots (λ z c. false_from_ne_true _ (λ t.
    true≢false (sym (among_from (entries_of spots) y (subst (Contains (entries_of spots)) ((bytes_decides z x).0 t ∙ sym same) c)) ∙ not-true _ w.0)))) i
set_vacates (Some y ∷ spots) (suc p) x o e =
    let w = and_parts _ _ o in
    let other : bytes_eq y x ≡ false = false_from_ne_true _ (λ t.
    true≢false (sym (among_from (entries_of spots) y (subst (Contains (entries_of spots)) (sym ((bytes_decides y x).0 t)) (stands_among spots p x e))) ∙ not-true _ w.0)) in
    λ i. (if sym other i then None else Some y) ∷ set_vacates spots p x w.1 e i

-- an id that stands has a node
pub stands_node : (g : List Node) (spots : Spots) (x : Id) → ids_of g ≡ entries_of spots → Contains (entries_of spots) x → has g x ≡ true
stands_node g spots x e c =
    let w = Contains-from_map (λ (n : Node). n.id) g x (subst (λ l. Contains l x) (sym e) c) in
    list_any_of (λ (n : Node). bytes_eq n.id x) g w.0 w.1 ((bytes_decides w.0.id x).1 w.2)
