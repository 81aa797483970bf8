-- Ids among others, and nodes of which no two have one id.
use Rattle.std.proofs.Common.{◌≡◌, ℕ, Bool, true, false, cond, not, ◌||◌, List, [], ◌∷◌, ◌++◌, refl, sym, ap, ◌∙◌, subst, ⊎_elim, arith}
use Rattle.std.specs.Prelude.{Contains, filter}
use Rattle.std.specs.List.{list_all}
use Rattle.std.specs.Str.{bytes_eq}
use Rattle.std.specs.Cmp.Lexicographic.{bytes_decides}
use Rattle.std.proofs.lemmas.Bool.{false_from_ne_true, true≢false, not-true, or_parts, and_parts, and_from}
use Rattle.std.proofs.lemmas.List.Folds.{list_any-append}
use Rattle.gate_graph.specs.Family.{Node}
use Rattle.gate_graph.specs.Families.{among, has, are_apart}
use Rattle.gate_bytes.proofs.Members.{Contains-cons_cases, any_is, list_any_of}
use Rattle.gate_graph.proofs.Steps.{same_bool}
use Rattle.gate_graph.proofs.Filters.{Contains-from_filter}

abbrev Id : Type 0
Id = List ℕ

pub same_id : (a : Id) → bytes_eq a a ≡ true
same_id a = (bytes_decides a a).1 refl

pub bytes_eq-sym : (a b : Id) → bytes_eq a b ≡ bytes_eq b a
bytes_eq-sym a b = same_bool _ _ (λ h. (bytes_decides b a).1 (sym ((bytes_decides a b).0 h))) (λ h. (bytes_decides a b).1 (sym ((bytes_decides b a).0 h)))

pub among_from : (ids : List Id) (id : Id) → Contains ids id → among ids id ≡ true
among_from ids id c = list_any_of (bytes_eq id) ids id c (same_id id)

pub Contains-among : (ids : List Id) (id : Id) → among ids id ≡ true → Contains ids id
Contains-among ids id h = let w = any_is (bytes_eq id) ids h in subst (Contains ids) (sym ((bytes_decides id w.0).0 w.2)) w.1

pub among-push : (ids : List Id) (last id : Id) → among (ids ++ last ∷ []) id ≡ (among ids id || bytes_eq id last)
among-push ids last id = list_any-append (bytes_eq id) ids (last ∷ []) ∙ ap (λ b. among ids id || b) (or_none (bytes_eq id last))
  where
    or_none : (b : Bool) → (b || false) ≡ b
    or_none true = refl
    or_none false = refl

pub has-append : (g h : List Node) (x : Id) → has (g ++ h) x ≡ (has g x || has h x)
has-append g h x = list_any-append (λ (n : Node). bytes_eq n.id x) g h

pub has-node : (g : List Node) (m : Node) → Contains g m → has g m.id ≡ true
has-node g m c = list_any_of (λ n. bytes_eq n.id m.id) g m c (same_id m.id)

pub are_apart-push : (g : List Node) (n : Node) → are_apart g ≡ true → has g n.id ≡ false → are_apart (g ++ n ∷ []) ≡ true
are_apart-push [] n a h = refl
are_apart-push (m ∷ g) n a h =
    let p = and_parts _ _ a in
    let q = or_parts _ _ h in
    let r : has (g ++ n ∷ []) m.id ≡ false = has-append g (n ∷ []) m.id ∙ ap (λ b. b || (bytes_eq n.id m.id || false)) (not-true _ p.0) ∙ ap (λ b. b || false) (bytes_eq-sym n.id m.id ∙ q.0) in
    and_from _ _ (ap not r) (are_apart-push g n p.1 q.1)

pub has-filter : (p : Node → Bool) (g : List Node) (x : Id) → has g x ≡ false → has (filter p g) x ≡ false
has-filter p g x h = false_from_ne_true _ (λ t.
    let w = any_is (λ n. bytes_eq n.id x) (filter p g) t in
    true≢false (sym (list_any_of (λ n. bytes_eq n.id x) g w.0 (Contains-from_filter p g w.0 w.1).0 w.2) ∙ h))

pub are_apart-filter : (p : Node → Bool) (g : List Node) → are_apart g ≡ true → are_apart (filter p g) ≡ true
are_apart-filter p [] a = refl
are_apart-filter p (n ∷ g) a =
    let q = and_parts _ _ a in
    go (p n) (are_apart-filter p g q.1) (has-filter p g n.id (not-true _ q.0))
  where
    go : (b : Bool) → are_apart (filter p g) ≡ true → has (filter p g) n.id ≡ false → are_apart (cond b (n ∷ filter p g) (filter p g)) ≡ true
    go true i h = and_from _ _ (ap not h) i
    go false i h = i

-- in nodes apart, one id is one node's
pub one_node : (g : List Node) (m k : Node) → are_apart g ≡ true → Contains g m → Contains g k → m.id ≡ k.id → m ≡ k
one_node [] m k a c d e = absurd (omega arith)
one_node (n ∷ g) m k a c d e =
    let q = and_parts _ _ a in
    let none = λ (z : Node) (w : Contains g z) (s : n.id ≡ z.id). list_any_of (λ (y : Node). bytes_eq y.id n.id) g z w ((bytes_decides z.id n.id).1 (sym s)) in
    ⊎_elim
    (λ f. ⊎_elim
    (λ h. sym f ∙ h)
    (λ h. absurd (true≢false (sym (none k h (ap (λ (y : Node). y.id) f ∙ e)) ∙ not-true _ q.0)))
    (Contains-cons_cases n g k d))
    (λ f. ⊎_elim
    (λ h. absurd (true≢false (sym (none m f (ap (λ (y : Node). y.id) h ∙ sym e)) ∙ not-true _ q.0)))
    (λ h. one_node g m k q.1 f h e)
    (Contains-cons_cases n g k d))
    (Contains-cons_cases n g m c)

-- what holds of all that is listed
pub all_listed : (p : Id → Bool) (xs : List Id) (x : Id) → list_all p xs ≡ true → Contains xs x → p x ≡ true
all_listed p [] x h c = absurd (omega arith)
all_listed p (y ∷ xs) x h c =
    let q = and_parts _ _ h in
    ⊎_elim (λ e. subst (λ z. p z ≡ true) e q.0) (all_listed p xs x q.1) (Contains-cons_cases y xs x c)

-- no node before another has its id
pub apart_before : (g h : List Node) (n : Node) → are_apart (g ++ n ∷ h) ≡ true → has g n.id ≡ false
apart_before [] h n a = refl
apart_before (m ∷ g) h n a =
    let q = and_parts _ _ a in
    let r = or_parts _ _ (or_parts _ _ (sym (has-append g (n ∷ h) m.id) ∙ not-true _ q.0)).1 in
    ap (λ b. b || has g n.id) (bytes_eq-sym m.id n.id ∙ r.0) ∙ apart_before g h n q.1
