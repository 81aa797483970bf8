-- Steps of entries, and what `find` says.
use Rattle.std.proofs.Common.{◌≡◌, ℕ, Bool, true, false, cond, List, [], ◌∷◌, refl, sym, ap, ◌∙◌, subst, ◌⊎◌, ⊎_elim, arith, map, Some, None}
use Rattle.std.specs.Prelude.{Contains, find}
use Rattle.gate_graph.specs.Family.{Node}
use Rattle.gate_tx.specs.Ids.{txid_of}
use Rattle.gate_bytes.proofs.Members.{Contains-cons_cases, Contains-head, Contains-rest}
use Rattle.gate_graph.proofs.Steps.{step_node, node_step}
use Rattle.gate_pool.specs.Pool.{Admitted}
use Rattle.gate_tx.specs.declared.TxIn.{TxIn}
use Rattle.gate_pool.specs.Family.{node_of, steps}

abbrev pub Id : Type 0
Id = List ℕ

pub Contains-map : {X Y : Type 0} (f : X → Y) (xs : List X) (x : X) → Contains xs x → Contains (map f xs) (f x)
Contains-map f [] x c = absurd (omega arith)
Contains-map {X} {Y} f (y ∷ xs) x c = ⊎_elim
    (λ e. subst (λ z. Contains {X = Y} (map f (y ∷ xs)) z) (ap f e) (Contains-head (f y) (map f xs)))
    (λ k. Contains-rest (f y) (map f xs) (f x) (Contains-map f xs x k))
    (Contains-cons_cases y xs x c)

pub record MapOf {X Y : Type 0} (f : X → Y) (xs : List X) (y : Y) : Type 0 where
  pub item : X
  pub among : Contains xs item
  pub is : f item ≡ y

pub Contains-from_map : {X Y : Type 0} (f : X → Y) (xs : List X) (y : Y) → Contains (map f xs) y → MapOf f xs y
Contains-from_map f [] y c = absurd (omega arith)
Contains-from_map f (x ∷ xs) y c = ⊎_elim
    (λ e. record { item = x; among = Contains-head x xs; is = e })
    (λ k. let w = Contains-from_map f xs y k in record { item = w.item; among = Contains-rest x xs w.item w.among; is = w.is })
    (Contains-cons_cases (f x) (map f xs) y c)

-- where a step of entries comes from
pub record StepOf (g : List Admitted) (a b : Id) : Type 0 where
  pub entry : Admitted
  pub point : TxIn
  pub member : Contains g entry
  pub spent : Contains entry.tx.inputs point
  pub child : txid_of entry.tx ≡ b
  pub parent : point.prevout.txid ≡ a

pub entry_step : (g : List Admitted) (e : Admitted) (p : TxIn) → Contains g e → Contains e.tx.inputs p → Contains (steps g) (p.prevout.txid, txid_of e.tx)
unfolding steps
entry_step g e p c s = node_step (map node_of g) (node_of e) p.prevout.txid (Contains-map node_of g e c) (Contains-map (λ (q : TxIn). q.prevout.txid) e.tx.inputs p s)

pub step_entry : (g : List Admitted) (a b : Id) → Contains (steps g) (a, b) → StepOf g a b
unfolding steps
step_entry g a b c =
    let w = step_node (map node_of g) a b c in
    let v = Contains-from_map node_of g w.0 w.1 in
    let q = Contains-from_map (λ (q : TxIn). q.prevout.txid) v.item.tx.inputs a (subst (λ (m : Node). Contains m.parents a) (sym v.is) w.3) in
    record { entry = v.item; point = q.item; member = v.among; spent = q.among; child = ap (λ (m : Node). m.id) v.is ∙ w.2; parent = q.is }

pub find_some : {X : Type 0} (p : X → Bool) (xs : List X) (x : X) → find p xs ≡ Some x → Contains xs x × (p x ≡ true)
find_some p [] x h = cc
find_some {X} p (y ∷ xs) x h = go (p y) refl h (find_some p xs x)
  where
    go : (b : Bool) → p y ≡ b → cond b (Some y) (find p xs) ≡ Some x → (find p xs ≡ Some x → Contains xs x × (p x ≡ true)) → Contains (y ∷ xs) x × (p x ≡ true)
    go true e k ih = let s : y ≡ x = cc in (subst (Contains (y ∷ xs)) s (Contains-head y xs), subst (λ z. p z ≡ true) s e)
    go false e k ih = let w = ih k in (Contains-rest y xs x w.0, w.1)

pub find_none : {X : Type 0} (p : X → Bool) (xs : List X) → find p xs ≡ None → (x : X) → Contains xs x → p x ≡ false
find_none p [] h x c = absurd (omega arith)
find_none {X} p (y ∷ xs) h x c = go (p y) refl h (find_none p xs) (Contains-cons_cases y xs x c)
  where
    go : (b : Bool) → p y ≡ b → cond b (Some y) (find p xs) ≡ None → (find p xs ≡ None → (x : X) → Contains xs x → p x ≡ false) → (y ≡ x) ⊎ Contains xs x → p x ≡ false
    go true e k ih c = absurd (let f : Some y ≡ None = k in cc)
    go false e k ih c = ⊎_elim (λ s. ap p (sym s) ∙ e) (λ m. ih k x m) c
