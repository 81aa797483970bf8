-- Where the steps of nodes come from, and how reaching changes with steps at one id.
use Rattle.std.proofs.Common.{◌≡◌, ℕ, Bool, true, false, List, [], ◌∷◌, refl, sym, ap, ◌∙◌, subst, ◌⊎◌, inl, inr, ⊎_elim, arith, map}
use Rattle.std.specs.Prelude.{Contains}
use Rattle.std.specs.Str.{bytes_eq}
use Rattle.std.specs.Cmp.Lexicographic.{bytes_decides}
use Rattle.std.proofs.lemmas.Bool.{cases_Bool, true≢false}
use Rattle.std.proofs.lemmas.List.Elements.{Contains-append_cases, Contains-append_left, Contains-append_right}
use Rattle.gate_graph.specs.Family.{reaches, Leads, here, down, Node, steps_of}
use Rattle.gate_bytes.proofs.Members.{Contains-cons_cases, Contains-head, Contains-rest}
use Rattle.gate_graph.proofs.Reaching.{reaches_from_Leads, Leads_from_reaches, Leads_more}

abbrev Id : Type 0
Id = List ℕ

pub cases_id : (a b : Id) → (a ≡ b) ⊎ (a ≡ b → ⊥)
cases_id a b = ⊎_elim (λ h. inl ((bytes_decides a b).0 h)) (λ h. inr (λ e. true≢false (sym ((bytes_decides a b).1 e) ∙ h))) (cases_Bool (bytes_eq a b))

pub same_bool : (x y : Bool) → (x ≡ true → y ≡ true) → (y ≡ true → x ≡ true) → x ≡ y
same_bool true true h k = refl
same_bool true false h k = sym (h refl)
same_bool false true h k = k refl
same_bool false false h k = refl

-- a node's own steps lead to it
pub own_step : (ps : List Id) (x a b : Id) → Contains {X = Id × Id} (map (λ p. (p, x)) ps) (a, b) → (x ≡ b) × Contains ps a
own_step [] x a b c = absurd (omega arith)
own_step (p ∷ ps) x a b c =
    ⊎_elim
    (λ e. (ap (λ (q : Id × Id). q.1) e, subst (Contains (p ∷ ps)) (ap (λ (q : Id × Id). q.0) e) (Contains-head p ps)))
    (λ k. let o = own_step ps x a b k in (o.0, Contains-rest p ps a o.1))
    (Contains-cons_cases (p, x) (map (λ p. (p, x)) ps) (a, b) c)

pub own_step_of : (ps : List Id) (x a : Id) → Contains ps a → Contains {X = Id × Id} (map (λ p. (p, x)) ps) (a, x)
own_step_of [] x a c = absurd (omega arith)
own_step_of (p ∷ ps) x a c =
    ⊎_elim
    (λ e. subst (λ q. Contains {X = Id × Id} (map (λ p. (p, x)) (p ∷ ps)) (q, x)) e (Contains-head (p, x) (map (λ p. (p, x)) ps)))
    (λ k. Contains-rest (p, x) (map (λ p. (p, x)) ps) (a, x) (own_step_of ps x a k))
    (Contains-cons_cases p ps a c)

-- between steps with x and steps without what leads to x, where nothing leads from x
module _ (ss ts : List (Id × Id)) (x : Id) (fewer : (a b : Id) → Contains ts (a, b) → Contains ss (a, b)) (kept : (a b : Id) → Contains ss (a, b) → (b ≡ x → ⊥) → Contains ts (a, b)) (childless : (b : Id) → Contains ss (x, b) → ⊥) where
  from_leaf : {a b : Id} → Leads ss a b → a ≡ x → b ≡ x
  from_leaf here e = e
  from_leaf (down {b = c} s l) e = absurd (childless c (subst (λ y. Contains ss (y, c)) e s))

  pub leaf_leads : {a b : Id} → Leads ss a b → (b ≡ x → ⊥) → Leads ts a b
  leaf_leads here ne = here
  leaf_leads (down {a = a} {b = c} {c = b} s l) ne = down (kept a c s (λ e. ne (from_leaf l e))) (leaf_leads l ne)

  pub leaf_reaches : (a b : Id) → (b ≡ x → ⊥) → reaches ss a b ≡ reaches ts a b
  leaf_reaches a b ne = same_bool _ _
      (λ h. reaches_from_Leads (leaf_leads (Leads_from_reaches ss a b h) ne))
      (λ h. reaches_from_Leads (Leads_more fewer (Leads_from_reaches ts a b h)))

-- between steps with x and steps without what leads from x, where nothing leads to x
module _ (ss ts : List (Id × Id)) (x : Id) (fewer : (a b : Id) → Contains ts (a, b) → Contains ss (a, b)) (kept : (a b : Id) → Contains ss (a, b) → (a ≡ x → ⊥) → Contains ts (a, b)) (rootless : (a : Id) → Contains ss (a, x) → ⊥) where
  pub root_leads : {a b : Id} → Leads ss a b → (a ≡ x → ⊥) → Leads ts a b
  root_leads here ne = here
  root_leads (down {a = a} {b = c} s l) ne = down (kept a c s ne) (root_leads l (λ e. rootless a (subst (λ y. Contains ss (a, y)) e s)))

  pub root_reaches : (a b : Id) → (a ≡ x → ⊥) → reaches ss a b ≡ reaches ts a b
  root_reaches a b ne = same_bool _ _
      (λ h. reaches_from_Leads (root_leads (Leads_from_reaches ss a b h) ne))
      (λ h. reaches_from_Leads (Leads_more fewer (Leads_from_reaches ts a b h)))

-- between steps, and those that stay when a set that takes with it all that is below its members goes
module _ (ss ts : List (Id × Id)) (D : Id → Bool) (fewer : (a b : Id) → Contains ts (a, b) → Contains ss (a, b)) (kept : (a b : Id) → Contains ss (a, b) → D b ≡ false → Contains ts (a, b)) (closed : (a b : Id) → Contains ss (a, b) → D a ≡ true → D b ≡ true) where
  pub closed_leads : {a b : Id} → Leads ss a b → D a ≡ true → D b ≡ true
  closed_leads here h = h
  closed_leads (down {a = a} {b = c} s l) h = closed_leads l (closed a c s h)

  pub kept_leads : {a b : Id} → Leads ss a b → D b ≡ false → Leads ts a b
  kept_leads here h = here
  kept_leads (down {a = a} {b = c} s l) h =
      down
      (kept a c s (⊎_elim (λ t. absurd (true≢false (sym (closed_leads l t) ∙ h))) (λ f. f) (cases_Bool (D c))))
      (kept_leads l h)

  pub kept_reaches : (a b : Id) → D b ≡ false → reaches ss a b ≡ reaches ts a b
  kept_reaches a b h = same_bool _ _
      (λ r. reaches_from_Leads (kept_leads (Leads_from_reaches ss a b r) h))
      (λ r. reaches_from_Leads (Leads_more fewer (Leads_from_reaches ts a b r)))

-- a step comes from a node that names the parent
pub step_node : (g : List Node) (a b : Id) → Contains (steps_of g) (a, b) → (m : Node) × Contains g m × (m.id ≡ b) × Contains m.parents a
step_node [] a b c = absurd (omega arith)
step_node (n ∷ g) a b c =
    ⊎_elim
    (λ o. let w = own_step n.parents n.id a b o in (n, Contains-head n g, w.0, w.1))
    (λ k. let w = step_node g a b k in (w.0, Contains-rest n g w.0 w.1, w.2, w.3))
    (Contains-append_cases (map (λ p. (p, n.id)) n.parents) (steps_of g) (a, b) c)

pub node_step : (g : List Node) (m : Node) (a : Id) → Contains g m → Contains m.parents a → Contains (steps_of g) (a, m.id)
node_step [] m a c p = absurd (omega arith)
node_step (n ∷ g) m a c p =
    ⊎_elim
    (λ e. Contains-append_left (map (λ p. (p, n.id)) n.parents) (steps_of g) (a, m.id) (subst (λ (k : Node). Contains {X = Id × Id} (map (λ p. (p, n.id)) n.parents) (a, k.id)) e (own_step_of n.parents n.id a (subst (λ (k : Node). Contains k.parents a) (sym e) p))))
    (λ k. Contains-append_right (map (λ p. (p, n.id)) n.parents) (steps_of g) (a, m.id) (node_step g m a k p))
    (Contains-cons_cases n g m c)
