-- What walks find.
use Rattle.std.proofs.Common.{◌≡◌, ℕ, ◌+◌, ◌<◌, ◌≤◌, Bool, true, false, not, ◌||◌, cond, List, [], ◌∷◌, ◌++◌, length, get_or, take, refl, sym, ap, ◌∙◌, subst, ◌⊎◌, inl, inr, ⊎_elim, arith, true≢false, append-nil, append_assoc, length-append}
use Rattle.std.specs.Prelude.{Contains, filter}
use Rattle.std.specs.Str.{bytes_eq}
use Rattle.std.specs.Cmp.Lexicographic.{bytes_decides}
use Rattle.std.proofs.lemmas.Bool.{and_parts, and_from, or_parts, not-true, false_from_ne_true, cond-false}
use Rattle.std.proofs.lemmas.List.{get_or_append_left, get_or_default, take_more, take_all}
use Rattle.std.proofs.lemmas.List.Elements.{Contains-append_cases, Contains-append_left, Contains-append_right, Contains-get_or}
use Rattle.gate_graph.specs.Family.{Node, steps_of, Leads, here, down}
use Rattle.gate_graph.specs.Families.{among, has}
use Rattle.gate_bytes.proofs.Members.{Contains-cons_cases, Contains-head, Contains-rest, list_any_of, any_is, not_in_none}
use Rattle.gate_graph.proofs.Apart.{bytes_eq-sym, among_from, Contains-among, among-push, has-node}
use Rattle.gate_graph.proofs.Filters.{Contains-filter}
use Rattle.gate_graph.proofs.Reaching.{Leads_from_reaches, reaches-same, reaches_trans, reaches_step}
use Rattle.gate_graph.proofs.Steps.{same_bool, step_node}
use Rattle.gate_graph.specs.declared.walk.Way.{Way}
use Rattle.gate_graph.specs.declared.walk.Way.TheVariants.{Up, Down}
use Rattle.gate_graph.specs.Walking.{are_once, is_led, Next, Begins, AreFound, IsNode, IsOneOf}

abbrev Id : Type 0
Id = List ℕ

-- ids, each once, that nodes have are no more than the nodes
falls : (p : Node → Bool) (g : List Node) (n : Node) → Contains g n → p n ≡ false → length (filter p g) < length g
falls p [] n c h = not_in_none n c
falls p (m ∷ g) n c h =
    elim (Contains-cons_cases m g n c) [
      | inl e ↦ omega (arith, ap length (cond-false (p m) (m ∷ filter p g) (filter p g) (ap p e ∙ h)), no_longer g)
      | inr k ↦ go (p m) (falls p g n k h)
    ]
  where
    no_longer : (g : List Node) → length (filter p g) ≤ length g
    no_longer [] = omega arith
    no_longer (m ∷ g) = both (p m) (no_longer g)
      where
        both : (b : Bool) → length (filter p g) ≤ length g → length (cond b (m ∷ filter p g) (filter p g)) ≤ length (m ∷ g)
        both true l = omega (arith, l)
        both false l = omega (arith, l)

    go : (b : Bool) → length (filter p g) < length g → length (cond b (m ∷ filter p g) (filter p g)) < length (m ∷ g)
    go true l = omega (arith, l)
    go false l = omega (arith, l)

pub once_fits : (ids : List Id) (g : List Node) → are_once ids ≡ true → ((id : Id) → Contains ids id → has g id ≡ true) → length ids ≤ length g
once_fits [] g o h = omega arith
once_fits (x ∷ ids) g o h =
    let q = and_parts _ _ o in
    let w = any_is (λ n. bytes_eq n.id x) g (h x (Contains-head x ids)) in
    let less = falls (λ n. not (bytes_eq n.id x)) g w.0 w.1 (ap not w.2) in
    let rest = once_fits ids (filter (λ n. not (bytes_eq n.id x)) g) q.1 (λ y c.
    let v = any_is (λ n. bytes_eq n.id y) g (h y (Contains-rest x ids y c)) in
    let differ : bytes_eq v.0.id x ≡ true → ⊥ = λ t.
    true≢false (sym (among_from ids x (subst (Contains ids) (sym ((bytes_decides v.0.id y).0 v.2) ∙ (bytes_decides v.0.id x).0 t) c)) ∙ not-true _ q.0) in
    list_any_of (λ n. bytes_eq n.id y) (filter (λ n. not (bytes_eq n.id x)) g) v.0 (Contains-filter (λ n. not (bytes_eq n.id x)) g v.0 v.1 (ap not (false_from_ne_true _ differ))) v.2) in
    omega (arith, less, rest)

pub are_once-push : (ids : List Id) (x : Id) → are_once ids ≡ true → among ids x ≡ false → are_once (ids ++ x ∷ []) ≡ true
are_once-push [] x o a = refl
are_once-push (y ∷ ids) x o a =
    let q = and_parts _ _ o in
    let r = or_parts _ _ a in
    and_from _ _
    (ap not (among-push ids x y ∙ ap (λ b. b || bytes_eq y x) (not-true _ q.0) ∙ bytes_eq-sym y x ∙ r.0))
    (are_once-push ids x q.1 r.1)

-- what is found
module _ {P : Id → Type 0} where
  pub AreFound-none : (before : List Id) → ((id : Id) → P id → Contains before id) → AreFound P before before
  AreFound-none before h = record { more = []; is = sym (append-nil before); only = λ id c. not_in_none id c; all = h }

  pub AreFound-pushed : (before : List Id) (x : Id) → P x → ((id : Id) → P id → x ≡ id) → AreFound P before (before ++ x ∷ [])
  AreFound-pushed before x p h = record {
    more = x ∷ [];
    is = refl;
    only = λ id c. elim (Contains-cons_cases x [] id c) [ inl e ↦ subst P e p | inr none ↦ not_in_none id none ];
    all = λ id q. Contains-append_right before (x ∷ []) id (subst (Contains (x ∷ [])) (h id q) (Contains-head x []));
  }

  pub AreFound-still : {before after : List Id} → AreFound P before after → (id : Id) → Contains before id → Contains after id
  AreFound-still {before} f id c = subst (λ l. Contains l id) (sym f.is) (Contains-append_left before f.more id c)

pub AreFound-same : {P Q : Id → Type 0} {before after : List Id} → ((id : Id) → P id → Q id) → ((id : Id) → Q id → P id) → AreFound P before after → AreFound Q before after
AreFound-same f h a = record { more = a.more; is = a.is; only = λ id c. f id (a.only id c); all = λ id q. a.all id (h id q) }

pub AreFound-then : {P Q : Id → Type 0} {a b c : List Id} → AreFound P a b → AreFound Q b c → AreFound (λ id. P id ⊎ Q id) a c
AreFound-then {P} {Q} {a} {b} {c} p q = record {
  more = p.more ++ q.more;
  is = q.is ∙ ap (λ l. l ++ q.more) p.is ∙ append_assoc a p.more q.more;
  only = λ id m. elim (Contains-append_cases p.more q.more id m) [ inl l ↦ inl (p.only id l) | inr r ↦ inr (q.only id r) ];
  all = λ id e. ⊎_elim (λ l. AreFound-still q id (p.all id l)) (λ r. q.all id r) e;
}

-- chains this way
led-same : (way : Way) (g : List Node) (a : Id) → is_led way g a a ≡ true
led-same Up g a = reaches-same (steps_of g) a
led-same Down g a = reaches-same (steps_of g) a

led_next : (way : Way) (g : List Node) (x a b : Id) → is_led way g x a ≡ true → Next way g a b → is_led way g x b ≡ true
led_next Up g x a b h s = reaches_trans (steps_of g) b a x (reaches_step (steps_of g) b a s.0) h
led_next Down g x a b h s = reaches_trans (steps_of g) x a b h (reaches_step (steps_of g) a b s.0)

-- a step leads to a node
pub child_node : (g : List Node) (a b : Id) → Contains (steps_of g) (a, b) → has g b ≡ true
child_node g a b s = let w = step_node g a b s in subst (λ z. has g z ≡ true) w.2 (has-node g w.0 w.1)

led_closed : (way : Way) (g : List Node) (p : Id → Bool) → ((a b : Id) → Next way g a b → p a ≡ true → p b ≡ true) → (x b : Id) → has g b ≡ true → is_led way g x b ≡ true → p x ≡ true → p b ≡ true
led_closed Up g p closed x b n r h = climb (Leads_from_reaches (steps_of g) b x r) n h
  where
    climb : {a b : Id} → Leads (steps_of g) a b → has g a ≡ true → p b ≡ true → p a ≡ true
    climb here n h = h
    climb (down {a = a} {b = b} s l) n h = closed b a (s, n) (climb l (child_node g a b s) h)
led_closed Down g p closed x b n r h = follow (Leads_from_reaches (steps_of g) x b r) h
  where
    follow : {a b : Id} → Leads (steps_of g) a b → p a ≡ true → p b ≡ true
    follow here h = h
    follow (down {a = a} {b = b} s l) h = follow l (closed a b (s, child_node g a b s) h)

-- what stays true of a walk from an id that has looked at the first `place` that it found
pub record Walk (way : Way) (g : List Node) (x : Id) (found : List Id) (place : ℕ) : Type 0 where
  pub start : has g x ≡ true → Contains found x
  pub first : (b : Id) → Next way g x b → Contains found x ⊎ Contains found b
  pub sound : (a : Id) → Contains found a → is_led way g x a ≡ true
  pub done : (k : ℕ) (d : Id) → k < place → (b : Id) → Next way g (get_or found k d) b → Contains found b
  pub within : place ≤ length found

pub Walk-start : (way : Way) (g : List Node) (x : Id) (found : List Id) → Begins way g x found → Walk way g x found 0
Walk-start way g x found b = record {
  start = b.start;
  first = b.first;
  sound = b.sound;
  done = λ k d lt. absurd (omega arith);
  within = omega arith;
}

-- a walk begins with what it starts from
pub begins_here : (way : Way) (g : List Node) (x : Id) → Begins way g x (x ∷ [])
begins_here way g x = record {
  start = λ h. Contains-head x [];
  first = λ b s. inl (Contains-head x []);
  sound = λ a c. elim (Contains-cons_cases x [] a c) [ inl e ↦ subst (λ z. is_led way g x z ≡ true) e (led-same way g x) | inr none ↦ not_in_none a none ];
}

-- or with all that is one step from it, where no node has the id
pub begins_next : (way : Way) (g : List Node) (x : Id) (found : List Id) → has g x ≡ false → AreFound (Next way g x) [] found → Begins way g x found
begins_next way g x found none f = record {
  start = λ h. absurd (true≢false (sym h ∙ none));
  first = λ b s. inr (f.all b s);
  sound = λ a c. led_next way g x x a (led-same way g x) (f.only a (subst (λ l. Contains l a) f.is c));
}

pub Walk-more : (way : Way) (g : List Node) (x : Id) (found after : List Id) (place : ℕ) (e : Id) → Walk way g x found place → place < length found
    → AreFound (Next way g (get_or found place e)) found after → Walk way g x after (place + 1)
Walk-more way g x found after place e w lt f = record {
  start = λ h. AreFound-still f x (w.start h);
  first = λ b s. ⊎_elim (λ l. inl (AreFound-still f x l)) (λ r. inr (AreFound-still f b r)) (w.first b s);
  sound = λ a c.
      elim (Contains-append_cases found f.more a (subst (λ l. Contains l a) f.is c)) [
        | inl old ↦ w.sound a old
        | inr new ↦ led_next way g x (get_or found place e) a (w.sound (get_or found place e) (Contains-get_or found place e lt)) (f.only a new)
      ];
  done = λ k d l b s.
      elim (cases_last k l) [
        | inl below ↦ AreFound-still f b (w.done k d below b (subst (λ y. Next way g y b) (front k d (omega (arith, below, w.within))) s))
        | inr same ↦ f.all b (subst (λ y. Next way g y b) (front k d (omega (arith, same, lt)) ∙ at_same k d same) s)
      ];
  within = omega (arith, lt, ap length f.is, length-append found f.more);
}
  where
    cases_last : (k : ℕ) → k < place + 1 → (k < place) ⊎ (k ≡ place)
    cases_last k l = grind arith

    front : (k : ℕ) (d : Id) → k < length found → get_or after k d ≡ get_or found k d
    front k d l = ap (λ l. get_or l k d) f.is ∙ get_or_append_left found f.more d k l

    at_same : (k : ℕ) (d : Id) → k ≡ place → get_or found k d ≡ get_or found place e
    at_same k d s = ap (λ j. get_or found j d) s ∙ get_or_default found place d e lt

pub Walk-end : (way : Way) (g : List Node) (x : Id) (found : List Id) (place : ℕ) → Walk way g x found place → length found ≤ place → (b : Id) → has g b ≡ true → among found b ≡ is_led way g x b
Walk-end way g x found place w end b n = same_bool _ _
    (λ t. w.sound b (Contains-among found b t))
    (λ r. there (or_cases (among found b) (bytes_eq b x) (led_closed way g (λ a. among found a || bytes_eq a x) closed x b n r (or_true (among found x) (bytes_eq x x) ((bytes_decides x x).1 refl)))))
  where
    or_true : (a b : Bool) → b ≡ true → (a || b) ≡ true
    or_true true b t = refl
    or_true false b t = t

    or_left : (a b : Bool) → a ≡ true → (a || b) ≡ true
    or_left a b t = ap (λ z. z || b) t

    or_cases : (a b : Bool) → (a || b) ≡ true → (a ≡ true) ⊎ (b ≡ true)
    or_cases true b t = inl refl
    or_cases false b t = inr t

    there : (among found b ≡ true) ⊎ (bytes_eq b x ≡ true) → among found b ≡ true
    there (inl t) = t
    there (inr t) = let e = (bytes_decides b x).0 t in among_from found b (subst (Contains found) (sym e) (w.start (ap (has g) (sym e) ∙ n)))

    from_found : (a b : Id) → Next way g a b → Contains found a → Contains found b
    from_found a b s c = w.done c.0 a (omega (arith, c.1)) b (subst (λ y. Next way g y b) (sym c.2) s)

    from_first : (b : Id) → Next way g x b → Contains found x ⊎ Contains found b → Contains found b
    from_first b s (inl c) = from_found x b s c
    from_first b s (inr c) = c

    closed : (a b : Id) → Next way g a b → (among found a || bytes_eq a x) ≡ true → (among found b || bytes_eq b x) ≡ true
    closed a b s t = or_left (among found b) (bytes_eq b x) (among_from found b (by (or_cases (among found a) (bytes_eq a x) t)))
      where
        by : (among found a ≡ true) ⊎ (bytes_eq a x ≡ true) → Contains found b
        by (inl t) = from_found a b s (Contains-among found a t)
        by (inr t) = let e = (bytes_decides a x).0 t in let s' = subst (λ y. Next way g y b) e s in from_first b s' (w.first b s')

-- one id more was looked at
pub one_more : (g : List Node) {before mid after : List Id} (ids : List Id) (i : ℕ) (x : Id) → i < length ids → get_or ids i x ≡ x → AreFound (IsOneOf g (take i ids)) before mid → AreFound (IsNode g x) mid after → AreFound (IsOneOf g (take (i + 1) ids)) before after
one_more g ids i x lt is a b = AreFound-same to from (AreFound-then a b)
  where
    last : take (i + 1) ids ≡ take i ids ++ x ∷ []
    last = take_more ids i x lt ∙ ap (λ y. take i ids ++ y ∷ []) is

    to : (id : Id) → IsOneOf g (take i ids) id ⊎ IsNode g x id → IsOneOf g (take (i + 1) ids) id
    to id (inl p) = (subst (λ l. Contains l id) (sym last) (Contains-append_left (take i ids) (x ∷ []) id p.0), p.1)
    to id (inr p) = (subst (λ l. Contains l id) (sym last) (Contains-append_right (take i ids) (x ∷ []) id (subst (Contains (x ∷ [])) p.0 (Contains-head x []))), p.1)

    from : (id : Id) → IsOneOf g (take (i + 1) ids) id → IsOneOf g (take i ids) id ⊎ IsNode g x id
    from id p =
        elim (Contains-append_cases (take i ids) (x ∷ []) id (subst (λ l. Contains l id) last p.0)) [
          | inl old ↦ inl (old, p.1)
          | inr new ↦ elim (Contains-cons_cases x [] id new) [ inl e ↦ inr (e, p.1) | inr none ↦ not_in_none id none ]
        ]

pub none_looked_at : (g : List Node) (before : List Id) → AreFound (IsOneOf g []) before before
none_looked_at g before = AreFound-none before (λ id p. not_in_none id p.0)

pub all_looked_at : (g : List Node) {before after : List Id} (ids : List Id) (i : ℕ) → length ids ≤ i → AreFound (IsOneOf g (take i ids)) before after → AreFound (IsOneOf g ids) before after
all_looked_at g {before} {after} ids i end f = subst (λ l. AreFound (IsOneOf g l) before after) (take_all i ids end) f

pub shorter : {X : Type 0} (p : X → Bool) (xs : List X) → length (filter p xs) ≤ length xs
shorter p [] = omega arith
shorter p (x ∷ xs) = both (p x) (shorter p xs)
  where
    both : (b : Bool) → length (filter p xs) ≤ length xs → length (cond b (x ∷ filter p xs) (filter p xs)) ≤ length (x ∷ xs)
    both true l = omega (arith, l)
    both false l = omega (arith, l)
