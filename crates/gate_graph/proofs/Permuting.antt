-- Nodes in another order have the same families.
use Rattle.std.proofs.Common.{◌≡◌, ◌≤◌, ℕ, ◌+◌, Bool, true, false, not, ◌||◌, ◌&&◌, cond, List, [], ◌∷◌, length, refl, sym, ap, ◌∙◌, subst, arith, true≢false}
use Rattle.std.specs.Prelude.{Contains, filter, sum_by}
use Rattle.std.specs.Str.{bytes_eq}
use Rattle.std.specs.Cmp.Lexicographic.{bytes_decides}
use Rattle.std.specs.List.Sorted.{IsPermutation}
use Rattle.std.proofs.lemmas.Bool.{and_parts, not-true, false_from_ne_true}
use Rattle.std.proofs.lemmas.List.Sums.{sum_by-cons}
use Rattle.std.proofs.lemmas.List.Sorted.{IsPermutation-sym, IsPermutation-map, Contains-permutation, length_permutation, sum_by-IsPermutation}
use Rattle.gate_graph.specs.Family.{Node, steps_of, reaches}
use Rattle.gate_graph.specs.Families.{has, are_apart}
use Rattle.gate_graph.specs.Weighing.{sums_of, totals_of, AreSmall}
use Rattle.gate_graph.specs.Linking.{Lists, IsLinked}
use Rattle.gate_graph.specs.Keeping.{IsKept}
use Rattle.gate_graph.specs.Holding.{node_of, nodes_of}
use Rattle.gate_graph.specs.declared.held.Held.{Held}
use Rattle.gate_graph.proofs.Apart.{same_id}
use Rattle.gate_graph.proofs.Filters.{filter_same_on}
use Rattle.gate_graph.proofs.Reaching.{reaches_from_Leads, Leads_from_reaches, Leads_more}
use Rattle.gate_graph.proofs.Steps.{same_bool, step_node, node_step}

abbrev Id : Type 0
Id = List ℕ

module _ {X : Type 0} (p : X → Bool) where
  -- what passes, added up over all
  chosen_sum : (f : X → ℕ) (xs : List X) → sum_by f (filter p xs) ≡ sum_by (λ x. cond (p x) (f x) 0) xs
  chosen_sum f [] = refl
  chosen_sum f (x ∷ xs) = by (p x) (chosen_sum f xs) ∙ sym (sum_by-cons (λ x. cond (p x) (f x) 0) x xs)
    where
      by : (b : Bool) → sum_by f (filter p xs) ≡ sum_by (λ x. cond (p x) (f x) 0) xs → sum_by f (cond b (x ∷ filter p xs) (filter p xs)) ≡ cond b (f x) 0 + sum_by (λ x. cond (p x) (f x) 0) xs
      by true ih = sum_by-cons f x (filter p xs) ∙ ap (λ n. f x + n) ih
      by false ih = omega (arith, ih)

  chosen_count : (xs : List X) → length (filter p xs) ≡ sum_by (λ x. cond (p x) 1 0) xs
  chosen_count [] = refl
  chosen_count (x ∷ xs) = by (p x) (chosen_count xs) ∙ sym (sum_by-cons (λ x. cond (p x) 1 0) x xs)
    where
      by : (b : Bool) → length (filter p xs) ≡ sum_by (λ x. cond (p x) 1 0) xs → length (cond b (x ∷ filter p xs) (filter p xs)) ≡ cond b 1 0 + sum_by (λ x. cond (p x) 1 0) xs
      by true ih = omega (arith, ih)
      by false ih = omega (arith, ih)

  chosen_same : (f : X → ℕ) (xs ys : List X) → IsPermutation xs ys → sum_by f (filter p ys) ≡ sum_by f (filter p xs)
  chosen_same f xs ys e = chosen_sum f ys ∙ sum_by-IsPermutation (λ x. cond (p x) (f x) 0) xs ys e ∙ sym (chosen_sum f xs)

  pub chosen_number : (xs ys : List X) → IsPermutation xs ys → length (filter p ys) ≡ length (filter p xs)
  chosen_number xs ys e = chosen_count ys ∙ sum_by-IsPermutation (λ x. cond (p x) 1 0) xs ys e ∙ sym (chosen_count xs)

-- the sums of those that pass
sums_same : (p : Node → Bool) (g g' : List Node) → IsPermutation g g' → sums_of (filter p g') ≡ sums_of (filter p g)
sums_same p g g' e = λ i. record { count = chosen_number p g g' e i; size = chosen_same p (λ n. n.size) g g' e i; fees = chosen_same p (λ n. n.fee) g g' e i }

-- no id is that of two nodes
none_with : (g : List Node) (x : Id) → has g x ≡ false → length (filter (λ n. bytes_eq n.id x) g) ≡ 0
none_with [] x h = refl
none_with (n ∷ g) x h = by (bytes_eq n.id x) h (none_with g x)
  where
    by : (b : Bool) → (b || has g x) ≡ false → (has g x ≡ false → length (filter (λ n. bytes_eq n.id x) g) ≡ 0) → length (cond b (n ∷ filter (λ n. bytes_eq n.id x) g) (filter (λ n. bytes_eq n.id x) g)) ≡ 0
    by true h ih = absurd (true≢false h)
    by false h ih = ih h

some_with : (g : List Node) (x : Id) → has g x ≡ true → 1 ≤ length (filter (λ n. bytes_eq n.id x) g)
some_with [] x h = absurd (true≢false (sym h))
some_with (n ∷ g) x h = by (bytes_eq n.id x) h (some_with g x)
  where
    by : (b : Bool) → (b || has g x) ≡ true → (has g x ≡ true → 1 ≤ length (filter (λ n. bytes_eq n.id x) g)) → 1 ≤ length (cond b (n ∷ filter (λ n. bytes_eq n.id x) g) (filter (λ n. bytes_eq n.id x) g))
    by true h ih = omega arith
    by false h ih = ih h

apart_once : (g : List Node) → are_apart g ≡ true → (x : Id) → length (filter (λ n. bytes_eq n.id x) g) ≤ 1
apart_once [] a x = omega arith
apart_once (n ∷ g) a x = by (bytes_eq n.id x) refl (apart_once g (and_parts _ _ a).1 x)
  where
    by : (b : Bool) → bytes_eq n.id x ≡ b → length (filter (λ n. bytes_eq n.id x) g) ≤ 1 → length (cond b (n ∷ filter (λ n. bytes_eq n.id x) g) (filter (λ n. bytes_eq n.id x) g)) ≤ 1
    by true e ih = let none : has g x ≡ false = ap (has g) (sym ((bytes_decides n.id x).0 e)) ∙ not-true _ (and_parts _ _ a).0 in omega (arith, none_with g x none)
    by false e ih = ih

once_apart : (g : List Node) → ((x : Id) → length (filter (λ n. bytes_eq n.id x) g) ≤ 1) → are_apart g ≡ true
once_apart [] h = refl
once_apart (n ∷ g) h =
    let alone : has g n.id ≡ false = false_from_ne_true _ (λ t. absurd (omega (arith, some_with g n.id t, h n.id, first))) in
    both (ap not alone) (once_apart g (λ x. rest x (bytes_eq n.id x) refl))
  where
    first : length (filter (λ m. bytes_eq m.id n.id) (n ∷ g)) ≡ 1 + length (filter (λ m. bytes_eq m.id n.id) g)
    first = ap (λ b. length (cond b (n ∷ filter (λ m. bytes_eq m.id n.id) g) (filter (λ m. bytes_eq m.id n.id) g))) (same_id n.id) ∙ omega arith

    rest : (x : Id) (b : Bool) → bytes_eq n.id x ≡ b → length (filter (λ m. bytes_eq m.id x) g) ≤ 1
    rest x true e = omega (arith, h x, ap (λ c. length (cond c (n ∷ filter (λ m. bytes_eq m.id x) g) (filter (λ m. bytes_eq m.id x) g))) e)
    rest x false e = omega (arith, h x, ap (λ c. length (cond c (n ∷ filter (λ m. bytes_eq m.id x) g) (filter (λ m. bytes_eq m.id x) g))) e)

    both : {a b : Bool} → a ≡ true → b ≡ true → (a && b) ≡ true
    both {a} {b} e f = ap (λ c. c && b) e ∙ f

module _ (g g' : List Node) (e : IsPermutation g g') where
  same_steps : (a b : Id) → Contains (steps_of g) (a, b) → Contains (steps_of g') (a, b)
  same_steps a b c =
      let w = step_node g a b c in
      subst (λ y. Contains (steps_of g') (a, y)) w.2 (node_step g' w.0 a (Contains-permutation g g' w.0 e w.1) w.3)

  back_steps : (a b : Id) → Contains (steps_of g') (a, b) → Contains (steps_of g) (a, b)
  back_steps a b c =
      let w = step_node g' a b c in
      subst (λ y. Contains (steps_of g) (a, y)) w.2 (node_step g w.0 a (Contains-permutation g' g w.0 (IsPermutation-sym g g' e) w.1) w.3)

  same_reach : (a b : Id) → reaches (steps_of g') a b ≡ reaches (steps_of g) a b
  same_reach a b =
      same_bool (reaches (steps_of g') a b) (reaches (steps_of g) a b)
      (λ t. reaches_from_Leads (Leads_more back_steps (Leads_from_reaches (steps_of g') a b t)))
      (λ t. reaches_from_Leads (Leads_more same_steps (Leads_from_reaches (steps_of g) a b t)))

  pub permuted_totals : (x : Id) → totals_of g' x ≡ totals_of g x
  permuted_totals x = λ i. record {
    above = (ap sums_of (filter_same_on (λ n. reaches (steps_of g') n.id x) (λ n. reaches (steps_of g) n.id x) g' (λ n c. same_reach n.id x)) ∙ sums_same (λ n. reaches (steps_of g) n.id x) g g' e) i;
    below = (ap sums_of (filter_same_on (λ n. reaches (steps_of g') x n.id) (λ n. reaches (steps_of g) x n.id) g' (λ n c. same_reach x n.id)) ∙ sums_same (λ n. reaches (steps_of g) x n.id) g g' e) i;
  }

  pub permuted_apart : are_apart g ≡ true → are_apart g' ≡ true
  permuted_apart a = once_apart g' (λ x. omega (arith, chosen_number (λ n. bytes_eq n.id x) g g' e, apart_once g a x))

  pub permuted_linked : (lists : Lists) → IsLinked g lists → IsLinked g' lists
  permuted_linked lists l = record { linked = λ a b. ((λ c. same_steps a b ((l.linked a b).0 c)), (λ c. (l.linked a b).1 (back_steps a b c))) }

  pub permuted_small : AreSmall g → AreSmall g'
  permuted_small s = record {
    size = λ n c. s.size n (Contains-permutation g' g n (IsPermutation-sym g g' e) c);
    fee = λ n c. s.fee n (Contains-permutation g' g n (IsPermutation-sym g g' e) c);
  }

-- what is kept beside nodes, when they stand in another order
pub permuted_kept : {T : Type 0} (hs hs' : List (Held T)) (lists : Lists) (found above : ℕ) → IsPermutation hs hs' → IsKept hs lists found above → IsKept hs' lists found above
permuted_kept hs hs' lists found above e k =
    let nodes : IsPermutation (nodes_of hs) (nodes_of hs') = IsPermutation-map node_of hs hs' e in
    record {
      apart = permuted_apart (nodes_of hs) (nodes_of hs') nodes k.apart;
      linked = permuted_linked (nodes_of hs) (nodes_of hs') nodes lists k.linked;
      weighed = record { totals = λ h c. k.weighed.totals h (Contains-permutation hs' hs h (IsPermutation-sym hs hs' e) c) ∙ sym (permuted_totals (nodes_of hs) (nodes_of hs') nodes h.id) };
      small = permuted_small (nodes_of hs) (nodes_of hs') nodes k.small;
      found_room = omega (arith, length_permutation hs hs' e, k.found_room);
      above_room = omega (arith, length_permutation hs hs' e, k.above_room);
    }
