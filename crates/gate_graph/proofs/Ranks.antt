-- How the ranking of nodes and the sum of their sizes follow what is written and taken.
use Rattle.std.proofs.Common.{◌≡◌, ℕ, zero, suc, ◌+◌, ◌*◌, ◌≤◌, ◌<◌, ◌^◌, List, [], ◌∷◌, ◌++◌, length, map, Option, Some, None, is_some, true, refl, sym, ap, ◌∙◌, arith, true≢false}
use Rattle.std.specs.Prelude.{Contains, filter, slice_set, sum_by}
use Rattle.std.specs.Option.{option_map}
use Rattle.std.proofs.lemmas.Option.{none-some}
use Rattle.std.proofs.lemmas.List.Sums.{sum_by-cons}
use Rattle.gate_ranking.specs.Rate.{Fraction, rate_cmp, rate_cmp_total}
use Rattle.gate_ranking.specs.Ranking.{IsLeast, IsBare}
use Rattle.gate_ranking.specs.Lesser.{held_in, least_by}
use Rattle.gate_ranking.proofs.Recursion.{keys_of-push, keys_of-set, keys_of-close, least_is, none_is}
use Rattle.gate_graph.specs.Family.{Node}
use Rattle.gate_graph.specs.declared.held.Held.{Held}
use Rattle.gate_graph.specs.Slots.{entries_of, at}
use Rattle.gate_graph.specs.Holding.{node_of, nodes_of, spots_of}
use Rattle.gate_graph.specs.Ranks.{rate_of}
use Rattle.gate_bytes.proofs.Members.{Contains-head, Contains-rest}
use Rattle.gate_graph.proofs.Placing.{written_at}

-- the sizes of the nodes that stand in slots, added up
abbrev pub total : {T : Type 0} → List (Option (Held T)) → ℕ
total slots = sum_by (λ n. n.size) (nodes_of (entries_of slots))

module _ {T : Type 0} where
  added : (h : Held T) (hs : List (Held T)) → sum_by (λ n. n.size) (nodes_of (h ∷ hs)) ≡ h.size + sum_by (λ n. n.size) (nodes_of hs)
  added h hs = sum_by-cons (λ n. n.size) (node_of h) (nodes_of hs)

  pub total-push : (slots : List (Option (Held T))) (h : Held T) → total (slots ++ Some h ∷ []) ≡ total slots + h.size
  total-push [] h = omega (arith, added h [])
  total-push (None ∷ slots) h = total-push slots h
  total-push (Some x ∷ slots) h = omega (arith, added x (entries_of (slots ++ Some h ∷ [])), added x (entries_of slots), total-push slots h)

  pub total-take : (slots : List (Option (Held T))) (i : ℕ) (h : Held T) → at slots i ≡ Some h → total (slice_set slots i None) + h.size ≡ total slots
  total-take [] i h e = absurd (none-some h e)
  total-take (None ∷ slots) zero h e = absurd (none-some h e)
  total-take (None ∷ slots) (suc i) h e = total-take slots i h e
  total-take (Some x ∷ slots) zero h e = let same : x ≡ h = cc in omega (arith, added x (entries_of slots), ap (λ (k : Held T). k.size) same)
  total-take (Some x ∷ slots) (suc i) h e = omega (arith, added x (entries_of (slice_set slots i None)), added x (entries_of slots), total-take slots i h e)

  pub total-write : (f : Held T → Held T) → ((h : Held T) → (f h).size ≡ h.size) → (slots : List (Option (Held T))) (i : ℕ) → total (slice_set slots i (option_map f (at slots i))) ≡ total slots
  total-write f same [] i = refl
  total-write f same (None ∷ slots) zero = refl
  total-write f same (Some h ∷ slots) zero = omega (arith, added (f h) (entries_of slots), added h (entries_of slots), same h)
  total-write f same (None ∷ slots) (suc i) = total-write f same slots i
  total-write f same (Some h ∷ slots) (suc i) = omega (arith, added h (entries_of (slice_set slots i (option_map f (at slots i)))), added h (entries_of slots), total-write f same slots i)

  -- a sum of sizes of 64 bits
  pub total_small : (hs : List (Held T)) → ((n : Node) → Contains (nodes_of hs) n → n.size < 2 ^ 64) → sum_by (λ n. n.size) (nodes_of hs) ≤ 18446744073709551615 * length hs
  total_small [] small = omega arith
  total_small (h ∷ hs) small = omega (arith, added h hs, small (node_of h) (Contains-head (node_of h) (nodes_of hs)), total_small hs (λ n c. small n (Contains-rest (node_of h) (nodes_of hs) n c)))

  -- what a rate reads is written at a place, and the rate with it
  pub written_keys : (f : Held T → Held T) (slots slots' : List (Option (Held T))) (i : ℕ) (h : Held T) (k : Fraction) (keys keys' : List (Option Fraction)) → keys ≡ map (option_map rate_of) slots
      → slots' ≡ slice_set slots i (option_map f (at slots i)) → option_map f (at slots i) ≡ Some h → k ≡ rate_of h → keys' ≡ slice_set keys i (Some k) → keys' ≡ map (option_map rate_of) slots'
  written_keys f slots slots' i h k keys keys' old is here rate set =
      set
      ∙ ap (λ l. slice_set l i (Some k)) old
      ∙ ap (λ y. slice_set (map (option_map rate_of) slots) i (Some y)) rate
      ∙ ap (λ o. slice_set (map (option_map rate_of) slots) i (option_map rate_of o)) (sym here)
      ∙ sym (ap (map (option_map rate_of)) is ∙ keys_of-set rate_of slots i (option_map f (at slots i)))

  pub taken_keys : (slots slots' : List (Option (Held T))) (i : ℕ) (keys keys' : List (Option Fraction)) → keys ≡ map (option_map rate_of) slots → slots' ≡ slice_set slots i None → keys' ≡ slice_set keys i None → keys' ≡ map (option_map rate_of) slots'
  taken_keys slots slots' i keys keys' old is set = set ∙ ap (λ l. slice_set l i None) old ∙ sym (ap (map (option_map rate_of)) is ∙ keys_of-set rate_of slots i None)

  pub pushed_keys : (slots slots' : List (Option (Held T))) (h : Held T) (k : Fraction) (keys keys' : List (Option Fraction)) → keys ≡ map (option_map rate_of) slots → slots' ≡ slots ++ Some h ∷ [] → k ≡ rate_of h → keys' ≡ keys ++ Some k ∷ [] → keys' ≡ map (option_map rate_of) slots'
  pushed_keys slots slots' h k keys keys' old is rate push =
      push ∙ ap (λ l. l ++ Some k ∷ []) old ∙ ap (λ y. map (option_map rate_of) slots ++ Some y ∷ []) rate ∙ sym (ap (map (option_map rate_of)) is ∙ keys_of-push rate_of slots (Some h))

  pub closed_keys : (slots slots' : List (Option (Held T))) (keys keys' : List (Option Fraction)) → keys ≡ map (option_map rate_of) slots → slots' ≡ filter is_some slots → keys' ≡ filter is_some keys → keys' ≡ map (option_map rate_of) slots'
  closed_keys slots slots' keys keys' old is close = close ∙ ap (filter is_some) old ∙ sym (ap (map (option_map rate_of)) is ∙ keys_of-close rate_of slots)

  -- as many keys as slots
  pub length-keys : (slots : List (Option (Held T))) (keys : List (Option Fraction)) → keys ≡ map (option_map rate_of) slots → length keys ≡ length slots
  length-keys slots keys e = ap length e ∙ by slots
    where
      by : (slots : List (Option (Held T))) → length (map (option_map rate_of) slots) ≡ length slots
      by [] = refl
      by (s ∷ slots) = ap suc (by slots)

  -- what stands at a place is within the slots
  pub stands_within : (slots : List (Option (Held T))) (i : ℕ) → is_some (at slots i) ≡ true → i < length slots
  stands_within [] i s = absurd (true≢false (sym s))
  stands_within (x ∷ slots) zero s = omega arith
  stands_within (x ∷ slots) (suc i) s = omega (arith, stands_within slots i s)

  -- a key is that of a node
  pub record IsKeyed (slots : List (Option (Held T))) (i : ℕ) (k : Fraction) : Type 0 where
    pub node : Held T
    pub stands : at slots i ≡ Some node
    pub rate : rate_of node ≡ k

  pub keyed : (slots : List (Option (Held T))) (i : ℕ) (k : Fraction) → at (map (option_map rate_of) slots) i ≡ Some k → IsKeyed slots i k
  keyed [] i k e = absurd (none-some k e)
  keyed (None ∷ slots) zero k e = absurd (none-some k e)
  keyed (Some h ∷ slots) zero k e = record { node = h; stands = refl; rate = (cc) }
  keyed (s ∷ slots) (suc i) k e = let w = keyed slots i k e in record { node = w.node; stands = w.stands; rate = w.rate }

  held_entries : (slots : List (Option (Held T))) → held_in slots ≡ entries_of slots
  held_entries [] = refl
  held_entries (None ∷ slots) = held_entries slots
  held_entries (Some h ∷ slots) = ap (λ l. h ∷ l) (held_entries slots)

  -- the node at the place of the least key is the least of the nodes
  pub least_at : (slots : List (Option (Held T))) (keys : List (Option Fraction)) (i : ℕ) (k : Fraction) (h : Held T) → keys ≡ map (option_map rate_of) slots → IsLeast rate_cmp keys i k → at slots i ≡ Some h → Some h ≡ least_by rate_cmp rate_of (entries_of slots)
  least_at slots keys i k h old least here =
      let least' : IsLeast rate_cmp (map (option_map rate_of) slots) i k = rw old at least in
      let w = keyed slots i k least'.held in
      let same : w.node ≡ h = (let e : Some w.node ≡ Some h = sym w.stands ∙ here in cc) in
      let key : k ≡ rate_of h = sym w.rate ∙ ap rate_of same in
      let least'' : IsLeast rate_cmp (map (option_map rate_of) slots) i (rate_of h) = rw key at least' in
      sym (least_is rate_of rate_cmp rate_cmp_total slots i h here least'') ∙ ap (least_by rate_cmp rate_of) (held_entries slots)

  pub least_none : (slots : List (Option (Held T))) (keys : List (Option Fraction)) → keys ≡ map (option_map rate_of) slots → IsBare keys → None ≡ least_by rate_cmp rate_of (entries_of slots)
  least_none slots keys old bare =
      let bare' : IsBare (map (option_map rate_of) slots) = rw old at bare in
      sym (none_is rate_of rate_cmp slots bare') ∙ ap (least_by rate_cmp rate_of) (held_entries slots)

  -- something stands at the place of the least key
  pub least_stands : (slots : List (Option (Held T))) (keys : List (Option Fraction)) (i : ℕ) (k : Fraction) → keys ≡ map (option_map rate_of) slots → IsLeast rate_cmp keys i k → is_some (at slots i) ≡ true
  least_stands slots keys i k old least =
      let least' : IsLeast rate_cmp (map (option_map rate_of) slots) i k = rw old at least in
      ap is_some (keyed slots i k least'.held).stands

  -- what stands at a place after a write there
  pub written_here : (f : Held T → Held T) (slots slots' : List (Option (Held T))) (i : ℕ) → slots' ≡ slice_set slots i (option_map f (at slots i)) → at slots' i ≡ option_map f (at slots i)
  written_here f slots slots' i is = ap (λ l. at l i) is ∙ written_at slots i f

  pub written_stands : (f : Held T → Held T) (slots slots' : List (Option (Held T))) (i : ℕ) → is_some (at slots i) ≡ true → slots' ≡ slice_set slots i (option_map f (at slots i)) → is_some (at slots' i) ≡ true
  written_stands f slots slots' i stands is = ap is_some (written_here f slots slots' i is) ∙ by (at slots i) stands
    where
      by : (o : Option (Held T)) → is_some o ≡ true → is_some (option_map f o) ≡ true
      by None s = s
      by (Some h) s = refl

  -- the ids that stand in the slots, without the holes
  pub spots_of-closed : (slots : List (Option (Held T))) → spots_of (filter is_some slots) ≡ filter is_some (spots_of slots)
  spots_of-closed [] = refl
  spots_of-closed (None ∷ slots) = spots_of-closed slots
  spots_of-closed (Some h ∷ slots) = ap (λ l. Some h.id ∷ l) (spots_of-closed slots)
