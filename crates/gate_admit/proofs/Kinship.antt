-- Families of version 3: what is counted of them, and what is found of a sibling.
use Rattle.std.proofs.Common.{◌≡◌, ◌≢◌, ◌<◌, ◌≤◌, ◌+◌, ℕ, Bool, true, false, not, cond, ◌&&◌, ◌||◌, List, [], ◌∷◌, length, Option, Some, None, refl, sym, ap, ◌∙◌, subst, arith, ⊎_elim, if◌then◌else◌}
use Rattle.std.specs.Prelude.{Contains, filter, find, nat_lt, is_none, slice_get, IfSome}
use Rattle.std.specs.List.{AllPairs, list_any}
use Rattle.std.specs.Str.{bytes_eq}
use Rattle.std.specs.Cmp.Lexicographic.{bytes_decides}
use Rattle.std.proofs.lemmas.Bool.{true≢false, false_from_ne_true, not-true, not-false, cond-true}
use Rattle.std.proofs.lemmas.Bool.Decides.{nat_tests}
use Rattle.std.proofs.lemmas.List.Elements.{All-contains, filter_passes}
use Rattle.std.proofs.lemmas.List.Kept.{AllPairs-filter}
use Rattle.gate_bytes.proofs.Members.{Contains-cons_cases, Contains-head, Contains-rest, not_in_none}
use Rattle.gate_graph.specs.Family.{reaches}
use Rattle.gate_graph.proofs.Reaching.{reaches-same}
use Rattle.gate_tx.specs.declared.TxIn.{TxIn}
use Rattle.gate_tx.specs.Ids.{txid_of}
use Rattle.gate_tx.specs.Tx.{Tx}
use Rattle.gate_standard.specs.Rules.{is_truc}
use Rattle.gate_pool.specs.Distinct.{AreDistinct}
use Rattle.gate_pool.specs.Pool.{Admitted, has_txid}
use Rattle.gate_pool.specs.Family.{steps, all_below, ancestors_above, descendants_of, AreIdsOf, OfThese}
use Rattle.gate_pool.specs.Search.{IsEntry}
use Rattle.gate_pool.proofs.Adding.{DifferById, pairs_head, pairs_tail}
use Rattle.gate_pool.proofs.Entries.{find_some, find_none}
use Rattle.gate_pool.proofs.Ids.{AreIdsOf-one, same_entry}
use Rattle.gate_pool.proofs.Walking.{shorter, Contains-filter, Contains-from_filter}
use Rattle.gate_admit.specs.declared.attempt.Attempt.TheVariants.{First}
use Rattle.gate_admit.specs.Policies.{Policy}
use Rattle.gate_admit.proofs.Families.{below_one, none_are}
use Rattle.gate_admit.specs.Truc.{breaks_family, breaks_truc, evictable, has_conflict_below, is_of_other_kind, is_only_child, is_outside, is_taken, others_below, sibling_among, sibling_below, sibling_of, truc_child_size, truc_size}

-- ---- one entry beside the others

only_id : (id x : List ℕ) → Contains (id ∷ []) x → x ≡ id
only_id id x m = ⊎_elim (λ (k : id ≡ x). sym k) (λ k. not_in_none x k) (Contains-cons_cases id [] x m)

pub only_one : (p a : Admitted) → Contains (p ∷ []) a → p ≡ a
only_one p a m = ⊎_elim (λ (k : p ≡ a). k) (λ k. not_in_none a k) (Contains-cons_cases p [] a m)

all_kept : (k : Admitted → Bool) (xs : List Admitted) → ((x : Admitted) → Contains xs x → k x ≡ true) → filter k xs ≡ xs
all_kept k [] h = refl
all_kept k (x ∷ xs) h = cond-true (k x) (x ∷ filter k xs) (filter k xs) (h x (Contains-head x xs)) ∙ ap (λ l. x ∷ l) (all_kept k xs (λ y m. h y (Contains-rest x xs y m)))

-- without the entry of an id there is one less
one_out : (id : List ℕ) (xs : List Admitted) → AllPairs DifferById xs → (c : Admitted) → Contains xs c → has_txid c id ≡ true → length xs ≡ length (filter (λ (x : Admitted). not (has_txid x id)) xs) + 1
one_out id [] distinct c m t = not_in_none c m
one_out id (x ∷ xs) distinct c m t = go (has_txid x id) refl (λ there. one_out id xs (pairs_tail DifferById x xs distinct) c there t)
  where
    go : (b : Bool) → has_txid x id ≡ b → (Contains xs c → length xs ≡ length (filter (λ (y : Admitted). not (has_txid y id)) xs) + 1) → length (x ∷ xs) ≡ length (cond (not b) (x ∷ filter (λ (y : Admitted). not (has_txid y id)) xs) (filter (λ (y : Admitted). not (has_txid y id)) xs)) + 1
    go true named more =
        let rest = all_kept (λ (y : Admitted). not (has_txid y id)) xs (λ y n. ap not (false_from_ne_true _ (λ (same : has_txid y id ≡ true).
        pairs_head DifferById x xs distinct y n ((bytes_decides (txid_of x.tx) id).0 named ∙ sym ((bytes_decides (txid_of y.tx) id).0 same))))) in
        omega (arith, ap (λ (l : List Admitted). length l) rest)
    go false apart more =
        let there : Contains xs c = ⊎_elim (λ (same : x ≡ c). absurd (true≢false (sym t ∙ ap (λ (y : Admitted). has_txid y id) (sym same) ∙ apart))) (λ (k : Contains xs c). k) (Contains-cons_cases x xs c m) in
        omega (arith, more there)

-- an entry is below itself, and so one more than the others are
pub below_and_itself : (entries : List Admitted) (id : List ℕ) → AllPairs DifferById entries → IsEntry entries id → length (descendants_of entries id) ≡ length (others_below entries id) + 1
below_and_itself entries id distinct w =
    let under : Admitted → Bool = λ x. reaches (steps entries) id (txid_of x.tx) in
    one_out id (descendants_of entries id) (AllPairs-filter DifferById under entries distinct) w.0
    (Contains-filter under entries w.0 w.1 (ap (reaches (steps entries) id) w.2 ∙ reaches-same (steps entries) id)) ((bytes_decides (txid_of w.0.tx) id).1 w.2)

-- ---- the sibling

pub evictable_one : (entries below : List Admitted) (s : Admitted) (id : List ℕ) → below ≡ s ∷ [] → txid_of s.tx ≡ id → is_only_child entries id ≡ true → evictable entries below ≡ Some id
evictable_one entries below s id is same only =
    ap (evictable entries) is ∙ ap (λ (x : List ℕ). if is_only_child entries x then Some x else None) same ∙ ap (λ b. if b then Some id else None) only

pub evictable_other : (entries below : List Admitted) (s : Admitted) (id : List ℕ) → below ≡ s ∷ [] → txid_of s.tx ≡ id → is_only_child entries id ≡ false → evictable entries below ≡ None
evictable_other entries below s id is same other =
    ap (evictable entries) is ∙ ap (λ (x : List ℕ). if is_only_child entries x then Some x else None) same ∙ ap (λ b. if b then Some id else None) other

pub evictable_none : (entries below : List Admitted) → ((s : Admitted) → below ≢ s ∷ []) → evictable entries below ≡ None
evictable_none entries [] h = refl
evictable_none entries (s ∷ []) h = absurd (h s refl)
evictable_none entries (s ∷ t ∷ rest) h = refl

-- a list of one
pub the_one : (below : List Admitted) → length below ≡ 1 → (s : Admitted) × (below ≡ s ∷ [])
the_one [] h = absurd (omega (arith, h))
the_one (s ∷ []) h = (s, refl)
the_one (s ∷ t ∷ rest) h = absurd (omega (arith, h))

-- what is below the entry of an id
pub below_entry : (entries : List Admitted) (id : List ℕ) → IsEntry entries id → all_below (λ (x : Admitted). has_txid x id) entries ≡ descendants_of entries id
below_entry entries id w = below_one entries w.0 id w.1 w.2 ∙ ap (descendants_of entries) w.2

pub ids_below : (entries : List Admitted) (id : List ℕ) (ids : List (List ℕ)) → IsEntry entries id → (AreIdsOf (id ∷ []) (filter (λ (x : Admitted). has_txid x id) entries) → AreIdsOf ids (all_below (λ (x : Admitted). has_txid x id) entries))
    → AreIdsOf ids (descendants_of entries id)
ids_below entries id ids w are = subst (λ (l : List Admitted). AreIdsOf ids l) (below_entry entries id w) (are (AreIdsOf-one entries w.0 id w.1 w.2))

-- no more entries are below than there are
pub never_many : (entries : List Admitted) (id : List ℕ) (most : ℕ) → IsEntry entries id → most ≡ length entries → (AreIdsOf (id ∷ []) (filter (λ (x : Admitted). has_txid x id) entries) → most < length (all_below (λ (x : Admitted). has_txid x id) entries)) → ⊥
never_many entries id most w all many =
    let more : most < length (descendants_of entries id) = subst (λ (l : List Admitted). most < length l) (below_entry entries id w) (many (AreIdsOf-one entries w.0 id w.1 w.2)) in
    omega (arith, more, all, shorter (λ (x : Admitted). reaches (steps entries) id (txid_of x.tx)) entries)

-- of two ids below an entry's, one is its own, and the other that of the only other entry
module _ (entries : List Admitted) (id : List ℕ) (ids : List (List ℕ)) (are : AreIdsOf ids (descendants_of entries id)) where
  other_is : AllPairs DifferById entries → IsEntry entries id → length (descendants_of entries id) ≡ 2 → (other : List ℕ) → Contains ids other → other ≢ id
      → (s : Admitted) × (others_below entries id ≡ s ∷ []) × (txid_of s.tx ≡ other)
  other_is distinct w two other m apart =
      let one = the_one (others_below entries id) (omega (arith, two, below_and_itself entries id distinct w)) in
      let found = are.only other m in
      let among : Contains (others_below entries id) found.0 =
      Contains-filter (λ (x : Admitted). not (has_txid x id)) (descendants_of entries id) found.0 found.1
      (ap not (false_from_ne_true _ (λ (named : has_txid found.0 id ≡ true). apart (sym found.2 ∙ (bytes_decides (txid_of found.0.tx) id).0 named)))) in
      (one.0, one.1, ap (λ (x : Admitted). txid_of x.tx) (only_one one.0 found.0 (subst (λ (l : List Admitted). Contains l found.0) one.1 among)) ∙ found.2)

  -- where all ids are its own, there is no other
  no_other : ((other : List ℕ) → Contains ids other → other ≡ id) → (s : Admitted) → others_below entries id ≢ s ∷ []
  no_other all s is =
      let test : Admitted → Bool = λ x. not (has_txid x id) in
      let member : Contains (others_below entries id) s = subst (λ (l : List Admitted). Contains l s) (sym is) (Contains-head s []) in
      let under : Contains (descendants_of entries id) s = Contains-from_filter test (descendants_of entries id) s member in
      let apart : has_txid s id ≡ false = not-true _ (All-contains (λ (x : Admitted). test x ≡ true) (others_below entries id) s (filter_passes test (descendants_of entries id)) member) in
      true≢false (sym ((bytes_decides (txid_of s.tx) id).1 (all (txid_of s.tx) (are.all s under))) ∙ apart)

  -- the first that isn't its own
  pub other_found : AllPairs DifferById entries → IsEntry entries id → length (descendants_of entries id) ≡ 2 → (found : Option (List ℕ)) → found ≡ find (λ (x : List ℕ). not (bytes_eq x id)) ids
      → IfSome found (λ other. (s : Admitted) × (others_below entries id ≡ s ∷ []) × (txid_of s.tx ≡ other))
  other_found distinct w two None is = tt
  other_found distinct w two (Some other) is =
      let f = find_some (λ (x : List ℕ). not (bytes_eq x id)) ids other (sym is) in
      other_is distinct w two other f.0 (λ (same : other ≡ id). true≢false (sym ((bytes_decides other id).1 same) ∙ not-true _ f.1))

  pub none_other : (found : Option (List ℕ)) → found ≡ find (λ (x : List ℕ). not (bytes_eq x id)) ids → found ≡ None → (s : Admitted) → others_below entries id ≢ s ∷ []
  none_other found is none =
      no_other (λ other m. (bytes_decides other id).0 (not-false _ (find_none (λ (x : List ℕ). not (bytes_eq x id)) ids (sym is ∙ none) other m)))

-- a child of the parent is a direct conflict: no sibling, and the place is not taken
pub sibling_unless_child : (entries : List Admitted) (tx : Tx) (parent : List ℕ) → has_conflict_below entries tx parent ≡ true → sibling_below entries tx parent ≡ None
sibling_unless_child entries tx parent h = ap (λ b. if b then None else evictable entries (others_below entries parent)) h

pub sibling_without_child : (entries : List Admitted) (tx : Tx) (parent : List ℕ) → has_conflict_below entries tx parent ≡ false → sibling_below entries tx parent ≡ evictable entries (others_below entries parent)
sibling_without_child entries tx parent h = ap (λ b. if b then None else evictable entries (others_below entries parent)) h

above_yes : (m n : ℕ) → m < n → nat_lt m n ≡ true
above_yes m n h = grind (arith, nat_tests)

above_no : (m n : ℕ) → n ≤ m → nat_lt m n ≡ false
above_no m n h = grind (arith, nat_tests)

and-false : (b : Bool) → (b && false) ≡ false
and-false true = refl
and-false false = refl

pub taken_unless_child : (entries : List Admitted) (tx : Tx) (parent : List ℕ) → has_conflict_below entries tx parent ≡ true → is_taken entries tx parent ≡ false
taken_unless_child entries tx parent h =
    ap (λ b. nat_lt 0 (length (others_below entries parent)) && (not b && is_none (evictable entries (others_below entries parent)))) h
    ∙ and-false (nat_lt 0 (length (others_below entries parent)))

-- ---- versions

-- the entry that is found by an id is the one that has it
pub found_is : (entries : List Admitted) (id : List ℕ) (e a : Admitted) → AreDistinct entries → Some e ≡ find (λ (d : Admitted). has_txid d id) entries → Contains entries a → txid_of a.tx ≡ id → e ≡ a
found_is entries id e a distinct found m at =
    let w = find_some (λ (d : Admitted). has_txid d id) entries e (sym found) in
    same_entry entries distinct e a w.0 m ((bytes_decides (txid_of e.tx) id).0 w.1 ∙ sym at)

pub other_than_truc : (tx : Tx) (a : Admitted) → is_truc tx ≡ true → is_of_other_kind tx a ≡ not (is_truc a.tx)
other_than_truc tx a h = ap (λ b. if b then not (is_truc a.tx) else is_truc a.tx) h

pub truc_beside_other : (tx : Tx) (a : Admitted) → is_truc tx ≡ false → is_of_other_kind tx a ≡ is_truc a.tx
truc_beside_other tx a h = ap (λ b. if b then not (is_truc a.tx) else is_truc a.tx) h

-- ---- A47, step by step

module _ (policy : Policy) (entries : List Admitted) (tx : Tx) (vsize : ℕ) where
  -- where version 3 is no matter
  pub kept_without : policy.standards.truc ≡ false → breaks_truc First policy entries tx vsize ≡ false
  kept_without off = ap (λ b. b && breaks_family entries tx vsize) off

  pub broken_by_kind : policy.standards.truc ≡ true → list_any (is_of_other_kind tx) (ancestors_above entries tx.inputs) ≡ true → breaks_truc First policy entries tx vsize ≡ true
  broken_by_kind on other =
      ap (λ b. b && breaks_family entries tx vsize) on ∙ ap (λ b. b || (is_truc tx && is_outside entries tx vsize (ancestors_above entries tx.inputs))) other

  module _ (on : policy.standards.truc ≡ true) (alike : list_any (is_of_other_kind tx) (ancestors_above entries tx.inputs) ≡ false) where
    asked : breaks_truc First policy entries tx vsize ≡ (is_truc tx && is_outside entries tx vsize (ancestors_above entries tx.inputs))
    asked = ap (λ b. b && breaks_family entries tx vsize) on ∙ ap (λ b. b || (is_truc tx && is_outside entries tx vsize (ancestors_above entries tx.inputs))) alike

    pub kept_by_others : is_truc tx ≡ false → breaks_truc First policy entries tx vsize ≡ false
    kept_by_others other = asked ∙ ap (λ b. b && is_outside entries tx vsize (ancestors_above entries tx.inputs)) other

    pub broken_outside : is_truc tx ≡ true → breaks_truc First policy entries tx vsize ≡ is_outside entries tx vsize (ancestors_above entries tx.inputs)
    broken_outside own = asked ∙ ap (λ b. b && is_outside entries tx vsize (ancestors_above entries tx.inputs)) own

-- what the code found in the pool and the transaction that it was handed
pub ids_above : (entries held : List Admitted) (tx : Tx) (inputs : List TxIn) (ids : List (List ℕ)) → held ≡ entries → inputs ≡ tx.inputs → AreIdsOf ids (ancestors_above held inputs) → AreIdsOf ids (ancestors_above entries tx.inputs)
ids_above entries held tx inputs ids same is are =
    subst (λ (i : List TxIn). AreIdsOf ids (ancestors_above entries i)) is (subst (λ (l : List Admitted). AreIdsOf ids (ancestors_above l inputs)) same are)

-- a transaction has no more ancestors than there are entries
pub never_more : (entries : List Admitted) (inputs : List TxIn) (most : ℕ) → most ≡ length entries → most < length (ancestors_above entries inputs) → ⊥
never_more entries inputs most all more =
    omega (arith, all, more, shorter (λ (e : Admitted). list_any (λ (i : TxIn). reaches (steps entries) (txid_of e.tx) i.prevout.txid) inputs) entries)

pub kind_of : (entries held : List Admitted) (tx t : Tx) (ids : List (List ℕ)) (b : Bool) → held ≡ entries → t ≡ tx → AreIdsOf ids (ancestors_above entries tx.inputs) → OfThese held ids (λ these. b ≡ list_any (is_of_other_kind t) these)
    → b ≡ list_any (is_of_other_kind tx) (ancestors_above entries tx.inputs)
kind_of entries held tx t ids b same is are asked =
    let test : Admitted → Bool = λ a. list_any (λ (i : TxIn). reaches (steps held) (txid_of a.tx) i.prevout.txid) tx.inputs in
    subst (λ (u : Tx). b ≡ list_any (is_of_other_kind u) (ancestors_above entries tx.inputs)) is
    (subst (λ (l : List Admitted). AreIdsOf ids (ancestors_above l tx.inputs) → b ≡ list_any (is_of_other_kind t) (ancestors_above l tx.inputs)) same (asked test) are)

pub asked_outside : (policy : Policy) (entries held : List Admitted) (tx t : Tx) (vsize : ℕ) (ids : List (List ℕ)) (b : Bool) → policy.standards.truc ≡ true → held ≡ entries → t ≡ tx → AreIdsOf ids (ancestors_above entries tx.inputs)
    → OfThese held ids (λ these. b ≡ list_any (is_of_other_kind t) these) → b ≡ false → is_truc t ≡ true → breaks_truc First policy entries tx vsize ≡ is_outside entries tx vsize (ancestors_above entries tx.inputs)
asked_outside policy entries held tx t vsize ids b on same is are asked alike own =
    broken_outside policy entries tx vsize on (sym (kind_of entries held tx t ids b same is are asked) ∙ alike) (subst (λ (u : Tx). is_truc u ≡ true) is own)

-- ids that are one, or more
pub one_is : (these : List Admitted) (id : List ℕ) → AllPairs DifferById these → AreIdsOf (id ∷ []) these → (p : Admitted) × (these ≡ p ∷ []) × (txid_of p.tx ≡ id)
one_is [] id distinct are = let w = are.only id (Contains-head id []) in not_in_none w.0 w.1
one_is (p ∷ []) id distinct are = (p, refl, only_id id (txid_of p.tx) (are.all p (Contains-head p [])))
one_is (p ∷ q ∷ rest) id distinct are =
    absurd (pairs_head DifferById p (q ∷ rest) distinct q (Contains-head q rest)
    (only_id id (txid_of p.tx) (are.all p (Contains-head p (q ∷ rest))) ∙ sym (only_id id (txid_of q.tx) (are.all q (Contains-rest p (q ∷ rest) q (Contains-head q rest))))))

pub many_outside : (entries : List Admitted) (tx : Tx) (vsize : ℕ) (these : List Admitted) (a b : List ℕ) (ids : List (List ℕ)) → AreIdsOf (a ∷ b ∷ ids) these → is_outside entries tx vsize these ≡ true
many_outside entries tx vsize [] a b ids are = let w = are.only a (Contains-head a (b ∷ ids)) in not_in_none w.0 w.1
many_outside entries tx vsize (p ∷ []) a b ids are =
    let first = are.only a (Contains-head a (b ∷ ids)) in
    let second = are.only b (Contains-rest a (b ∷ ids) b (Contains-head b ids)) in
    absurd (pairs_head (λ (x : List ℕ) (y : List ℕ). x ≢ y) a (b ∷ ids) are.once b (Contains-head b ids)
    (sym first.2 ∙ ap (λ (x : Admitted). txid_of x.tx) (sym (only_one p first.0 first.1) ∙ only_one p second.0 second.1) ∙ second.2))
many_outside entries tx vsize (p ∷ q ∷ rest) a b ids are = refl

-- the same of ids of which the first is known, or that there is none
pub none_first : (these : List Admitted) (ids : List (List ℕ)) → slice_get ids 0 ≡ None → AreIdsOf ids these → these ≡ []
none_first these [] first are = none_are these are
none_first these (x ∷ rest) first are = absurd (let f : Some x ≡ None = first in cc)

pub one_first : (these : List Admitted) (ids : List (List ℕ)) (id : List ℕ) → AllPairs DifferById these → slice_get ids 0 ≡ Some id → length ids ≤ 1 → AreIdsOf ids these → (p : Admitted) × (these ≡ p ∷ []) × (txid_of p.tx ≡ id)
one_first these [] id distinct first few are = absurd (let f : None ≡ Some id = first in cc)
one_first these (x ∷ []) id distinct first few are =
    let same : x ≡ id = let f : Some x ≡ Some id = first in cc in
    one_is these id distinct (subst (λ (y : List ℕ). AreIdsOf (y ∷ []) these) same are)
one_first these (x ∷ y ∷ rest) id distinct first few are = absurd (omega (arith, few))

pub first_is_entry : (entries : List Admitted) (test : Admitted → Bool) (ids : List (List ℕ)) (id : List ℕ) → slice_get ids 0 ≡ Some id → AreIdsOf ids (filter test entries) → IsEntry entries id
first_is_entry entries test [] id first are = absurd (let f : None ≡ Some id = first in cc)
first_is_entry entries test (x ∷ rest) id first are =
    let same : x ≡ id = let f : Some x ≡ Some id = first in cc in
    let w = are.only x (Contains-head x rest) in
    (w.0, Contains-from_filter test entries w.0 w.1, w.2 ∙ same)

pub more_outside : (entries : List Admitted) (tx : Tx) (vsize : ℕ) (these : List Admitted) (ids : List (List ℕ)) → 1 < length ids → AreIdsOf ids these → is_outside entries tx vsize these ≡ true
more_outside entries tx vsize these [] more are = absurd (omega (arith, more))
more_outside entries tx vsize these (a ∷ []) more are = absurd (omega (arith, more))
more_outside entries tx vsize these (a ∷ b ∷ rest) more are = many_outside entries tx vsize these a b rest are

-- the rest of what one alone is asked
pub outside_alone : (entries : List Admitted) (tx : Tx) (vsize : ℕ) (these : List Admitted) → these ≡ [] → is_outside entries tx vsize these ≡ nat_lt truc_size vsize
outside_alone entries tx vsize these none = ap (is_outside entries tx vsize) none

pub outside_below : (entries : List Admitted) (tx : Tx) (vsize : ℕ) (these : List Admitted) (p : Admitted) (id : List ℕ) → these ≡ p ∷ [] → txid_of p.tx ≡ id
    → is_outside entries tx vsize these ≡ (nat_lt truc_child_size vsize || is_taken entries tx id)
outside_below entries tx vsize these p id is same = ap (is_outside entries tx vsize) is ∙ ap (λ (x : List ℕ). nat_lt truc_child_size vsize || is_taken entries tx x) same

pub large_outside : (entries : List Admitted) (tx : Tx) (vsize : ℕ) (these : List Admitted) (p : Admitted) (id : List ℕ) → these ≡ p ∷ [] → txid_of p.tx ≡ id → truc_child_size < vsize → is_outside entries tx vsize these ≡ true
large_outside entries tx vsize these p id is same large = outside_below entries tx vsize these p id is same ∙ ap (λ b. b || is_taken entries tx id) (above_yes truc_child_size vsize large)

pub small_outside : (entries : List Admitted) (tx : Tx) (vsize : ℕ) (these : List Admitted) (p : Admitted) (id : List ℕ) → these ≡ p ∷ [] → txid_of p.tx ≡ id → vsize ≤ truc_child_size → is_outside entries tx vsize these ≡ is_taken entries tx id
small_outside entries tx vsize these p id is same small = outside_below entries tx vsize these p id is same ∙ ap (λ b. b || is_taken entries tx id) (above_no truc_child_size vsize small)

-- ---- who evicts

pub evicts_if_truc : (policy : Policy) (entries : List Admitted) (tx : Tx) → policy.standards.truc ≡ true → is_truc tx ≡ true → sibling_of First policy entries tx ≡ sibling_among entries tx (ancestors_above entries tx.inputs)
evicts_if_truc policy entries tx on own =
    ap (λ b. if b && is_truc tx then sibling_among entries tx (ancestors_above entries tx.inputs) else None) on
    ∙ ap (λ b. if b then sibling_among entries tx (ancestors_above entries tx.inputs) else None) own

pub evicts_none_without : (policy : Policy) (entries : List Admitted) (tx : Tx) → policy.standards.truc ≡ false → sibling_of First policy entries tx ≡ None
evicts_none_without policy entries tx off = ap (λ b. if b && is_truc tx then sibling_among entries tx (ancestors_above entries tx.inputs) else None) off

pub evicts_none_else : (policy : Policy) (entries : List Admitted) (tx : Tx) → is_truc tx ≡ false → sibling_of First policy entries tx ≡ None
evicts_none_else policy entries tx other =
    ap (λ b. if policy.standards.truc && b then sibling_among entries tx (ancestors_above entries tx.inputs) else None) other
    ∙ ap (λ b. if b then sibling_among entries tx (ancestors_above entries tx.inputs) else None) (and-false policy.standards.truc)

-- the sibling by the number of ancestors
pub sibling_of_none : (entries : List Admitted) (tx : Tx) (these : List Admitted) → these ≡ [] → sibling_among entries tx these ≡ None
sibling_of_none entries tx these none = ap (sibling_among entries tx) none

pub sibling_of_many : (entries : List Admitted) (tx : Tx) (these : List Admitted) → 1 < length these → sibling_among entries tx these ≡ None
sibling_of_many entries tx [] many = refl
sibling_of_many entries tx (p ∷ []) many = absurd (omega (arith, many))
sibling_of_many entries tx (p ∷ q ∷ rest) many = refl

pub sibling_of_one : (entries : List Admitted) (tx : Tx) (these : List Admitted) (p : Admitted) (id : List ℕ) → these ≡ p ∷ [] → txid_of p.tx ≡ id → sibling_among entries tx these ≡ sibling_below entries tx id
sibling_of_one entries tx these p id is same = ap (sibling_among entries tx) is ∙ ap (sibling_below entries tx) same
