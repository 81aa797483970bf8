-- The sibling that is evicted: no ancestor of the newcomer, and one whose place is room enough for it.
use Rattle.std.proofs.Common.{◌≡◌, ◌≤◌, ◌+◌, ℕ, Bool, true, false, not, cond, ◌&&◌, List, [], ◌∷◌, Option, Some, None, refl, sym, ap, ◌∙◌, subst, arith, ⊎_elim, if◌then◌else◌}
use Rattle.std.specs.Prelude.{Contains, filter}
use Rattle.std.specs.List.{AllPairs}
use Rattle.std.specs.Cmp.Lexicographic.{bytes_decides}
use Rattle.std.proofs.lemmas.Bool.{true≢false, false_from_ne_true, and_parts, or_parts, not-true, ltb-false}
use Rattle.std.proofs.lemmas.List.Elements.{All-contains, filter_passes}
use Rattle.std.proofs.lemmas.List.Kept.{AllPairs-filter}
use Rattle.std.proofs.lemmas.List.Sums.{sum_by-cons}
use Rattle.gate_bytes.specs.Order.{NoneFails}
use Rattle.gate_bytes.proofs.Members.{Contains-cons_cases, Contains-head, Contains-rest, not_in_none}
use Rattle.gate_tx.specs.Ids.{txid_of}
use Rattle.gate_tx.specs.Tx.{Tx}
use Rattle.gate_chain.specs.History.{History}
use Rattle.gate_graph.specs.Family.{reaches}
use Rattle.gate_graph.proofs.Reaching.{reaches-same}
use Rattle.gate_standard.specs.Rules.{is_truc}
use Rattle.gate_pool.specs.Pool.{Admitted, has_txid, size_of}
use Rattle.gate_pool.specs.Counting.{is_sibling}
use Rattle.gate_pool.specs.Family.{steps, ancestors_above, descendants_of}
use Rattle.gate_pool.proofs.Adding.{pairs_head, pairs_tail}
use Rattle.gate_pool.proofs.Walking.{Contains-filter, Contains-from_filter}
use Rattle.gate_admit.specs.declared.attempt.Attempt.TheVariants.{First}
use Rattle.gate_admit.specs.Good.{IsSound}
use Rattle.gate_admit.specs.Limits.{limit_rules}
use Rattle.gate_admit.specs.Policies.{Policy}
use Rattle.gate_admit.specs.Truc.{breaks_family, evictable, has_conflict_below, is_only_child, is_outside, others_below, sibling_among, sibling_of}
use Rattle.gate_admit.proofs.Removing.{DifferByTxid}
use Rattle.gate_admit.proofs.Rooms.{HasRoomBeside}

-- ---- which entry it is

-- a transaction of version 3 has one ancestor, which has one descendant beside itself, of this id
pub record IsEvicted (policy : Policy) (entries : List Admitted) (tx : Tx) (txid : List ℕ) : Type 0 where
  pub standard : (policy.standards.truc && is_truc tx) ≡ true
  pub parent : Admitted
  pub above : ancestors_above entries tx.inputs ≡ parent ∷ []
  pub other : Admitted
  pub below : others_below entries (txid_of parent.tx) ≡ other ∷ []
  pub is : txid_of other.tx ≡ txid

module _ (policy : Policy) (entries : List Admitted) (tx : Tx) (txid : List ℕ) where
  only_child : (b : Bool) (s : Admitted) → (if b then Some (txid_of s.tx) else None) ≡ Some txid → txid_of s.tx ≡ txid
  only_child true s k = cc
  only_child false s k = cc

  evicts_below : (standard : (policy.standards.truc && is_truc tx) ≡ true) (p : Admitted) → ancestors_above entries tx.inputs ≡ p ∷ [] → (b : Bool) (below : List Admitted) → others_below entries (txid_of p.tx) ≡ below
      → (if b then None else evictable entries below) ≡ Some txid → IsEvicted policy entries tx txid
  evicts_below standard p above true below is k = cc
  evicts_below standard p above false [] is k = cc
  evicts_below standard p above false (s ∷ t ∷ rest) is k = cc
  evicts_below standard p above false (s ∷ []) is k =
      record { standard = standard; parent = p; above = above; other = s; below = is; is = only_child (is_only_child entries (txid_of s.tx)) s k }

  evicts_among : (standard : (policy.standards.truc && is_truc tx) ≡ true) (above : List Admitted) → ancestors_above entries tx.inputs ≡ above → sibling_among entries tx above ≡ Some txid → IsEvicted policy entries tx txid
  evicts_among standard [] is k = cc
  evicts_among standard (p ∷ q ∷ rest) is k = cc
  evicts_among standard (p ∷ []) is k = evicts_below standard p is (has_conflict_below entries tx (txid_of p.tx)) (others_below entries (txid_of p.tx)) refl k

  evicts_by : (b : Bool) → (policy.standards.truc && is_truc tx) ≡ b → (if b then sibling_among entries tx (ancestors_above entries tx.inputs) else None) ≡ Some txid → IsEvicted policy entries tx txid
  evicts_by true standard k = evicts_among standard (ancestors_above entries tx.inputs) refl k
  evicts_by false standard k = cc

  pub evicted : sibling_of First policy entries tx ≡ Some txid → IsEvicted policy entries tx txid
  evicted k = evicts_by (policy.standards.truc && is_truc tx) refl k

-- the only ancestor is its parent
parent_is : {policy : Policy} {entries : List Admitted} {tx : Tx} {txid : List ℕ} (w : IsEvicted policy entries tx txid) (a : Admitted) → Contains (ancestors_above entries tx.inputs) a → w.parent ≡ a
parent_is w a m = ⊎_elim (λ (k : w.parent ≡ a). k) (λ k. not_in_none a k) (Contains-cons_cases w.parent [] a (subst (λ (l : List Admitted). Contains l a) w.above m))

-- what is evicted is below its parent, and another entry
pub other_below : {policy : Policy} {entries : List Admitted} {tx : Tx} {txid : List ℕ} (w : IsEvicted policy entries tx txid) → Contains (others_below entries (txid_of w.parent.tx)) w.other
other_below w = subst (λ (l : List Admitted). Contains l w.other) (sym w.below) (Contains-head w.other [])

other_apart : {policy : Policy} {entries : List Admitted} {tx : Tx} {txid : List ℕ} (w : IsEvicted policy entries tx txid) → has_txid w.other (txid_of w.parent.tx) ≡ false
other_apart {entries = entries} w =
    let test : Admitted → Bool = λ x. not (has_txid x (txid_of w.parent.tx)) in
    not-true _ (All-contains (λ (x : Admitted). test x ≡ true) (others_below entries (txid_of w.parent.tx)) w.other (filter_passes test (descendants_of entries (txid_of w.parent.tx))) (other_below w))

-- no ancestor of a transaction is the sibling that it evicts
pub no_ancestor : (policy : Policy) (entries : List Admitted) (tx : Tx) (a : Admitted) → Contains (ancestors_above entries tx.inputs) a → is_sibling (sibling_of First policy entries tx) a ≡ false
no_ancestor policy entries tx a m = go (sibling_of First policy entries tx) refl
  where
    go : (sibling : Option (List ℕ)) → sibling_of First policy entries tx ≡ sibling → is_sibling sibling a ≡ false
    go None k = refl
    go (Some txid) k = false_from_ne_true _ (λ named.
        let w = evicted policy entries tx txid k in
        let same : txid_of w.other.tx ≡ txid_of w.parent.tx = w.is ∙ sym ((bytes_decides (txid_of a.tx) txid).0 named) ∙ sym (ap (λ (x : Admitted). txid_of x.tx) (parent_is w a m)) in
        true≢false (sym ((bytes_decides (txid_of w.other.tx) (txid_of w.parent.tx)).1 same) ∙ other_apart w))

-- ---- sizes

member_size : (xs : List Admitted) (x : Admitted) → Contains xs x → x.vsize ≤ size_of xs
member_size [] x m = not_in_none x m
member_size (y ∷ xs) x m =
    ⊎_elim (λ (same : y ≡ x). omega (arith, sum_by-cons (λ (a : Admitted). a.vsize) y xs, ap (λ (a : Admitted). a.vsize) same))
    (λ (k : Contains xs x). omega (arith, sum_by-cons (λ (a : Admitted). a.vsize) y xs, member_size xs x k)) (Contains-cons_cases y xs x m)

-- where all pass, nothing is lost
all_weigh : (k : Admitted → Bool) (xs : List Admitted) → ((x : Admitted) → Contains xs x → k x ≡ true) → size_of xs ≤ size_of (filter k xs)
all_weigh k [] h = omega arith
all_weigh k (x ∷ xs) h = go (k x) (h x (Contains-head x xs)) (all_weigh k xs (λ y m. h y (Contains-rest x xs y m)))
  where
    go : (b : Bool) → b ≡ true → size_of xs ≤ size_of (filter k xs) → size_of (x ∷ xs) ≤ size_of (cond b (x ∷ filter k xs) (filter k xs))
    go true passes ih = omega (arith, ih, sum_by-cons (λ (a : Admitted). a.vsize) x xs, sum_by-cons (λ (a : Admitted). a.vsize) x (filter k xs))
    go false passes ih = absurd (true≢false (sym passes))

-- one id has one entry at most, so without it no more is lost than an entry weighs
but_one : (id : List ℕ) (most : ℕ) (xs : List Admitted) → AllPairs DifferByTxid xs → ((x : Admitted) → Contains xs x → x.vsize ≤ most) → size_of xs ≤ most + size_of (filter (λ (x : Admitted). not (has_txid x id)) xs)
but_one id most [] distinct light = omega arith
but_one id most (x ∷ xs) distinct light = go (has_txid x id) refl (but_one id most xs (pairs_tail DifferByTxid x xs distinct) (λ y m. light y (Contains-rest x xs y m)))
  where
    go : (b : Bool) → has_txid x id ≡ b → size_of xs ≤ most + size_of (filter (λ (y : Admitted). not (has_txid y id)) xs) → size_of (x ∷ xs) ≤ most + size_of (cond (not b) (x ∷ filter (λ (y : Admitted). not (has_txid y id)) xs) (filter (λ (y : Admitted). not (has_txid y id)) xs))
    go true named ih =
        let rest = all_weigh (λ (y : Admitted). not (has_txid y id)) xs (λ y m. ap not (false_from_ne_true _ (λ (same : has_txid y id ≡ true).
        pairs_head DifferByTxid x xs distinct y m ((bytes_decides (txid_of x.tx) id).0 named ∙ sym ((bytes_decides (txid_of y.tx) id).0 same))))) in
        omega (arith, rest, light x (Contains-head x xs), sum_by-cons (λ (a : Admitted). a.vsize) x xs)
    go false named ih =
        omega (
          arith,
          ih,
          sum_by-cons (λ (a : Admitted). a.vsize) x xs,
          sum_by-cons (λ (a : Admitted). a.vsize) x (filter (λ (y : Admitted). not (has_txid y id)) xs),
        )

-- ---- the rule

pub second_false : (a b : Bool) → a ≡ true → (a && b) ≡ false → b ≡ false
second_false true b t h = h
second_false false b t h = absurd (true≢false (sym t))

-- a child of version 3 is small (A47)
child_small : (policy : Policy) (entries : List Admitted) (e : Admitted) (txid : List ℕ) → IsEvicted policy entries e.tx txid → NoneFails (limit_rules First policy entries e.tx e.vsize) → e.vsize ≤ 1000
unfolding limit_rules
child_small policy entries e txid w h =
    let both = and_parts policy.standards.truc (is_truc e.tx) w.standard in
    let keeps : breaks_family entries e.tx e.vsize ≡ false = second_false policy.standards.truc (breaks_family entries e.tx e.vsize) both.0 h.1.0 in
    let inside : is_outside entries e.tx e.vsize (ancestors_above entries e.tx.inputs) ≡ false = second_false (is_truc e.tx) (is_outside entries e.tx e.vsize (ancestors_above entries e.tx.inputs)) both.1 (or_parts _ _ keeps).1 in
    ltb-false _ _ (or_parts _ _ (subst (λ (l : List Admitted). is_outside entries e.tx e.vsize l ≡ false) w.above inside)).0

-- what the newcomer is below has room for it beside the family of its sibling
pub evicted_room : (policy : Policy) (chain : History) (entries : List Admitted) (e : Admitted) → IsSound policy chain entries → NoneFails (limit_rules First policy entries e.tx e.vsize)
    → (a : Admitted) → Contains (ancestors_above entries e.tx.inputs) a → HasRoomBeside policy entries (sibling_of First policy entries e.tx) e a
evicted_room policy chain entries e good h a m = λ s member named. go s member (sibling_of First policy entries e.tx) refl named
  where
    go : (s : Admitted) → Contains entries s → (sibling : Option (List ℕ)) → sibling_of First policy entries e.tx ≡ sibling → is_sibling sibling s ≡ true
        → size_of (descendants_of entries (txid_of a.tx)) + e.vsize ≤ (policy.descendants_size + size_of (descendants_of entries (txid_of s.tx))) + 10000
    go s member None k named = absurd (true≢false (sym named))
    go s member (Some txid) k named =
        let w = evicted policy entries e.tx txid k in
        let parent = ap (λ (x : Admitted). txid_of x.tx) (parent_is w a m) in
        let family = descendants_of entries (txid_of w.parent.tx) in
        let under : Admitted → Bool = λ x. reaches (steps entries) (txid_of w.parent.tx) (txid_of x.tx) in
        let apart : AllPairs DifferByTxid family = AllPairs-filter DifferByTxid under entries good.txids in
        let light : (x : Admitted) → Contains family x → x.vsize ≤ 100000 = λ x n. All-contains (λ (y : Admitted). y.vsize ≤ 100000) entries x good.light (Contains-from_filter under entries x n) in
        let few = but_one (txid_of w.parent.tx) 100000 family apart light in
        let one : size_of (others_below entries (txid_of w.parent.tx)) ≡ w.other.vsize + 0 = ap size_of w.below ∙ sum_by-cons (λ (x : Admitted). x.vsize) w.other [] in
        let there : Contains entries w.other = Contains-from_filter under entries w.other (Contains-from_filter (λ (x : Admitted). not (has_txid x (txid_of w.parent.tx))) family w.other (other_below w)) in
        let same : txid_of s.tx ≡ txid_of w.other.tx = (bytes_decides (txid_of s.tx) txid).0 named ∙ sym w.is in
        let itself = member_size (descendants_of entries (txid_of s.tx)) w.other
        (Contains-filter (λ (x : Admitted). reaches (steps entries) (txid_of s.tx) (txid_of x.tx)) entries w.other there (subst (λ (id : List ℕ). reaches (steps entries) id (txid_of w.other.tx) ≡ true) (sym same) (reaches-same (steps entries) (txid_of w.other.tx)))) in
        omega (arith, ap (λ (id : List ℕ). size_of (descendants_of entries id)) parent, few, one, itself, child_small policy entries e txid w h, good.bounds.descendants_size)
