-- Families of version 3 stay small where a transaction enters that A47 lets pass.
use Rattle.std.proofs.Common.{◌≡◌, ◌≢◌, ◌≤◌, ◌+◌, ℕ, Bool, true, false, not, ◌&&◌, List, [], ◌∷◌, length, get_or, Option, Some, None, refl, sym, ap, ◌∙◌, subst, arith, ⊎_elim, if◌then◌else◌}
use Rattle.std.specs.Prelude.{Contains, filter, nat_lt, is_none}
use Rattle.std.specs.List.{AllPairs, list_any}
use Rattle.std.specs.Cmp.Lexicographic.{bytes_decides}
use Rattle.std.proofs.lemmas.Bool.{true≢false, not-false, and_cases, or_left, or_right, or_parts, ltb-false, cases_Bool}
use Rattle.std.proofs.lemmas.List.Elements.{All-append, All-contains, Contains-get_or, Contains-push_cases, filter_passes}
use Rattle.gate_bytes.specs.Order.{NoneFails}
use Rattle.gate_bytes.proofs.Members.{Contains-cons_cases, Contains-head, any_is, list_any_of, not_in_none}
use Rattle.gate_tx.specs.declared.TxIn.{TxIn}
use Rattle.gate_tx.specs.Ids.{txid_of}
use Rattle.gate_tx.specs.Tx.{Tx}
use Rattle.gate_graph.specs.Family.{reaches}
use Rattle.gate_graph.proofs.Reaching.{reaches-same, reaches_step, reaches_trans}
use Rattle.gate_standard.specs.Rules.{is_truc}
use Rattle.gate_pool.specs.Pool.{Admitted, has_txid}
use Rattle.gate_pool.specs.Counting.{is_sibling, is_counted, entered_beside}
use Rattle.gate_pool.specs.Family.{names, steps, is_below_some, is_conflict, conflicts_of, ancestors_of, descendants_of, ancestors_above}
use Rattle.gate_pool.proofs.Adding.{DifferById}
use Rattle.gate_pool.proofs.Entries.{Id}
use Rattle.gate_pool.proofs.Walking.{Contains-filter, Contains-from_filter}
use Rattle.gate_admit.specs.declared.attempt.Attempt.TheVariants.{First}
use Rattle.gate_admit.specs.Limits.{limit_rules}
use Rattle.gate_admit.specs.Policies.{Policy}
use Rattle.gate_admit.specs.Truc.{IsKin, TrucHolds, breaks_family, breaks_truc, evictable, has_conflict_below, is_of_other_kind, is_only_child, is_outside, is_taken, others_below, sibling_below, sibling_of, truc_child_size, truc_size}
use Rattle.gate_admit.proofs.Childless.{IsChildless, above_new, left_by, left_within, reached_before, reached_from_new, sum_above_new, sum_above_old, sum_below_apart, sum_below_new, sum_below_old}
use Rattle.gate_admit.proofs.Evicting.{second_false}
use Rattle.gate_admit.proofs.Filtering.{length_ones}
use Rattle.gate_admit.proofs.Kinship.{below_and_itself, evicts_if_truc, only_one, sibling_of_one, the_one}
use Rattle.gate_admit.proofs.Lists.{All-one, none_pass}
use Rattle.gate_admit.proofs.Staying.{named_step}

-- ---- versions

-- two of one kind
same_kind : (tx : Tx) (a : Admitted) → is_of_other_kind tx a ≡ false → is_truc a.tx ≡ is_truc tx
same_kind tx a h = go (is_truc tx) h
  where
    go : (b : Bool) → (if b then not (is_truc a.tx) else is_truc a.tx) ≡ false → is_truc a.tx ≡ b
    go true k = not-false _ k
    go false k = k

-- an entry is of its own kind
own_kind : (e : Admitted) → is_of_other_kind e.tx e ≡ false
own_kind e = go (is_truc e.tx)
  where
    go : (b : Bool) → (if b then not b else b) ≡ false
    go true = refl
    go false = refl

-- ---- what A47 lets pass

-- a transaction of version 3 is small and has few ancestors; it is smaller where it has one, and that one has a place for it
record IsInside (entries : List Admitted) (tx : Tx) (vsize : ℕ) (above : List Admitted) : Type 0 where
  pub few : length above ≤ 1
  pub small : vsize ≤ truc_size
  pub child : 1 ≤ length above → vsize ≤ truc_child_size
  pub free : (p : Admitted) → Contains above p → is_taken entries tx (txid_of p.tx) ≡ false

larger : (vsize : ℕ) → vsize ≤ 1000 → vsize ≤ 10000
larger vsize h = omega (arith, h)

inside : (entries : List Admitted) (tx : Tx) (vsize : ℕ) (above : List Admitted) → is_outside entries tx vsize above ≡ false → IsInside entries tx vsize above
inside entries tx vsize [] h = record { few = omega arith; small = ltb-false truc_size vsize h; child = λ l. absurd (omega (arith, l)); free = λ p m. not_in_none p m }
inside entries tx vsize (p ∷ []) h =
    let parts = or_parts (nat_lt truc_child_size vsize) (is_taken entries tx (txid_of p.tx)) h in
    let light : vsize ≤ 1000 = ltb-false truc_child_size vsize parts.0 in
    record {
      few = omega arith;
      small = larger vsize light;
      child = λ l. light;
      free = λ q m. subst (λ (x : Admitted). is_taken entries tx (txid_of x.tx) ≡ false) (⊎_elim (λ (k : p ≡ q). k) (λ k. not_in_none q k) (Contains-cons_cases p [] q m)) parts.1;
    }
inside entries tx vsize (p ∷ q ∷ rest) h = absurd (true≢false h)

pub keeps_truc : (policy : Policy) (entries : List Admitted) (tx : Tx) (vsize : ℕ) → NoneFails (limit_rules First policy entries tx vsize) → breaks_truc First policy entries tx vsize ≡ false
unfolding limit_rules
keeps_truc policy entries tx vsize h = h.1.0

-- ---- a place below an entry

-- with one more below it an entry has two descendants at most, itself among them, since some of what is below it goes
record IsFreed (entries : List Admitted) (sibling : Option (List ℕ)) (e : Admitted) (b : Id) : Type 0 where
  pub gone : Admitted → Bool
  pub under : (a : Admitted) → Contains entries a → gone a ≡ true → reaches (steps entries) b (txid_of a.tx) ≡ true
  pub goes : (a : Admitted) → Contains entries a → gone a ≡ true → is_below_some (is_counted sibling e.tx) entries a ≡ true
  pub count : length (descendants_of entries b) ≤ 1 + length (filter gone entries)

some_member : (xs : List Admitted) (x : Admitted) → Contains xs x → 1 ≤ length xs
some_member xs x m = let l = m.1 in omega arith

-- nothing else is below it
freed_alone : (entries : List Admitted) (sibling : Option (List ℕ)) (e : Admitted) (b : Id) → length (descendants_of entries b) ≤ 1 → IsFreed entries sibling e b
freed_alone entries sibling e b few = record {
  gone = λ a. false;
  under = λ a m t. absurd (true≢false (sym t));
  goes = λ a m t. absurd (true≢false (sym t));
  count = omega (arith, few);
}

-- one that counts as a direct conflict is below it
freed_by : (entries : List Admitted) (sibling : Option (List ℕ)) (e s : Admitted) (b : Id) → Contains entries s → is_counted sibling e.tx s ≡ true → reaches (steps entries) b (txid_of s.tx) ≡ true
    → length (descendants_of entries b) ≤ 2 → IsFreed entries sibling e b
freed_by entries sibling e s b m counts above few =
    let itself = some_member (descendants_of entries (txid_of s.tx)) s (Contains-filter (λ (a : Admitted). reaches (steps entries) (txid_of s.tx) (txid_of a.tx)) entries s m (reaches-same (steps entries) (txid_of s.tx))) in
    record {
      gone = λ a. reaches (steps entries) (txid_of s.tx) (txid_of a.tx);
      under = λ a k r. reaches_trans (steps entries) b (txid_of s.tx) (txid_of a.tx) above r;
      goes = λ a k r. below_it a r;
      count = omega (arith, few, itself);
    }
  where
    below_it : (a : Admitted) → reaches (steps entries) (txid_of s.tx) (txid_of a.tx) ≡ true → is_below_some (is_counted sibling e.tx) entries a ≡ true
    below_it a r = list_any_of (λ (x : Admitted). is_counted sibling e.tx x && reaches (steps entries) (txid_of x.tx) (txid_of a.tx)) entries s m (ap (λ b. b && reaches (steps entries) (txid_of s.tx) (txid_of a.tx)) counts ∙ r)

module _ (entries : List Admitted) (e : Admitted) (distinct : AllPairs DifferById entries) (p : Admitted) (m : Contains entries p) (few : length (descendants_of entries (txid_of p.tx)) ≤ 2) where
  abbrev others : List Admitted
  others = others_below entries (txid_of p.tx)

  by_none : (sibling : Option (List ℕ)) → nat_lt 0 (length others) ≡ false → IsFreed entries sibling e (txid_of p.tx)
  by_none sibling none = freed_alone entries sibling e (txid_of p.tx) (omega (arith, ltb-false 0 (length others) none, below_and_itself entries (txid_of p.tx) distinct (p, m, refl)))

  by_child : (sibling : Option (List ℕ)) → has_conflict_below entries e.tx (txid_of p.tx) ≡ true → IsFreed entries sibling e (txid_of p.tx)
  by_child sibling conflict =
      let w = any_is (λ (c : Admitted). names c (txid_of p.tx)) (conflicts_of entries e.tx) conflict in
      let member : Contains entries w.0 = Contains-from_filter (is_conflict e.tx) entries w.0 w.1 in
      let rival : is_conflict e.tx w.0 ≡ true = All-contains (λ (x : Admitted). is_conflict e.tx x ≡ true) (conflicts_of entries e.tx) w.0 (filter_passes (is_conflict e.tx) entries) w.1 in
      freed_by entries sibling e w.0 (txid_of p.tx) member (or_right (is_sibling sibling w.0) (is_conflict e.tx w.0) rival)
      (reaches_step (steps entries) (txid_of p.tx) (txid_of w.0.tx) (named_step entries w.0 (txid_of p.tx) member w.2)) few

  by_only : (s : Admitted) → others ≡ s ∷ [] → IsFreed entries (Some (txid_of s.tx)) e (txid_of p.tx)
  by_only s is =
      let under : Admitted → Bool = λ x. reaches (steps entries) (txid_of p.tx) (txid_of x.tx) in
      let among : Contains others s = subst (λ (l : List Admitted). Contains l s) (sym is) (Contains-head s []) in
      let below : Contains (descendants_of entries (txid_of p.tx)) s = Contains-from_filter (λ (x : Admitted). not (has_txid x (txid_of p.tx))) (descendants_of entries (txid_of p.tx)) s among in
      freed_by entries (Some (txid_of s.tx)) e s (txid_of p.tx) (Contains-from_filter under entries s below)
      (or_left (has_txid s (txid_of s.tx)) (is_conflict e.tx s) ((bytes_decides (txid_of s.tx) (txid_of s.tx)).1 refl))
      (All-contains (λ (x : Admitted). under x ≡ true) (descendants_of entries (txid_of p.tx)) s (filter_passes under entries) below) few

  by_other : (below : List Admitted) → others ≡ below → is_none (evictable entries below) ≡ false → IsFreed entries (evictable entries below) e (txid_of p.tx)
  by_other [] is some = absurd (true≢false some)
  by_other (s ∷ t ∷ rest) is some = absurd (true≢false some)
  by_other (s ∷ []) is some = go (is_only_child entries (txid_of s.tx)) some
    where
      go : (b : Bool) → is_none (if b then Some (txid_of s.tx) else None) ≡ false → IsFreed entries (if b then Some (txid_of s.tx) else None) e (txid_of p.tx)
      go true k = by_only s is
      go false k = absurd (true≢false k)

  -- a place that isn't taken is free once the sibling is gone, if there is one
  freed : is_taken entries e.tx (txid_of p.tx) ≡ false → IsFreed entries (sibling_below entries e.tx (txid_of p.tx)) e (txid_of p.tx)
  freed free = go (has_conflict_below entries e.tx (txid_of p.tx)) refl free
    where
      go : (b : Bool) → has_conflict_below entries e.tx (txid_of p.tx) ≡ b → (nat_lt 0 (length others) && (not b && is_none (evictable entries others))) ≡ false
          → IsFreed entries (if b then None else evictable entries others) e (txid_of p.tx)
      go true conflict k = by_child None conflict
      go false apart k =
          ⊎_elim (λ (none : nat_lt 0 (length others) ≡ false). by_none (evictable entries others) none) (λ (some : is_none (evictable entries others) ≡ false). by_other others refl some)
          (and_cases (nat_lt 0 (length others)) (is_none (evictable entries others)) k)

-- ---- the newcomer, and what it joins

module _ (policy : Policy) (entries : List Admitted) (e : Admitted) (distinct : AllPairs DifferById entries) (h : IsChildless entries e) (kin : TrucHolds entries) (on : policy.standards.truc ≡ true) (keeps : breaks_truc First policy entries e.tx e.vsize ≡ false) where
  abbrev ancestors : List Admitted
  ancestors = ancestors_above entries e.tx.inputs

  abbrev sibling : Option (List ℕ)
  sibling = sibling_of First policy entries e.tx

  abbrev left : List Admitted
  left = left_by entries sibling e

  abbrev after : List Admitted
  after = entered_beside entries sibling e

  parts : (list_any (is_of_other_kind e.tx) ancestors ≡ false) × ((is_truc e.tx && is_outside entries e.tx e.vsize ancestors) ≡ false)
  parts = or_parts (list_any (is_of_other_kind e.tx) ancestors) (is_truc e.tx && is_outside entries e.tx e.vsize ancestors) (second_false policy.standards.truc (breaks_family entries e.tx e.vsize) on keeps)

  alike_above : (a : Admitted) → Contains ancestors a → is_of_other_kind e.tx a ≡ false
  alike_above a m = All-contains (λ (x : Admitted). is_of_other_kind e.tx x ≡ false) ancestors a (none_pass (is_of_other_kind e.tx) ancestors parts.0) m

  inside_of : is_truc e.tx ≡ true → IsInside entries e.tx e.vsize ancestors
  inside_of own = inside entries e.tx e.vsize ancestors (second_false (is_truc e.tx) (is_outside entries e.tx e.vsize ancestors) own parts.1)

  -- what is above it in the new pool was above what its inputs name
  above_before : (a : Admitted) → Contains entries a → reaches (steps after) (txid_of a.tx) (txid_of e.tx) ≡ true → Contains ancestors a
  above_before a m r = Contains-filter (λ (x : Admitted). list_any (λ (i : TxIn). reaches (steps entries) (txid_of x.tx) i.prevout.txid) e.tx.inputs) entries a m (above_new sibling h a m r)

  -- below an ancestor of version 3 there is a place for it: that is its only ancestor, and of version 3 as it is itself
  freed_above : (a : Admitted) → Contains entries a → Contains ancestors a → is_truc a.tx ≡ true → IsFreed entries sibling e (txid_of a.tx)
  freed_above a member m truc =
      let own : is_truc e.tx ≡ true = sym (same_kind e.tx a (alike_above a m)) ∙ truc in
      let w : IsInside entries e.tx e.vsize ancestors = inside_of own in
      let was : IsKin entries a = All-contains (IsKin entries) entries a kin member in
      let one = the_one ancestors (omega (arith, w.few, some_member ancestors a m)) in
      let same : txid_of one.0.tx ≡ txid_of a.tx = ap (λ (x : Admitted). txid_of x.tx) (only_one one.0 a (subst (λ (l : List Admitted). Contains l a) one.1 m)) in
      subst (λ (s : Option (List ℕ)). IsFreed entries s e (txid_of a.tx)) (sym (evicts_if_truc policy entries e.tx on own ∙ sibling_of_one entries e.tx ancestors one.0 (txid_of a.tx) one.1 same))
      (freed entries e distinct a member (was.below truc) (w.free a m))

  -- ---- what stays

  -- what is above it now was above it
  above_old : (a : Admitted) → Contains entries a → (b : Admitted) → Contains (ancestors_of after (txid_of a.tx)) b → Contains (ancestors_of entries (txid_of a.tx)) b
  above_old a member b m =
      let test : Admitted → Bool = λ x. reaches (steps after) (txid_of x.tx) (txid_of a.tx) in
      let reached : test b ≡ true = All-contains (λ (x : Admitted). test x ≡ true) (ancestors_of after (txid_of a.tx)) b (filter_passes test after) m in
      ⊎_elim
      (λ (k : Contains left b). Contains-filter (λ (x : Admitted). reaches (steps entries) (txid_of x.tx) (txid_of a.tx)) entries b (left_within entries sibling e b k) (reached_before sibling h (txid_of b.tx) (txid_of a.tx) (h.new a member) reached))
      (λ (same : e ≡ b). absurd (h.new a member (reached_from_new sibling h (txid_of a.tx) (subst (λ (x : Admitted). reaches (steps after) (txid_of x.tx) (txid_of a.tx) ≡ true) (sym same) reached))))
      (Contains-push_cases left e b (Contains-from_filter test after b m))

  fewer_above : (a : Admitted) → Contains entries a → length (ancestors_of after (txid_of a.tx)) ≤ length (ancestors_of entries (txid_of a.tx))
  fewer_above a member = omega (arith, sum_above_old sibling h (λ (x : Admitted). 1) (txid_of a.tx) (h.new a member), length_ones (ancestors_of after (txid_of a.tx)), length_ones (ancestors_of entries (txid_of a.tx)))

  few_below : (a : Admitted) → Contains entries a → is_truc a.tx ≡ true → length (descendants_of after (txid_of a.tx)) ≤ 2
  few_below a member truc =
      let was : IsKin entries a = All-contains (IsKin entries) entries a kin member in
      let x = txid_of a.tx in
      ⊎_elim
      (λ (r : reaches (steps after) x (txid_of e.tx) ≡ true).
      let w = freed_above a member (above_before a member r) truc in
      omega (arith, w.count, sum_below_old sibling h (λ (y : Admitted). 1) x w.gone w.under w.goes, length_ones (descendants_of after x), length_ones (descendants_of entries x), length_ones (filter w.gone entries)))
      (λ (r : reaches (steps after) x (txid_of e.tx) ≡ false).
      omega (arith, was.below truc, sum_below_apart sibling h (λ (y : Admitted). 1) x r, length_ones (descendants_of after x), length_ones (descendants_of entries x)))
      (cases_Bool (reaches (steps after) x (txid_of e.tx)))

  kin_old : (a : Admitted) → Contains left a → IsKin after a
  kin_old a stays =
      let member : Contains entries a = left_within entries sibling e a stays in
      let was : IsKin entries a = All-contains (IsKin entries) entries a kin member in
      let x = txid_of a.tx in
      record {
        alike = λ n d l.
            All-contains (λ (y : Admitted). is_of_other_kind a.tx y ≡ false) (ancestors_of entries x) (get_or (ancestors_of after x) n d) was.alike
            (above_old a member (get_or (ancestors_of after x) n d) (Contains-get_or (ancestors_of after x) n d l));
        above = λ own. omega (arith, was.above own, fewer_above a member);
        below = λ own. few_below a member own;
        small = was.small;
        child = λ own more. was.child own (omega (arith, more, fewer_above a member));
      }

  -- ---- what enters

  alike_new : (b : Admitted) → Contains (ancestors_of after (txid_of e.tx)) b → is_of_other_kind e.tx b ≡ false
  alike_new b m =
      let test : Admitted → Bool = λ x. reaches (steps after) (txid_of x.tx) (txid_of e.tx) in
      let reached : test b ≡ true = All-contains (λ (x : Admitted). test x ≡ true) (ancestors_of after (txid_of e.tx)) b (filter_passes test after) m in
      ⊎_elim (λ (k : Contains left b). alike_above b (above_before b (left_within entries sibling e b k) reached)) (λ (same : e ≡ b). subst (λ (x : Admitted). is_of_other_kind e.tx x ≡ false) same (own_kind e))
      (Contains-push_cases left e b (Contains-from_filter test after b m))

  more_above : length (ancestors_of after (txid_of e.tx)) ≤ length ancestors + 1
  more_above = omega (arith, sum_above_new sibling h (λ (x : Admitted). 1), length_ones (ancestors_of after (txid_of e.tx)), length_ones ancestors)

  kin_new : IsKin after e
  kin_new = record {
    alike = λ n d l. alike_new (get_or (ancestors_of after (txid_of e.tx)) n d) (Contains-get_or (ancestors_of after (txid_of e.tx)) n d l);
    above = λ own. omega (arith, (inside_of own).few, more_above);
    below = λ own. omega (arith, sum_below_new sibling h (λ (x : Admitted). 1), length_ones (descendants_of after (txid_of e.tx)));
    small = λ own. (inside_of own).small;
    child = λ own more. (inside_of own).child (omega (arith, more, more_above));
  }

  pub entered_small : TrucHolds after
  entered_small = All-append (IsKin after) left (e ∷ []) (λ n d l. kin_old (get_or left n d) (Contains-get_or left n d l)) (All-one (IsKin after) e kin_new)
