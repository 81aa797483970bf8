-- What A36 and A40 leave room for: few and small ancestors, and each of them with few and small descendants.
use Rattle.std.proofs.Common.{◌≡◌, ◌≤◌, ◌+◌, ℕ, Bool, true, false, not, ◌&&◌, ◌||◌, List, [], ◌∷◌, length, Option, refl, sym, ◌∙◌, subst, arith, ◌⊎◌, inl, inr, ⊎_elim}
use Rattle.std.specs.Prelude.{Contains, filter, is_some, nat_le, ◌==◌}
use Rattle.std.specs.List.{list_any, list_all}
use Rattle.std.specs.Cmp.Lexicographic.{bytes_decides}
use Rattle.std.proofs.lemmas.Bool.{true≢false, and_parts, and_from, or_cases, or_right, leb-true, eqb-true, not-false}
use Rattle.std.proofs.lemmas.List.Elements.{All-contains, filter_passes}
use Rattle.gate_bytes.specs.Order.{NoneFails}
use Rattle.gate_tx.specs.declared.TxIn.{TxIn}
use Rattle.gate_tx.specs.Ids.{txid_of}
use Rattle.gate_tx.specs.Tx.{Tx}
use Rattle.gate_graph.specs.Family.{reaches, Leads, here, down}
use Rattle.gate_bytes.proofs.Members.{Contains-cons_cases, Contains-head, not_in_none, any_is, list_any_of}
use Rattle.gate_graph.proofs.Reaching.{reaches-same, reaches_trans, reaches_step, Leads_from_reaches}
use Rattle.gate_pool.specs.Pool.{Admitted, has_txid, entry_by_txid, size_of}
use Rattle.gate_pool.specs.Counting.{is_sibling, is_counted, counted_of, replaced_beside}
use Rattle.gate_pool.specs.Family.{names, steps, is_below_some, is_conflict, conflicts_of, ancestors_above, descendants_of}
use Rattle.gate_pool.proofs.Entries.{Id, step_entry}
use Rattle.gate_pool.proofs.Walking.{Contains-filter, Contains-from_filter}
use Rattle.gate_rbf.specs.declared.ParentsOf.{ParentsOf}
use Rattle.gate_rbf.specs.declared.ParentsOf.TheVariants.{Conflicts, Replaced}
use Rattle.gate_rbf.specs.Replacing.{adds_parent, adds_unconfirmed, rules_beside}
use Rattle.gate_rbf.proofs.Conflicting.{is_some-find}
use Rattle.gate_admit.specs.declared.attempt.Attempt.TheVariants.{First}
use Rattle.gate_admit.specs.declared.limits.FamilyLimits.{FamilyLimits}
use Rattle.gate_admit.specs.Policies.{Policy, IsPolicy}
use Rattle.gate_admit.specs.Limits.{grown, usual_limits, carved_out, has_room_below, is_within, limit_rules}
use Rattle.gate_admit.proofs.Filtering.{list_all_of}
use Rattle.gate_admit.proofs.Limited.{HasRoom, HasRoomAbove}
use Rattle.gate_admit.proofs.Lists.{none_pass}
use Rattle.gate_admit.proofs.Staying.{named_step}
use Rattle.gate_standard.specs.declared.Feerate.{Feerate}

-- ---- within limits

record IsWithin (limits : FamilyLimits) (entries above : List Admitted) (vsize : ℕ) : Type 0 where
  pub count : length above + 1 ≤ limits.ancestors
  pub size : (length above ≡ 0) ⊎ (size_of above + vsize ≤ limits.ancestors_size)
  pub room : (a : Admitted) → Contains above a
      → (length (descendants_of entries (txid_of a.tx)) + 1 ≤ limits.descendants) × (size_of (descendants_of entries (txid_of a.tx)) + vsize ≤ limits.descendants_size)

room_of : (limits : FamilyLimits) (entries above : List Admitted) (vsize : ℕ) → list_all (has_room_below limits entries vsize) above ≡ true → (a : Admitted) → Contains above a
    → (length (descendants_of entries (txid_of a.tx)) + 1 ≤ limits.descendants) × (size_of (descendants_of entries (txid_of a.tx)) + vsize ≤ limits.descendants_size)
room_of limits entries above vsize h a m =
    let parts = and_parts _ _ (list_all_of (has_room_below limits entries vsize) above a h m) in
    (leb-true _ _ parts.0, leb-true _ _ parts.1)

within : (limits : FamilyLimits) (entries above : List Admitted) (vsize : ℕ) → is_within limits entries above vsize ≡ true → IsWithin limits entries above vsize
within limits entries above vsize h =
    let parts = and_parts (nat_le (length above + 1) limits.ancestors) _ h in
    let rest = and_parts (length above == 0 || nat_le (size_of above + vsize) limits.ancestors_size) (list_all (has_room_below limits entries vsize) above) parts.1 in
    record {
      count = leb-true _ _ parts.0;
      size = ⊎_elim (λ k. inl (eqb-true _ _ k)) (λ k. inr (leb-true _ _ k)) (or_cases (length above == 0) (nat_le (size_of above + vsize) limits.ancestors_size) rest.0);
      room = room_of limits entries above vsize rest.1;
    }

-- one of the two tries succeeds
tried : (policy : Policy) (entries : List Admitted) (tx : Tx) (vsize : ℕ) → NoneFails (limit_rules First policy entries tx vsize)
    → IsWithin (grown entries (conflicts_of entries tx) (usual_limits policy)) entries (ancestors_above entries tx.inputs) vsize
    ⊎ IsWithin (carved_out (grown entries (conflicts_of entries tx) (usual_limits policy))) entries (ancestors_above entries tx.inputs) vsize
unfolding limit_rules
tried policy entries tx vsize h =
    let above = ancestors_above entries tx.inputs in
    let limits = grown entries (conflicts_of entries tx) (usual_limits policy) in
    ⊎_elim (λ k. inl (within limits entries above vsize k)) (λ k. inr (within (carved_out limits) entries above vsize (and_parts _ _ k).1))
    (or_cases (is_within limits entries above vsize) _ (not-false _ h.0))

-- ---- above

grown_above : (policy : Policy) (entries conflicts : List Admitted) → ((grown entries conflicts (usual_limits policy)).ancestors ≡ policy.ancestors) × ((grown entries conflicts (usual_limits policy)).ancestors_size ≡ policy.ancestors_size)
grown_above policy entries [] = (refl, refl)
grown_above policy entries (c ∷ []) = (refl, refl)
grown_above policy entries (c ∷ d ∷ rest) = (refl, refl)

nothing_above : (above : List Admitted) → length above ≡ 0 → size_of above ≡ 0
nothing_above [] h = refl
nothing_above (a ∷ above) h = absurd (omega (arith, h))

small_above : (above : List Admitted) (vsize limit most : ℕ) → limit ≤ most → vsize ≤ most → (length above ≡ 0) ⊎ (size_of above + vsize ≤ limit) → size_of above + vsize ≤ most
small_above above vsize limit most low small h =
    ⊎_elim (λ (e : length above ≡ 0). omega (arith, nothing_above above e, small)) (λ (k : size_of above + vsize ≤ limit). omega (arith, k, low)) h

-- the ancestors of a transaction are few and small
pub room_above : (policy : Policy) (entries : List Admitted) (e : Admitted) → IsPolicy policy → e.vsize ≤ 100000 → NoneFails (limit_rules First policy entries e.tx e.vsize) → HasRoomAbove policy entries e
room_above policy entries e bounds small h =
    let fits : e.vsize ≤ policy.ancestors_size = omega (arith, small, bounds.ancestors_size) in
    let above = ancestors_above entries e.tx.inputs in
    let limits = grown entries (conflicts_of entries e.tx) (usual_limits policy) in
    let same = grown_above policy entries (conflicts_of entries e.tx) in
    ⊎_elim
    (λ (w : IsWithin limits entries above e.vsize). record { count = omega (arith, w.count, same.0); size = small_above above e.vsize limits.ancestors_size policy.ancestors_size (omega (arith, same.1)) fits w.size })
    (λ (w : IsWithin (carved_out limits) entries above e.vsize). record { count = omega (arith, w.count); size = small_above above e.vsize limits.ancestors_size policy.ancestors_size (omega (arith, same.1)) fits w.size })
    (tried policy entries e.tx e.vsize h)

-- ---- below each of them

-- each ancestor's descendants, with the transaction, are within the limits of one of the tries
room_below : (policy : Policy) (entries : List Admitted) (tx : Tx) (vsize : ℕ) → NoneFails (limit_rules First policy entries tx vsize) → (conflicts : List Admitted) → conflicts_of entries tx ≡ conflicts → (a : Admitted) → Contains (ancestors_above entries tx.inputs) a
    → (length (descendants_of entries (txid_of a.tx)) ≤ (grown entries conflicts (usual_limits policy)).descendants)
    × (size_of (descendants_of entries (txid_of a.tx)) + vsize ≤ (grown entries conflicts (usual_limits policy)).descendants_size + 10000)
room_below policy entries tx vsize h conflicts is a m =
    let above = ancestors_above entries tx.inputs in
    let limits = grown entries (conflicts_of entries tx) (usual_limits policy) in
    subst (λ (cs : List Admitted). (length (descendants_of entries (txid_of a.tx)) ≤ (grown entries cs (usual_limits policy)).descendants) × (size_of (descendants_of entries (txid_of a.tx)) + vsize ≤ (grown entries cs (usual_limits policy)).descendants_size + 10000)) is
    (⊎_elim
    (λ (w : IsWithin limits entries above vsize). let r = w.room a m in (omega (arith, r.0), omega (arith, r.1)))
    (λ (w : IsWithin (carved_out limits) entries above vsize). let r = w.room a m in (omega (arith, r.0), omega (arith, r.1)))
    (tried policy entries tx vsize h))

-- what is reached from an entry is an entry
reached_entry : (entries : List Admitted) {a b : Id} → Leads (steps entries) a b → (a ≡ b) ⊎ ((w : Admitted) × Contains entries w × (txid_of w.tx ≡ b))
reached_entry entries here = inl refl
reached_entry entries (down {a = a} {b = c} s l) =
    ⊎_elim (λ same. let w = step_entry entries a c s in inr (w.entry, w.member, w.child ∙ same)) (λ w. inr w) (reached_entry entries l)

is_entry : (entries : List Admitted) (a : Admitted) (b : Id) → Contains entries a → reaches (steps entries) (txid_of a.tx) b ≡ true → is_some (entry_by_txid entries b) ≡ true
is_entry entries a b m r =
    let w : (w : Admitted) × Contains entries w × (txid_of w.tx ≡ b) = ⊎_elim (λ same. (a, m, same)) (λ w. w) (reached_entry entries (Leads_from_reaches (steps entries) (txid_of a.tx) b r)) in
    is_some-find (λ (x : Admitted). has_txid x b) entries ∙ list_any_of (λ (x : Admitted). has_txid x b) entries w.0 w.1 ((bytes_decides (txid_of w.0.tx) b).1 w.2)

-- a parent in the pool is one of a conflict's too (A40)
shared_parent : (found named : Bool) → (found && not named) ≡ false → found ≡ true → named ≡ true
shared_parent true true h e = refl
shared_parent true false h e = sym h
shared_parent false named h e = absurd (true≢false (sym e))

-- A40, where a transaction conflicts with entries
pub no_parent_added : (rate : Feerate) (entries : List Admitted) (tx : Tx) (direct sharing : List Admitted) (paid fee vsize : ℕ) → NoneFails (rules_beside rate entries direct sharing paid tx fee vsize) → list_any (adds_parent entries sharing) tx.inputs ≡ false
unfolding rules_beside
no_parent_added rate entries tx direct sharing paid fee vsize h = h.1.1.0

-- an ancestor of a transaction is an ancestor of one of those whose parents the transaction may have
above_sharer : (entries : List Admitted) (tx : Tx) (sharing : List Admitted) (a : Admitted) → ((x : Admitted) → Contains sharing x → Contains entries x) → list_any (adds_parent entries sharing) tx.inputs ≡ false
    → Contains (ancestors_above entries tx.inputs) a → (w : Admitted) × Contains sharing w × (reaches (steps entries) (txid_of a.tx) (txid_of w.tx) ≡ true)
above_sharer entries tx sharing a stand none m =
    let test : Admitted → Bool = λ x. list_any (λ (i : TxIn). reaches (steps entries) (txid_of x.tx) i.prevout.txid) tx.inputs in
    let member : Contains entries a = Contains-from_filter test entries a m in
    let i = any_is (λ (i : TxIn). reaches (steps entries) (txid_of a.tx) i.prevout.txid) tx.inputs (All-contains (λ (x : Admitted). test x ≡ true) (filter test entries) a (filter_passes test entries) m) in
    let named = shared_parent _ _ (All-contains (λ (j : TxIn). adds_parent entries sharing j ≡ false) tx.inputs i.0 (none_pass (adds_parent entries sharing) tx.inputs none) i.1)
    (is_entry entries a i.0.prevout.txid member i.2) in
    let w = any_is (λ (x : Admitted). names x i.0.prevout.txid) sharing named in
    let step = named_step entries w.0 i.0.prevout.txid (stand w.0 w.1) w.2 in
    (w.0, w.1, reaches_trans (steps entries) (txid_of a.tx) i.0.prevout.txid (txid_of w.0.tx) i.2 (reaches_step (steps entries) i.0.prevout.txid (txid_of w.0.tx) step))

some_member : {X : Type 0} (xs : List X) (x : X) → Contains xs x → 1 ≤ length xs
some_member xs x m = let l = m.1 in omega arith

-- beside no conflict, or several, the usual limits hold
room_usual : (policy : Policy) (entries : List Admitted) (sibling : Option (List ℕ)) (e : Admitted) (b : Id) → length (descendants_of entries b) ≤ policy.descendants → size_of (descendants_of entries b) + e.vsize ≤ policy.descendants_size + 10000 → HasRoom policy entries sibling e b
room_usual policy entries sibling e b count size = record {
  gone = λ a. false;
  under = λ a m t. absurd (true≢false (sym t));
  goes = λ a m t. absurd (true≢false (sym t));
  count = omega (arith, count);
  size = λ narrow. omega (arith, size);
}

-- beside one conflict they grow, and it goes with its descendants; so does a sibling, beside whose family there is room
room_grown : (policy : Policy) (entries : List Admitted) (sibling : Option (List ℕ)) (e c : Admitted) (b : Id) → Contains entries c → is_counted sibling e.tx c ≡ true → reaches (steps entries) b (txid_of c.tx) ≡ true
    → length (descendants_of entries b) ≤ policy.descendants + 1
    → (policy.parents ≡ Conflicts → size_of (descendants_of entries b) + e.vsize ≤ (policy.descendants_size + size_of (descendants_of entries (txid_of c.tx))) + 10000) → HasRoom policy entries sibling e b
room_grown policy entries sibling e c b m conflicts above count size =
    let itself = some_member (descendants_of entries (txid_of c.tx)) c (Contains-filter (λ (a : Admitted). reaches (steps entries) (txid_of c.tx) (txid_of a.tx)) entries c m (reaches-same (steps entries) (txid_of c.tx))) in
    record {
      gone = λ a. reaches (steps entries) (txid_of c.tx) (txid_of a.tx);
      under = λ a k r. reaches_trans (steps entries) b (txid_of c.tx) (txid_of a.tx) above r;
      goes = λ a k r. list_any_of (λ (x : Admitted). is_counted sibling e.tx x && reaches (steps entries) (txid_of x.tx) (txid_of a.tx)) entries c m (and_from _ _ conflicts r);
      count = omega (arith, count, itself);
      size = λ narrow. omega (arith, size narrow);
    }

never_both : {X : Type 0} → Conflicts ≡ Replaced → X
never_both e = cc

-- where it may have the parents of all that is replaced, one of these at least goes from below each of its ancestors
room_replaced : (policy : Policy) (entries : List Admitted) (sibling : Option (List ℕ)) (e w : Admitted) (b : Id) → policy.parents ≡ Replaced → Contains (replaced_beside entries sibling e.tx) w → reaches (steps entries) b (txid_of w.tx) ≡ true
    → length (descendants_of entries b) ≤ policy.descendants + 1 → HasRoom policy entries sibling e b
room_replaced policy entries sibling e w b wide replaced above count =
    let test : Admitted → Bool = is_below_some (is_counted sibling e.tx) entries in
    let member : Contains entries w = Contains-from_filter test entries w replaced in
    let itself = some_member (descendants_of entries (txid_of w.tx)) w (Contains-filter (λ (a : Admitted). reaches (steps entries) (txid_of w.tx) (txid_of a.tx)) entries w member (reaches-same (steps entries) (txid_of w.tx))) in
    let c = any_is (λ (x : Admitted). is_counted sibling e.tx x && reaches (steps entries) (txid_of x.tx) (txid_of w.tx)) entries (All-contains (λ (x : Admitted). test x ≡ true) (replaced_beside entries sibling e.tx) w (filter_passes test entries) replaced) in
    let parts = and_parts (is_counted sibling e.tx c.0) _ c.2 in
    record {
      gone = λ a. reaches (steps entries) (txid_of w.tx) (txid_of a.tx);
      under = λ a k r. reaches_trans (steps entries) b (txid_of w.tx) (txid_of a.tx) above r;
      goes = λ a k r. list_any_of (λ (x : Admitted). is_counted sibling e.tx x && reaches (steps entries) (txid_of x.tx) (txid_of a.tx)) entries c.0 c.1 (and_from _ _ parts.0 (reaches_trans (steps entries) (txid_of c.0.tx) (txid_of w.tx) (txid_of a.tx) parts.1 r));
      count = omega (arith, count, itself);
      size = λ narrow. never_both (sym narrow ∙ wide);
    }

-- below an ancestor there is room for a transaction once its sibling goes
abbrev pub HasRoomBeside : Policy → List Admitted → Option (List ℕ) → Admitted → Admitted → Type 0
HasRoomBeside policy entries sibling e a = (s : Admitted) → Contains entries s → is_sibling sibling s ≡ true
    → size_of (descendants_of entries (txid_of a.tx)) + e.vsize ≤ (policy.descendants_size + size_of (descendants_of entries (txid_of s.tx))) + 10000

-- each ancestor has room for a transaction
pub room_at : (policy : Policy) (entries : List Admitted) (sibling : Option (List ℕ)) (e : Admitted) → NoneFails (limit_rules First policy entries e.tx e.vsize)
    → (list_any (is_counted sibling e.tx) entries ≡ true → adds_unconfirmed policy.parents entries sibling e.tx ≡ false)
    → (a : Admitted) → Contains (ancestors_above entries e.tx.inputs) a → (policy.parents ≡ Conflicts → HasRoomBeside policy entries sibling e a) → HasRoom policy entries sibling e (txid_of a.tx)
room_at policy entries sibling e limits parents a m evicted = go (conflicts_of entries e.tx) refl
  where
    -- one that counts has an ancestor's family below it: it is the conflict, or the sibling
    above_one : (c w : Admitted) → policy.parents ≡ Conflicts → conflicts_of entries e.tx ≡ c ∷ [] → Contains (counted_of entries sibling e.tx) w → reaches (steps entries) (txid_of a.tx) (txid_of w.tx) ≡ true
        → length (descendants_of entries (txid_of a.tx)) ≤ policy.descendants + 1
        → size_of (descendants_of entries (txid_of a.tx)) + e.vsize ≤ (policy.descendants_size + size_of (descendants_of entries (txid_of c.tx))) + 10000 → HasRoom policy entries sibling e (txid_of a.tx)
    above_one c w narrow is counts above count size =
        let member : Contains entries w = Contains-from_filter (is_counted sibling e.tx) entries w counts in
        let passes : is_counted sibling e.tx w ≡ true = All-contains (λ (x : Admitted). is_counted sibling e.tx x ≡ true) (counted_of entries sibling e.tx) w (filter_passes (is_counted sibling e.tx) entries) counts in
        ⊎_elim
        (λ (s : is_sibling sibling w ≡ true). room_grown policy entries sibling e w (txid_of a.tx) member passes above count (λ n. evicted n w member s))
        (λ (rival : is_conflict e.tx w ≡ true).
        let among : Contains (c ∷ []) w = subst (λ (l : List Admitted). Contains l w) is (Contains-filter (is_conflict e.tx) entries w member rival) in
        let same : c ≡ w = ⊎_elim (λ (k : c ≡ w). k) (λ k. not_in_none w k) (Contains-cons_cases c [] w among) in
        room_grown policy entries sibling e w (txid_of a.tx) member passes above count
        (λ n. subst (λ (x : Admitted). size_of (descendants_of entries (txid_of a.tx)) + e.vsize ≤ (policy.descendants_size + size_of (descendants_of entries (txid_of x.tx))) + 10000) same size))
        (or_cases (is_sibling sibling w) (is_conflict e.tx w) passes)

    beside : (sharing : ParentsOf) → policy.parents ≡ sharing → (c : Admitted) → conflicts_of entries e.tx ≡ c ∷ [] → adds_unconfirmed sharing entries sibling e.tx ≡ false
        → length (descendants_of entries (txid_of a.tx)) ≤ policy.descendants + 1
        → size_of (descendants_of entries (txid_of a.tx)) + e.vsize ≤ (policy.descendants_size + size_of (descendants_of entries (txid_of c.tx))) + 10000 → HasRoom policy entries sibling e (txid_of a.tx)
    beside Conflicts narrow c is none count size =
        let w = above_sharer entries e.tx (counted_of entries sibling e.tx) a (Contains-from_filter (is_counted sibling e.tx) entries) none m in
        above_one c w.0 narrow is w.1 w.2 count size
    beside Replaced wide c is none count size =
        let w = above_sharer entries e.tx (replaced_beside entries sibling e.tx) a (Contains-from_filter (is_below_some (is_counted sibling e.tx) entries) entries) none m in
        room_replaced policy entries sibling e w.0 (txid_of a.tx) wide w.1 w.2 count

    go : (conflicts : List Admitted) → conflicts_of entries e.tx ≡ conflicts → HasRoom policy entries sibling e (txid_of a.tx)
    go [] is = let r = room_below policy entries e.tx e.vsize limits [] is a m in room_usual policy entries sibling e (txid_of a.tx) r.0 r.1
    go (c ∷ []) is =
        let r = room_below policy entries e.tx e.vsize limits (c ∷ []) is a m in
        let among : Contains (conflicts_of entries e.tx) c = subst (λ (l : List Admitted). Contains l c) (sym is) (Contains-head c []) in
        let member : Contains entries c = Contains-from_filter (is_conflict e.tx) entries c among in
        let conflicts : is_conflict e.tx c ≡ true = All-contains (λ (x : Admitted). is_conflict e.tx x ≡ true) (conflicts_of entries e.tx) c (filter_passes (is_conflict e.tx) entries) among in
        beside policy.parents refl c is (parents (list_any_of (is_counted sibling e.tx) entries c member (or_right (is_sibling sibling c) (is_conflict e.tx c) conflicts))) r.0 r.1
    go (c ∷ d ∷ rest) is = let r = room_below policy entries e.tx e.vsize limits (c ∷ d ∷ rest) is a m in room_usual policy entries sibling e (txid_of a.tx) r.0 r.1
