-- The entries of the first slots, one slot more at a time.
use Rattle.std.proofs.Common.{◌≡◌, ◌≢◌, ℕ, zero, suc, ◌+◌, ◌<◌, ◌≤◌, Bool, true, false, cond, List, [], ◌∷◌, ◌++◌, map, length, take, get_or, Option, Some, None, refl, sym, ap, subst, ◌∙◌, arith, true≢false, inl, inr, length-append}
use Rattle.std.specs.Prelude.{Contains, filter}
use Rattle.std.specs.List.{AllPairs}
use Rattle.std.specs.Cmp.Lexicographic.{bytes_decides}
use Rattle.std.proofs.lemmas.Bool.{false_from_ne_true}
use Rattle.std.proofs.lemmas.List.{take_more, map-append, length-map}
use Rattle.std.proofs.lemmas.Option.{none-some, same_Some}
use Rattle.gate_tx.specs.declared.TxIn.{TxIn}
use Rattle.gate_tx.specs.declared.OutPoint.{OutPoint}
use Rattle.gate_tx.specs.Coins.{point_eq, spends}
use Rattle.gate_tx.specs.Equality.{out_point_decides}
use Rattle.gate_tx.specs.Ids.{txid_of, wtxid_of}
use Rattle.gate_graph.specs.Family.{Node}
use Rattle.gate_graph.specs.declared.held.Held.{Held}
use Rattle.gate_graph.specs.Holding.{loaded, spots_of}
use Rattle.gate_graph.specs.Slots.{entries_of}
use Rattle.gate_graph.proofs.Indexing.{entries_of-push}
use Rattle.gate_bytes.proofs.Members.{Contains-cons_cases, Contains-head, Contains-rest, list_any_of, not_in_none}
use Rattle.gate_pool.specs.Pool.{Admitted, has_txid, has_wtxid, listing_of}
use Rattle.gate_pool.specs.Distinct.{AreDistinct}
use Rattle.gate_pool.specs.Keeping.{IsNew, entries_in, carried}
use Rattle.gate_pool.specs.Places.{standing}
use Rattle.gate_pool.proofs.Adding.{pairs_head, pairs_tail}
use Rattle.gate_pool.proofs.Conflicts.{find_absent}
use Rattle.gate_pool.proofs.Entries.{Id}
use Rattle.gate_pool.proofs.Walking.{shorter}

abbrev Slot : Type 0
Slot = Option (Held Admitted)

-- what the nodes carry is what stands in the slots
pub standing_is : (slots : List Slot) → standing slots ≡ entries_in (loaded (entries_of slots))
standing_is slots = by (entries_of slots)
  where
    by : (hs : List (Held Admitted)) → map (λ (h : Held Admitted). h.load) hs ≡ entries_in (loaded hs)
    by [] = refl
    by (h ∷ hs) = ap (λ l. h.load ∷ l) (by hs)

pub standing_in : (slots : List Slot) (nodes : List (Node × Admitted)) → loaded (entries_of slots) ≡ nodes → standing slots ≡ entries_in nodes
standing_in slots nodes is = standing_is slots ∙ ap entries_in is

-- the ids that stand in the slots are those of the entries
pub spots_listed : (slots : List Slot) (spots : List (Option Id)) (entries : List Admitted) → loaded (entries_of slots) ≡ carried entries → spots_of slots ≡ spots → entries_of spots ≡ listing_of entries
spots_listed slots spots entries is same = ap entries_of (sym same) ∙ ids slots ∙ ids_loaded (entries_of slots) ∙ ap (map (λ (p : Node × Admitted). p.0.id)) is ∙ ids_carried entries
  where
    ids : (slots : List Slot) → entries_of (spots_of slots) ≡ map (λ (h : Held Admitted). h.id) (entries_of slots)
    ids [] = refl
    ids (None ∷ slots) = ids slots
    ids (Some h ∷ slots) = ap (λ l. h.id ∷ l) (ids slots)

    ids_loaded : (hs : List (Held Admitted)) → map (λ (h : Held Admitted). h.id) hs ≡ map (λ (p : Node × Admitted). p.0.id) (loaded hs)
    ids_loaded [] = refl
    ids_loaded (h ∷ hs) = ap (λ l. h.id ∷ l) (ids_loaded hs)

    ids_carried : (es : List Admitted) → map (λ (p : Node × Admitted). p.0.id) (carried es) ≡ listing_of es
    ids_carried [] = refl
    ids_carried (e ∷ es) = ap (λ l. txid_of e.tx ∷ l) (ids_carried es)

push-None : (slots : List Slot) → entries_of (slots ++ None ∷ []) ≡ entries_of slots
push-None [] = refl
push-None (None ∷ slots) = push-None slots
push-None (Some h ∷ slots) = ap (λ l. h ∷ l) (push-None slots)

pub one_more : (slots : List Slot) (i : ℕ) (s : Slot) (h : Held Admitted) → i < length slots → s ≡ get_or slots i s → s ≡ Some h → standing (take (i + 1) slots) ≡ standing (take i slots) ++ h.load ∷ []
one_more slots i s h lt is some =
    ap standing (take_more slots i s lt ∙ ap (λ x. take i slots ++ x ∷ []) (sym is ∙ some))
    ∙ ap (map (λ (k : Held Admitted). k.load)) (entries_of-push (take i slots) h)
    ∙ map-append (λ (k : Held Admitted). k.load) (entries_of (take i slots)) (h ∷ [])

pub no_more : (slots : List Slot) (i : ℕ) (s : Slot) → i < length slots → s ≡ get_or slots i s → s ≡ None → standing (take (i + 1) slots) ≡ standing (take i slots)
no_more slots i s lt is none =
    ap standing (take_more slots i s lt ∙ ap (λ x. take i slots ++ x ∷ []) (sym is ∙ none)) ∙ ap (map (λ (k : Held Admitted). k.load)) (push-None (take i slots))

-- the entries of the first slots are no more than all
take_le : (slots : List Slot) (n : ℕ) → length (entries_of (take n slots)) ≤ length (entries_of slots)
take_le [] zero = omega arith
take_le [] (suc n) = omega arith
take_le (s ∷ slots) zero = omega arith
take_le (None ∷ slots) (suc n) = take_le slots n
take_le (Some h ∷ slots) (suc n) = omega (arith, take_le slots n)

-- there is one entry at least beyond the first slots
pub standing_more : (slots : List Slot) (i : ℕ) (s : Slot) (h : Held Admitted) → i < length slots → s ≡ get_or slots i s → s ≡ Some h → length (standing (take i slots)) < length (standing slots)
standing_more slots i s h lt is some =
    omega (
      arith,
      ap length (one_more slots i s h lt is some),
      length-append (standing (take i slots)) (h.load ∷ []),
      take_le slots (i + 1),
      length-map (entries_of (take (i + 1) slots)) (λ (k : Held Admitted). k.load),
      length-map (entries_of slots) (λ (k : Held Admitted). k.load),
    )

-- the ids of the entries that pass a test, with one entry more
pub listed_more : (test : Admitted → Bool) (xs : List Admitted) (e : Admitted) → listing_of (filter test (xs ++ e ∷ [])) ≡ listing_of (filter test xs) ++ cond (test e) (txid_of e.tx ∷ []) []
listed_more test [] e = by (test e)
  where
    by : (b : Bool) → listing_of (cond b (e ∷ []) []) ≡ cond b (txid_of e.tx ∷ []) []
    by true = refl
    by false = refl
listed_more test (x ∷ xs) e = by (test x) (listed_more test xs e)
  where
    last : List Id
    last = cond (test e) (txid_of e.tx ∷ []) []

    by : (b : Bool) → listing_of (filter test (xs ++ e ∷ [])) ≡ listing_of (filter test xs) ++ last
        → listing_of (cond b (x ∷ filter test (xs ++ e ∷ [])) (filter test (xs ++ e ∷ []))) ≡ listing_of (cond b (x ∷ filter test xs) (filter test xs)) ++ last
    by true h = ap (λ l. txid_of x.tx ∷ l) h
    by false h = h

-- there is room for the id of one that passes
pub room_for_more : (test : Admitted → Bool) (slots : List Slot) (i : ℕ) (s : Slot) (h : Held Admitted) → i < length slots → s ≡ get_or slots i s → s ≡ Some h
    → length (listing_of (filter test (standing (take i slots)))) < length (standing slots)
room_for_more test slots i s h lt is some =
    let first = standing (take i slots) in
    let more : length (standing (take (i + 1) slots)) ≡ length (first ++ h.load ∷ []) = ap length (one_more slots i s h lt is some) in
    omega (arith, length-map (filter test first) (λ (x : Admitted). txid_of x.tx), shorter test first, length-append first (h.load ∷ []), more, take_le slots (i + 1), length-map (entries_of (take (i + 1) slots)) (λ (k : Held Admitted). k.load), length-map (entries_of slots) (λ (k : Held Admitted). k.load))

-- what holds of each two entries holds of one before a slot and of that in the slot
stands : (slots : List Slot) (i : ℕ) (s : Slot) (h : Held Admitted) → i < length slots → s ≡ get_or slots i s → s ≡ Some h → Contains (standing slots) h.load
stands [] i s h lt is some = absurd (omega (arith, lt))
stands (None ∷ slots) zero s h lt is some = absurd (none-some h (sym is ∙ some))
stands (None ∷ slots) (suc i) s h lt is some = stands slots i s h (omega (arith, lt)) is some
stands (Some k ∷ slots) zero s h lt is some = subst (Contains (k.load ∷ standing slots)) (ap (λ (x : Held Admitted). x.load) (same_Some k h (sym is ∙ some))) (Contains-head k.load (standing slots))
stands (Some k ∷ slots) (suc i) s h lt is some = Contains-rest k.load (standing slots) h.load (stands slots i s h (omega (arith, lt)) is some)

before : (R : Admitted → Admitted → Type 0) (slots : List Slot) (i : ℕ) (s : Slot) (h : Held Admitted) → AllPairs R (standing slots) → i < length slots → s ≡ get_or slots i s → s ≡ Some h → (x : Admitted) → Contains (standing (take i slots)) x → R x h.load
before R [] i s h pairs lt is some x m = absurd (omega (arith, lt))
before R (k ∷ slots) zero s h pairs lt is some x m = not_in_none x m
before R (None ∷ slots) (suc i) s h pairs lt is some x m = before R slots i s h pairs (omega (arith, lt)) is some x m
before R (Some k ∷ slots) (suc i) s h pairs lt is some x m =
    elim (Contains-cons_cases k.load (standing (take i slots)) x m) [
      | inl same ↦ subst (λ z. R z h.load) same (pairs_head R k.load (standing slots) pairs h.load (stands slots i s h (omega (arith, lt)) is some))
      | inr c ↦ before R slots i s h (pairs_tail R k.load (standing slots) pairs) (omega (arith, lt)) is some x c
    ]

-- an entry is new to those before it
pub IsNew-next : (slots : List Slot) (i : ℕ) (s : Slot) (h : Held Admitted) → AreDistinct (standing slots) → i < length slots → s ≡ get_or slots i s → s ≡ Some h → IsNew (standing (take i slots)) h.load
IsNew-next slots i s h distinct lt is some = record {
  txid = find_absent (λ x. has_txid x (txid_of e.tx)) front (λ x m. false_from_ne_true _ (λ t.
      before (λ (a : Admitted) (b : Admitted). txid_of a.tx ≢ txid_of b.tx) slots i s h distinct.txids lt is some x m ((bytes_decides (txid_of x.tx) (txid_of e.tx)).0 t)));
  wtxid = find_absent (λ x. has_wtxid x (wtxid_of e.tx)) front (λ x m. false_from_ne_true _ (λ t.
      before (λ (a : Admitted) (b : Admitted). wtxid_of a.tx ≢ wtxid_of b.tx) slots i s h distinct.wtxids lt is some x m ((bytes_decides (wtxid_of x.tx) (wtxid_of e.tx)).0 t)));
  points = λ p c. find_absent (λ x. spends x.tx.inputs p.prevout) front (λ x m. false_from_ne_true _ (λ t.
      true≢false (sym (own p c) ∙ before (λ (a : Admitted) (b : Admitted). (point : OutPoint) → spends a.tx.inputs point ≡ true → spends b.tx.inputs point ≡ false) slots i s h distinct.points lt is some x m p.prevout t)));
}
  where
    e : Admitted
    e = h.load

    front : List Admitted
    front = standing (take i slots)

    own : (p : TxIn) → Contains e.tx.inputs p → spends e.tx.inputs p.prevout ≡ true
    own p c = list_any_of (λ (q : TxIn). point_eq q.prevout p.prevout) e.tx.inputs p c ((out_point_decides p.prevout p.prevout).1 refl)
