-- Families of version 3 stay small where those enter together that J8 lets pass.
use Rattle.std.proofs.Common.{◌≡◌, ◌≢◌, ◌≤◌, ◌+◌, ℕ, Bool, true, false, not, ◌&&◌, ◌||◌, if◌then◌else◌, List, [], ◌∷◌, ◌++◌, length, Option, None, Ok, refl, sym, ap, ◌∙◌, subst, append-nil, append_assoc, length-append, arith, ◌⊎◌, inl, inr, ⊎_elim}
use Rattle.std.specs.Prelude.{◌==◌, Contains, is_none, nat_lt, sum_by}
use Rattle.std.specs.List.{AllPairs, flat_map, list_any}
use Rattle.std.specs.Str.{bytes_eq}
use Rattle.std.specs.Cmp.Lexicographic.{bytes_decides}
use Rattle.std.proofs.lemmas.Bool.{and_from, false_from_ne_true, ne_eqb, ltb-false, not-false, or_parts, true≢false}
use Rattle.std.proofs.lemmas.List.Elements.{All-contains, Contains-append_cases, Contains-push_cases}
use Rattle.std.proofs.lemmas.List.Kept.{AllPairs-filter}
use Rattle.std.proofs.lemmas.List.Sums.{sum_by-append, sum_by-cons}
use Rattle.gate_bytes.specs.Order.{first_failing}
use Rattle.gate_bytes.proofs.Members.{Contains-cons_cases, Contains-head, Contains-rest, any_is, list_any_of, not_in_none}
use Rattle.gate_tx.specs.declared.TxIn.{TxIn}
use Rattle.gate_tx.specs.Ids.{txid_of}
use Rattle.gate_tx.specs.Tx.{Tx}
use Rattle.gate_graph.specs.Family.{Leads, here, down, reaches}
use Rattle.gate_graph.proofs.Reaching.{Leads_from_reaches, reaches-same, reaches_step, reaches_trans}
use Rattle.gate_graph.proofs.Steps.{cases_id}
use Rattle.gate_standard.specs.Rules.{is_truc}
use Rattle.gate_pool.specs.Family.{ancestors_above, ancestors_of, descendants_of, steps}
use Rattle.gate_pool.specs.Counting.{entered_beside}
use Rattle.gate_pool.specs.Pool.{Admitted, has_txid, size_of}
use Rattle.gate_pool.specs.Search.{IsEntry}
use Rattle.gate_pool.proofs.Adding.{DifferById, pairs_head, passed}
use Rattle.gate_pool.proofs.Entries.{Id, step_entry}
use Rattle.gate_pool.proofs.Ids.{same_txid}
use Rattle.gate_pool.proofs.Walking.{Contains-filter, Contains-from_filter}
use Rattle.gate_admit.specs.declared.Attempt.TheVariants.{First}
use Rattle.gate_admit.specs.Good.{IsSound}
use Rattle.gate_admit.specs.Standing.{Standing}
use Rattle.gate_admit.specs.Truc.{IsKin, TrucHolds, breaks_family, evictable, has_conflict_below, is_of_other_kind, is_outside as is_outside_pool, is_taken, others_below, sibling_among, sibling_of, truc_child_size, truc_size}
use Rattle.gate_admit.proofs.Childless.{IsChildless}
use Rattle.gate_admit.proofs.Evicting.{second_false}
use Rattle.gate_admit.proofs.Lists.{none_pass}
use Rattle.gate_admit.proofs.SmallFamilies.{entered_small}
use Rattle.gate_diagram.specs.declared.Price.{Price}
use Rattle.gate_package.specs.declared.role.Role.TheVariants.{Together}
use Rattle.gate_package.specs.Judging.{fee_beside, half_rules, vsize_beside}
use Rattle.gate_package.specs.Kinship.{another_spends, another_spends_from, breaks_beside, has_below, is_child_outside, is_outside, is_outside_entry, is_shared, is_truc_entry, parents_among, some_breaks, spends_from}
use Rattle.gate_package.specs.Packages.{newcomers}
use Rattle.gate_diagram.specs.Prices.{price_sum_size}
use Rattle.gate_package.specs.Shapes.{has_conflict, has_duplicates, names_one}
use Rattle.gate_rivals.specs.Rivals.{inputs_of}
use Rattle.gate_package.specs.Together.{halves_of}
use Rattle.gate_package.proofs.Belonging.{Differ, Half, half_absent, half_passes, half_small, neither}
use Rattle.gate_package.proofs.Joining.{Behind, ComesNew, IsAhead, Room, StandsFree, ahead_next, all_ahead, behind_none, childless, joins_alone, may_join, newcomer, one_more, priced, room_made, unknown_member}

-- ---- lists of one

some_member : {X : Type 0} (xs : List X) (x : X) → Contains xs x → 1 ≤ length xs
some_member xs x m = let l = m.1 in omega arith

sole : {X : Type 0} (x a : X) → Contains (x ∷ []) a → x ≡ a
sole x a m = ⊎_elim (λ (k : x ≡ a). k) (λ k. not_in_none a k) (Contains-cons_cases x [] a m)

-- two members of a list of one are the same
one_member : {X : Type 0} (xs : List X) (a b : X) → length xs ≤ 1 → Contains xs a → Contains xs b → a ≡ b
one_member [] a b few m n = not_in_none a m
one_member (x ∷ []) a b few m n = sym (sole x a m) ∙ sole x b n
one_member (x ∷ y ∷ rest) a b few m n = absurd (omega (arith, few))

none_of : {X : Type 0} (xs : List X) → ((x : X) → Contains xs x → ⊥) → xs ≡ []
none_of [] h = refl
none_of (x ∷ xs) h = absurd (h x (Contains-head x xs))

no_one : {X : Type 0} (p : X → Bool) (xs : List X) → ((x : X) → Contains xs x → p x ≡ false) → list_any p xs ≡ false
no_one p xs h = false_from_ne_true _ (λ t. let w = any_is p xs t in true≢false (sym w.2 ∙ h w.0 w.1))

at_none : {X : Type 0} (p : X → Bool) (xs : List X) (x : X) → list_any p xs ≡ false → Contains xs x → p x ≡ false
at_none {X} p xs x h m = All-contains (λ (y : X). p y ≡ false) xs x (none_pass p xs h) m

-- ---- what J8 lets pass

-- a child that has a place below its parent
record IsChildInside (all : List Tx) (tx : Tx) (vsize : ℕ) (parent : Tx) : Type 0 where
  pub light : nat_lt truc_child_size vsize ≡ false
  pub truc : is_truc parent ≡ true
  pub beside : another_spends all (txid_of tx) (txid_of parent) ≡ false
  pub below : another_spends all (txid_of tx) (txid_of tx) ≡ false

child_inside : (all : List Tx) (tx : Tx) (vsize : ℕ) (parent : Tx) → is_child_outside all tx vsize parent ≡ false → IsChildInside all tx vsize parent
child_inside all tx vsize parent h =
    let light = or_parts (nat_lt truc_child_size vsize) (not (is_truc parent) || is_shared all (txid_of tx) (txid_of parent)) h in
    let kind = or_parts (not (is_truc parent)) (is_shared all (txid_of tx) (txid_of parent)) light.1 in
    let alone = or_parts (another_spends all (txid_of tx) (txid_of parent)) (another_spends all (txid_of tx) (txid_of tx)) kind.1 in
    record { light = light.0; truc = not-false _ kind.0; beside = alone.0; below = alone.1 }

-- a transaction of version 3 has one of these ancestors in the pool and parents beside it at most, and a place below it
record IsInside (entries : List Admitted) (all : List Tx) (tx : Tx) (vsize : ℕ) (above : List Admitted) (parents : List Tx) : Type 0 where
  pub few : length above + length parents ≤ 1
  pub entry : (e : Admitted) → Contains above e → IsChildInside all tx vsize e.tx × (has_below entries (txid_of e.tx) ≡ false)
  pub member : (p : Tx) → Contains parents p → IsChildInside all tx vsize p

inside : (entries : List Admitted) (all : List Tx) (tx : Tx) (vsize : ℕ) (above : List Admitted) (parents : List Tx) → is_outside entries all tx vsize above parents ≡ false → IsInside entries all tx vsize above parents
inside entries all tx vsize [] [] h = record { few = omega arith; entry = λ e m. not_in_none e m; member = λ p m. not_in_none p m }
inside entries all tx vsize [] (p ∷ []) h =
    record {
      few = omega arith;
      entry = λ e m. not_in_none e m;
      member = λ q m. subst (IsChildInside all tx vsize) (one_member (p ∷ []) p q (omega arith) (Contains-head p []) m) (child_inside all tx vsize p h);
    }
inside entries all tx vsize [] (p ∷ q ∷ rest) h = absurd (true≢false h)
inside entries all tx vsize (e ∷ []) [] h =
    let parts = or_parts (is_child_outside all tx vsize e.tx) (has_below entries (txid_of e.tx)) h in
    record {
      few = omega arith;
      entry = λ f m. subst (λ (x : Admitted). IsChildInside all tx vsize x.tx × (has_below entries (txid_of x.tx) ≡ false)) (one_member (e ∷ []) e f (omega arith) (Contains-head e []) m) (child_inside all tx vsize e.tx parts.0, parts.1);
      member = λ p m. not_in_none p m;
    }
inside entries all tx vsize (e ∷ []) (p ∷ parents) h =
    let some : not (length (p ∷ parents) == 0) ≡ true = ap not (ne_eqb (length (p ∷ parents)) 0 (λ e. omega (arith, e))) in
    absurd (true≢false (sym some ∙ (or_parts (not (length (p ∷ parents) == 0)) (is_outside_entry entries all tx vsize e) h).0))
inside entries all tx vsize (e ∷ f ∷ others) parents h = absurd (true≢false h)

-- what J8 says of a transaction of either kind
record PassesTruc (entries : List Admitted) (all : List Tx) (tx : Tx) (vsize : ℕ) : Type 0 where
  pub small : is_truc tx ≡ true → nat_lt truc_size vsize ≡ false
  pub truc : is_truc tx ≡ true → IsInside entries all tx vsize (ancestors_above entries tx.inputs) (parents_among all tx)
  pub above : is_truc tx ≡ false → list_any is_truc_entry (ancestors_above entries tx.inputs) ≡ false
  pub parents : is_truc tx ≡ false → list_any is_truc (parents_among all tx) ≡ false

passes_truc : (entries : List Admitted) (all : List Tx) (tx : Tx) (vsize : ℕ) → breaks_beside entries all tx vsize ≡ false → PassesTruc entries all tx vsize
passes_truc entries all tx vsize h = by (is_truc tx) refl h
  where
    by : (b : Bool) → is_truc tx ≡ b → (if b then nat_lt truc_size vsize || is_outside entries all tx vsize (ancestors_above entries tx.inputs) (parents_among all tx)
        else list_any is_truc_entry (ancestors_above entries tx.inputs) || list_any is_truc (parents_among all tx)) ≡ false → PassesTruc entries all tx vsize
    by true is k =
        let parts = or_parts (nat_lt truc_size vsize) (is_outside entries all tx vsize (ancestors_above entries tx.inputs) (parents_among all tx)) k in
        record {
          small = λ own. parts.0;
          truc = λ own. inside entries all tx vsize (ancestors_above entries tx.inputs) (parents_among all tx) parts.1;
          above = λ other. absurd (true≢false (sym is ∙ other));
          parents = λ other. absurd (true≢false (sym is ∙ other));
        }
    by false is k =
        let parts = or_parts (list_any is_truc_entry (ancestors_above entries tx.inputs)) (list_any is_truc (parents_among all tx)) k in
        record {
          small = λ own. absurd (true≢false (sym own ∙ is));
          truc = λ own. absurd (true≢false (sym own ∙ is));
          above = λ other. parts.0;
          parents = λ other. parts.1;
        }

-- another transaction spends from this one
spent_by_another : (all : List Tx) (mine txid : Id) (t : Tx) → Contains all t → txid_of t ≢ mine → spends_from t txid ≡ true → another_spends all mine txid ≡ true
spent_by_another all mine txid t m other spent =
    list_any_of (another_spends_from mine txid) all t m
    (and_from _ _ (ap not (false_from_ne_true (bytes_eq (txid_of t) mine) (λ same. other ((bytes_decides (txid_of t) mine).0 same)))) spent)

spends_it : (t : Tx) (i : TxIn) (txid : Id) → Contains t.inputs i → i.prevout.txid ≡ txid → spends_from t txid ≡ true
spends_it t i txid c is = list_any_of (λ (j : TxIn). bytes_eq j.prevout.txid txid) t.inputs i c ((bytes_decides i.prevout.txid txid).1 is)

-- ---- the last step of a chain

-- an entry's step is to an entry
ends_at : (entries : List Admitted) {a b : Id} → Leads (steps entries) a b → (a ≡ b) ⊎ IsEntry entries b
ends_at entries here = inl refl
ends_at entries (down {a = a} {b = c} {c = b} s l) =
    ⊎_elim (λ (same : c ≡ b). let w = step_entry entries a c s in inr (w.entry, w.member, w.child ∙ same)) (λ (k : IsEntry entries b). inr k) (ends_at entries l)

-- what an entry leads to is an entry
entry_at : (entries : List Admitted) (a : Admitted) (x : Id) → Contains entries a → reaches (steps entries) (txid_of a.tx) x ≡ true → IsEntry entries x
entry_at entries a x m r = ⊎_elim (λ (same : txid_of a.tx ≡ x). (a, m, same)) (λ (k : IsEntry entries x). k) (ends_at entries (Leads_from_reaches (steps entries) (txid_of a.tx) x r))

-- the last step to an entry is from what one of its inputs names
record LastStep (entries : List Admitted) (from : Id) (d : Admitted) : Type 0 where
  pub point : TxIn
  pub spent : Contains d.tx.inputs point
  pub leads : reaches (steps entries) from point.prevout.txid ≡ true

last_step : (entries : List Admitted) {a b : Id} → AllPairs DifferById entries → Leads (steps entries) a b → (d : Admitted) → Contains entries d → b ≡ txid_of d.tx → (a ≡ b) ⊎ LastStep entries a d
last_step entries distinct here d m is = inl refl
last_step entries distinct (down {a = a} {b = c} {c = b} s l) d m is =
    ⊎_elim
    (λ (same : c ≡ b).
    let w = step_entry entries a c s in
    let one : w.entry ≡ d = same_txid entries distinct w.entry d w.member m (w.child ∙ (same ∙ is)) in
    inr (record {
      point = w.point;
      spent = subst (λ (x : Admitted). Contains x.tx.inputs w.point) one w.spent;
      leads = subst (λ (z : Id). reaches (steps entries) z w.point.prevout.txid ≡ true) w.parent (reaches-same (steps entries) w.point.prevout.txid);
    }))
    (λ (w : LastStep entries c d). inr (record { point = w.point; spent = w.spent; leads = reaches_trans (steps entries) a c w.point.prevout.txid (reaches_step (steps entries) a c s) w.leads }))
    (last_step entries distinct l d m is)

reached_by : (entries : List Admitted) (from : Id) (d : Admitted) → AllPairs DifferById entries → Contains entries d → reaches (steps entries) from (txid_of d.tx) ≡ true → from ≢ txid_of d.tx → LastStep entries from d
reached_by entries from d distinct m r other =
    ⊎_elim (λ (same : from ≡ txid_of d.tx). absurd (other same)) (λ (w : LastStep entries from d). w) (last_step entries distinct (Leads_from_reaches (steps entries) from (txid_of d.tx) r) d m refl)

-- an entry above a transaction, and the one between them from which that spends
record IsAbove (entries : List Admitted) (t : Tx) (a : Admitted) : Type 0 where
  pub member : Contains entries a
  pub point : TxIn
  pub spent : Contains t.inputs point
  pub parent : Admitted
  pub among : Contains entries parent
  pub is : point.prevout.txid ≡ txid_of parent.tx
  pub leads : reaches (steps entries) (txid_of a.tx) (txid_of parent.tx) ≡ true

-- a transaction of version 3 has a small family with these ancestors, and evicts no sibling
record IsSmall (entries : List Admitted) (t : Tx) (vsize : ℕ) (above : List Admitted) : Type 0 where
  pub inside : is_outside_pool entries t vsize above ≡ false
  pub alone : sibling_among entries t above ≡ None

-- ---- versions

kinds : (t x a : Bool) → (if t then not x else x) ≡ false → (if x then not a else a) ≡ false → (if t then not a else a) ≡ false
kinds true true a h k = k
kinds true false a h k = absurd (true≢false h)
kinds false true a h k = absurd (true≢false h)
kinds false false a h k = k

none_either : (c : Bool) (o : Option Id) → o ≡ None → (if c then None else o) ≡ None
none_either true o h = refl
none_either false o h = h

truc_below : (d x : Bool) → (if d then not x else x) ≡ false → x ≡ true → d ≡ true
truc_below true x h is = refl
truc_below false x h is = absurd (true≢false (sym is ∙ h))

-- ---- behind the entries and those that entered

module _ {over : Standing} {inputs : List TxIn} {before : List Tx} {ns after : List Admitted} (b : Behind over inputs before ns after) (all : List Tx) (kin : TrucHolds after)
    (passes : (m : Admitted) → Contains ns m → PassesTruc over.entries all m.tx m.vsize) (told : (m : Admitted) → Contains ns m → Contains all m.tx)
    (own : (m : Admitted) → Contains ns m → (i : TxIn) → Contains m.tx.inputs i → i.prevout.txid ≢ txid_of m.tx) where
  distinct : AllPairs DifferById after
  distinct = b.sound.txids

  cases_after : (x : Admitted) → Contains after x → Contains over.entries x ⊎ Contains ns x
  cases_after x c = Contains-append_cases over.entries ns x (subst (λ (l : List Admitted). Contains l x) b.whole c)

  above_of : (t : Tx) (i : TxIn) (a : Admitted) → Contains over.entries a → Contains t.inputs i → reaches (steps over.entries) (txid_of a.tx) i.prevout.txid ≡ true → Contains (ancestors_above over.entries t.inputs) a
  above_of t i a m c r =
      Contains-filter (λ (e : Admitted). list_any (λ (j : TxIn). reaches (steps over.entries) (txid_of e.tx) j.prevout.txid) t.inputs) over.entries a m
      (list_any_of (λ (j : TxIn). reaches (steps over.entries) (txid_of a.tx) j.prevout.txid) t.inputs i c r)

  named_above : (t : Tx) (i : TxIn) (x : Admitted) → Contains over.entries x → Contains t.inputs i → i.prevout.txid ≡ txid_of x.tx → Contains (ancestors_above over.entries t.inputs) x
  named_above t i x m c is = above_of t i x m c (subst (λ (z : Id). reaches (steps over.entries) (txid_of x.tx) z ≡ true) (sym is) (reaches-same (steps over.entries) (txid_of x.tx)))

  parent_of : (t : Tx) (i : TxIn) (x : Admitted) → Contains ns x → Contains t.inputs i → i.prevout.txid ≡ txid_of x.tx → Contains (parents_among all t) x.tx
  parent_of t i x m c is =
      Contains-filter (names_one t.inputs) all x.tx (told x m) (list_any_of (λ (j : TxIn). bytes_eq j.prevout.txid (txid_of x.tx)) t.inputs i c ((bytes_decides i.prevout.txid (txid_of x.tx)).1 is))

  -- a transaction of the package that J8 lets pass
  module _ (t : Tx) (vsize : ℕ) (p : PassesTruc over.entries all t vsize) where
    -- what it spends from is of its own kind
    parent_inside : is_truc t ≡ true → (i : TxIn) (x : Admitted) → Contains after x → Contains t.inputs i → i.prevout.txid ≡ txid_of x.tx → IsChildInside all t vsize x.tx
    parent_inside truc i x m c is =
        ⊎_elim (λ (old : Contains over.entries x). ((p.truc truc).entry x (named_above t i x old c is)).0) (λ (new : Contains ns x). (p.truc truc).member x.tx (parent_of t i x new c is)) (cases_after x m)

    alike_parent : (i : TxIn) (x : Admitted) → Contains after x → Contains t.inputs i → i.prevout.txid ≡ txid_of x.tx → is_of_other_kind t x ≡ false
    alike_parent i x m c is = by (is_truc t) refl
      where
        by : (k : Bool) → is_truc t ≡ k → (if k then not (is_truc x.tx) else is_truc x.tx) ≡ false
        by true truc = ap not (parent_inside truc i x m c is).truc
        by false other =
            ⊎_elim (λ (old : Contains over.entries x). at_none is_truc_entry (ancestors_above over.entries t.inputs) x (p.above other) (named_above t i x old c is))
            (λ (new : Contains ns x). at_none is_truc (parents_among all t) x.tx (p.parents other) (parent_of t i x new c is)) (cases_after x m)

    -- two that a transaction of version 3 spends from are one
    one_parent : is_truc t ≡ true → (i j : TxIn) (x y : Admitted) → Contains after x → Contains after y → Contains t.inputs i → Contains t.inputs j → i.prevout.txid ≡ txid_of x.tx → j.prevout.txid ≡ txid_of y.tx
        → txid_of x.tx ≡ txid_of y.tx
    one_parent truc i j x y m n c d is iy =
        let few = (p.truc truc).few in
        let above = ancestors_above over.entries t.inputs in
        let parents = parents_among all t in
        ⊎_elim
        (λ (old : Contains over.entries x).
        let mine : Contains above x = named_above t i x old c is in
        ⊎_elim (λ (past : Contains over.entries y). ap (λ (e : Admitted). txid_of e.tx) (one_member above x y (omega (arith, few)) mine (named_above t j y past d iy)))
        (λ (late : Contains ns y). absurd (omega (arith, few, some_member above x mine, some_member parents y.tx (parent_of t j y late d iy)))) (cases_after y n))
        (λ (new : Contains ns x).
        let mine : Contains parents x.tx = parent_of t i x new c is in
        ⊎_elim (λ (past : Contains over.entries y). absurd (omega (arith, few, some_member parents x.tx mine, some_member above y (named_above t j y past d iy))))
        (λ (late : Contains ns y). ap txid_of (one_member parents x.tx y.tx (omega (arith, few)) mine (parent_of t j y late d iy))) (cases_after y n))
        (cases_after x m)

    -- nothing is above what a transaction of version 3 spends from
    lone_parent : Contains all t → is_truc t ≡ true → (i : TxIn) (x : Admitted) → Contains after x → Contains t.inputs i → i.prevout.txid ≡ txid_of x.tx → txid_of t ≢ txid_of x.tx
        → (a : Admitted) → Contains after a → reaches (steps after) (txid_of a.tx) (txid_of x.tx) ≡ true → txid_of a.tx ≡ txid_of x.tx
    lone_parent among truc i x m c is apart a n r =
        let above = ancestors_above over.entries t.inputs in
        ⊎_elim
        (λ (old : Contains over.entries x).
        ⊎_elim
        (λ (past : Contains over.entries a).
        let up : Contains above a = above_of t i a past c (subst (λ (z : Id). reaches (steps over.entries) (txid_of a.tx) z ≡ true) (sym is) (b.below a x past old r)) in
        ap (λ (e : Admitted). txid_of e.tx) (one_member above a x (omega (arith, (p.truc truc).few)) up (named_above t i x old c is)))
        (λ (late : Contains ns a). absurd (true≢false (sym r ∙ b.apart a x late old))) (cases_after a n))
        (λ (new : Contains ns x).
        ⊎_elim (λ (same : txid_of a.tx ≡ txid_of x.tx). same)
        (λ (other : txid_of a.tx ≡ txid_of x.tx → ⊥).
        let l = reached_by after (txid_of a.tx) x distinct m r other in
        let y = entry_at after a l.point.prevout.txid n l.leads in
        let beside : IsChildInside all x.tx x.vsize y.0.tx = inside_of x new ((parent_inside truc i x m c is).truc) l.point y.0 y.1 l.spent (sym y.2) in
        absurd (true≢false (sym (spent_by_another all (txid_of x.tx) (txid_of x.tx) t among apart (spends_it t i (txid_of x.tx) c is)) ∙ beside.below)))
        (cases_id (txid_of a.tx) (txid_of x.tx)))
        (cases_after x m)
      where
        inside_of : (x : Admitted) → Contains ns x → is_truc x.tx ≡ true → (j : TxIn) (y : Admitted) → Contains after y → Contains x.tx.inputs j → j.prevout.txid ≡ txid_of y.tx → IsChildInside all x.tx x.vsize y.tx
        inside_of x new own_kind j y k d iy =
            ⊎_elim (λ (old : Contains over.entries y). (((passes x new).truc own_kind).entry y (named_above x.tx j y old d iy)).0)
            (λ (late : Contains ns y). ((passes x new).truc own_kind).member y.tx (parent_of x.tx j y late d iy)) (cases_after y k)

  -- a newcomer below an entry of version 3 spends from it
  child_of : (x : Admitted) → Contains after x → is_truc x.tx ≡ true → (d : Admitted) → Contains ns d → Contains after d → reaches (steps after) (txid_of x.tx) (txid_of d.tx) ≡ true → (txid_of x.tx ≡ txid_of d.tx → ⊥)
      → spends_from d.tx (txid_of x.tx) ≡ true
  child_of x m of_three d late n r other =
      let l = reached_by after (txid_of x.tx) d distinct n r other in
      let y = entry_at after x l.point.prevout.txid m l.leads in
      let up : Contains (ancestors_of after (txid_of d.tx)) x = Contains-filter (λ (e : Admitted). reaches (steps after) (txid_of e.tx) (txid_of d.tx)) after x m r in
      let kind : is_truc d.tx ≡ true =
      truc_below (is_truc d.tx) (is_truc x.tx) (All-contains (λ (e : Admitted). is_of_other_kind d.tx e ≡ false) (ancestors_of after (txid_of d.tx)) x (All-contains (IsKin after) after d kin n).alike up) of_three in
      let lone : txid_of x.tx ≡ txid_of y.0.tx =
      lone_parent d.tx d.vsize (passes d late) (told d late) kind l.point y.0 y.1 l.spent (sym y.2) (λ e. own d late l.point l.spent (sym (e ∙ y.2)))
      x m (subst (λ (z : Id). reaches (steps after) (txid_of x.tx) z ≡ true) (sym y.2) l.leads) in
      spends_it d.tx l.point (txid_of x.tx) l.spent (sym y.2 ∙ sym lone)

  -- ---- what is above a transaction of the package now

  module _ (t : Tx) (vsize : ℕ) (p : PassesTruc over.entries all t vsize) where
    is_above : (a : Admitted) → Contains (ancestors_above after t.inputs) a → IsAbove after t a
    is_above a m =
        let test : Admitted → Bool = λ e. list_any (λ (i : TxIn). reaches (steps after) (txid_of e.tx) i.prevout.txid) t.inputs in
        let member : Contains after a = Contains-from_filter test after a m in
        let w = any_is (λ (i : TxIn). reaches (steps after) (txid_of a.tx) i.prevout.txid) t.inputs (passed test after a m) in
        let x = entry_at after a w.0.prevout.txid member w.2 in
        record { member = member; point = w.0; spent = w.1; parent = x.0; among = x.1; is = sym x.2; leads = subst (λ (z : Id). reaches (steps after) (txid_of a.tx) z ≡ true) (sym x.2) w.2 }

    alike_above : (a : Admitted) → Contains (ancestors_above after t.inputs) a → is_of_other_kind t a ≡ false
    alike_above a m =
        let w = is_above a m in
        let x = txid_of w.parent.tx in
        let up : Contains (ancestors_of after x) a = Contains-filter (λ (e : Admitted). reaches (steps after) (txid_of e.tx) x) after a w.member w.leads in
        kinds (is_truc t) (is_truc w.parent.tx) (is_truc a.tx) (alike_parent t vsize p w.point w.parent w.among w.spent w.is)
        (All-contains (λ (e : Admitted). is_of_other_kind w.parent.tx e ≡ false) (ancestors_of after x) a (All-contains (IsKin after) after w.parent kin w.among).alike up)

    module _ (among : Contains all t) (apart : (m : Admitted) → Contains after m → txid_of t ≢ txid_of m.tx) (truc : is_truc t ≡ true) where
      -- nothing else is below what it spends from
      nothing_below : (i : TxIn) (x : Admitted) → Contains after x → Contains t.inputs i → i.prevout.txid ≡ txid_of x.tx → (d : Admitted) → Contains after d → reaches (steps after) (txid_of x.tx) (txid_of d.tx) ≡ true
          → txid_of x.tx ≡ txid_of d.tx
      nothing_below i x m c is d n r =
          let mine : IsChildInside all t vsize x.tx = parent_inside t vsize p truc i x m c is in
          ⊎_elim
          (λ (past : Contains over.entries d).
          ⊎_elim
          (λ (old : Contains over.entries x).
          let under : Admitted → Bool = λ e. reaches (steps over.entries) (txid_of x.tx) (txid_of e.tx) in
          let few = ltb-false 1 (length (descendants_of over.entries (txid_of x.tx))) ((p.truc truc).entry x (named_above t i x old c is)).1 in
          ap (λ (e : Admitted). txid_of e.tx)
          (one_member (descendants_of over.entries (txid_of x.tx)) x d few (Contains-filter under over.entries x old (reaches-same (steps over.entries) (txid_of x.tx))) (Contains-filter under over.entries d past (b.below x d old past r))))
          (λ (new : Contains ns x). absurd (true≢false (sym r ∙ b.apart x d new past))) (cases_after x m))
          (λ (late : Contains ns d).
          ⊎_elim (λ (same : txid_of x.tx ≡ txid_of d.tx). same)
          (λ (other : txid_of x.tx ≡ txid_of d.tx → ⊥).
          absurd (true≢false (sym (spent_by_another all (txid_of t) (txid_of x.tx) d.tx (told d late) (λ e. apart d n (sym e)) (child_of x m mine.truc d late n r other)) ∙ mine.beside)))
          (cases_id (txid_of x.tx) (txid_of d.tx)))
          (cases_after d n)

      -- what is above it is what it spends from
      above_is : (a : Admitted) (m : Contains (ancestors_above after t.inputs) a) → txid_of a.tx ≡ txid_of (is_above a m).parent.tx
      above_is a m = let w = is_above a m in lone_parent t vsize p among truc w.point w.parent w.among w.spent w.is (apart w.parent w.among) a w.member w.leads

      childless_parent : (a : Admitted) → Contains (ancestors_above after t.inputs) a → others_below after (txid_of a.tx) ≡ []
      childless_parent a m = none_of (others_below after (txid_of a.tx)) (λ d k.
          let w = is_above a m in
          let x = txid_of a.tx in
          let same = above_is a m in
          let under : Admitted → Bool = λ e. reaches (steps after) x (txid_of e.tx) in
          let below : Contains (descendants_of after x) d = Contains-from_filter (λ (e : Admitted). not (has_txid e x)) (descendants_of after x) d k in
          let member : Contains after d = Contains-from_filter under after d below in
          let named : txid_of w.parent.tx ≡ txid_of d.tx =
          nothing_below w.point w.parent w.among w.spent w.is d member (subst (λ (z : Id). reaches (steps after) z (txid_of d.tx) ≡ true) same (passed under after d below)) in
          let itself : has_txid d x ≡ true = (bytes_decides (txid_of d.tx) x).1 (sym (same ∙ named)) in
          true≢false (sym (passed (λ (e : Admitted). not (has_txid e x)) (descendants_of after x) d k) ∙ ap not itself))

      -- it has a small family behind those that entered, and evicts no sibling
      is_small : (above : List Admitted) → ((a : Admitted) → Contains above a → Contains (ancestors_above after t.inputs) a) → AllPairs DifferById above → IsSmall after t vsize above
      is_small [] within differ = record { inside = p.small truc; alone = refl }
      is_small (a ∷ []) within differ =
          let m = within a (Contains-head a []) in
          let w = is_above a m in
          let none = childless_parent a m in
          let light : nat_lt truc_child_size vsize ≡ false = (parent_inside t vsize p truc w.point w.parent w.among w.spent w.is).light in
          record {
            inside = neither (nat_lt truc_child_size vsize) (is_taken after t (txid_of a.tx)) light (ap (λ (l : List Admitted). nat_lt 0 (length l) && (not (has_conflict_below after t (txid_of a.tx)) && is_none (evictable after l))) none);
            alone = none_either (has_conflict_below after t (txid_of a.tx)) (evictable after (others_below after (txid_of a.tx))) (ap (evictable after) none);
          }
      is_small (a ∷ c ∷ rest) within differ =
          let m = within a (Contains-head a (c ∷ rest)) in
          let n = within c (Contains-rest a (c ∷ rest) c (Contains-head c rest)) in
          let v = is_above a m in
          let w = is_above c n in
          absurd (pairs_head DifferById a (c ∷ rest) differ c (Contains-head c rest)
          (above_is a m ∙ (one_parent t vsize p truc v.point w.point v.parent w.parent v.among w.among v.spent w.spent v.is w.is ∙ sym (above_is c n))))

      small_behind : IsSmall after t vsize (ancestors_above after t.inputs)
      small_behind =
          is_small (ancestors_above after t.inputs) (λ a m. m) (AllPairs-filter DifferById (λ (e : Admitted). list_any (λ (i : TxIn). reaches (steps after) (txid_of e.tx) i.prevout.txid) t.inputs) after distinct)

-- ---- one more of those that enter

-- families of version 3 are small behind these newcomers, each of which is one of the transactions, passes J8 and names not itself
record IsKept (over : Standing) (all : List Tx) (ns after : List Admitted) : Type 0 where
  pub kin : TrucHolds after
  pub passes : (m : Admitted) → Contains ns m → PassesTruc over.entries all m.tx m.vsize
  pub told : (m : Admitted) → Contains ns m → Contains all m.tx
  pub own : (m : Admitted) → Contains ns m → (i : TxIn) → Contains m.tx.inputs i → i.prevout.txid ≢ txid_of m.tx

module _ {over : Standing} {inputs : List TxIn} {before : List Tx} {ns after : List Admitted} (b : Behind over inputs before ns after) (all : List Tx) (k : IsKept over all ns after) (m : Admitted)
    (p : PassesTruc over.entries all m.tx m.vsize) (among : Contains all m.tx) (h : IsChildless after m) (on : over.policy.standards.truc ≡ true) where
  apart : (e : Admitted) → Contains after e → txid_of m.tx ≢ txid_of e.tx
  apart e c = λ same. h.new e c (sym same)

  small_of : is_truc m.tx ≡ true → IsSmall after m.tx m.vsize (ancestors_above after m.tx.inputs)
  small_of truc = small_behind b all k.kin k.passes k.told k.own m.tx m.vsize p among apart truc

  keeps_family : breaks_family after m.tx m.vsize ≡ false
  keeps_family =
      neither (list_any (is_of_other_kind m.tx) (ancestors_above after m.tx.inputs)) (is_truc m.tx && is_outside_pool after m.tx m.vsize (ancestors_above after m.tx.inputs))
      (no_one (is_of_other_kind m.tx) (ancestors_above after m.tx.inputs) (alike_above b all k.kin k.passes k.told k.own m.tx m.vsize p)) (by (is_truc m.tx) refl)
    where
      by : (c : Bool) → is_truc m.tx ≡ c → (c && is_outside_pool after m.tx m.vsize (ancestors_above after m.tx.inputs)) ≡ false
      by true truc = (small_of truc).inside
      by false other = refl

  no_sibling : sibling_of First over.policy after m.tx ≡ None
  no_sibling = ap (λ c. if c && is_truc m.tx then sibling_among after m.tx (ancestors_above after m.tx.inputs) else None) on ∙ by (is_truc m.tx) refl
    where
      by : (c : Bool) → is_truc m.tx ≡ c → (if c then sibling_among after m.tx (ancestors_above after m.tx.inputs) else None) ≡ None
      by true truc = (small_of truc).alone
      by false other = refl

  entered_truc : TrucHolds (entered_beside after None m)
  entered_truc =
      subst (λ (s : Option Id). TrucHolds (entered_beside after s m)) no_sibling
      (entered_small over.policy after m b.sound.txids h k.kin on (ap (λ c. c && breaks_family after m.tx m.vsize) on ∙ keeps_family))

  kept_next : IsKept over all (ns ++ m ∷ []) (entered_beside after None m)
  kept_next = record {
    kin = entered_truc;
    passes = λ n c. ⊎_elim (k.passes n) (λ (same : m ≡ n). subst (λ (x : Admitted). PassesTruc over.entries all x.tx x.vsize) same p) (Contains-push_cases ns m n c);
    told = λ n c. ⊎_elim (k.told n) (λ (same : m ≡ n). subst (λ (x : Admitted). Contains all x.tx) same among) (Contains-push_cases ns m n c);
    own = λ n c. ⊎_elim (k.own n) (λ (same : m ≡ n). subst (λ (x : Admitted). (i : TxIn) → Contains x.tx.inputs i → i.prevout.txid ≢ txid_of x.tx) same h.own) (Contains-push_cases ns m n c);
  }

-- ---- all of them, one behind another

joined_truc : (max_rate : ℕ) (over : Standing) (now : ℕ) (inputs : List TxIn) (count size : ℕ) → Room over inputs count size → (all : List Tx) → over.policy.standards.truc ≡ true
    → (before : List Tx) (place : ℕ) (txs : List Tx) (prices : List Price) (ns after : List Admitted)
    → halves_of max_rate over before place txs ≡ Ok prices → some_breaks over.entries all txs prices ≡ false → ((t : Tx) → Contains txs t → Contains all t)
    → Behind over inputs before ns after → IsAhead over inputs before txs → IsKept over all ns after
    → length ns + length txs ≤ count → size_of ns + sum_by (λ (p : Price). p.vsize) prices ≤ size
    → TrucHolds (over.entries ++ (ns ++ newcomers now txs prices))
joined_truc max_rate over now inputs count size room all on before place [] prices ns after h keeps among b ahead k fits fits_size =
    subst TrucHolds (b.whole ∙ ap (λ l. over.entries ++ l) (sym (append-nil ns))) k.kin
joined_truc max_rate over now inputs count size room all on before place (tx ∷ txs) prices ns after h keeps among b ahead k fits fits_size =
    let m = newcomer now before over tx in
    let price : Price = record { fee = fee_beside before over tx; vsize = vsize_beside before over tx } in
    let found = priced place price (first_failing (half_rules Together max_rate before over tx)) (halves_of max_rate over (before ++ tx ∷ []) (place + 1) txs) prices h in
    let p : Half before over tx = half_passes Together max_rate before over tx found.passes in
    let c = Contains-head tx txs in
    let before_it : (t : Tx) → Contains before t → Differ t tx = λ t d. ahead.ahead t tx d c in
    let total : sum_by (λ (q : Price). q.vsize) prices ≡ m.vsize + sum_by (λ (q : Price). q.vsize) found.rest = ap (sum_by (λ (q : Price). q.vsize)) found.is ∙ sum_by-cons (λ (q : Price). q.vsize) price found.rest in
    let both = or_parts (breaks_beside over.entries all tx m.vsize) (some_breaks over.entries all txs found.rest) (subst (λ (l : List Price). some_breaks over.entries all (tx ∷ txs) l ≡ false) found.is keeps) in
    let known = unknown_member over before tx p (ahead.new tx c before ahead.unknown p) in
    let may = may_join b ahead.fresh tx p before_it in
    let alone = joins_alone b ahead.fresh tx (ahead.none tx c) before_it in
    let more = one_more b m (ahead.own tx c) may known alone room (half_small before over tx b.sound.bounds p) (omega (arith, fits)) (omega (arith, fits_size, total)) in
    let next = kept_next b all k m (passes_truc over.entries all tx m.vsize both.0) (among tx c) (childless b m (ahead.own tx c) may known alone) on in
    let rest = joined_truc max_rate over now inputs count size room all on (before ++ tx ∷ []) (place + 1) txs found.rest (ns ++ m ∷ []) (entered_beside after None m) found.behind both.1
    (λ t d. among t (Contains-rest tx txs t d)) more (ahead_next over inputs before tx txs (half_absent before over tx p).0 known ahead) next (omega (arith, fits, length-append ns (m ∷ [])))
    (omega (arith, fits_size, total, sum_by-append (λ (x : Admitted). x.vsize) ns (m ∷ []), sum_by-cons (λ (x : Admitted). x.vsize) m [])) in
    subst (λ (l : List Price). TrucHolds (over.entries ++ (ns ++ newcomers now (tx ∷ txs) l))) (sym found.is)
    (subst (λ (l : List Admitted). TrucHolds (over.entries ++ l)) (append_assoc ns (m ∷ []) (newcomers now txs found.rest)) rest)

-- those that may enter together keep families of version 3 small, where that is standard
pub together_truc : (max_rate : ℕ) (over : Standing) (now : ℕ) (txs : List Tx) (prices : List Price) → StandsFree max_rate over txs prices → has_duplicates txs ≡ false → has_conflict txs ≡ false
    → ((tx : Tx) → Contains txs tx → ComesNew over tx) → over.policy.standards.truc ≡ true → IsSound over.policy over.chain over.entries → TrucHolds over.entries → TrucHolds (over.entries ++ newcomers now txs prices)
together_truc max_rate over now txs prices h distinct apart new on good kin =
    let inputs = flat_map inputs_of txs in
    let room = room_made over txs (price_sum_size prices) h.limits in
    joined_truc max_rate over now inputs (length txs) (price_sum_size prices) room txs on [] 0 txs prices [] over.entries h.halves
    (second_false over.policy.standards.truc (some_breaks over.entries txs txs prices) on h.truc) (λ t c. c) (behind_none over inputs good) (all_ahead over txs distinct apart new h.none)
    (record { kin = kin; passes = λ m c. not_in_none m c; told = λ m c. not_in_none m c; own = λ m c. not_in_none m c })
    (omega arith) (omega (arith, room.descendants_size, good.bounds.descendants_size_most))
