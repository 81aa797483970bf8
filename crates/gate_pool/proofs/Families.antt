-- The walk down from ids finds all that is below them, and the walk up from inputs all that is above these.
use Rattle.std.proofs.Common.{◌≡◌, ℕ, ◌+◌, ◌<◌, ◌≤◌, Bool, true, ◌&&◌, List, [], false, length, get_or, refl, sym, ap, ◌∙◌, subst, arith, Some}
use Rattle.std.specs.Prelude.{Contains, filter}
use Rattle.std.specs.List.{AllPairs, list_any}
use Rattle.std.specs.Str.{bytes_eq}
use Rattle.std.specs.Cmp.Lexicographic.{bytes_decides}
use Rattle.std.proofs.lemmas.Bool.{and_parts, and_from}
use Rattle.std.proofs.lemmas.List.{take_all}
use Rattle.gate_tx.specs.declared.TxIn.{TxIn}
use Rattle.gate_tx.specs.Ids.{txid_of}
use Rattle.gate_graph.specs.Family.{reaches, Leads, here, down}
use Rattle.gate_bytes.proofs.Members.{any_is, list_any_of}
use Rattle.gate_graph.proofs.Reaching.{reaches-same, reaches_trans, reaches_step, Leads_from_reaches}
use Rattle.gate_pool.specs.Pool.{Admitted, has_txid, entry_by_txid}
use Rattle.gate_pool.specs.Family.{steps, children_of, ancestors_above, all_below, is_below_some, AreIdsOf}
use Rattle.gate_pool.specs.Search.{IsEntry, IsFound, parents_of}
use Rattle.gate_pool.proofs.Adding.{DifferById, passed}
use Rattle.gate_pool.proofs.Entries.{Id, Contains-map, Contains-from_map, entry_step, step_entry, find_some}
use Rattle.gate_pool.proofs.Ids.{same_txid}
use Rattle.gate_pool.proofs.Searching.{IsSound, IsSound-none, IsSound-more, IsSound-few, IsWalk, IsWalk-start, IsWalk-open}
use Rattle.gate_pool.proofs.Walking.{names, Contains-filter, Contains-from_filter}

-- an id is below one of the roots, or above what the inputs spend
abbrev pub is_under : List Admitted → List Id → Id → Bool
is_under g roots id = list_any (λ r. reaches (steps g) r id) roots

abbrev pub is_above : List Admitted → List TxIn → Id → Bool
is_above g inputs id = list_any (λ (i : TxIn). reaches (steps g) id i.prevout.txid) inputs

-- from a parent to a child, and from a child to a parent that is an entry
abbrev pub IsDown : List Admitted → Id → Id → Type 0
IsDown g a b = Contains (steps g) (a, b)

abbrev pub IsUp : List Admitted → Id → Id → Type 0
IsUp g a b = Contains (steps g) (b, a) × IsEntry g b

abbrev pub WalkDown : List Admitted → List Id → ℕ → List Id → Type 0
WalkDown g roots opened found = IsWalk g (is_under g roots) (IsDown g) roots opened found

abbrev pub WalkUp : List Admitted → List TxIn → ℕ → List Id → Type 0
WalkUp g inputs opened found = IsWalk g (is_above g inputs) (IsUp g) (parents_of inputs) opened found

module _ (g : List Admitted) (roots : List Id) where
  -- a root is below itself
  pub root_under : (id : Id) → Contains roots id → IsEntry g id → is_under g roots id ≡ true
  root_under id m has = list_any_of (λ r. reaches (steps g) r id) roots id m (reaches-same (steps g) id)

  -- a child of what is below a root is so too
  pub child_under : (x : Id) (ids : List Id) → is_under g roots x ≡ true → AreIdsOf ids (children_of g x) → (id : Id) → Contains ids id → IsEntry g id → is_under g roots id ≡ true
  child_under x ids under are id m has =
      let w = are.only id m in
      let p = any_is (λ (i : TxIn). bytes_eq i.prevout.txid x) w.0.tx.inputs (passed (λ (e : Admitted). names e x) g w.0 w.1) in
      let s : Contains (steps g) (x, id) = subst (λ z. Contains (steps g) (x, z)) w.2
      (subst (λ z. Contains (steps g) (z, txid_of w.0.tx)) ((bytes_decides p.0.prevout.txid x).0 p.2) (entry_step g w.0 p.0 (Contains-from_filter (λ (e : Admitted). names e x) g w.0 w.1) p.1)) in
      let r = any_is (λ r. reaches (steps g) r x) roots under in
      list_any_of (λ r. reaches (steps g) r id) roots r.0 r.1 (reaches_trans (steps g) r.0 x id r.2 (reaches_step (steps g) x id s))

  -- the roots are added
  pub WalkDown-start : {most : ℕ} {before found : List Id} {w : Bool} → before ≡ [] → IsFound most g roots before found w → w ≡ true → WalkDown g roots 0 found
  WalkDown-start is h e = IsWalk-start is h e root_under

  -- the children of the next are added
  pub WalkDown-open : {most opened : ℕ} {ids found after : List Id} {w : Bool} → WalkDown g roots opened found → (x : Id) → opened < length found → x ≡ get_or found opened x → AreIdsOf ids (children_of g x)
      → IsFound most g ids found after w → w ≡ true → WalkDown g roots (opened + 1) after
  WalkDown-open {opened = opened} {ids = ids} w x lt is are h e =
      IsWalk-open w x lt is h e (child_under x ids (w.sound.aimed x (opened, lt, sym is)) are) (λ b s.
      let v = step_entry g x b s in
      let named : names v.entry x ≡ true = list_any_of (λ (i : TxIn). bytes_eq i.prevout.txid x) v.entry.tx.inputs v.point v.spent ((bytes_decides v.point.prevout.txid x).1 v.parent) in
      (subst (Contains ids) v.child (are.all v.entry (Contains-filter (λ (e : Admitted). names e x) g v.entry v.member named)), (v.entry, v.member, v.child)))

  module _ (test : Admitted → Bool) (are : AreIdsOf roots (filter test g)) where
    -- what is below a root is below an entry that passes
    pub under_below : (e : Admitted) → is_under g roots (txid_of e.tx) ≡ true → is_below_some test g e ≡ true
    under_below e h =
        let r = any_is (λ r. reaches (steps g) r (txid_of e.tx)) roots h in
        let a = are.only r.0 r.1 in
        list_any_of (λ b. test b && reaches (steps g) (txid_of b.tx) (txid_of e.tx)) g a.0 (Contains-from_filter test g a.0 a.1)
        (and_from _ _ (passed test g a.0 a.1) (subst (λ z. reaches (steps g) z (txid_of e.tx) ≡ true) (sym a.2) r.2))

    many : {most : ℕ} {found : List Id} → IsSound g (is_under g roots) found → most < length found → most < length (all_below test g)
    many s l = omega (arith, l, IsSound-few s (is_below_some test g) (λ e m h. under_below e h))

    -- there are more roots than there may be, or more with the children of the next
    pub WalkDown-over : {most : ℕ} {before found : List Id} {w : Bool} → before ≡ [] → IsFound most g roots before found w → w ≡ false → most < length (all_below test g)
    WalkDown-over {before = before} is h e = many (IsSound-more (IsSound-none before is) h root_under) (h.many e)

    pub WalkDown-over_next : {most opened : ℕ} {ids found after : List Id} {w : Bool} → WalkDown g roots opened found → (x : Id) → opened < length found → x ≡ get_or found opened x → AreIdsOf ids (children_of g x)
        → IsFound most g ids found after w → w ≡ false → most < length (all_below test g)
    WalkDown-over_next {opened = opened} {ids = ids} w x lt is are h e = many (IsSound-more w.sound h (child_under x ids (w.sound.aimed x (opened, lt, sym is)) are)) (h.many e)

    -- all are opened
    pub WalkDown-end : {opened : ℕ} {found : List Id} → WalkDown g roots opened found → length found ≤ opened → AreIdsOf found (all_below test g)
    WalkDown-end {opened} {found} w l = record {
      once = w.sound.once;
      all = λ e m.
          let p = any_is (λ a. test a && reaches (steps g) (txid_of a.tx) (txid_of e.tx)) g (passed (is_below_some test g) g e m) in
          let t = and_parts _ _ p.2 in
          follow (Leads_from_reaches (steps g) (txid_of p.0.tx) (txid_of e.tx) t.1) (w.started (txid_of p.0.tx) (are.all p.0 (Contains-filter test g p.0 p.1 t.0)) (p.0, p.1, refl));
      only = λ id m.
          let v = w.sound.entry id m in
          (v.0, Contains-filter (is_below_some test g) g v.0 v.1 (under_below v.0 (ap (is_under g roots) v.2 ∙ w.sound.aimed id m)), v.2);
    }
      where
        follow : {a b : Id} → Leads (steps g) a b → Contains found a → Contains found b
        follow here m = m
        follow (down {a = a} {b = b} s k) m = follow k (w.followed a b (subst (λ l. Contains l a) (sym (take_all opened found l)) m) s)

module _ (g : List Admitted) (inputs : List TxIn) where
  -- what an input names is above it
  pub parent_above : (id : Id) → Contains (parents_of inputs) id → IsEntry g id → is_above g inputs id ≡ true
  parent_above id m has =
      let p = Contains-from_map (λ (i : TxIn). i.prevout.txid) inputs id m in
      list_any_of (λ (i : TxIn). reaches (steps g) id i.prevout.txid) inputs p.item p.among (subst (λ z. reaches (steps g) id z ≡ true) (sym p.is) (reaches-same (steps g) id))

  -- a parent of what is above the inputs is so too
  pub grandparent_above : (e : Admitted) → Contains g e → is_above g inputs (txid_of e.tx) ≡ true → (id : Id) → Contains (parents_of e.tx.inputs) id → IsEntry g id → is_above g inputs id ≡ true
  grandparent_above e m above id c has =
      let p = Contains-from_map (λ (i : TxIn). i.prevout.txid) e.tx.inputs id c in
      let s : Contains (steps g) (id, txid_of e.tx) = subst (λ z. Contains (steps g) (z, txid_of e.tx)) p.is (entry_step g e p.item m p.among) in
      let r = any_is (λ (i : TxIn). reaches (steps g) (txid_of e.tx) i.prevout.txid) inputs above in
      list_any_of (λ (i : TxIn). reaches (steps g) id i.prevout.txid) inputs r.0 r.1 (reaches_trans (steps g) id (txid_of e.tx) r.0.prevout.txid (reaches_step (steps g) id (txid_of e.tx) s) r.2)

  -- the parents are added
  pub WalkUp-start : {most : ℕ} {before found : List Id} {w : Bool} → before ≡ [] → IsFound most g (parents_of inputs) before found w → w ≡ true → WalkUp g inputs 0 found
  WalkUp-start is h e = IsWalk-start is h e parent_above

  -- so are those of the next
  above_next : {opened : ℕ} {found : List Id} → WalkUp g inputs opened found → (x : Id) → opened < length found → x ≡ get_or found opened x
      → (e : Admitted) → entry_by_txid g x ≡ Some e → (id : Id) → Contains (parents_of e.tx.inputs) id → IsEntry g id → is_above g inputs id ≡ true
  above_next {opened = opened} w x lt is e finds id m has =
      let v = find_some (λ (d : Admitted). has_txid d x) g e finds in
      grandparent_above e v.0 (ap (is_above g inputs) ((bytes_decides (txid_of e.tx) x).0 v.1) ∙ w.sound.aimed x (opened, lt, sym is)) id m has

  -- the parents of the next are added
  pub WalkUp-open : {most opened : ℕ} {found after : List Id} {w : Bool} → AllPairs DifferById g → WalkUp g inputs opened found → (x : Id) → opened < length found → x ≡ get_or found opened x
      → (e : Admitted) → entry_by_txid g x ≡ Some e → IsFound most g (parents_of e.tx.inputs) found after w → w ≡ true → WalkUp g inputs (opened + 1) after
  WalkUp-open {opened = opened} distinct w x lt is e finds h t =
      let v = find_some (λ (d : Admitted). has_txid d x) g e finds in
      let same : txid_of e.tx ≡ x = (bytes_decides (txid_of e.tx) x).0 v.1 in
      IsWalk-open w x lt is h t (above_next w x lt is e finds) (λ b s.
      let p = step_entry g b x s.0 in
      let one : p.entry ≡ e = same_txid g distinct p.entry e p.member v.0 (p.child ∙ sym same) in
      let named : Contains (parents_of p.entry.tx.inputs) b = subst (Contains (parents_of p.entry.tx.inputs)) p.parent (Contains-map (λ (i : TxIn). i.prevout.txid) p.entry.tx.inputs p.point p.spent) in
      (subst (λ l. Contains (parents_of l) b) (ap (λ (d : Admitted). d.tx.inputs) one) named, s.1))

  many_above : {most : ℕ} {found : List Id} → IsSound g (is_above g inputs) found → most < length found → most < length (ancestors_above g inputs)
  many_above s l = omega (arith, l, IsSound-few s (λ e. is_above g inputs (txid_of e.tx)) (λ e m h. h))

  -- there are more parents than there may be, or more with the parents of the next
  pub WalkUp-over : {most : ℕ} {before found : List Id} {w : Bool} → before ≡ [] → IsFound most g (parents_of inputs) before found w → w ≡ false → most < length (ancestors_above g inputs)
  WalkUp-over {before = before} is h e = many_above (IsSound-more (IsSound-none before is) h parent_above) (h.many e)

  pub WalkUp-over_next : {most opened : ℕ} {found after : List Id} {w : Bool} → WalkUp g inputs opened found → (x : Id) → opened < length found → x ≡ get_or found opened x
      → (e : Admitted) → entry_by_txid g x ≡ Some e → IsFound most g (parents_of e.tx.inputs) found after w → w ≡ false → most < length (ancestors_above g inputs)
  WalkUp-over_next w x lt is e finds h t = many_above (IsSound-more w.sound h (above_next w x lt is e finds)) (h.many t)

  -- all are opened
  pub WalkUp-end : {opened : ℕ} {found : List Id} → WalkUp g inputs opened found → length found ≤ opened → AreIdsOf found (ancestors_above g inputs)
  WalkUp-end {opened} {found} w l = record {
    once = w.sound.once;
    all = λ e m.
        let p = any_is (λ (i : TxIn). reaches (steps g) (txid_of e.tx) i.prevout.txid) inputs (passed (λ (d : Admitted). is_above g inputs (txid_of d.tx)) g e m) in
        follow (Leads_from_reaches (steps g) (txid_of e.tx) p.0.prevout.txid p.2) (w.started p.0.prevout.txid (Contains-map (λ (i : TxIn). i.prevout.txid) inputs p.0 p.1))
        (e, Contains-from_filter (λ (d : Admitted). is_above g inputs (txid_of d.tx)) g e m, refl);
    only = λ id m.
        let v = w.sound.entry id m in
        (v.0, Contains-filter (λ (d : Admitted). is_above g inputs (txid_of d.tx)) g v.0 v.1 (ap (is_above g inputs) v.2 ∙ w.sound.aimed id m), v.2);
  }
    where
      follow : {a b : Id} → Leads (steps g) a b → (IsEntry g b → Contains found b) → IsEntry g a → Contains found a
      follow here m has = m has
      follow (down {a = a} {b = b} s k) m has =
          let v = step_entry g a b s in
          let next : Contains found b = follow k m (v.entry, v.member, v.child) in
          w.followed b a (subst (λ l. Contains l b) (sym (take_all opened found l)) next) (s, has)
