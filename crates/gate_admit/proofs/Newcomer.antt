-- Families with a newcomer behind the entries: of one that no entry names, and of one that names none.
use Rattle.std.proofs.Common.{◌≡◌, Bool, true, false, cond, ◌||◌, ◌&&◌, List, [], ◌∷◌, ◌++◌, append-nil, refl, sym, ap, ◌∙◌, subst, ◌⊎◌, inl, inr, true≢false, arith}
use Rattle.std.specs.Prelude.{◌≢◌, Contains, is_some}
use Rattle.std.specs.List.{AllPairs, list_any}
use Rattle.std.specs.Str.{bytes_eq}
use Rattle.std.specs.Cmp.Lexicographic.{bytes_decides}
use Rattle.std.proofs.lemmas.Bool.{false_from_ne_true, and_parts, and_from, or_left, or_right}
use Rattle.std.proofs.lemmas.List.Elements.{filter-append, Contains-append_cases, Contains-append_left, Contains-append_right}
use Rattle.gate_tx.specs.declared.TxIn.{TxIn}
use Rattle.gate_tx.specs.Ids.{txid_of}
use Rattle.gate_graph.specs.Family.{reaches, Leads, here, down}
use Rattle.gate_graph.proofs.Filters.{filter_same_on, filter_none}
use Rattle.gate_bytes.proofs.Members.{Contains-cons_cases, Contains-head, any_is, list_any_of, not_in_none}
use Rattle.gate_graph.proofs.Reaching.{reaches-same, reaches_trans, reaches_step, reaches_from_Leads, Leads_from_reaches, Leads_more}
use Rattle.gate_graph.proofs.Refreshing.{same_to, same_from}
use Rattle.gate_graph.proofs.Steps.{same_bool}
use Rattle.gate_pool.specs.Pool.{Admitted, entry_by_txid}
use Rattle.gate_pool.specs.Search.{IsEntry}
use Rattle.gate_pool.specs.Family.{names, children_of, steps, ancestors_of, descendants_of, ancestors_above, all_below, is_below_some, AreIdsOf}
use Rattle.gate_pool.proofs.Adding.{DifferById}
use Rattle.gate_pool.proofs.Entries.{Id, entry_step, step_entry}
use Rattle.gate_pool.proofs.Families.{is_above}
use Rattle.gate_pool.proofs.OwnAncestors.{own_or_above, above_is}
use Rattle.gate_pool.proofs.Walking.{Contains-filter}
use Rattle.gate_rbf.proofs.Counted.{entry_found}
use Rattle.gate_admit.specs.Chains.{AddsNoChain}
use Rattle.gate_admit.specs.Limits.{is_below_itself, has_parent}
use Rattle.gate_admit.proofs.Removing.{steps_within}

-- two tests agree on a list where they agree on what fails a third, and all fail it
any_same : {X : Type 0} (p q r : X → Bool) (xs : List X) → list_any r xs ≡ false → ((x : X) → r x ≡ false → p x ≡ q x) → list_any p xs ≡ list_any q xs
any_same p q r [] h k = refl
any_same p q r (x ∷ xs) h k =
    let own : r x ≡ false = false_from_ne_true _ (λ t. true≢false (sym (or_left (r x) (list_any r xs) t) ∙ h)) in
    let rest : list_any r xs ≡ false = false_from_ne_true _ (λ t. true≢false (sym (or_right (r x) (list_any r xs) t) ∙ h)) in
    λ i. k x own i || any_same p q r xs rest k i

-- a chain ends where it begins, or at an entry
ends : (g : List Admitted) {a b : Id} → Leads (steps g) a b → (a ≡ b) ⊎ IsEntry g b
ends g here = inl refl
ends g (down {a = a} {b = b} s l) =
    elim (ends g l) [
      | inl same ↦ let w = step_entry g a b s in inr (w.entry, w.member, w.child ∙ same)
      | inr entry ↦ inr entry
    ]

module _ (entries : List Admitted) (n : Admitted) (new : (a : Admitted) → Contains entries a → txid_of a.tx ≢ txid_of n.tx) where
  abbrev with_it : List Admitted
  with_it = entries ++ n ∷ []

  abbrev its_id : Id
  its_id = txid_of n.tx

  -- an entry, or the newcomer
  which : (e : Admitted) → Contains with_it e → Contains entries e ⊎ (n ≡ e)
  which e m =
      elim (Contains-append_cases entries (n ∷ []) e m) [
        | inl old ↦ inl old
        | inr last ↦ elim (Contains-cons_cases n [] e last) [ inl same ↦ inr same | inr none ↦ not_in_none e none ]
      ]

  last : Contains with_it n
  last = Contains-append_right entries (n ∷ []) n (Contains-head n [])

  fewer : (a b : Id) → Contains (steps entries) (a, b) → Contains (steps with_it) (a, b)
  fewer = steps_within entries with_it (λ a m. Contains-append_left entries (n ∷ []) a m)

  kept : (a b : Id) → Contains (steps with_it) (a, b) → (b ≡ its_id → ⊥) → Contains (steps entries) (a, b)
  kept a b s ne =
      let w = step_entry with_it a b s in
      elim (which w.entry w.member) [
        | inl m ↦ subst (λ (z : Id). Contains (steps entries) (z, b)) w.parent (subst (λ (z : Id). Contains (steps entries) (w.point.prevout.txid, z)) w.child (entry_step entries w.entry w.point m w.spent))
        | inr same ↦ absurd (ne (sym w.child ∙ ap (λ (e : Admitted). txid_of e.tx) (sym same)))
      ]

  -- to what it doesn't lead to the same lead, and what doesn't lead to it leads to the same
  alike_to : (a b : Id) → reaches (steps with_it) its_id b ≡ false → reaches (steps with_it) a b ≡ reaches (steps entries) a b
  alike_to = same_to (steps with_it) (steps entries) its_id fewer kept

  alike_from : (a b : Id) → reaches (steps with_it) a its_id ≡ false → reaches (steps with_it) a b ≡ reaches (steps entries) a b
  alike_from = same_from (steps with_it) (steps entries) its_id fewer kept

  -- ---- where it isn't below itself

  module _ (apart : AllPairs DifferById with_it) (beside : is_below_itself with_it n.tx ≡ false) where
    above_alike : (a : Id) → is_above with_it n.tx.inputs a ≡ is_above entries n.tx.inputs a
    above_alike a =
        any_same (λ (i : TxIn). reaches (steps with_it) a i.prevout.txid) (λ (i : TxIn). reaches (steps entries) a i.prevout.txid) (λ (i : TxIn). reaches (steps with_it) its_id i.prevout.txid)
        n.tx.inputs beside (λ i h. alike_to a i.prevout.txid h)

    -- what is above its inputs is what was above them
    pub above_inputs : ancestors_above with_it n.tx.inputs ≡ ancestors_above entries n.tx.inputs
    above_inputs =
        filter-append (λ (e : Admitted). is_above with_it n.tx.inputs (txid_of e.tx)) entries (n ∷ [])
        ∙ (λ i. filter_same_on (λ (e : Admitted). is_above with_it n.tx.inputs (txid_of e.tx)) (λ (e : Admitted). is_above entries n.tx.inputs (txid_of e.tx)) entries (λ e m. above_alike (txid_of e.tx)) i ++ cond (beside i) (n ∷ []) [])
        ∙ append-nil (ancestors_above entries n.tx.inputs)

    -- its ancestors are these and it itself
    pub own_ancestors : ancestors_of with_it its_id ≡ ancestors_above entries n.tx.inputs ++ n ∷ []
    own_ancestors =
        filter-append (λ (e : Admitted). reaches (steps with_it) (txid_of e.tx) its_id) entries (n ∷ [])
        ∙ (λ i. filter_same_on (λ (e : Admitted). reaches (steps with_it) (txid_of e.tx) its_id) (λ (e : Admitted). is_above entries n.tx.inputs (txid_of e.tx)) entries (λ e m. same e m) i ++ cond (reaches-same (steps with_it) its_id i) (n ∷ []) [])
      where
        same : (e : Admitted) → Contains entries e → reaches (steps with_it) (txid_of e.tx) its_id ≡ is_above entries n.tx.inputs (txid_of e.tx)
        same e m = same_bool _ _
            (λ r.
            elim (own_or_above with_it apart n last its_id refl (txid_of e.tx) r) [
              | inl own ↦ absurd (new e m own)
              | inr up ↦ sym (above_alike (txid_of e.tx)) ∙ up
            ])
            (λ up. above_is with_it apart n last its_id refl (txid_of e.tx) (above_alike (txid_of e.tx) ∙ up))

  -- ---- where no entry names it, nor it itself

  module _ (own : names n its_id ≡ false) (childless : children_of entries its_id ≡ []) where
    no_child : (b : Id) → Contains (steps with_it) (its_id, b) → ⊥
    no_child b s =
        let w = step_entry with_it its_id b s in
        let named : names w.entry its_id ≡ true = list_any_of (λ (i : TxIn). bytes_eq i.prevout.txid its_id) w.entry.tx.inputs w.point w.spent ((bytes_decides w.point.prevout.txid its_id).1 w.parent) in
        elim (which w.entry w.member) [
          | inl m ↦ not_in_none w.entry (subst (λ (l : List Admitted). Contains l w.entry) childless (Contains-filter (λ (e : Admitted). names e its_id) entries w.entry m named))
          | inr same ↦ true≢false (sym named ∙ ap (λ (e : Admitted). names e its_id) (sym same) ∙ own)
        ]

    nowhere : (b : Id) → (b ≡ its_id → ⊥) → reaches (steps with_it) its_id b ≡ false
    nowhere b ne = false_from_ne_true _ (λ t. go (Leads_from_reaches (steps with_it) its_id b t) refl ne)
      where
        go : {a b : Id} → Leads (steps with_it) a b → a ≡ its_id → (b ≡ its_id → ⊥) → ⊥
        go here e ne = ne e
        go (down {b = c} s l) e ne = no_child c (subst (λ (z : Id). Contains (steps with_it) (z, c)) e s)

    pub leaf_beside : is_below_itself with_it n.tx ≡ false
    leaf_beside = false_from_ne_true _ (λ t.
        let w = any_is (λ (i : TxIn). reaches (steps with_it) its_id i.prevout.txid) n.tx.inputs t in
        true≢false (sym w.2 ∙ nowhere w.0.prevout.txid (λ e.
        true≢false (sym (list_any_of (λ (i : TxIn). bytes_eq i.prevout.txid its_id) n.tx.inputs w.0 w.1 ((bytes_decides w.0.prevout.txid its_id).1 e)) ∙ own))))

    -- nothing is below it but it itself
    pub leaf_below : descendants_of with_it its_id ≡ n ∷ []
    leaf_below =
        filter-append (λ (e : Admitted). reaches (steps with_it) its_id (txid_of e.tx)) entries (n ∷ [])
        ∙ (λ i. filter_none (λ (e : Admitted). reaches (steps with_it) its_id (txid_of e.tx)) entries (λ e m. nowhere (txid_of e.tx) (new e m)) i ++ cond (reaches-same (steps with_it) its_id i) (n ∷ []) [])

    -- the ancestors of an entry stay, and what is below one that leads to it has it last
    pub leaf_ancestors : (b : Id) → (b ≡ its_id → ⊥) → ancestors_of with_it b ≡ ancestors_of entries b
    leaf_ancestors b ne =
        filter-append (λ (e : Admitted). reaches (steps with_it) (txid_of e.tx) b) entries (n ∷ [])
        ∙ (λ i. filter_same_on (λ (e : Admitted). reaches (steps with_it) (txid_of e.tx) b) (λ (e : Admitted). reaches (steps entries) (txid_of e.tx) b) entries (λ e m. alike_to (txid_of e.tx) b (nowhere b ne)) i ++ cond (nowhere b ne i) (n ∷ []) [])
        ∙ append-nil (ancestors_of entries b)

    pub leaf_descendants : (a : Id) → reaches (steps with_it) a its_id ≡ true → descendants_of with_it a ≡ descendants_of entries a ++ n ∷ []
    leaf_descendants a r =
        filter-append (λ (e : Admitted). reaches (steps with_it) a (txid_of e.tx)) entries (n ∷ [])
        ∙ (λ i. filter_same_on (λ (e : Admitted). reaches (steps with_it) a (txid_of e.tx)) (λ (e : Admitted). reaches (steps entries) a (txid_of e.tx)) entries (λ e m. alike_to a (txid_of e.tx) (nowhere (txid_of e.tx) (new e m))) i ++ cond (r i) (n ∷ []) [])

  -- ---- where it names no entry, nor itself

  module _ (own : names n its_id ≡ false) (orphan : has_parent entries n.tx ≡ false) where
    -- it names no entry of this id
    not_named : (i : TxIn) → Contains n.tx.inputs i → IsEntry entries i.prevout.txid → ⊥
    not_named i m entry = true≢false (sym (list_any_of (λ (j : TxIn). is_some (entry_by_txid entries j.prevout.txid)) n.tx.inputs i m (entry_found entries i.prevout.txid entry)) ∙ orphan)

    not_own : (i : TxIn) → Contains n.tx.inputs i → i.prevout.txid ≡ its_id → ⊥
    not_own i m same = true≢false (sym (list_any_of (λ (j : TxIn). bytes_eq j.prevout.txid its_id) n.tx.inputs i m ((bytes_decides i.prevout.txid its_id).1 same)) ∙ own)

    no_parent : (a : Id) → Contains (steps with_it) (a, its_id) → IsEntry entries a → ⊥
    no_parent a s entry =
        let w = step_entry with_it a its_id s in
        elim (which w.entry w.member) [
          | inl m ↦ new w.entry m w.child
          | inr same ↦ not_named w.point (subst (λ (e : Admitted). Contains e.tx.inputs w.point) (sym same) w.spent) (subst (IsEntry entries) (sym w.parent) entry)
        ]

    -- no entry leads to it
    not_to : (e : Admitted) → Contains entries e → reaches (steps with_it) (txid_of e.tx) its_id ≡ false
    not_to e m = false_from_ne_true _ (λ t. go (Leads_from_reaches (steps with_it) (txid_of e.tx) its_id t) (e, m, refl) refl)
      where
        go : {a b : Id} → Leads (steps with_it) a b → IsEntry entries a → b ≡ its_id → ⊥
        go here entry same = new entry.0 entry.1 (entry.2 ∙ same)
        go (down {a = a} {b = c} s l) entry same =
            let w = step_entry with_it a c s in
            elim (which w.entry w.member) [
              | inl m ↦ go l (w.entry, m, w.child) same
              | inr is ↦ no_parent a (subst (λ (z : Id). Contains (steps with_it) (a, z)) (sym w.child ∙ ap (λ (d : Admitted). txid_of d.tx) (sym is)) s) entry
            ]

    pub root_beside : is_below_itself with_it n.tx ≡ false
    root_beside = false_from_ne_true _ (λ t.
        let w = any_is (λ (i : TxIn). reaches (steps with_it) its_id i.prevout.txid) n.tx.inputs t in
        elim (ends with_it (Leads_from_reaches (steps with_it) its_id w.0.prevout.txid w.2)) [
          | inl same ↦ not_own w.0 w.1 (sym same)
          | inr entry ↦
              elim (which entry.0 entry.1) [
                | inl m ↦ not_named w.0 w.1 (entry.0, m, entry.2)
                | inr is ↦ not_own w.0 w.1 (sym entry.2 ∙ ap (λ (d : Admitted). txid_of d.tx) (sym is))
              ]
        ])

    -- nothing was above its inputs
    pub root_above : ancestors_above entries n.tx.inputs ≡ []
    root_above = filter_none (λ (e : Admitted). is_above entries n.tx.inputs (txid_of e.tx)) entries (λ e m. false_from_ne_true _ (λ t.
        let w = any_is (λ (i : TxIn). reaches (steps entries) (txid_of e.tx) i.prevout.txid) n.tx.inputs t in
        elim (ends entries (Leads_from_reaches (steps entries) (txid_of e.tx) w.0.prevout.txid w.2)) [
          | inl same ↦ not_named w.0 w.1 (e, m, same)
          | inr entry ↦ not_named w.0 w.1 entry
        ]))

    -- so no id is that of an ancestor in the pool
    pub root_ids : (ids : List Id) → ids ≡ [] → AreIdsOf ids (ancestors_above entries n.tx.inputs)
    root_ids ids none =
        subst (AreIdsOf ids) (sym root_above) (subst (λ (l : List Id). AreIdsOf l []) (sym none)
        (record {
          once = λ i j d lt within. absurd (omega (arith, within));
          all = λ e m. not_in_none e m;
          only = λ id m. not_in_none id m;
        }))

    -- what is below it is what was below what names it
    pub root_below : descendants_of with_it its_id ≡ all_below (λ (e : Admitted). names e its_id) entries ++ n ∷ []
    root_below =
        filter-append (λ (e : Admitted). reaches (steps with_it) its_id (txid_of e.tx)) entries (n ∷ [])
        ∙ (λ i. filter_same_on (λ (e : Admitted). reaches (steps with_it) its_id (txid_of e.tx)) (is_below_some (λ (e : Admitted). names e its_id) entries) entries same i ++ cond (reaches-same (steps with_it) its_id i) (n ∷ []) [])
      where
        go : (e : Admitted) → Contains entries e → {a b : Id} → Leads (steps with_it) a b → a ≡ its_id → b ≡ txid_of e.tx → is_below_some (λ (d : Admitted). names d its_id) entries e ≡ true
        go e m here from to = absurd (new e m (sym to ∙ from))
        go e m (down {a = a} {b = c} {c = b} s l) from to =
            let w = step_entry with_it a c s in
            let named : names w.entry its_id ≡ true = list_any_of (λ (i : TxIn). bytes_eq i.prevout.txid its_id) w.entry.tx.inputs w.point w.spent ((bytes_decides w.point.prevout.txid its_id).1 (w.parent ∙ from)) in
            elim (which w.entry w.member) [
              | inl k ↦
                  let rest : reaches (steps with_it) (txid_of w.entry.tx) (txid_of e.tx) ≡ true = subst (λ (z : Id). reaches (steps with_it) z (txid_of e.tx) ≡ true) (sym w.child) (subst (λ (z : Id). reaches (steps with_it) c z ≡ true) to (reaches_from_Leads l)) in
                  list_any_of (λ (d : Admitted). names d its_id && reaches (steps entries) (txid_of d.tx) (txid_of e.tx)) entries w.entry k
                  (and_from _ _ named (sym (alike_from (txid_of w.entry.tx) (txid_of e.tx) (not_to w.entry k)) ∙ rest))
              | inr is ↦ absurd (true≢false (sym named ∙ ap (λ (d : Admitted). names d its_id) (sym is) ∙ own))
            ]

        same : (e : Admitted) → Contains entries e → reaches (steps with_it) its_id (txid_of e.tx) ≡ is_below_some (λ (d : Admitted). names d its_id) entries e
        same e m = same_bool _ _
            (λ r. go e m (Leads_from_reaches (steps with_it) its_id (txid_of e.tx) r) refl refl)
            (λ t.
            let w = any_is (λ (d : Admitted). names d its_id && reaches (steps entries) (txid_of d.tx) (txid_of e.tx)) entries t in
            let parts = and_parts _ _ w.2 in
            let i = any_is (λ (j : TxIn). bytes_eq j.prevout.txid its_id) w.0.tx.inputs parts.0 in
            let first : Contains (steps with_it) (its_id, txid_of w.0.tx) = subst (λ (z : Id). Contains (steps with_it) (z, txid_of w.0.tx)) ((bytes_decides i.0.prevout.txid its_id).0 i.2) (entry_step with_it w.0 i.0 (Contains-append_left entries (n ∷ []) w.0 w.1) i.1) in
            reaches_trans (steps with_it) its_id (txid_of w.0.tx) (txid_of e.tx) (reaches_step (steps with_it) its_id (txid_of w.0.tx) first)
            (reaches_from_Leads (Leads_more fewer (Leads_from_reaches (steps entries) (txid_of w.0.tx) (txid_of e.tx) parts.1))))

    -- what is below an entry stays, and the ancestors of one to which it leads have it last
    pub root_descendants : (e : Admitted) → Contains entries e → descendants_of with_it (txid_of e.tx) ≡ descendants_of entries (txid_of e.tx)
    root_descendants e m =
        filter-append (λ (d : Admitted). reaches (steps with_it) (txid_of e.tx) (txid_of d.tx)) entries (n ∷ [])
        ∙ (λ i. filter_same_on (λ (d : Admitted). reaches (steps with_it) (txid_of e.tx) (txid_of d.tx)) (λ (d : Admitted). reaches (steps entries) (txid_of e.tx) (txid_of d.tx)) entries (λ d k. alike_from (txid_of e.tx) (txid_of d.tx) (not_to e m)) i ++ cond (not_to e m i) (n ∷ []) [])
        ∙ append-nil (descendants_of entries (txid_of e.tx))

    pub root_ancestors : (b : Id) → reaches (steps with_it) its_id b ≡ true → ancestors_of with_it b ≡ ancestors_of entries b ++ n ∷ []
    root_ancestors b r =
        filter-append (λ (d : Admitted). reaches (steps with_it) (txid_of d.tx) b) entries (n ∷ [])
        ∙ (λ i. filter_same_on (λ (d : Admitted). reaches (steps with_it) (txid_of d.tx) b) (λ (d : Admitted). reaches (steps entries) (txid_of d.tx) b) entries (λ d k. alike_from (txid_of d.tx) b (not_to d k)) i ++ cond (r i) (n ∷ []) [])

  -- ---- where it adds no chain between entries, and doesn't name itself

  module _ (own : names n its_id ≡ false) (adds : AddsNoChain entries n.tx) where
    -- where a chain leads from, if it leads to an entry
    record Led (a b : Id) : Type 0 where
      entry : IsEntry entries a → reaches (steps entries) a b ≡ true
      newcomer : a ≡ its_id → (d : Admitted) × Contains entries d × (names d its_id ≡ true) × (reaches (steps entries) (txid_of d.tx) b ≡ true)

    led : {a b : Id} → Leads (steps with_it) a b → IsEntry entries b → Led a b
    led (here {a = a}) e = record { entry = λ _. reaches-same (steps entries) a; newcomer = λ is. absurd (new e.0 e.1 (e.2 ∙ is)) }
    led (down {a = a} {b = c} {c = b} s l) e =
        let w = step_entry with_it a c s in
        let rest = led l e in
        let named : (d : Admitted) → w.entry ≡ d → a ≡ its_id → names d its_id ≡ true =
        λ d same is. list_any_of (λ (i : TxIn). bytes_eq i.prevout.txid its_id) d.tx.inputs w.point (subst (λ (z : Admitted). Contains z.tx.inputs w.point) same w.spent) ((bytes_decides w.point.prevout.txid its_id).1 (w.parent ∙ is)) in
        elim (which w.entry w.member) [
          | inl m ↦
              let step : Contains (steps entries) (a, c) = subst (λ (z : Id). Contains (steps entries) (z, c)) w.parent (subst (λ (z : Id). Contains (steps entries) (w.point.prevout.txid, z)) w.child (entry_step entries w.entry w.point m w.spent)) in
              let on : reaches (steps entries) c b ≡ true = rest.entry (w.entry, m, w.child) in
              record {
                entry = λ _. reaches_trans (steps entries) a c b (reaches_step (steps entries) a c step) on;
                newcomer = λ is. (w.entry, m, named w.entry refl is, subst (λ (z : Id). reaches (steps entries) z b ≡ true) (sym w.child) on);
              }
          | inr is ↦
              record {
                entry = λ from.
                    let v = rest.newcomer (sym w.child ∙ ap (λ (z : Admitted). txid_of z.tx) (sym is)) in
                    let first : reaches (steps entries) w.point.prevout.txid (txid_of v.0.tx) ≡ true = adds w.point (subst (λ (z : Admitted). Contains z.tx.inputs w.point) (sym is) w.spent) (subst (IsEntry entries) (sym w.parent) from) v.0 v.1 v.2 in
                    reaches_trans (steps entries) a (txid_of v.0.tx) b (subst (λ (z : Id). reaches (steps entries) z (txid_of v.0.tx) ≡ true) w.parent first) v.3;
                newcomer = λ same. absurd (true≢false (sym (named n (sym is) same) ∙ own));
              }
        ]

    led_more : (a b : Id) → reaches (steps entries) a b ≡ true → reaches (steps with_it) a b ≡ true
    led_more a b r = reaches_from_Leads (Leads_more fewer (Leads_from_reaches (steps entries) a b r))

    -- from an entry the same entries are reached
    alike : (a d : Admitted) → Contains entries a → Contains entries d → reaches (steps with_it) (txid_of a.tx) (txid_of d.tx) ≡ reaches (steps entries) (txid_of a.tx) (txid_of d.tx)
    alike a d m k = same_bool _ _ (λ r. (led (Leads_from_reaches (steps with_it) (txid_of a.tx) (txid_of d.tx) r) (d, k, refl)).entry (a, m, refl)) (led_more (txid_of a.tx) (txid_of d.tx))

    -- what is below it is what was below what names it
    pub amid_below : descendants_of with_it its_id ≡ all_below (λ (e : Admitted). names e its_id) entries ++ n ∷ []
    amid_below =
        filter-append (λ (e : Admitted). reaches (steps with_it) its_id (txid_of e.tx)) entries (n ∷ [])
        ∙ (λ i. filter_same_on (λ (e : Admitted). reaches (steps with_it) its_id (txid_of e.tx)) (is_below_some (λ (e : Admitted). names e its_id) entries) entries same i ++ cond (reaches-same (steps with_it) its_id i) (n ∷ []) [])
      where
        same : (e : Admitted) → Contains entries e → reaches (steps with_it) its_id (txid_of e.tx) ≡ is_below_some (λ (d : Admitted). names d its_id) entries e
        same e m = same_bool _ _
            (λ r.
            let v = (led (Leads_from_reaches (steps with_it) its_id (txid_of e.tx) r) (e, m, refl)).newcomer refl in
            list_any_of (λ (d : Admitted). names d its_id && reaches (steps entries) (txid_of d.tx) (txid_of e.tx)) entries v.0 v.1 (and_from _ _ v.2 v.3))
            (λ t.
            let w = any_is (λ (d : Admitted). names d its_id && reaches (steps entries) (txid_of d.tx) (txid_of e.tx)) entries t in
            let parts = and_parts _ _ w.2 in
            let i = any_is (λ (j : TxIn). bytes_eq j.prevout.txid its_id) w.0.tx.inputs parts.0 in
            let first : Contains (steps with_it) (its_id, txid_of w.0.tx) = subst (λ (z : Id). Contains (steps with_it) (z, txid_of w.0.tx)) ((bytes_decides i.0.prevout.txid its_id).0 i.2) (entry_step with_it w.0 i.0 (Contains-append_left entries (n ∷ []) w.0 w.1) i.1) in
            reaches_trans (steps with_it) its_id (txid_of w.0.tx) (txid_of e.tx) (reaches_step (steps with_it) its_id (txid_of w.0.tx) first) (led_more (txid_of w.0.tx) (txid_of e.tx) parts.1))

    -- an entry's families have it last where chains lead to it, or from it
    pub amid_ancestors : (b : Admitted) → Contains entries b → (r : Bool) → reaches (steps with_it) its_id (txid_of b.tx) ≡ r → ancestors_of with_it (txid_of b.tx) ≡ ancestors_of entries (txid_of b.tx) ++ cond r (n ∷ []) []
    amid_ancestors b m r is =
        filter-append (λ (d : Admitted). reaches (steps with_it) (txid_of d.tx) (txid_of b.tx)) entries (n ∷ [])
        ∙ (λ i. filter_same_on (λ (d : Admitted). reaches (steps with_it) (txid_of d.tx) (txid_of b.tx)) (λ (d : Admitted). reaches (steps entries) (txid_of d.tx) (txid_of b.tx)) entries (λ d k. alike d b k m) i ++ cond (is i) (n ∷ []) [])

    pub amid_descendants : (a : Admitted) → Contains entries a → (r : Bool) → reaches (steps with_it) (txid_of a.tx) its_id ≡ r → descendants_of with_it (txid_of a.tx) ≡ descendants_of entries (txid_of a.tx) ++ cond r (n ∷ []) []
    amid_descendants a m r is =
        filter-append (λ (d : Admitted). reaches (steps with_it) (txid_of a.tx) (txid_of d.tx)) entries (n ∷ [])
        ∙ (λ i. filter_same_on (λ (d : Admitted). reaches (steps with_it) (txid_of a.tx) (txid_of d.tx)) (λ (d : Admitted). reaches (steps entries) (txid_of a.tx) (txid_of d.tx)) entries (λ d k. alike a d m k) i ++ cond (is i) (n ∷ []) [])

    -- ---- and isn't below itself

    module _ (apart : AllPairs DifferById with_it) (beside : is_below_itself with_it n.tx ≡ false) where
      -- it doesn't lead to what leads to one of its inputs
      no_round : (a : Id) → is_above with_it n.tx.inputs a ≡ true → reaches (steps with_it) its_id a ≡ false
      no_round a up = false_from_ne_true _ (λ t.
          let i = any_is (λ (j : TxIn). reaches (steps with_it) a j.prevout.txid) n.tx.inputs up in
          true≢false (sym (list_any_of (λ (j : TxIn). reaches (steps with_it) its_id j.prevout.txid) n.tx.inputs i.0 i.1 (reaches_trans (steps with_it) its_id a i.0.prevout.txid t i.2)) ∙ beside))

      pub not_from : (a : Id) → is_above entries n.tx.inputs a ≡ true → reaches (steps with_it) its_id a ≡ false
      not_from a up = no_round a (above_alike apart beside a ∙ up)

      pub not_back : (d : Admitted) → Contains entries d → reaches (steps with_it) its_id (txid_of d.tx) ≡ true → reaches (steps with_it) (txid_of d.tx) its_id ≡ false
      not_back d m r = false_from_ne_true _ (λ t.
          elim (own_or_above with_it apart n last its_id refl (txid_of d.tx) t) [
            | inl same ↦ new d m same
            | inr up ↦ true≢false (sym r ∙ no_round (txid_of d.tx) up)
          ])

  -- one that names itself is below itself
  pub own_below : names n its_id ≡ true → is_below_itself with_it n.tx ≡ true
  own_below t =
      let w = any_is (λ (i : TxIn). bytes_eq i.prevout.txid its_id) n.tx.inputs t in
      list_any_of (λ (i : TxIn). reaches (steps with_it) its_id i.prevout.txid) n.tx.inputs w.0 w.1
      (subst (λ (z : Id). reaches (steps with_it) its_id z ≡ true) (sym ((bytes_decides w.0.prevout.txid its_id).0 w.2)) (reaches-same (steps with_it) its_id))

-- what is above the inputs of one that stands last, and isn't below itself, is what was above them
pub above_before : (entries es : List Admitted) (n : Admitted) → es ≡ entries ++ n ∷ [] → ((a : Admitted) → Contains entries a → txid_of a.tx ≢ txid_of n.tx) → AllPairs DifferById es → is_below_itself es n.tx ≡ false
    → ancestors_above es n.tx.inputs ≡ ancestors_above entries n.tx.inputs
above_before entries es n is new =
    subst (λ (l : List Admitted). AllPairs DifferById l → is_below_itself l n.tx ≡ false → ancestors_above l n.tx.inputs ≡ ancestors_above entries n.tx.inputs) (sym is)
    (λ apart beside. above_inputs entries n new apart beside)
