-- Those that go with an id, or alone, and the children of an id.
use Rattle.std.proofs.Common.{◌≡◌, Bool, true, false, not, ◌||◌, List, [], ◌∷◌, Some, None, refl, sym, ap, ◌∙◌, subst, inl, inr, true≢false, arith}
use Rattle.std.specs.Prelude.{Contains}
use Rattle.std.specs.List.{list_any}
use Rattle.std.specs.Str.{bytes_eq}
use Rattle.std.specs.Cmp.Lexicographic.{bytes_decides}
use Rattle.std.proofs.lemmas.Bool.{false_from_ne_true, not-true}
use Rattle.gate_tx.specs.Ids.{txid_of}
use Rattle.gate_tx.specs.declared.OutPoint.{OutPoint}
use Rattle.gate_graph.specs.Family.{Node, reaches}
use Rattle.gate_graph.specs.declared.held.Gone.{Gone}
use Rattle.gate_graph.specs.Holding.{AreGone}
use Rattle.gate_graph.specs.Slots.{at}
use Rattle.gate_graph.proofs.Filters.{Contains-map, Contains-from_map, Contains-from_filter}
use Rattle.gate_bytes.proofs.Members.{Contains-cons_cases, Contains-head, not_in_none}
use Rattle.gate_graph.proofs.Reaching.{reaches-same}
use Rattle.gate_pool.specs.Pool.{Admitted, entry_by_txid, has_txid, has_point, spender_of}
use Rattle.gate_pool.specs.Family.{node_of, steps, without_family, without_below}
use Rattle.gate_pool.specs.Distinct.{AreDistinct}
use Rattle.gate_pool.specs.Keeping.{entries_in, IsCarried}
use Rattle.gate_pool.specs.Log.{loads_of}
use Rattle.gate_pool.specs.Search.{parents_of}
use Rattle.gate_pool.proofs.Carrying.{steps_are}
use Rattle.gate_pool.proofs.Conflicts.{find_absent}
use Rattle.gate_pool.proofs.Entries.{Id, find_some, find_none}
use Rattle.gate_pool.proofs.Found.{AreLeaving}
use Rattle.gate_pool.proofs.Ids.{same_entry, same_spender}
use Rattle.gate_pool.proofs.Removals.{without_below-family, without_below-none}
use Rattle.gate_pool.proofs.Seats.{Spots, Log, AreTaken}

was_true : (b : Bool) → not b ≡ false → b ≡ true
was_true true h = refl
was_true false h = sym h

pub any_loads : (t : Admitted → Bool) (log : Log) → list_any (λ x. t x.load) log ≡ list_any t (loads_of log)
any_loads t [] = refl
any_loads t (x ∷ log) = ap (λ b. t x.load || b) (any_loads t log)

-- what was taken with its places is what leaves
pub leaving_taken : (test : Id → Bool) (es : List Admitted) (spots : Spots) (more : Log) → AreTaken test es spots more → AreLeaving (λ e. not (test (txid_of e.tx))) es (loads_of more)
leaving_taken test es spots more taken = record {
  all = λ e c n. let w = taken.all e c (was_true _ n) in subst (Contains (loads_of more)) w.3 (Contains-map (λ (x : Gone Admitted). x.load) more w.0 w.1);
  only = λ e c.
      let v = Contains-from_map (λ (x : Gone Admitted). x.load) more e c in
      let w = taken.only v.0 v.1 in
      let same : w.0 ≡ e = sym w.4 ∙ v.2 in
      (subst (Contains es) same w.1, ap not (ap (λ (d : Admitted). test (txid_of d.tx)) (sym same) ∙ w.2));
}

-- what goes with an id
pub taken_family : (nodes : List (Node × Admitted)) (places : Spots) (x : Id) (before after : Log) → IsCarried nodes → (gone : AreGone nodes places x before after) → AreTaken (reaches (steps (entries_in nodes)) x) (entries_in nodes) places gone.more
taken_family nodes places x before after k gone = record {
  all = λ e c t.
      let there : Contains nodes (node_of e, e) = subst (λ l. Contains l (node_of e, e)) (sym k.is) (Contains-map (λ (d : Admitted). (node_of d, d)) es e c) in
      let w = gone.all (node_of e, e) there (ap (λ s. reaches s x (txid_of e.tx)) (steps_are nodes k) ∙ t) in
      (w.0, w.1, w.2, w.4);
  only = λ y c.
      let w = gone.only y c in
      let v = Contains-from_map (λ (d : Admitted). (node_of d, d)) es w.0 (subst (λ l. Contains l w.0) k.is w.1) in
      let id : txid_of v.0.tx ≡ w.0.0.id = ap (λ (p : Node × Admitted). p.0.id) v.2 in
      (v.0, v.1, ap (reaches (steps es) x) id ∙ ap (λ s. reaches s x w.0.0.id) (sym (steps_are nodes k)) ∙ w.2, w.3 ∙ ap Some (sym id), w.5 ∙ sym (ap (λ (p : Node × Admitted). p.1) v.2));
  once = gone.once;
  named = λ y c.
      let w = gone.only y c in
      let v = Contains-from_map (λ (d : Admitted). (node_of d, d)) es w.0 (subst (λ l. Contains l w.0) k.is w.1) in
      w.4 ∙ ap (λ (p : Node × Admitted). p.0.parents) (sym v.2) ∙ ap (λ (d : Admitted). parents_of d.tx.inputs) (ap (λ (p : Node × Admitted). p.1) v.2 ∙ sym w.5);
}
  where
    es : List Admitted
    es = entries_in nodes

-- one that goes alone
pub taken_one : (es : List Admitted) (places : Spots) (x : Id) (g : Gone Admitted) → AreDistinct es → entry_by_txid es x ≡ Some g.load → at places g.place ≡ Some x → g.parents.items ≡ parents_of g.load.tx.inputs → AreTaken (λ y. bytes_eq y x) es places (g ∷ [])
taken_one es places x g distinct found place named = record {
  all = λ e c t.
      let same : txid_of e.tx ≡ x = (bytes_decides (txid_of e.tx) x).0 t in
      (g, Contains-head g [], place ∙ ap Some (sym same), same_entry es distinct g.load e w.0 c ((bytes_decides (txid_of g.load.tx) x).0 w.1 ∙ sym same));
  only = λ y c.
      elim (Contains-cons_cases g [] y c) [
        | inl same ↦ subst (λ (z : Gone Admitted). (e : Admitted) × Contains es e × (bytes_eq (txid_of e.tx) x ≡ true) × (at places z.place ≡ Some (txid_of e.tx)) × (z.load ≡ e)) same
            (g.load, w.0, w.1, place ∙ ap Some (sym ((bytes_decides (txid_of g.load.tx) x).0 w.1)), refl)
        | inr n ↦ not_in_none y n
      ];
  once = λ i j d lt within. absurd (omega (arith, lt, within));
  named = λ y c. elim (Contains-cons_cases g [] y c) [ inl same ↦ subst (λ (z : Gone Admitted). z.parents.items ≡ parents_of z.load.tx.inputs) same named | inr n ↦ not_in_none y n ];
}
  where
    w : Contains es g.load × (has_txid g.load x ≡ true)
    w = find_some (λ (d : Admitted). has_txid d x) es g.load found

-- no entry has the id
pub taken_none : (es : List Admitted) (places : Spots) (x : Id) → entry_by_txid es x ≡ None → AreTaken (λ y. bytes_eq y x) es places []
taken_none es places x none = record {
  all = λ e c t. absurd (true≢false (sym t ∙ find_none (λ (d : Admitted). has_txid d x) es none e c));
  only = λ y c. not_in_none y c;
  once = λ i j d lt within. absurd (omega (arith, within));
  named = λ y c. not_in_none y c;
}

-- with the family of its spender an outpoint has none
pub spender_gone : (es : List Admitted) (p : OutPoint) (e : Admitted) → AreDistinct es → spender_of es p ≡ Some e → spender_of (without_family es (txid_of e.tx)) p ≡ None
spender_gone es p e distinct found =
    let w = find_some (λ (d : Admitted). has_point d p) es e found in
    find_absent (λ (d : Admitted). has_point d p) (without_family es (txid_of e.tx)) (λ d c. false_from_ne_true _ (λ t.
    let s = Contains-from_filter (λ (a : Admitted). not (reaches (steps es) (txid_of e.tx) (txid_of a.tx))) es d c in
    let same : d ≡ e = same_spender es distinct p d e s.0 w.0 t w.1 in
    true≢false (sym (reaches-same (steps es) (txid_of e.tx)) ∙ ap (λ (a : Admitted). reaches (steps es) (txid_of e.tx) (txid_of a.tx)) (sym same) ∙ not-true _ s.1)))

-- the entry of an id goes with its family
pub id_gone : (es : List Admitted) (x : Id) (e : Admitted) → Contains es e → has_txid e x ≡ true → without_family es (txid_of e.tx) ≡ without_below (λ d. has_txid d x) es
id_gone es x e m t =
    sym (without_below-none (λ d. has_txid d x) (without_family es (txid_of e.tx)) (find_absent (λ (d : Admitted). has_txid d x) (without_family es (txid_of e.tx)) (λ d c. false_from_ne_true _ (λ named.
    let s = Contains-from_filter (λ (a : Admitted). not (reaches (steps es) (txid_of e.tx) (txid_of a.tx))) es d c in
    let same : txid_of d.tx ≡ txid_of e.tx = (bytes_decides (txid_of d.tx) x).0 named ∙ sym ((bytes_decides (txid_of e.tx) x).0 t) in
    true≢false (sym (reaches-same (steps es) (txid_of e.tx)) ∙ ap (reaches (steps es) (txid_of e.tx)) (sym same) ∙ not-true _ s.1)))))
    ∙ without_below-family (λ d. has_txid d x) es e m t
