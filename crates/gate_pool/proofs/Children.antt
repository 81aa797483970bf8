-- The children of an id among nodes are those among entries.
use Rattle.std.proofs.Common.{◌≡◌, ◌<◌, ◌&&◌, true, false, List, [], Option, Some, None, length, sym, ap, subst, ◌∙◌, Bor}
use Rattle.std.specs.Prelude.{Contains, IfSome, IfNone}
use Rattle.std.specs.List.{IsDistinct}
use Rattle.std.specs.Option.{option_copied}
use Rattle.std.specs.Str.{bytes_eq}
use Rattle.std.specs.Cmp.Lexicographic.{bytes_decides}
use Rattle.std.specs.List.{list_any}
use Rattle.std.proofs.lemmas.Bool.{false_from_ne_true, and_from, and_parts}
use Rattle.std.proofs.lemmas.Map.Made.{AllPairs-from_IsDistinct}
use Rattle.gate_tx.specs.declared.TxIn.{TxIn}
use Rattle.gate_tx.specs.Ids.{txid_of}
use Rattle.gate_graph.specs.Family.{Node}
use Rattle.gate_graph.specs.Families.{among, children_of as nodes_naming}
use Rattle.gate_graph.specs.Holding.{nodes_in}
use Rattle.gate_graph.proofs.Apart.{among_from, Contains-among}
use Rattle.gate_graph.proofs.Childhood.{child_step, step_child}
use Rattle.gate_graph.proofs.Steps.{same_bool}
use Rattle.gate_bytes.proofs.Members.{any_is, list_any_of, not_in_none}
use Rattle.gate_pool.specs.Pool.{Admitted, has_txid}
use Rattle.gate_pool.specs.Family.{names, steps, children_of, without_family, without_below, AreIdsOf}
use Rattle.gate_pool.specs.Keeping.{entries_in, IsCarried}
use Rattle.gate_pool.specs.Search.{IsChild}
use Rattle.gate_pool.proofs.Adding.{passed}
use Rattle.gate_pool.proofs.Carrying.{steps_are}
use Rattle.gate_pool.proofs.Entries.{Id, entry_step, step_entry}
use Rattle.gate_pool.proofs.Removals.{without_below-family, family_falls}
use Rattle.gate_pool.proofs.Walking.{Contains-filter, Contains-from_filter}

module _ (nodes : List (Node × Admitted)) (k : IsCarried nodes) (x : Id) where
  abbrev es : List Admitted
  es = entries_in nodes

  -- a child is an entry that names the id
  pub is_child : (c : Id) → Contains (nodes_naming (nodes_in nodes) x) c → IsChild es x c
  is_child c m =
      let v = step_entry es x c (subst (λ s. Contains s (x, c)) (steps_are nodes k) (child_step (nodes_in nodes) x c m)) in
      (v.entry, v.member, list_any_of (λ (i : TxIn). bytes_eq i.prevout.txid x) v.entry.tx.inputs v.point v.spent ((bytes_decides v.point.prevout.txid x).1 v.parent), v.child)

  pub child_named : (e : Admitted) → Contains es e → names e x ≡ true → Contains (nodes_naming (nodes_in nodes) x) (txid_of e.tx)
  child_named e m n =
      let p = any_is (λ (i : TxIn). bytes_eq i.prevout.txid x) e.tx.inputs n in
      let s : Contains (steps es) (x, txid_of e.tx) = subst (λ z. Contains (steps es) (z, txid_of e.tx)) ((bytes_decides p.0.prevout.txid x).0 p.2) (entry_step es e p.0 m p.1) in
      step_child (nodes_in nodes) x (txid_of e.tx) (subst (λ s. Contains s (x, txid_of e.tx)) (sym (steps_are nodes k)) s)

  pub children_ids : (keys : List Id) → IsDistinct bytes_eq keys → ((o : Id) → among keys o ≡ among (nodes_naming (nodes_in nodes) x) o) → AreIdsOf keys (children_of es x)
  children_ids keys distinct same = record {
    once = AllPairs-from_IsDistinct bytes_decides keys distinct;
    all = λ e m.
        Contains-among keys (txid_of e.tx) (same (txid_of e.tx) ∙ among_from (nodes_naming (nodes_in nodes) x) (txid_of e.tx)
        (child_named e (Contains-from_filter (λ (d : Admitted). names d x) es e m) (passed (λ (d : Admitted). names d x) es e m)));
    only = λ id m.
        let v = is_child id (Contains-among (nodes_naming (nodes_in nodes) x) id (sym (same id) ∙ among_from keys id m)) in
        (v.0, Contains-filter (λ (d : Admitted). names d x) es v.0 v.1 v.2, v.3);
  }

  -- an id is that of a child if the entry that has it names the other
  pub child_told : (c : Id) → among (nodes_naming (nodes_in nodes) x) c ≡ list_any (λ (e : Admitted). names e x && has_txid e c) es
  child_told c = same_bool _ _
      (λ t.
      let v = is_child c (Contains-among (nodes_naming (nodes_in nodes) x) c t) in
      list_any_of (λ (e : Admitted). names e x && has_txid e c) es v.0 v.1 (and_from _ _ v.2 ((bytes_decides (txid_of v.0.tx) c).1 v.3)))
      (λ t.
      let w = any_is (λ (e : Admitted). names e x && has_txid e c) es t in
      let p = and_parts _ _ w.2 in
      among_from (nodes_naming (nodes_in nodes) x) c (subst (Contains (nodes_naming (nodes_in nodes) x)) ((bytes_decides (txid_of w.0.tx) c).0 p.1) (child_named w.0 w.1 p.0)))

  -- none names an id that has no child
  pub none_named : nodes_naming (nodes_in nodes) x ≡ [] → (e : Admitted) → Contains es e → names e x ≡ false
  none_named is e m = false_from_ne_true _ (λ t. not_in_none (txid_of e.tx) (subst (λ l. Contains l (txid_of e.tx)) is (child_named e m t)))

  pub child_copied : (r : Option (Bor Id)) (q : Option Id) → q ≡ option_copied r → IfSome r (λ c. Contains (nodes_naming (nodes_in nodes) x) c.now) → IfSome q (λ c. IsChild es x c)
  child_copied None q e h = subst (λ (o : Option Id). IfSome o (λ c. IsChild es x c)) (sym e) tt
  child_copied (Some c) q e h = subst (λ (o : Option Id). IfSome o (λ c. IsChild es x c)) (sym e) (is_child c.now h)

  pub none_copied : (r : Option (Bor Id)) (q : Option Id) → q ≡ option_copied r → IfNone r (nodes_naming (nodes_in nodes) x ≡ []) → IfNone q ((e : Admitted) → Contains es e → names e x ≡ false)
  none_copied None q e h = subst (λ (o : Option Id). IfNone o ((d : Admitted) → Contains es d → names d x ≡ false)) (sym e) (none_named h)
  none_copied (Some c) q e h = subst (λ (o : Option Id). IfNone o ((d : Admitted) → Contains es d → names d x ≡ false)) (sym e) tt

-- the family of a child goes
pub child_goes : (es rest : List Admitted) (x c : Id) → IsChild es x c → rest ≡ without_family es c → without_below (λ e. names e x) rest ≡ without_below (λ e. names e x) es
child_goes es rest x c child is =
    ap (without_below (λ e. names e x)) (is ∙ ap (without_family es) (sym child.3)) ∙ without_below-family (λ e. names e x) es child.0 child.1 child.2

pub child_falls : (es rest : List Admitted) (x c : Id) → IsChild es x c → rest ≡ without_family es c → length rest < length es
child_falls es rest x c child is = subst (λ l. length l < length es) (sym (is ∙ ap (without_family es) (sym child.3))) (family_falls es child.0 child.1)
