-- The parents of a transaction in the pool, as they are found among what its inputs name.
use Rattle.std.proofs.Common.{◌≡◌, ℕ, Bool, true, List, [], refl, sym, subst, ◌∙◌, arith}
use Rattle.std.specs.Prelude.{Contains}
use Rattle.std.specs.Str.{bytes_eq}
use Rattle.std.specs.Cmp.Lexicographic.{bytes_decides}
use Rattle.gate_tx.specs.declared.TxIn.{TxIn}
use Rattle.gate_tx.specs.Ids.{txid_of}
use Rattle.gate_graph.proofs.Filters.{Contains-map, Contains-from_map, Contains-filter, Contains-from_filter}
use Rattle.gate_bytes.proofs.Members.{any_is, list_any_of}
use Rattle.gate_pool.specs.Pool.{Admitted}
use Rattle.gate_pool.specs.Family.{parents_above, AreIdsOf}
use Rattle.gate_pool.specs.Search.{parents_of, IsFound}
use Rattle.gate_pool.proofs.Entries.{Id}
use Rattle.std.specs.List.{list_any}

abbrev id_in : TxIn → Id
id_in i = i.prevout.txid

-- an input names the entry
abbrev is_named : List TxIn → Admitted → Bool
is_named inputs e = list_any (λ (i : TxIn). bytes_eq i.prevout.txid (txid_of e.tx)) inputs

pub found_parents : (most : ℕ) (g : List Admitted) (inputs : List TxIn) (found : List Id) (within : Bool)
    → IsFound most g (parents_of inputs) [] found within → within ≡ true → AreIdsOf found (parents_above g inputs)
found_parents most g inputs found within is all_found = record {
  once = is.once (λ i j d lt within. absurd (omega (arith, lt, within)));
  all = λ e c.
      let w = Contains-from_filter (is_named inputs) g e c in
      let r = any_is (λ (i : TxIn). bytes_eq i.prevout.txid (txid_of e.tx)) inputs w.1 in
      is.all all_found (txid_of e.tx)
      (subst (Contains (parents_of inputs)) ((bytes_decides r.0.prevout.txid (txid_of e.tx)).0 r.2) (Contains-map id_in inputs r.0 r.1))
      (e, w.0, refl);
  only = λ id c.
      let w = is.only id (subst (λ l. Contains l id) is.is c) in
      let e = w.1.0 in
      let r = Contains-from_map id_in inputs id w.0 in
      let same : r.0.prevout.txid ≡ txid_of e.tx = r.2 ∙ sym w.1.2 in (
        e,
        Contains-filter (is_named inputs) g e w.1.1
            (list_any_of (λ (i : TxIn). bytes_eq i.prevout.txid (txid_of e.tx)) inputs r.0 r.1 ((bytes_decides r.0.prevout.txid (txid_of e.tx)).1 same)),
        w.1.2,
      );
}
