use Rattle.std.proofs.Common.{◌≡◌, ◌++◌, ◌∷◌, [], List, Bool, Option, length, take, drop, sym, ap, subst, ◌∙◌, arith}
use Rattle.std.specs.Prelude.{IfSome, Vec, filter}
use Rattle.std.proofs.Math.Seq.{take-append_seam}
use Rattle.gate_pool.specs.Pool.{Admitted, has_txid, listing_of}
use Rattle.gate_pool.specs.Family.{all_below, is_below_some, descendants_of, AreIdsOf}
use Rattle.gate_pool.specs.Search.{IsEntry}
use Rattle.gate_pool.proofs.Entries.{Id}
use Rattle.gate_pool.proofs.Ids.{AreIdsOf-one, descendants_of_one}
use Rattle.gate_pool.proofs.Searching.{entry_there}
use Rattle.gate_pool.proofs.Walking.{shorter}
use Rattle.gate_query.proofs.Ids.{some_unless_none}
use Rattle.gate_query.proofs.family.with_descendants.Goals as goal

-- an entry's id is the root of its family
root : (entries : List Admitted) (id : Id) → IsEntry entries id → AreIdsOf (id ∷ []) (filter (λ x. has_txid x id) entries)
root entries id entry = AreIdsOf-one entries entry.0 id entry.1 entry.2

family_is : (entries : List Admitted) (id : Id) → IsEntry entries id → all_below (λ x. has_txid x id) entries ≡ descendants_of entries id
family_is entries id entry = subst (λ z. all_below (λ x. has_txid x z) entries ≡ descendants_of entries z) entry.2 (descendants_of_one entries entry.0 entry.1)

pub unwrap-txids-requires : goal.unwrap-txids-requires
unwrap-txids-requires g c =
    let entries = c.args.pool.now.entries in
    let id = c.args.txid.now in
    let test : Admitted → Bool = λ x. has_txid x id in
    some_unless_none c.in_ok-found.found (λ none.
    absurd (omega (arith, c.in_ok-found.ensures.many test (root entries id (entry_there entries id c.requires)) none, c.count.ensures, shorter (is_below_some test entries) entries)))

pub returns : goal.returns
returns g c =
    let entries = c.args.pool.now.entries in
    let id = c.args.txid.now in
    let test : Admitted → Bool = λ x. has_txid x id in
    let entry = entry_there entries id c.requires in
    let found = c.unwrap-txids.result in
    let sorted = c.sort_by_admission.new.txids in
    let ids : AreIdsOf found.items (all_below test entries) = subst (λ (o : Option (Vec Id _)). IfSome o (λ ids. AreIdsOf ids.items (all_below test entries))) c.unwrap-txids.ensures (c.in_ok-found.ensures.found test (root entries id entry)) in
    let long : found.len ≡ length sorted = omega (arith, found.ok, c.sort_by_admission.ensures.len, ap length c.as_mut_slice.ensures.value) in
    ap (λ n. take n (sorted ++ drop (length sorted) found.items)) long ∙ take-append_seam sorted (drop (length sorted) found.items)
    ∙ c.sort_by_admission.ensures.order (is_below_some test entries) (subst (λ l. AreIdsOf l (all_below test entries)) (sym c.as_mut_slice.ensures.value) ids)
    ∙ ap listing_of (family_is entries id entry)
