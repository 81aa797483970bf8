use Rattle.std.proofs.Common.{◌≡◌, ◌++◌, List, ℕ, Bool, true, false, ◌||◌, Option, length, take, drop, refl, sym, ap, subst, ◌∙◌, arith}
use Rattle.std.specs.Prelude.{IfSome, Vec, filter}
use Rattle.std.specs.List.{list_any}
use Rattle.std.proofs.Math.Seq.{take-append_seam}
use Rattle.std.proofs.lemmas.List.Elements.{filter_agree}
use Rattle.gate_tx.specs.declared.TxIn.{TxIn}
use Rattle.gate_tx.specs.Ids.{txid_of}
use Rattle.gate_graph.specs.Family.{reaches}
use Rattle.gate_pool.specs.Pool.{Admitted, listing_of}
use Rattle.gate_pool.specs.Family.{steps, AreIdsOf}
use Rattle.gate_pool.proofs.Walking.{shorter}
use Rattle.gate_query.proofs.Ids.{some_unless_none}
use Rattle.gate_query.proofs.family.with_ancestors.Goals as goal

-- an entry leads to what the inputs spend
abbrev leads : List Admitted → List TxIn → Admitted → Bool
leads entries inputs e = list_any (λ (i : TxIn). reaches (steps entries) (txid_of e.tx) i.prevout.txid) inputs

or_false : (b : Bool) → (b || false) ≡ b
or_false true = refl
or_false false = refl

pub unwrap-txids-requires : goal.unwrap-txids-requires
unwrap-txids-requires g c =
    let entries = c.args.pool.now.entries in
    some_unless_none c.in_ok-found.found (λ none.
    absurd (omega (arith, c.in_ok-found.ensures.many none, c.count.ensures, shorter (leads entries c.from_ref.result.now) entries)))

pub returns : goal.returns
returns g c =
    let entries = c.args.pool.now.entries in
    let found = c.unwrap-txids.result in
    let sorted = c.sort_by_admission.new.txids in
    let test = leads entries c.from_ref.result.now in
    let ids : AreIdsOf found.items (filter test entries) = subst (λ (o : Option (Vec (List ℕ) _)). IfSome o (λ ids. AreIdsOf ids.items (filter test entries))) c.unwrap-txids.ensures c.in_ok-found.ensures.found in
    let long : found.len ≡ length sorted = omega (arith, found.ok, c.sort_by_admission.ensures.len, ap length c.as_mut_slice.ensures.value) in
    let same : (e : Admitted) → test e ≡ reaches (steps entries) (txid_of e.tx) c.args.txid.now =
    λ e. ap (λ is. leads entries is e) c.from_ref.ensures.value
    ∙ or_false (reaches (steps entries) (txid_of e.tx) c.spending-input.result.prevout.txid) ∙ ap (reaches (steps entries) (txid_of e.tx)) c.spending-input.ensures in
    ap (λ n. take n (sorted ++ drop (length sorted) found.items)) long ∙ take-append_seam sorted (drop (length sorted) found.items)
    ∙ c.sort_by_admission.ensures.order test (subst (λ l. AreIdsOf l (filter test entries)) (sym c.as_mut_slice.ensures.value) ids)
    ∙ ap listing_of (filter_agree test _ same entries)
