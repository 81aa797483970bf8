use Rattle.std.proofs.Common.{◌≡◌, ◌++◌, length, take, drop, sym, ap, subst, ◌∙◌, arith}
use Rattle.std.specs.Prelude.{filter}
use Rattle.std.proofs.Math.Seq.{take-append_seam}
use Rattle.gate_tx.specs.Tx.{Tx}
use Rattle.gate_tx.specs.Ids.{txid_of}
use Rattle.gate_pool.specs.Pool.{Admitted}
use Rattle.gate_pool.specs.Family.{names, parents_above, AreIdsOf}
use Rattle.gate_query.specs.Answers.{parents_of}
use Rattle.gate_query.proofs.family.parents.Goals as goal

pub returns : goal.returns
returns g c =
    let entries = c.args.pool.now.entries in
    let e = c.args.entry.now in
    let found = c.in_ok-txids.txids in
    let sorted = c.sort_by_admission.new.txids in
    let inputs = c.inputs-inputs.ensures ∙ ap (λ (t : Tx). t.inputs) c.transaction.ensures in
    let ids : AreIdsOf found.items (parents_of entries e) = subst (λ i. AreIdsOf found.items (parents_above entries i)) inputs c.in_ok-txids.ensures in
    let long : found.len ≡ length sorted = omega (arith, found.ok, c.sort_by_admission.ensures.len, ap length c.as_mut_slice.ensures.value) in
    ap (λ n. take n (sorted ++ drop (length sorted) found.items)) long ∙ take-append_seam sorted (drop (length sorted) found.items)
    ∙ c.sort_by_admission.ensures.order (λ (p : Admitted). names e (txid_of p.tx)) (subst (λ l. AreIdsOf l (parents_of entries e)) (sym c.as_mut_slice.ensures.value) ids)
