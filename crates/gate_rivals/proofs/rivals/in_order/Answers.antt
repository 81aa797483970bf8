use Rattle.std.proofs.Common.{◌≡◌, ◌++◌, ℕ, List, length, take, drop, sym, ap, subst, ◌∙◌, arith}
use Rattle.std.specs.Prelude.{filter}
use Rattle.std.proofs.Math.Seq.{take-append_seam}
use Rattle.gate_pool.specs.Family.{AreIdsOf}
use Rattle.gate_rivals.proofs.rivals.in_order.Goals as goal

pub returns : goal.returns
returns g c = λ test are.
    let found = c.args.ids in
    let sorted = c.sort_by_admission.new.txids in
    let long : found.len ≡ length sorted = omega (arith, found.ok, c.sort_by_admission.ensures.len, ap length c.as_mut_slice.ensures.value) in
    ap (λ n. take n (sorted ++ drop (length sorted) found.items)) long ∙ take-append_seam sorted (drop (length sorted) found.items)
    ∙ c.sort_by_admission.ensures.order test (subst (λ (l : List (List ℕ)). AreIdsOf l (filter test c.args.pool.now.entries)) (sym c.as_mut_slice.ensures.value) are)
