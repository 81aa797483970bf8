use Rattle.std.proofs.Common.{◌≡◌, ◌∙◌, ℕ, List, Bool, false, sym, ap, subst}
use Rattle.std.specs.Prelude.{nat_le, nat_lt}
use Rattle.std.specs.List.{list_any}
use Rattle.gate_standard.specs.Amounts.{feerate}
use Rattle.gate_pool.specs.Pool.{Admitted}
use Rattle.gate_pool.specs.Family.{AreIdsOf}
use Rattle.gate_pool.specs.Counting.{counted_of, is_counted}
use Rattle.gate_figures.proofs.Passing.{least_found, none_found, none_in_reach, paying_found}
use Rattle.gate_figures.proofs.least.fee_to_replace.Goals as goal

pub returns-then-is_empty : goal.returns-then-is_empty
returns-then-is_empty g c =
    let entries = c.args.pool.now.entries in
    let sibling = c.args.sibling.now in
    let tx = c.args.tx.now in
    let lent = subst (λ (l : List (List ℕ)). AreIdsOf l (counted_of entries sibling tx)) (sym c.as_slice-ids.ensures.value) c.in_ok-found.ensures in
    paying_found c.args.rate c.args.parents entries sibling tx c.args.vsize c.args.paying c.as_slice-ids.result.now (sym c.is_empty.ensures ∙ c.if-is_empty.true) lent

pub returns-in_default : goal.returns-in_default
returns-in_default g c =
    let entries = c.args.pool.now.entries in
    let sibling = c.args.sibling.now in
    let tx = c.args.tx.now in
    let lent = subst (λ (l : List (List ℕ)). AreIdsOf l (counted_of entries sibling tx)) (sym c.as_slice-ids.ensures.value) c.in_ok-found.ensures in
    none_in_reach c.args.rate c.args.parents entries sibling tx c.args.vsize c.fee_over_all-above.result c.in_ok-gone.gone c.fee-own.result c.args.paying c.as_slice-ids.result.now
    (sym c.is_empty.ensures ∙ c.if-is_empty.false) lent (c.fee_over_all-above.ensures (is_counted sibling tx) lent) c.in_ok-gone.ensures c.fee-own.ensures (c.greatest.ensures.none c.in_default.is)

pub returns-then-not-replaces : goal.returns-then-not-replaces
returns-then-not-replaces g c =
    let entries = c.args.pool.now.entries in
    let sibling = c.args.sibling.now in
    let tx = c.args.tx.now in
    let lent = subst (λ (l : List (List ℕ)). AreIdsOf l (counted_of entries sibling tx)) (sym c.as_slice-ids.ensures.value) c.in_ok-found.ensures in
    none_found c.args.rate c.args.parents entries sibling tx c.args.vsize c.fee_over_all-above.result c.in_ok-gone.gone c.fee-own.result c.args.paying c.as_slice-ids.result.now
    (sym c.is_empty.ensures ∙ c.if-is_empty.false) lent (c.fee_over_all-above.ensures (is_counted sibling tx) lent) c.in_ok-gone.ensures c.fee-own.ensures c.in-Some.least
    c.in-Some.ensures.some (sym c.in_ok-replaces.ensures ∙ c.if-not-replaces.true)

pub returns : goal.returns
returns g c =
    let entries = c.args.pool.now.entries in
    let sibling = c.args.sibling.now in
    let tx = c.args.tx.now in
    let lent = subst (λ (l : List (List ℕ)). AreIdsOf l (counted_of entries sibling tx)) (sym c.as_slice-ids.ensures.value) c.in_ok-found.ensures in
    λ fee.
    least_found c.args.rate c.args.parents entries sibling tx c.args.vsize c.fee_over_all-above.result c.in_ok-gone.gone c.fee-own.result c.args.paying c.as_slice-ids.result.now
    (sym c.is_empty.ensures ∙ c.if-is_empty.false) lent (c.fee_over_all-above.ensures (is_counted sibling tx) lent) c.in_ok-gone.ensures c.fee-own.ensures c.in-Some.least
    c.in-Some.ensures.some (sym c.in_ok-replaces.ensures ∙ c.if-not-replaces.false) fee
    ∙ ap (λ (n : ℕ). nat_le n fee) (sym c.from.ensures)
