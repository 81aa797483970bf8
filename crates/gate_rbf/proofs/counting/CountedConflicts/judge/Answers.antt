use Rattle.std.proofs.Common.{ℕ, List, sym, ap, subst, ◌∙◌, length}
use Rattle.gate_bytes.specs.Order.{first_failing}
use Rattle.gate_graph.specs.declared.held.Sums.{Sums}
use Rattle.gate_pool.specs.Family.{AreIdsOf}
use Rattle.gate_pool.specs.Counting.{counted_of}
use Rattle.gate_rbf.specs.Replacing.{descendant_count}
use Rattle.gate_rbf.specs.Paying.{amount_rules}
use Rattle.gate_rbf.proofs.Counted.{is_over, is_within}
use Rattle.gate_rbf.proofs.Rules.{unasked, fails_rate, fails_count, fails_parents, leaves_amounts, none_replaced}
use Rattle.gate_rbf.proofs.counting.CountedConflicts.judge.Goals as goal

pub returns-then-not-has_any-clause-ok : goal.returns-then-not-has_any-clause-ok
returns-then-not-has_any-clause-ok g c = unasked c.args.rate c.args.parents c.args.self.now.entries c.args.self.now.sibling c.args.self.now.tx c.args.fee c.args.vsize (sym c.has_any.ensures ∙ c.if-not-has_any.true)

pub returns-then-not-has_any-clause-count : goal.returns-then-not-has_any-clause-count
returns-then-not-has_any-clause-count g c =
    sym (ap (λ l. length l) (none_replaced c.args.self.now.entries c.args.self.now.sibling c.args.self.now.tx (sym c.has_any.ensures ∙ c.if-not-has_any.true)))

pub returns-then-one_pays_at_least-clause-err : goal.returns-then-one_pays_at_least-clause-err
returns-then-one_pays_at_least-clause-err g c =
    fails_rate c.args.rate c.args.parents c.args.self.now.entries c.args.self.now.sibling c.args.self.now.tx c.args.fee c.args.vsize (sym c.has_any.ensures ∙ c.if-not-has_any.false) (sym c.one_pays_at_least.ensures ∙ c.if-one_pays_at_least.true)

pub returns-in_default-clause-err : goal.returns-in_default-clause-err
returns-in_default-clause-err g c =
    let entries = c.args.self.now.entries in
    let tx = c.args.self.now.tx in
    let sibling = c.args.self.now.sibling in
    fails_count c.args.rate c.args.parents entries sibling tx c.args.fee c.args.vsize (sym c.has_any.ensures ∙ c.if-not-has_any.false) (sym c.one_pays_at_least.ensures ∙ c.if-one_pays_at_least.false)
    (is_over 100 (descendant_count entries (counted_of entries sibling tx)) (c.in_ok-ids.ensures.many c.in_default.is))

pub returns-then-branch-clause-err : goal.returns-then-branch-clause-err
returns-then-branch-clause-err g c =
    let entries = c.args.self.now.entries in
    let tx = c.args.self.now.tx in
    let sibling = c.args.self.now.sibling in
    let few = rw c.in-Some.is at c.in_ok-ids.ensures.few in
    fails_parents c.args.rate c.args.parents entries sibling tx c.args.fee c.args.vsize (sym c.has_any.ensures ∙ c.if-not-has_any.false) (sym c.one_pays_at_least.ensures ∙ c.if-one_pays_at_least.false)
    (is_within 100 (descendant_count entries (counted_of entries sibling tx)) few) (sym c.in_ok-adds_parents.ensures ∙ c.if-branch.true)

pub adds_parents-requires : goal.adds_parents-requires
adds_parents-requires g c =
    let are = rw c.in-Some.is at c.in_ok-ids.ensures.ids in
    subst (λ (l : List (List ℕ)). AreIdsOf l (counted_of c.args.self.now.entries c.args.self.now.sibling c.args.self.now.tx)) (sym c.as_slice.ensures.value) are

pub replaced_sums-requires : goal.replaced_sums-requires
replaced_sums-requires g c =
    let are = rw c.in-Some.is at c.in_ok-ids.ensures.ids in
    subst (λ (l : List (List ℕ)). AreIdsOf l (counted_of c.args.self.now.entries c.args.self.now.sibling c.args.self.now.tx)) (sym c.as_slice-2.ensures.value) are

pub returns-in-Ok-clause-ok : goal.returns-in-Ok-clause-ok
returns-in-Ok-clause-ok g c =
    let entries = c.args.self.now.entries in
    let tx = c.args.self.now.tx in
    let sibling = c.args.self.now.sibling in
    let few = rw c.in-Some.is at c.in_ok-ids.ensures.few in
    leaves_amounts c.args.rate c.args.parents entries sibling tx c.args.fee c.args.vsize (sym c.has_any.ensures ∙ c.if-not-has_any.false) (sym c.one_pays_at_least.ensures ∙ c.if-one_pays_at_least.false)
    (is_within 100 (descendant_count entries (counted_of entries sibling tx)) few) (sym c.in_ok-adds_parents.ensures ∙ c.if-branch.false)
    ∙ ap (λ (n : ℕ). first_failing (amount_rules c.args.rate n c.args.fee c.args.vsize)) (sym (ap (λ (s : Sums). s.fees) c.in_ok-sums.ensures))
    ∙ c.in-Ok.ensures.ok

pub returns-in-Ok-clause-count : goal.returns-in-Ok-clause-count
returns-in-Ok-clause-count g c =
    ap (λ (s : Sums). s.count) c.in_ok-sums.ensures

pub returns-clause-err : goal.returns-clause-err
returns-clause-err g c =
    let entries = c.args.self.now.entries in
    let tx = c.args.self.now.tx in
    let sibling = c.args.self.now.sibling in
    let few = rw c.in-Some.is at c.in_ok-ids.ensures.few in
    leaves_amounts c.args.rate c.args.parents entries sibling tx c.args.fee c.args.vsize (sym c.has_any.ensures ∙ c.if-not-has_any.false) (sym c.one_pays_at_least.ensures ∙ c.if-one_pays_at_least.false)
    (is_within 100 (descendant_count entries (counted_of entries sibling tx)) few) (sym c.in_ok-adds_parents.ensures ∙ c.if-branch.false)
    ∙ ap (λ (n : ℕ). first_failing (amount_rules c.args.rate n c.args.fee c.args.vsize)) (sym (ap (λ (s : Sums). s.fees) c.in_ok-sums.ensures))
    ∙ c.in-Err.ensures.err
