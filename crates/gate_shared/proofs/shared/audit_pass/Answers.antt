use Rattle.std.proofs.Common.{◌≡◌, ◌+◌, ℕ, List, [], length, ap, ◌∙◌, subst, sym, arith}
use Rattle.gate_shared.specs.Tokens.{CanPart, IsTold, calls_under, first_part, gathered, holder, last_part}
use Rattle.gate_shared.proofs.Faults.{Eye}
use Rattle.gate_shared.proofs.Told.{can_give_back, given_back, left_of_it, length-calls_under}
use Rattle.gate_shared.proofs.shared.audit_pass.Goals as goal

pub split-part-requires-clause-cut : goal.split-part-requires-clause-cut
split-part-requires-clause-cut g c =
    let k = c.args.keeper.now.me.0 in
    let cs = calls_under c.pass.inside.number c.pass.inside.calls.items in
    let n : c.len-count.result ≡ length cs = omega (arith, length-calls_under c.pass.inside.number c.pass.inside.calls.items, c.len-count.ensures) in
    let same : c.look.new.keeper.me.0 ≡ gathered k (holder 1 cs) =
    ap (λ (m : Eye). m.0) (c.look.ensures.same ∙ c.lend.ensures.to) ∙ ap (λ (m : Eye). gathered k m.0) c.pass.invariant.2 in
    subst (CanPart 1 c.len-count.result) (sym same) (can_give_back k cs c.len-count.result c.requires.keeper.2 n)

pub invariant_of-pass : goal.invariant_of-pass
invariant_of-pass g c =
    let k = c.args.keeper.now.me.0 in
    let cs = calls_under c.pass.inside.number c.pass.inside.calls.items in
    let n : c.len-count.result ≡ length cs = omega (arith, length-calls_under c.pass.inside.number c.pass.inside.calls.items, c.len-count.ensures) in
    let same : c.look.new.keeper.me.0 ≡ gathered k (holder 1 cs) =
    ap (λ (m : Eye). m.0) (c.look.ensures.same ∙ c.lend.ensures.to) ∙ ap (λ (m : Eye). gathered k m.0) c.pass.invariant.2 in
    let part : c.split-part.result.me.0 ≡ holder 1 cs =
    ap (λ (m : Eye). m.0) c.split-part.ensures.result ∙ (ap (last_part 1 c.len-count.result) same ∙ given_back k cs c.len-count.result n) in
    let from = c.lend.ensures.from in
    let was = c.pass.invariant.2 in (
      c.pass.invariant.0,
      c.join.ensures.table ∙ (c.lend.ensures.tables.0 ∙ c.pass.invariant.1),
      c.join.ensures.token ∙ ((λ i. (gathered (from i).0 (part i), (from i).1)) ∙ (λ i. (gathered (holder 0 []) (holder 1 cs), (was i).1))),
      c.pass.invariant.3,
      c.pass.invariant.4,
    )

pub returns-clause-keeper : goal.returns-clause-keeper
returns-clause-keeper g c =
    let k = c.args.keeper.now.me.0 in
    let cs = calls_under c.pass.inside.number c.pass.inside.calls.items in
    let n : c.len-count.result ≡ length cs = omega (arith, length-calls_under c.pass.inside.number c.pass.inside.calls.items, c.len-count.ensures) in
    let same : c.look.new.keeper.me.0 ≡ gathered k (holder 1 cs) =
    ap (λ (m : Eye). m.0) (c.look.ensures.same ∙ c.lend.ensures.to) ∙ ap (λ (m : Eye). gathered k m.0) c.pass.invariant.2 in
    let left : first_part 1 c.len-count.result c.look.new.keeper.me.0 ≡ k = ap (first_part 1 c.len-count.result) same ∙ left_of_it k cs c.len-count.result n in
    let slots = ap (λ (m : Eye). m.1) (c.look.ensures.same ∙ c.lend.ensures.to) in (
      c.split-part.ensures.table.0 ∙ (c.look.ensures.table ∙ c.lend.ensures.tables.1),
      c.split-part.ensures.token ∙ (λ i. (left i, slots i)),
    )

pub returns-clause-told : goal.returns-clause-told
returns-clause-told g c =
    let k = c.args.keeper.now.me.0 in
    let lent = c.lend.ensures.to ∙ (λ i. (gathered k (c.pass.invariant.2 i).0, c.args.keeper.now.me.1)) in
    let told : IsTold (gathered k (holder 1 (calls_under c.pass.inside.number c.pass.inside.calls.items))) = subst (λ (m : Eye). IsTold m.0) lent c.look.ensures.told in
    subst (λ p. IsTold (gathered k (holder 1 (calls_under p.number p.calls)))) c.pass.view_is told
