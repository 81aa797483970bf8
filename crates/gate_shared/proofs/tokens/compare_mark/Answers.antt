use Rattle.std.proofs.Common.{◌≡◌, [], ◌∙◌, ap, subst}
use Rattle.gate_shared.specs.Tokens.{IsTold, marked, marker, unmarked}
use Rattle.gate_shared.proofs.Faults.{Eye, unmarked_same}
use Rattle.gate_shared.proofs.tokens.compare_mark.Goals as goal

pub returns-clause-keeper : goal.returns-clause-keeper
returns-clause-keeper c =
    let k = c.args.keeper.now.me in
    let after = c.look.ensures.same ∙ c.mark.ensures.token in
    c.unmark-back.ensures.token ∙ ((λ i. (unmarked (after i).0, (after i).1)) ∙ (λ i. (unmarked_same k.0 c.requires.keeper.1 i, k.1)))

pub returns-clause-token : goal.returns-clause-token
returns-clause-token c =
    let t = c.args.token.now.me in
    let after = c.look.ensures.same ∙ c.mark.ensures.token in
    let part = c.unmark-part.ensures.result in
    let back : c.unmark-back.result.me.0 ≡ marker t.0.full =
    ap (λ (m : Eye). m.0) c.unmark-back.ensures.result ∙ ((λ i. marker (after i).0.full) ∙ (λ i. marker (part i).0.full)) in
    let left = c.unmark-part.ensures.token in
    c.mark-2.ensures.token ∙ (λ i. (marked (left i).0 (back i), (left i).1))

pub returns-clause-told : goal.returns-clause-told
returns-clause-told c = λ its.
    let told : IsTold (marked c.args.keeper.now.me.0 c.unmark-part.result.me.0) = subst (λ (m : Eye). IsTold m.0) c.mark.ensures.token c.look.ensures.told in
    told.full (ap (λ (m : Eye). m.0.full) c.unmark-part.ensures.result ∙ its)
