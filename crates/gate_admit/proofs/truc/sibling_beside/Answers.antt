use Rattle.std.proofs.Common.{◌≡◌, false, None, sym, ◌∙◌, subst}
use Rattle.gate_tx.specs.Tx.{Tx}
use Rattle.gate_standard.specs.Rules.{is_truc}
use Rattle.gate_admit.specs.declared.attempt.Attempt.{Attempt}
use Rattle.gate_admit.specs.Truc.{sibling_of}
use Rattle.gate_admit.proofs.Kinship.{evicts_none_else, evicts_none_without}
use Rattle.gate_admit.proofs.truc.sibling_beside.Goals as goal

pub returns-then-not-truc : goal.returns-then-not-truc
returns-then-not-truc g c =
    let direct = c.args.direct.now in
    subst (λ (a : Attempt). None ≡ sibling_of a c.args.policy.now direct.entries direct.tx) (sym c.in-First.is)
    (sym (evicts_none_without c.args.policy.now direct.entries direct.tx (sym c.truc.ensures ∙ c.if-not-truc.true)))

pub returns-then-not-is_truc : goal.returns-then-not-is_truc
returns-then-not-is_truc g c =
    let direct = c.args.direct.now in
    subst (λ (a : Attempt). None ≡ sibling_of a c.args.policy.now direct.entries direct.tx) (sym c.in-First.is)
    (sym (evicts_none_else c.args.policy.now direct.entries direct.tx (subst (λ (t : Tx). is_truc t ≡ false) c.transaction.ensures (sym c.is_truc.ensures ∙ c.if-not-is_truc.true))))
