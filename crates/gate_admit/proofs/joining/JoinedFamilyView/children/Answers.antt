use Rattle.std.proofs.Common.{◌∷◌, [], ◌++◌, sym, ap, subst, ◌∙◌}
use Rattle.gate_pool.specs.Pool.{Admitted}
use Rattle.gate_pool.specs.Family.{names, children_of, AreIdsOf}
use Rattle.gate_admit.proofs.Behind.{AreIdsOf-behind, AreIdsOf-before}
use Rattle.gate_admit.proofs.joining.JoinedFamilyView.children.Goals as goal
use Rattle.gate_admit.proofs.joining.JoinedFamilyView.children.Goals.{then-names+in_ok-push, else-names}

pub returns : goal.returns
returns g c =
    let entries = g.V.FamilyView.entries c.self.inside.pool.now in
    let e = c.self.inside.newcomer.now in
    let x = c.args.txid.now in
    let ids = c.in_ok-children.children.items in
    let test = λ (d : Admitted). names d x in
    subst (λ l. AreIdsOf c.if-names.children.items (children_of l x)) c.self.view_is
    (elim c.if-names.branch [
      | then-names+in_ok-push w ↦
          subst (λ l. AreIdsOf l (children_of (entries ++ e ∷ []) x)) (sym (ap (λ v. v.items) w.children-is ∙ w.in_ok-push.ensures.items ∙ ap (λ t. ids ++ t ∷ []) w.txid.ensures))
          (AreIdsOf-behind entries e c.self.invariant test ids c.in_ok-children.ensures (sym c.names.ensures ∙ w.if-names.true))
      | else-names w ↦
          subst (λ l. AreIdsOf l (children_of (entries ++ e ∷ []) x)) (sym (ap (λ v. v.items) w.children-is))
          (AreIdsOf-before entries e c.self.invariant test ids c.in_ok-children.ensures (sym c.names.ensures ∙ w.if-names.false))
    ])
