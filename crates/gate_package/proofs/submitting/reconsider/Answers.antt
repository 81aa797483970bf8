use Rattle.std.proofs.Common.{◌≡◌, false, List, sym, ap, ◌∙◌, subst}
use Rattle.gate_tx.specs.Tx.{Tx}
use Rattle.gate_submission.specs.declared.Member.{Member}
use Rattle.gate_admit.specs.Lending.{lent_with}
use Rattle.gate_package.specs.Packages.{denied_of}
use Rattle.gate_package.specs.Shapes.{has_conflict, has_duplicates}
use Rattle.gate_package.proofs.Arriving.{together_absent}
use Rattle.gate_package.proofs.Belonging.{denied_apart, denied_distinct}
use Rattle.gate_package.proofs.submitting.reconsider.Goals as goal

pub enter_together-requires-clause-absent : goal.enter_together-requires-clause-absent
enter_together-requires-clause-absent g c =
    together_absent c.args.max_rate (lent_with c.args.under.now c.args.pool.now.entries) c.as_slice-these.result.now c.in-Ok.prices (sym c.in_ok-prices.ensures.together ∙ c.in-Ok.is)

pub enter_together-requires-clause-distinct : goal.enter_together-requires-clause-distinct
enter_together-requires-clause-distinct g c =
    let txs = c.args.candidates.now in
    let members = c.args.members.now.items in
    let are = c.as_slice-these.ensures.value ∙ (c.in_ok-these.ensures ∙ ap (λ (l : List Member). denied_of txs l) c.as_slice.ensures.value) in
    subst (λ (l : List Tx). has_duplicates l ≡ false) (sym are) (denied_distinct txs members c.requires.distinct)

pub enter_together-requires-clause-apart : goal.enter_together-requires-clause-apart
enter_together-requires-clause-apart g c =
    let txs = c.args.candidates.now in
    let members = c.args.members.now.items in
    let are = c.as_slice-these.ensures.value ∙ (c.in_ok-these.ensures ∙ ap (λ (l : List Member). denied_of txs l) c.as_slice.ensures.value) in
    subst (λ (l : List Tx). has_conflict l ≡ false) (sym are) (denied_apart txs members c.requires.apart)
