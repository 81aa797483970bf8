use Rattle.std.proofs.Common.{List, rules, ◌≡◌, true, false, [], ◌∷◌, ◌++◌, refl, sym, ap, subst, ◌∙◌, arith}
use Rattle.std.proofs.lemmas.List.{nil_from_length}
use Rattle.std.specs.Prelude.{Contains}
use Rattle.gate_tx.specs.declared.TxIn.{TxIn}
use Rattle.gate_tx.specs.Tx.{Tx}
use Rattle.gate_tx.specs.Ids.{txid_of}
use Rattle.gate_pool.specs.Pool.{Admitted}
use Rattle.gate_pool.proofs.Walking.{Contains-filter}
use Rattle.gate_pool.specs.Family.{names, children_of, AreIdsOf}
use Rattle.gate_admit.proofs.Behind.{differs}
use Rattle.gate_admit.proofs.Families.{none_are}
use Rattle.gate_admit.proofs.Newcomer.{root_ids}
use Rattle.gate_admit.proofs.NewLimits.{names_itself}
use Rattle.gate_admit.proofs.OwnLimits.{fits_behind}
use Rattle.gate_admit.proofs.again.fits_with.Goals as goal

pub returns-then-names-clause-fits : goal.returns-then-names-clause-fits
returns-then-names-clause-fits g c =
    let entries = c.args.pool.now.entries in
    let n = c.args.newcomer.now in
    let own : names n (txid_of n.tx) ≡ true = ap (names n) (sym c.txid-txid.ensures) ∙ sym c.names.ensures ∙ c.if-names.true in
    sym (names_itself c.args.policy.now entries n (differs entries n c.requires.new) own) ∙ fits_behind c.args.policy.now entries n.tx n.vsize (entries ++ n ∷ []) n refl c.requires.plain

pub fits_as_leaf-requires-clause-childless : goal.fits_as_leaf-requires-clause-childless
fits_as_leaf-requires-clause-childless g c =
    let entries = c.args.pool.now.entries in
    let empty : c.in_ok-children.children.items ≡ [] = nil_from_length c.in_ok-children.children.items (grind (arith)) in
    ap (children_of entries) (sym c.txid-txid.ensures) ∙ none_are (children_of entries c.txid-txid.result) (subst (λ l. AreIdsOf l (children_of entries c.txid-txid.result)) empty c.in_ok-children.ensures)

pub returns-clause-above : goal.returns-clause-above
returns-clause-above g c =
    let entries = c.args.pool.now.entries in
    let n = c.args.newcomer.now in
    let own : names n (txid_of n.tx) ≡ false = ap (names n) (sym c.txid-txid.ensures) ∙ sym c.names.ensures ∙ c.if-names.false in
    root_ids entries n (differs entries n c.requires.new) own (sym c.has_parent.ensures ∙ c.if-has_parent.false) c.new.result.items (search rules)

pub fits_between-requires-clause-adds : goal.fits_between-requires-clause-adds
fits_between-requires-clause-adds g c i m entry d k named =
    let entries = c.args.pool.now.entries in
    let n = c.args.newcomer.now in
    let inputs = c.inputs-inputs.ensures ∙ ap (λ (t : Tx). t.inputs) c.transaction.ensures in
    let are = subst (λ x. AreIdsOf c.in_ok-children.children.items (children_of entries x)) c.txid-txid.ensures c.in_ok-children.ensures in
    let all : Contains c.in_ok-children.children.items (txid_of d.tx) = are.all d (Contains-filter (λ (e : Admitted). names e (txid_of n.tx)) entries d k named) in
    c.in_ok-adds_no_chain.ensures c.if-branch.true i (subst (λ (l : List TxIn). Contains l i) (sym inputs) m) entry (txid_of d.tx) (subst (λ l. Contains l (txid_of d.tx)) (sym c.deref.ensures.value) all)
