use Rattle.std.proofs.Common.{◌<◌, ◌≤◌, ◌-◌, ℕ, Bool, List, [], ◌∷◌, ◌++◌, length, refl, sym, ap, subst, ◌∙◌, arith}
use Rattle.std.specs.Prelude.{vec_len}
use Rattle.std.proofs.lemmas.List.Kept.{AllPairs-filter}
use Rattle.gate_tx.specs.declared.TxIn.{TxIn}
use Rattle.gate_tx.specs.Ids.{txid_of}
use Rattle.gate_tx.specs.Tx.{Tx}
use Rattle.gate_pool.specs.Pool.{Admitted}
use Rattle.gate_pool.specs.Family.{ancestors_above, AreIdsOf}
use Rattle.gate_graph.specs.declared.held.Sums.{Sums}
use Rattle.gate_pool.proofs.Adding.{DifferById}
use Rattle.gate_pool.proofs.Families.{is_above}
use Rattle.gate_pool.proofs.Ids.{ids_length}
use Rattle.gate_admit.specs.Limits.{LeavesRoomBelow}
use Rattle.gate_admit.proofs.Behind.{differs, apart_behind}
use Rattle.gate_admit.proofs.NewLimits.{leaf_many, leaf_large, leaf_heavy, leaf_decides}
use Rattle.gate_admit.proofs.OwnLimits.{fits_behind}
use Rattle.gate_admit.proofs.again.fits_as_leaf.Goals as goal

pub returns-in_default-clause-fits : goal.returns-in_default-clause-fits
returns-in_default-clause-fits g c =
    let entries = c.args.pool.now.entries in
    let n = c.args.newcomer.now in
    let apart = apart_behind entries n c.requires.new c.recall_apart.ensures in
    let same = fits_behind c.args.policy.now entries n.tx n.vsize (entries ++ n ∷ []) n refl c.requires.plain in
    let inputs = c.inputs-inputs.ensures ∙ ap (λ (t : Tx). t.inputs) c.transaction.ensures in
    let many = subst (λ (i : List TxIn). c.most_ancestors.result - 1 < length (ancestors_above entries i)) inputs (c.in_ok-above.ensures.many c.in_default.is) in
    sym (leaf_many c.args.policy.now entries n (differs entries n c.requires.new) apart c.requires.own c.requires.childless (omega (arith, many, c.most_ancestors.ensures))) ∙ same

pub returns-then-add_up-vsize-clause-fits : goal.returns-then-add_up-vsize-clause-fits
returns-then-add_up-vsize-clause-fits g c =
    let entries = c.args.pool.now.entries in
    let n = c.args.newcomer.now in
    let apart = apart_behind entries n c.requires.new c.recall_apart.ensures in
    let same = fits_behind c.args.policy.now entries n.tx n.vsize (entries ++ n ∷ []) n refl c.requires.plain in
    let inputs = c.inputs-inputs.ensures ∙ ap (λ (t : Tx). t.inputs) c.transaction.ensures in
    let found : AreIdsOf c.in-Some.above.items (ancestors_above entries c.inputs-inputs.result.now) = rw c.in-Some.is at c.in_ok-above.ensures.found in
    let are = subst (λ (i : List TxIn). AreIdsOf c.in-Some.above.items (ancestors_above entries i)) inputs found in
    let sums = c.add_up.ensures.sums (λ e. is_above entries n.tx.inputs (txid_of e.tx)) (subst (λ l. AreIdsOf l (ancestors_above entries n.tx.inputs)) (sym c.deref.ensures.value) are) in
    sym (leaf_large c.args.policy.now entries n (differs entries n c.requires.new) apart c.requires.own c.requires.childless (omega (arith, c.if-add_up-vsize.true, ap (λ (s : Sums). s.size) sums, c.from-vsize.ensures, c.vsize.ensures.value, c.from-most_above.ensures, c.ancestors_size.ensures))) ∙ same

pub returns-then-vsize-most_below-clause-fits : goal.returns-then-vsize-most_below-clause-fits
returns-then-vsize-most_below-clause-fits g c =
    let entries = c.args.pool.now.entries in
    let n = c.args.newcomer.now in
    let apart = apart_behind entries n c.requires.new c.recall_apart.ensures in
    let same = fits_behind c.args.policy.now entries n.tx n.vsize (entries ++ n ∷ []) n refl c.requires.plain in
    sym (leaf_heavy c.args.policy.now entries n (differs entries n c.requires.new) apart c.requires.own c.requires.childless
    (omega (arith, c.if-vsize-most_below.true, c.from-vsize.ensures, c.vsize.ensures.value, c.from-most_below.ensures, c.most_descendants_size.ensures))) ∙ same

pub returns-then-not-all_fit_within-clause-fits : goal.returns-then-not-all_fit_within-clause-fits
returns-then-not-all_fit_within-clause-fits g c =
    let entries = c.args.pool.now.entries in
    let n = c.args.newcomer.now in
    let apart = apart_behind entries n c.requires.new c.recall_apart.ensures in
    let same = fits_behind c.args.policy.now entries n.tx n.vsize (entries ++ n ∷ []) n refl c.requires.plain in
    let inputs = c.inputs-inputs.ensures ∙ ap (λ (t : Tx). t.inputs) c.transaction.ensures in
    let stands : Admitted → Bool = λ e. is_above entries n.tx.inputs (txid_of e.tx) in
    let above = ancestors_above entries n.tx.inputs in
    let found : AreIdsOf c.in-Some.above.items (ancestors_above entries c.inputs-inputs.result.now) = rw c.in-Some.is at c.in_ok-above.ensures.found in
    let are = subst (λ (i : List TxIn). AreIdsOf c.in-Some.above.items (ancestors_above entries i)) inputs found in
    let few : vec_len c.in-Some.above ≤ c.most_ancestors.result - 1 = rw c.in-Some.is at c.in_ok-above.ensures.few in
    let long = ids_length c.in-Some.above.items above (AllPairs-filter DifferById stands entries c.recall_apart.ensures) are in
    let sums = c.add_up.ensures.sums stands (subst (λ l. AreIdsOf l above) (sym c.deref.ensures.value) are) in
    let room = subst (λ (s : ℕ). LeavesRoomBelow c.args.policy.now s c.limits_above.result) (c.from-vsize.ensures ∙ c.vsize.ensures.value) c.limits_above.ensures in
    let decided = leaf_decides c.args.policy.now entries n (differs entries n c.requires.new) apart c.requires.own c.requires.childless c.limits_above.result room
    (omega (arith, few, long, c.most_ancestors.ensures, c.deref.ensures.len, ap length c.deref.ensures.value))
    (omega (arith, c.if-add_up-vsize.false, ap (λ (s : Sums). s.size) sums, c.from-vsize.ensures, c.vsize.ensures.value, c.from-most_above.ensures, c.ancestors_size.ensures)) in
    let all = c.all_fit_within.ensures stands (subst (λ l. AreIdsOf l above) (sym c.deref-2.ensures.value) are) in
    sym c.if-not-all_fit_within.true ∙ all ∙ decided ∙ same

pub returns-clause-fits : goal.returns-clause-fits
returns-clause-fits g c =
    let entries = c.args.pool.now.entries in
    let n = c.args.newcomer.now in
    let apart = apart_behind entries n c.requires.new c.recall_apart.ensures in
    let same = fits_behind c.args.policy.now entries n.tx n.vsize (entries ++ n ∷ []) n refl c.requires.plain in
    let inputs = c.inputs-inputs.ensures ∙ ap (λ (t : Tx). t.inputs) c.transaction.ensures in
    let stands : Admitted → Bool = λ e. is_above entries n.tx.inputs (txid_of e.tx) in
    let above = ancestors_above entries n.tx.inputs in
    let found : AreIdsOf c.in-Some.above.items (ancestors_above entries c.inputs-inputs.result.now) = rw c.in-Some.is at c.in_ok-above.ensures.found in
    let are = subst (λ (i : List TxIn). AreIdsOf c.in-Some.above.items (ancestors_above entries i)) inputs found in
    let few : vec_len c.in-Some.above ≤ c.most_ancestors.result - 1 = rw c.in-Some.is at c.in_ok-above.ensures.few in
    let long = ids_length c.in-Some.above.items above (AllPairs-filter DifferById stands entries c.recall_apart.ensures) are in
    let sums = c.add_up.ensures.sums stands (subst (λ l. AreIdsOf l above) (sym c.deref.ensures.value) are) in
    let room = subst (λ (s : ℕ). LeavesRoomBelow c.args.policy.now s c.limits_above.result) (c.from-vsize.ensures ∙ c.vsize.ensures.value) c.limits_above.ensures in
    let decided = leaf_decides c.args.policy.now entries n (differs entries n c.requires.new) apart c.requires.own c.requires.childless c.limits_above.result room
    (omega (arith, few, long, c.most_ancestors.ensures, c.deref.ensures.len, ap length c.deref.ensures.value))
    (omega (arith, c.if-add_up-vsize.false, ap (λ (s : Sums). s.size) sums, c.from-vsize.ensures, c.vsize.ensures.value, c.from-most_above.ensures, c.ancestors_size.ensures)) in
    let all = c.all_fit_within.ensures stands (subst (λ l. AreIdsOf l above) (sym c.deref-2.ensures.value) are) in
    sym c.if-not-all_fit_within.false ∙ all ∙ decided ∙ same
