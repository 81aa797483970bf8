use Rattle.std.proofs.Common.{◌<◌, ℕ, Bool, List, length, sym, ap, subst, ◌∙◌}
use Rattle.std.specs.List.{list_any, list_all}
use Rattle.std.specs.Str.{bytes_eq}
use Rattle.gate_tx.specs.declared.TxIn.{TxIn}
use Rattle.gate_tx.specs.Ids.{txid_of}
use Rattle.gate_tx.specs.Tx.{Tx}
use Rattle.gate_pool.specs.Pool.{Admitted, has_txid}
use Rattle.gate_pool.specs.Family.{ancestors_above, all_below, is_below_some, AreIdsOf}
use Rattle.gate_pool.proofs.Families.{is_above}
use Rattle.gate_pool.proofs.Ids.{AreIdsOf-one}
use Rattle.gate_admit.specs.Limits.{is_limited}
use Rattle.gate_admit.specs.Policies.{most_descendants}
use Rattle.gate_admit.proofs.Families.{below_one}
use Rattle.gate_admit.proofs.Behind.{differs}
use Rattle.gate_admit.proofs.Newcomer.{above_before}
use Rattle.gate_admit.proofs.OwnLimits.{fits_behind, stands_behind, ids_entries, too_many_above, too_many_below, below_itself, below_decide, some_above_fails, not_below}
use Rattle.gate_admit.proofs.again.fits_among_others.Goals as goal
use Rattle.gate_admit.proofs.again.fits_among_others.Goals.{then-contains-via-then-contains, then-contains-via-else-contains+in_ok-all_limited+then-not-branch}

pub returns-in_default-clause-fits : goal.returns-in_default-clause-fits
returns-in_default-clause-fits g c =
    let entries = g.V.FamilyView.entries c.args.pool.now in
    let es = c.new-joined.result in
    let n = c.args.newcomer.now in
    let m = stands_behind entries es n c.new-joined.ensures in
    let inputs = c.inputs-inputs.ensures ∙ ap (λ (t : Tx). t.inputs) c.transaction.ensures in
    let same = fits_behind c.args.policy.now entries c.args.newcomer.now.tx c.args.newcomer.now.vsize es n c.new-joined.ensures c.requires.plain in
    let many = subst (λ (k : ℕ). k < length (ancestors_above es n.tx.inputs)) c.most_ancestors.ensures (subst (λ (i : List TxIn). c.most_ancestors.result < length (ancestors_above es i)) inputs (c.in_ok-above.ensures.many c.in_default.is)) in
    sym (too_many_above c.args.policy.now es c.recall_apart.ensures n m many) ∙ same

pub all_limited-requires : goal.all_limited-requires
all_limited-requires g c =
    let es = c.new-joined.result in
    let found : AreIdsOf c.in-Some.above.items (ancestors_above es c.inputs-inputs.result.now) = rw c.in-Some.is at c.in_ok-above.ensures.found in
    ids_entries (λ e. is_above es c.inputs-inputs.result.now (txid_of e.tx)) es c.deref-else-contains.result.now
    (subst (λ l. AreIdsOf l (ancestors_above es c.inputs-inputs.result.now)) (sym c.deref-else-contains.ensures.value) found)

pub returns-then-contains-clause-fits : goal.returns-then-contains-clause-fits
returns-then-contains-clause-fits g c =
    let entries = g.V.FamilyView.entries c.args.pool.now in
    let es = c.new-joined.result in
    let n = c.args.newcomer.now in
    let m = stands_behind entries es n c.new-joined.ensures in
    let inputs = c.inputs-inputs.ensures ∙ ap (λ (t : Tx). t.inputs) c.transaction.ensures in
    let same = fits_behind c.args.policy.now entries c.args.newcomer.now.tx c.args.newcomer.now.vsize es n c.new-joined.ensures c.requires.plain in
    let found : AreIdsOf c.in-Some.above.items (ancestors_above es c.inputs-inputs.result.now) = rw c.in-Some.is at c.in_ok-above.ensures.found in
    let are = subst (λ (i : List TxIn). AreIdsOf c.in-Some.above.items (ancestors_above es i)) inputs found in
    let has = c.contains.ensures.value ∙ ap (list_any (λ y. bytes_eq y c.txid-txid.result)) c.deref.ensures.value ∙ ap (λ t. list_any (λ y. bytes_eq y t) c.in-Some.above.items) c.txid-txid.ensures in
    elim c.then-contains.branch [
      | then-contains-via-then-contains w ↦ sym (below_itself c.args.policy.now es c.recall_apart.ensures n m c.in-Some.above.items are (sym has ∙ w.if-contains.true)) ∙ same
      | then-contains-via-else-contains+in_ok-all_limited+then-not-branch w ↦
          let ids = subst (λ l. AreIdsOf l (ancestors_above es n.tx.inputs)) (sym w.deref-else-contains.ensures.value) are in
          let fails = sym (w.in_ok-all_limited.ensures (λ e. is_above es n.tx.inputs (txid_of e.tx)) ids) ∙ w.if-not-branch.true in
          sym (some_above_fails c.args.policy.now es c.recall_apart.ensures n m fails) ∙ same
    ]

pub all_limited-requires-2 : goal.all_limited-requires-2
all_limited-requires-2 g c =
    let entries = g.V.FamilyView.entries c.args.pool.now in
    let es = c.new-joined.result in
    let n = c.args.newcomer.now in
    let m = stands_behind entries es n c.new-joined.ensures in
    let test : Admitted → Bool = λ e. has_txid e c.txid-txid.result in
    let below : AreIdsOf c.in-Some-2.below.items (all_below test es) = rw c.in-Some-2.is at c.in_ok-below.ensures.found test (AreIdsOf-one es n c.txid-txid.result m (sym c.txid-txid.ensures)) in
    ids_entries (is_below_some test es) es c.deref-2.result.now (subst (λ l. AreIdsOf l (all_below test es)) (sym c.deref-2.ensures.value) below)

pub returns-in_default-2-clause-fits : goal.returns-in_default-2-clause-fits
returns-in_default-2-clause-fits g c =
    let entries = g.V.FamilyView.entries c.args.pool.now in
    let es = c.new-joined.result in
    let n = c.args.newcomer.now in
    let m = stands_behind entries es n c.new-joined.ensures in
    let same = fits_behind c.args.policy.now entries c.args.newcomer.now.tx c.args.newcomer.now.vsize es n c.new-joined.ensures c.requires.plain in
    let test : Admitted → Bool = λ e. has_txid e c.txid-txid.result in
    let most = most_descendants c.args.policy.now in
    let many : most < length (all_below test es) = subst (λ (k : ℕ). k < length (all_below test es)) c.most_descendants.ensures (c.in_ok-below.ensures.many test (AreIdsOf-one es n c.txid-txid.result m (sym c.txid-txid.ensures)) c.in_default-2.is) in
    sym (too_many_below c.args.policy.now es c.recall_apart.ensures n m (subst (λ (l : List Admitted). most < length l) (below_one es n c.txid-txid.result m (sym c.txid-txid.ensures)) many)) ∙ same

pub returns-then-not-branch-2-clause-fits : goal.returns-then-not-branch-2-clause-fits
returns-then-not-branch-2-clause-fits g c =
    let entries = g.V.FamilyView.entries c.args.pool.now in
    let es = c.new-joined.result in
    let n = c.args.newcomer.now in
    let m = stands_behind entries es n c.new-joined.ensures in
    let same = fits_behind c.args.policy.now entries c.args.newcomer.now.tx c.args.newcomer.now.vsize es n c.new-joined.ensures c.requires.plain in
    let inputs = c.inputs-inputs.ensures ∙ ap (λ (t : Tx). t.inputs) c.transaction.ensures in
    let above : AreIdsOf c.in-Some.above.items (ancestors_above es c.inputs-inputs.result.now) = rw c.in-Some.is at c.in_ok-above.ensures.found in
    let are = subst (λ (i : List TxIn). AreIdsOf c.in-Some.above.items (ancestors_above es i)) inputs above in
    let has = c.contains.ensures.value ∙ ap (list_any (λ y. bytes_eq y c.txid-txid.result)) c.deref.ensures.value ∙ ap (λ t. list_any (λ y. bytes_eq y t) c.in-Some.above.items) c.txid-txid.ensures in
    let ids = subst (λ l. AreIdsOf l (ancestors_above es n.tx.inputs)) (sym c.deref-else-contains.ensures.value) are in
    let passes = sym (c.in_ok-all_limited.ensures (λ e. is_above es n.tx.inputs (txid_of e.tx)) ids) ∙ c.if-not-branch.false in
    let test : Admitted → Bool = λ e. has_txid e c.txid-txid.result in
    let below : AreIdsOf c.in-Some-2.below.items (all_below test es) = rw c.in-Some-2.is at c.in_ok-below.ensures.found test (AreIdsOf-one es n c.txid-txid.result m (sym c.txid-txid.ensures)) in
    let under = subst (λ l. AreIdsOf l (all_below test es)) (sym c.deref-2.ensures.value) below in
    let decided = ap (list_all (λ e. is_limited c.args.policy.now es (txid_of e.tx))) (below_one es n c.txid-txid.result m (sym c.txid-txid.ensures))
    ∙ below_decide c.args.policy.now es c.recall_apart.ensures n m c.in-Some.above.items are (sym has ∙ c.if-contains.false) passes ∙ same in
    sym c.if-not-branch-2.true ∙ c.in_ok-all_limited-2.ensures (is_below_some test es) under ∙ decided

pub returns-clause-fits : goal.returns-clause-fits
returns-clause-fits g c =
    let entries = g.V.FamilyView.entries c.args.pool.now in
    let es = c.new-joined.result in
    let n = c.args.newcomer.now in
    let m = stands_behind entries es n c.new-joined.ensures in
    let same = fits_behind c.args.policy.now entries c.args.newcomer.now.tx c.args.newcomer.now.vsize es n c.new-joined.ensures c.requires.plain in
    let inputs = c.inputs-inputs.ensures ∙ ap (λ (t : Tx). t.inputs) c.transaction.ensures in
    let above : AreIdsOf c.in-Some.above.items (ancestors_above es c.inputs-inputs.result.now) = rw c.in-Some.is at c.in_ok-above.ensures.found in
    let are = subst (λ (i : List TxIn). AreIdsOf c.in-Some.above.items (ancestors_above es i)) inputs above in
    let has = c.contains.ensures.value ∙ ap (list_any (λ y. bytes_eq y c.txid-txid.result)) c.deref.ensures.value ∙ ap (λ t. list_any (λ y. bytes_eq y t) c.in-Some.above.items) c.txid-txid.ensures in
    let ids = subst (λ l. AreIdsOf l (ancestors_above es n.tx.inputs)) (sym c.deref-else-contains.ensures.value) are in
    let passes = sym (c.in_ok-all_limited.ensures (λ e. is_above es n.tx.inputs (txid_of e.tx)) ids) ∙ c.if-not-branch.false in
    let test : Admitted → Bool = λ e. has_txid e c.txid-txid.result in
    let below : AreIdsOf c.in-Some-2.below.items (all_below test es) = rw c.in-Some-2.is at c.in_ok-below.ensures.found test (AreIdsOf-one es n c.txid-txid.result m (sym c.txid-txid.ensures)) in
    let under = subst (λ l. AreIdsOf l (all_below test es)) (sym c.deref-2.ensures.value) below in
    let decided = ap (list_all (λ e. is_limited c.args.policy.now es (txid_of e.tx))) (below_one es n c.txid-txid.result m (sym c.txid-txid.ensures))
    ∙ below_decide c.args.policy.now es c.recall_apart.ensures n m c.in-Some.above.items are (sym has ∙ c.if-contains.false) passes ∙ same in
    sym c.if-not-branch-2.false ∙ c.in_ok-all_limited-2.ensures (is_below_some test es) under ∙ decided

pub returns-clause-above : goal.returns-clause-above
returns-clause-above g c =
    let entries = g.V.FamilyView.entries c.args.pool.now in
    let es = c.new-joined.result in
    let n = c.args.newcomer.now in
    let m = stands_behind entries es n c.new-joined.ensures in
    let inputs = c.inputs-inputs.ensures ∙ ap (λ (t : Tx). t.inputs) c.transaction.ensures in
    let above : AreIdsOf c.in-Some.above.items (ancestors_above es c.inputs-inputs.result.now) = rw c.in-Some.is at c.in_ok-above.ensures.found in
    let are = subst (λ (i : List TxIn). AreIdsOf c.in-Some.above.items (ancestors_above es i)) inputs above in
    let has = c.contains.ensures.value ∙ ap (list_any (λ y. bytes_eq y c.txid-txid.result)) c.deref.ensures.value ∙ ap (λ t. list_any (λ y. bytes_eq y t) c.in-Some.above.items) c.txid-txid.ensures in
    let beside = not_below c.args.policy.now es c.recall_apart.ensures n m c.in-Some.above.items are (sym has ∙ c.if-contains.false) in
    subst (AreIdsOf c.in-Some.above.items) (above_before entries es n c.new-joined.ensures (differs entries n c.requires.new) c.recall_apart.ensures beside) are
