use Rattle.std.proofs.Common.{◌≡◌, ◌<◌, ◌&&◌, ℕ, Bool, true, false, List, [], ◌∷◌, ◌++◌, length, refl, sym, ap, subst, ◌∙◌, arith}
use Rattle.std.specs.List.{AllPairs, list_any}
use Rattle.std.specs.Str.{bytes_eq}
use Rattle.gate_tx.specs.declared.TxIn.{TxIn}
use Rattle.gate_tx.specs.Ids.{txid_of}
use Rattle.gate_tx.specs.Tx.{Tx}
use Rattle.gate_pool.specs.Pool.{Admitted}
use Rattle.gate_pool.specs.Family.{names, all_below, ancestors_above, is_below_some, AreIdsOf}
use Rattle.gate_pool.proofs.Adding.{DifferById}
use Rattle.gate_pool.proofs.Families.{is_above}
use Rattle.gate_admit.specs.Limits.{is_below_itself, is_limited, LeavesRoomAbove, LeavesRoomBelow}
use Rattle.gate_admit.proofs.Behind.{differs}
use Rattle.gate_admit.proofs.Newcomer.{above_before}
use Rattle.gate_admit.proofs.NewLimits.{amid_light, amid_many, amid_decides}
use Rattle.gate_admit.proofs.OwnLimits.{fits_behind, stands_behind, too_many_above, below_itself, not_below, not_own}
use Rattle.gate_admit.proofs.again.fits_between.Goals as goal

pub returns-in_default-clause-fits : goal.returns-in_default-clause-fits
returns-in_default-clause-fits g c =
    let entries = c.args.pool.now.entries in
    let es = c.new-joined.result in
    let n = c.args.newcomer.now in
    let m = stands_behind entries es n c.new-joined.ensures in
    let inputs = c.inputs-inputs.ensures ∙ ap (λ (t : Tx). t.inputs) c.transaction.ensures in
    let same = fits_behind c.args.policy.now entries n.tx n.vsize es n c.new-joined.ensures c.requires.plain in
    let many = subst (λ (k : ℕ). k < length (ancestors_above es n.tx.inputs)) c.most_ancestors.ensures (subst (λ (i : List TxIn). c.most_ancestors.result < length (ancestors_above es i)) inputs (c.in_ok-above.ensures.many c.in_default.is)) in
    sym (too_many_above c.args.policy.now es c.recall_apart.ensures n m many) ∙ same

pub is_limited-requires : goal.is_limited-requires
is_limited-requires g c = (c.args.newcomer.now, stands_behind c.args.pool.now.entries c.new-joined.result c.args.newcomer.now c.new-joined.ensures, sym c.txid-txid.ensures)

pub returns-then-contains-clause-fits : goal.returns-then-contains-clause-fits
returns-then-contains-clause-fits g c =
    let entries = c.args.pool.now.entries in
    let es = c.new-joined.result in
    let n = c.args.newcomer.now in
    let m = stands_behind entries es n c.new-joined.ensures in
    let inputs = c.inputs-inputs.ensures ∙ ap (λ (t : Tx). t.inputs) c.transaction.ensures in
    let same = fits_behind c.args.policy.now entries n.tx n.vsize es n c.new-joined.ensures c.requires.plain in
    let found : AreIdsOf c.in-Some.above.items (ancestors_above es c.inputs-inputs.result.now) = rw c.in-Some.is at c.in_ok-above.ensures.found in
    let are = subst (λ (i : List TxIn). AreIdsOf c.in-Some.above.items (ancestors_above es i)) inputs found in
    let has = c.contains.ensures.value ∙ ap (list_any (λ y. bytes_eq y c.txid-txid.result)) c.deref.ensures.value ∙ ap (λ t. list_any (λ y. bytes_eq y t) c.in-Some.above.items) c.txid-txid.ensures in
    sym (below_itself c.args.policy.now es c.recall_apart.ensures n m c.in-Some.above.items are (sym has ∙ c.if-contains.true)) ∙ same

pub returns-then-not-branch-clause-fits : goal.returns-then-not-branch-clause-fits
returns-then-not-branch-clause-fits g c =
    let entries = c.args.pool.now.entries in
    let es = c.new-joined.result in
    let n = c.args.newcomer.now in
    let m = stands_behind entries es n c.new-joined.ensures in
    let same = fits_behind c.args.policy.now entries n.tx n.vsize es n c.new-joined.ensures c.requires.plain in
    sym (not_own c.args.policy.now es c.recall_apart.ensures n m (ap (is_limited c.args.policy.now es) (sym c.txid-txid.ensures) ∙ sym c.in_ok-is_limited.ensures ∙ c.if-not-branch.true)) ∙ same

pub returns-in_default-2-clause-fits : goal.returns-in_default-2-clause-fits
returns-in_default-2-clause-fits g c =
    let entries = c.args.pool.now.entries in
    let es = c.new-joined.result in
    let n = c.args.newcomer.now in
    let m = stands_behind entries es n c.new-joined.ensures in
    let inputs = c.inputs-inputs.ensures ∙ ap (λ (t : Tx). t.inputs) c.transaction.ensures in
    let found : AreIdsOf c.in-Some.above.items (ancestors_above es c.inputs-inputs.result.now) = rw c.in-Some.is at c.in_ok-above.ensures.found in
    let are = subst (λ (i : List TxIn). AreIdsOf c.in-Some.above.items (ancestors_above es i)) inputs found in
    let has = c.contains.ensures.value ∙ ap (list_any (λ y. bytes_eq y c.txid-txid.result)) c.deref.ensures.value ∙ ap (λ t. list_any (λ y. bytes_eq y t) c.in-Some.above.items) c.txid-txid.ensures in
    let beside = not_below c.args.policy.now es c.recall_apart.ensures n m c.in-Some.above.items are (sym has ∙ c.if-contains.false) in
    let child : Admitted → Bool = λ e. names e (txid_of n.tx) in
    let many = c.in_ok-below.ensures.many child c.requires.children c.in_default-2.is in
    sym (amid_many c.args.policy.now entries n (differs entries n c.requires.new) (subst (AllPairs DifferById) c.new-joined.ensures c.recall_apart.ensures) c.requires.own c.requires.adds (subst (λ l. is_below_itself l n.tx ≡ false) c.new-joined.ensures beside) (omega (arith, many, c.most_descendants.ensures)))
    ∙ fits_behind c.args.policy.now entries n.tx n.vsize (entries ++ n ∷ []) n refl c.requires.plain

pub limits_above-requires : goal.limits_above-requires
limits_above-requires g c =
    let entries = c.args.pool.now.entries in
    let es = c.new-joined.result in
    let n = c.args.newcomer.now in
    let m = stands_behind entries es n c.new-joined.ensures in
    let inputs = c.inputs-inputs.ensures ∙ ap (λ (t : Tx). t.inputs) c.transaction.ensures in
    let found : AreIdsOf c.in-Some.above.items (ancestors_above es c.inputs-inputs.result.now) = rw c.in-Some.is at c.in_ok-above.ensures.found in
    let are = subst (λ (i : List TxIn). AreIdsOf c.in-Some.above.items (ancestors_above es i)) inputs found in
    let has = c.contains.ensures.value ∙ ap (list_any (λ y. bytes_eq y c.txid-txid.result)) c.deref.ensures.value ∙ ap (λ t. list_any (λ y. bytes_eq y t) c.in-Some.above.items) c.txid-txid.ensures in
    let beside = not_below c.args.policy.now es c.recall_apart.ensures n m c.in-Some.above.items are (sym has ∙ c.if-contains.false) in
    let own = ap (is_limited c.args.policy.now es) (sym c.txid-txid.ensures) ∙ sym c.in_ok-is_limited.ensures ∙ c.if-not-branch.false in
    let light = amid_light c.args.policy.now entries n (differs entries n c.requires.new) (subst (AllPairs DifferById) c.new-joined.ensures c.recall_apart.ensures) c.requires.own c.requires.adds (subst (λ l. is_below_itself l n.tx ≡ false) c.new-joined.ensures beside)
    (subst (λ l. is_limited c.args.policy.now l (txid_of n.tx) ≡ true) c.new-joined.ensures own) in
    omega (arith, light.1, c.from-vsize.ensures, c.vsize.ensures.value)

pub limits_below-requires : goal.limits_below-requires
limits_below-requires g c =
    let entries = c.args.pool.now.entries in
    let es = c.new-joined.result in
    let n = c.args.newcomer.now in
    let m = stands_behind entries es n c.new-joined.ensures in
    let inputs = c.inputs-inputs.ensures ∙ ap (λ (t : Tx). t.inputs) c.transaction.ensures in
    let found : AreIdsOf c.in-Some.above.items (ancestors_above es c.inputs-inputs.result.now) = rw c.in-Some.is at c.in_ok-above.ensures.found in
    let are = subst (λ (i : List TxIn). AreIdsOf c.in-Some.above.items (ancestors_above es i)) inputs found in
    let has = c.contains.ensures.value ∙ ap (list_any (λ y. bytes_eq y c.txid-txid.result)) c.deref.ensures.value ∙ ap (λ t. list_any (λ y. bytes_eq y t) c.in-Some.above.items) c.txid-txid.ensures in
    let beside = not_below c.args.policy.now es c.recall_apart.ensures n m c.in-Some.above.items are (sym has ∙ c.if-contains.false) in
    let own = ap (is_limited c.args.policy.now es) (sym c.txid-txid.ensures) ∙ sym c.in_ok-is_limited.ensures ∙ c.if-not-branch.false in
    let light = amid_light c.args.policy.now entries n (differs entries n c.requires.new) (subst (AllPairs DifferById) c.new-joined.ensures c.recall_apart.ensures) c.requires.own c.requires.adds (subst (λ l. is_below_itself l n.tx ≡ false) c.new-joined.ensures beside)
    (subst (λ l. is_limited c.args.policy.now l (txid_of n.tx) ≡ true) c.new-joined.ensures own) in
    omega (arith, light.0, c.from-vsize.ensures, c.vsize.ensures.value)

pub returns-then-not-fits-clause-fits : goal.returns-then-not-fits-clause-fits
returns-then-not-fits-clause-fits g c =
    let entries = c.args.pool.now.entries in
    let es = c.new-joined.result in
    let n = c.args.newcomer.now in
    let policy = c.args.policy.now in
    let m = stands_behind entries es n c.new-joined.ensures in
    let inputs = c.inputs-inputs.ensures ∙ ap (λ (t : Tx). t.inputs) c.transaction.ensures in
    let found : AreIdsOf c.in-Some.above.items (ancestors_above es c.inputs-inputs.result.now) = rw c.in-Some.is at c.in_ok-above.ensures.found in
    let are = subst (λ (i : List TxIn). AreIdsOf c.in-Some.above.items (ancestors_above es i)) inputs found in
    let has = c.contains.ensures.value ∙ ap (list_any (λ y. bytes_eq y c.txid-txid.result)) c.deref.ensures.value ∙ ap (λ t. list_any (λ y. bytes_eq y t) c.in-Some.above.items) c.txid-txid.ensures in
    let beside = not_below policy es c.recall_apart.ensures n m c.in-Some.above.items are (sym has ∙ c.if-contains.false) in
    let own = ap (is_limited policy es) (sym c.txid-txid.ensures) ∙ sym c.in_ok-is_limited.ensures ∙ c.if-not-branch.false in
    let over = subst (λ (s : ℕ). LeavesRoomBelow policy s c.limits_above.result) (c.from-vsize.ensures ∙ c.vsize.ensures.value) c.limits_above.ensures in
    let under = subst (λ (s : ℕ). LeavesRoomAbove policy s c.limits_below.result) (c.from-vsize.ensures ∙ c.vsize.ensures.value) c.limits_below.ensures in
    let decided = amid_decides policy entries n (differs entries n c.requires.new) (subst (AllPairs DifferById) c.new-joined.ensures c.recall_apart.ensures) c.requires.own c.requires.adds (subst (λ l. is_below_itself l n.tx ≡ false) c.new-joined.ensures beside)
    c.limits_above.result c.limits_below.result over under (subst (λ l. is_limited policy l (txid_of n.tx) ≡ true) c.new-joined.ensures own) in
    let before = above_before entries es n c.new-joined.ensures (differs entries n c.requires.new) c.recall_apart.ensures beside in
    let up_ids = subst (λ l. AreIdsOf l (ancestors_above entries n.tx.inputs)) (sym c.deref-2.ensures.value) (subst (AreIdsOf c.in-Some.above.items) before are) in
    let up = c.all_fit_within-above_fit.ensures (λ e. is_above entries n.tx.inputs (txid_of e.tx)) up_ids in
    let child : Admitted → Bool = λ e. names e (txid_of n.tx) in
    let low : AreIdsOf c.in-Some-2.below.items (all_below child entries) = rw c.in-Some-2.is at c.in_ok-below.ensures.found child c.requires.children in
    let down = c.all_fit_within-below_fit.ensures (is_below_some child entries) (subst (λ l. AreIdsOf l (all_below child entries)) (sym c.deref-3.ensures.value) low) in
    let same = fits_behind policy entries n.tx n.vsize (entries ++ n ∷ []) n refl c.requires.plain in
    sym c.if-not-fits.true ∙ (λ i. up i && down i) ∙ decided ∙ same

pub returns-clause-fits : goal.returns-clause-fits
returns-clause-fits g c =
    let entries = c.args.pool.now.entries in
    let es = c.new-joined.result in
    let n = c.args.newcomer.now in
    let policy = c.args.policy.now in
    let m = stands_behind entries es n c.new-joined.ensures in
    let inputs = c.inputs-inputs.ensures ∙ ap (λ (t : Tx). t.inputs) c.transaction.ensures in
    let found : AreIdsOf c.in-Some.above.items (ancestors_above es c.inputs-inputs.result.now) = rw c.in-Some.is at c.in_ok-above.ensures.found in
    let are = subst (λ (i : List TxIn). AreIdsOf c.in-Some.above.items (ancestors_above es i)) inputs found in
    let has = c.contains.ensures.value ∙ ap (list_any (λ y. bytes_eq y c.txid-txid.result)) c.deref.ensures.value ∙ ap (λ t. list_any (λ y. bytes_eq y t) c.in-Some.above.items) c.txid-txid.ensures in
    let beside = not_below policy es c.recall_apart.ensures n m c.in-Some.above.items are (sym has ∙ c.if-contains.false) in
    let own = ap (is_limited policy es) (sym c.txid-txid.ensures) ∙ sym c.in_ok-is_limited.ensures ∙ c.if-not-branch.false in
    let over = subst (λ (s : ℕ). LeavesRoomBelow policy s c.limits_above.result) (c.from-vsize.ensures ∙ c.vsize.ensures.value) c.limits_above.ensures in
    let under = subst (λ (s : ℕ). LeavesRoomAbove policy s c.limits_below.result) (c.from-vsize.ensures ∙ c.vsize.ensures.value) c.limits_below.ensures in
    let decided = amid_decides policy entries n (differs entries n c.requires.new) (subst (AllPairs DifferById) c.new-joined.ensures c.recall_apart.ensures) c.requires.own c.requires.adds (subst (λ l. is_below_itself l n.tx ≡ false) c.new-joined.ensures beside)
    c.limits_above.result c.limits_below.result over under (subst (λ l. is_limited policy l (txid_of n.tx) ≡ true) c.new-joined.ensures own) in
    let before = above_before entries es n c.new-joined.ensures (differs entries n c.requires.new) c.recall_apart.ensures beside in
    let up_ids = subst (λ l. AreIdsOf l (ancestors_above entries n.tx.inputs)) (sym c.deref-2.ensures.value) (subst (AreIdsOf c.in-Some.above.items) before are) in
    let up = c.all_fit_within-above_fit.ensures (λ e. is_above entries n.tx.inputs (txid_of e.tx)) up_ids in
    let child : Admitted → Bool = λ e. names e (txid_of n.tx) in
    let low : AreIdsOf c.in-Some-2.below.items (all_below child entries) = rw c.in-Some-2.is at c.in_ok-below.ensures.found child c.requires.children in
    let down = c.all_fit_within-below_fit.ensures (is_below_some child entries) (subst (λ l. AreIdsOf l (all_below child entries)) (sym c.deref-3.ensures.value) low) in
    let same = fits_behind policy entries n.tx n.vsize (entries ++ n ∷ []) n refl c.requires.plain in
    sym c.if-not-fits.false ∙ (λ i. up i && down i) ∙ decided ∙ same

pub returns-clause-above : goal.returns-clause-above
returns-clause-above g c =
    let entries = c.args.pool.now.entries in
    let es = c.new-joined.result in
    let n = c.args.newcomer.now in
    let m = stands_behind entries es n c.new-joined.ensures in
    let inputs = c.inputs-inputs.ensures ∙ ap (λ (t : Tx). t.inputs) c.transaction.ensures in
    let found : AreIdsOf c.in-Some.above.items (ancestors_above es c.inputs-inputs.result.now) = rw c.in-Some.is at c.in_ok-above.ensures.found in
    let are = subst (λ (i : List TxIn). AreIdsOf c.in-Some.above.items (ancestors_above es i)) inputs found in
    let has = c.contains.ensures.value ∙ ap (list_any (λ y. bytes_eq y c.txid-txid.result)) c.deref.ensures.value ∙ ap (λ t. list_any (λ y. bytes_eq y t) c.in-Some.above.items) c.txid-txid.ensures in
    let beside = not_below c.args.policy.now es c.recall_apart.ensures n m c.in-Some.above.items are (sym has ∙ c.if-contains.false) in
    subst (AreIdsOf c.in-Some.above.items) (above_before entries es n c.new-joined.ensures (differs entries n c.requires.new) c.recall_apart.ensures beside) are
