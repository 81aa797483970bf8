use Rattle.std.proofs.Common.{◌≤◌, ◌-◌, ℕ, Bool, [], ◌∷◌, ◌++◌, length, refl, sym, ap, subst, ◌∙◌, arith}
use Rattle.std.specs.Prelude.{vec_len}
use Rattle.std.proofs.lemmas.List.Kept.{AllPairs-filter}
use Rattle.gate_tx.specs.Ids.{txid_of}
use Rattle.gate_pool.specs.Pool.{Admitted}
use Rattle.gate_pool.specs.Family.{names, all_below, is_below_some, AreIdsOf}
use Rattle.gate_graph.specs.declared.held.Sums.{Sums}
use Rattle.gate_pool.proofs.Adding.{DifferById}
use Rattle.gate_pool.proofs.Ids.{ids_length}
use Rattle.gate_admit.specs.Limits.{LeavesRoomAbove}
use Rattle.gate_admit.proofs.Behind.{differs, apart_behind}
use Rattle.gate_admit.proofs.NewLimits.{root_heavy, root_many, root_large, root_decides}
use Rattle.gate_admit.proofs.OwnLimits.{fits_behind}
use Rattle.gate_admit.proofs.again.fits_as_root.Goals as goal

pub returns-then-vsize-most_above : goal.returns-then-vsize-most_above
returns-then-vsize-most_above g c =
    let entries = c.args.pool.now.entries in
    let n = c.args.newcomer.now in
    let apart = apart_behind entries n c.requires.new c.recall_apart.ensures in
    let same = fits_behind c.args.policy.now entries n.tx n.vsize (entries ++ n ∷ []) n refl c.requires.plain in
    sym (root_heavy c.args.policy.now entries n (differs entries n c.requires.new) apart c.requires.own c.requires.orphan (omega (arith, c.if-vsize-most_above.true, c.from-vsize.ensures, c.vsize.ensures.value, c.from-most_above.ensures, c.ancestors_size.ensures))) ∙ same

pub returns-in_default : goal.returns-in_default
returns-in_default g c =
    let entries = c.args.pool.now.entries in
    let n = c.args.newcomer.now in
    let apart = apart_behind entries n c.requires.new c.recall_apart.ensures in
    let same = fits_behind c.args.policy.now entries n.tx n.vsize (entries ++ n ∷ []) n refl c.requires.plain in
    let child : Admitted → Bool = λ e. names e (txid_of n.tx) in
    let below = all_below child entries in
    let many = c.in_ok-below.ensures.many child c.requires.children c.in_default.is in
    sym (root_many c.args.policy.now entries n (differs entries n c.requires.new) apart c.requires.own c.requires.orphan (omega (arith, many, c.most_descendants-most.ensures))) ∙ same

pub returns-then-add_up-vsize : goal.returns-then-add_up-vsize
returns-then-add_up-vsize g c =
    let entries = c.args.pool.now.entries in
    let n = c.args.newcomer.now in
    let apart = apart_behind entries n c.requires.new c.recall_apart.ensures in
    let same = fits_behind c.args.policy.now entries n.tx n.vsize (entries ++ n ∷ []) n refl c.requires.plain in
    let child : Admitted → Bool = λ e. names e (txid_of n.tx) in
    let below = all_below child entries in
    let are : AreIdsOf c.in-Some.below.items below = rw c.in-Some.is at c.in_ok-below.ensures.found child c.requires.children in
    let sums = c.add_up.ensures.sums (is_below_some child entries) (subst (λ l. AreIdsOf l below) (sym c.deref.ensures.value) are) in
    sym (root_large c.args.policy.now entries n (differs entries n c.requires.new) apart c.requires.own c.requires.orphan
    (omega (arith, c.if-add_up-vsize.true, ap (λ (s : Sums). s.size) sums, c.from-vsize.ensures, c.vsize.ensures.value, c.from-most_below.ensures, c.most_descendants_size.ensures))) ∙ same

pub returns : goal.returns
returns g c =
    let entries = c.args.pool.now.entries in
    let n = c.args.newcomer.now in
    let apart = apart_behind entries n c.requires.new c.recall_apart.ensures in
    let same = fits_behind c.args.policy.now entries n.tx n.vsize (entries ++ n ∷ []) n refl c.requires.plain in
    let child : Admitted → Bool = λ e. names e (txid_of n.tx) in
    let below = all_below child entries in
    let are : AreIdsOf c.in-Some.below.items below = rw c.in-Some.is at c.in_ok-below.ensures.found child c.requires.children in
    let sums = c.add_up.ensures.sums (is_below_some child entries) (subst (λ l. AreIdsOf l below) (sym c.deref.ensures.value) are) in
    let few : vec_len c.in-Some.below ≤ c.most_descendants-most.result - 1 = rw c.in-Some.is at c.in_ok-below.ensures.few in
    let long = ids_length c.in-Some.below.items below (AllPairs-filter DifferById (is_below_some child entries) entries c.recall_apart.ensures) are in
    let room = subst (λ (s : ℕ). LeavesRoomAbove c.args.policy.now s c.limits_below.result) (c.from-vsize.ensures ∙ c.vsize.ensures.value) c.limits_below.ensures in
    c.all_fit_within.ensures (is_below_some child entries) (subst (λ l. AreIdsOf l below) (sym c.deref-2.ensures.value) are)
    ∙ root_decides c.args.policy.now entries n (differs entries n c.requires.new) apart c.requires.own c.requires.orphan c.limits_below.result room
    (omega (arith, few, long, c.most_descendants-most.ensures, c.deref.ensures.len, ap length c.deref.ensures.value))
    (omega (arith, c.if-add_up-vsize.false, ap (λ (s : Sums). s.size) sums, c.from-vsize.ensures, c.vsize.ensures.value, c.from-most_below.ensures, c.most_descendants_size.ensures))
    ∙ same
