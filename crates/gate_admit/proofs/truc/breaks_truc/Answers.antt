use Rattle.std.proofs.Common.{◌≡◌, Bool, false, List, sym, ◌∙◌, subst}
use Rattle.std.specs.Prelude.{IfOk}
use Rattle.std.specs.List.{list_any}
use Rattle.std.proofs.lemmas.List.Kept.{AllPairs-filter}
use Rattle.gate_tx.specs.declared.TxIn.{TxIn}
use Rattle.gate_tx.specs.Ids.{txid_of}
use Rattle.gate_tx.specs.Tx.{Tx}
use Rattle.gate_graph.specs.Family.{reaches}
use Rattle.gate_standard.specs.Rules.{is_truc}
use Rattle.gate_pool.specs.Distinct.{AreDistinct}
use Rattle.gate_pool.specs.Pool.{Admitted}
use Rattle.gate_pool.specs.Family.{steps, ancestors_above}
use Rattle.gate_pool.proofs.Adding.{DifferById}
use Rattle.gate_admit.proofs.Kinship.{asked_outside, broken_by_kind, first_is_entry, kept_by_others, kept_without, kind_of, large_outside, more_outside, none_first, one_first, outside_alone, small_outside}
use Rattle.gate_admit.proofs.truc.breaks_truc.Goals as goal

pub returns-then-not-truc : goal.returns-then-not-truc
returns-then-not-truc g c =
    let direct = c.args.direct.now in
    sym (kept_without c.args.policy.now direct.entries direct.tx c.args.vsize (sym c.truc.ensures ∙ c.if-not-truc.true))

pub returns-then-has_other_kind : goal.returns-then-has_other_kind
returns-then-has_other_kind g c =
    let direct = c.args.direct.now in
    let kinds = kind_of direct.entries c.pool-pool.result.now.entries direct.tx c.transaction-tx.result.now c.args.above.now c.has_other_kind.result c.pool-pool.ensures c.transaction-tx.ensures c.requires c.has_other_kind.ensures in
    sym (broken_by_kind c.args.policy.now direct.entries direct.tx c.args.vsize (sym c.truc.ensures ∙ c.if-not-truc.false) (sym kinds ∙ c.if-has_other_kind.true))

pub returns-then-not-is_truc : goal.returns-then-not-is_truc
returns-then-not-is_truc g c =
    let direct = c.args.direct.now in
    let kinds = kind_of direct.entries c.pool-pool.result.now.entries direct.tx c.transaction-tx.result.now c.args.above.now c.has_other_kind.result c.pool-pool.ensures c.transaction-tx.ensures c.requires c.has_other_kind.ensures in
    sym (kept_by_others c.args.policy.now direct.entries direct.tx c.args.vsize (sym c.truc.ensures ∙ c.if-not-truc.false) (sym kinds ∙ c.if-has_other_kind.false)
    (subst (λ (t : Tx). is_truc t ≡ false) c.transaction-tx.ensures (sym c.is_truc.ensures ∙ c.if-not-is_truc.true)))

pub returns-in_default : goal.returns-in_default
returns-in_default g c =
    let direct = c.args.direct.now in
    let these = ancestors_above direct.entries direct.tx.inputs in
    let asked = asked_outside c.args.policy.now direct.entries c.pool-pool.result.now.entries direct.tx c.transaction-tx.result.now c.args.vsize c.args.above.now c.has_other_kind.result (sym c.truc.ensures ∙ c.if-not-truc.false)
    c.pool-pool.ensures c.transaction-tx.ensures c.requires c.has_other_kind.ensures c.if-has_other_kind.false (sym c.is_truc.ensures ∙ c.if-not-is_truc.false) in
    sym (asked ∙ outside_alone direct.entries direct.tx c.args.vsize these (none_first these c.args.above.now (sym c.in_default.ensures.value) c.requires))

pub returns-then-above-gt1 : goal.returns-then-above-gt1
returns-then-above-gt1 g c =
    let direct = c.args.direct.now in
    let these = ancestors_above direct.entries direct.tx.inputs in
    let asked = asked_outside c.args.policy.now direct.entries c.pool-pool.result.now.entries direct.tx c.transaction-tx.result.now c.args.vsize c.args.above.now c.has_other_kind.result (sym c.truc.ensures ∙ c.if-not-truc.false)
    c.pool-pool.ensures c.transaction-tx.ensures c.requires c.has_other_kind.ensures c.if-has_other_kind.false (sym c.is_truc.ensures ∙ c.if-not-is_truc.false) in
    sym (asked ∙ more_outside direct.entries direct.tx c.args.vsize these c.args.above.now c.if-above-gt1.true c.requires)

pub returns-then-vsize-gt-TRUC_CHILD_VSIZE : goal.returns-then-vsize-gt-TRUC_CHILD_VSIZE
returns-then-vsize-gt-TRUC_CHILD_VSIZE g c =
    let direct = c.args.direct.now in
    let these = ancestors_above direct.entries direct.tx.inputs in
    let asked = asked_outside c.args.policy.now direct.entries c.pool-pool.result.now.entries direct.tx c.transaction-tx.result.now c.args.vsize c.args.above.now c.has_other_kind.result (sym c.truc.ensures ∙ c.if-not-truc.false)
    c.pool-pool.ensures c.transaction-tx.ensures c.requires c.has_other_kind.ensures c.if-has_other_kind.false (sym c.is_truc.ensures ∙ c.if-not-is_truc.false) in
    let distinct : AreDistinct direct.entries = subst (λ (l : List Admitted). AreDistinct l) c.pool-pool.ensures c.recall_distinct.ensures in
    let test : Admitted → Bool = λ a. list_any (λ (i : TxIn). reaches (steps direct.entries) (txid_of a.tx) i.prevout.txid) direct.tx.inputs in
    let one = one_first these c.args.above.now c.in-Some.parent.now (AllPairs-filter DifferById test direct.entries distinct.txids) (sym c.in-Some.ensures.value) c.if-above-gt1.false c.requires in
    sym (asked ∙ large_outside direct.entries direct.tx c.args.vsize these one.0 c.in-Some.parent.now one.1 one.2 c.if-vsize-gt-TRUC_CHILD_VSIZE.true)

pub is_taken-requires : goal.is_taken-requires
is_taken-requires g c =
    let direct = c.args.direct.now in
    let test : Admitted → Bool = λ a. list_any (λ (i : TxIn). reaches (steps direct.entries) (txid_of a.tx) i.prevout.txid) direct.tx.inputs in
    first_is_entry direct.entries test c.args.above.now c.in-Some.parent.now (sym c.in-Some.ensures.value) c.requires

pub returns : goal.returns
returns g c =
    let direct = c.args.direct.now in
    let these = ancestors_above direct.entries direct.tx.inputs in
    let asked = asked_outside c.args.policy.now direct.entries c.pool-pool.result.now.entries direct.tx c.transaction-tx.result.now c.args.vsize c.args.above.now c.has_other_kind.result (sym c.truc.ensures ∙ c.if-not-truc.false)
    c.pool-pool.ensures c.transaction-tx.ensures c.requires c.has_other_kind.ensures c.if-has_other_kind.false (sym c.is_truc.ensures ∙ c.if-not-is_truc.false) in
    let distinct : AreDistinct direct.entries = subst (λ (l : List Admitted). AreDistinct l) c.pool-pool.ensures c.recall_distinct.ensures in
    let test : Admitted → Bool = λ a. list_any (λ (i : TxIn). reaches (steps direct.entries) (txid_of a.tx) i.prevout.txid) direct.tx.inputs in
    let one = one_first these c.args.above.now c.in-Some.parent.now (AllPairs-filter DifferById test direct.entries distinct.txids) (sym c.in-Some.ensures.value) c.if-above-gt1.false c.requires in
    subst (λ (b : Bool). IfOk c.is_taken.result (λ taken. taken ≡ b)) (sym (asked ∙ small_outside direct.entries direct.tx c.args.vsize these one.0 c.in-Some.parent.now one.1 one.2 c.if-vsize-gt-TRUC_CHILD_VSIZE.false)) c.is_taken.ensures
