use Rattle.std.proofs.Common.{◌≡◌, sym, ap, ◌∙◌}
use Rattle.gate_tx.specs.Ids.{txid_of, wtxid_of}
use Rattle.gate_pool.specs.Pool.{Admitted, entry_by_txid, entry_by_wtxid}
use Rattle.gate_admit.specs.declared.attempt.Attempt.TheVariants.{Again}
use Rattle.gate_admit.specs.Standing.{standing}
use Rattle.gate_admit.proofs.Granted.{granted_absent, undecoded}
use Rattle.gate_admit.proofs.readmission.readmit.Goals as goal

pub returns-in_default-clause-decision : goal.returns-in_default-clause-decision
returns-in_default-clause-decision g c =
    undecoded Again (standing c.args.chain.now c.args.pool.now.entries 0 c.args.verdicts.now c.args.policy.now) c.args.prepared.now (sym c.candidate.ensures ∙ c.in_default.is)

pub replace-requires-clause-txid : goal.replace-requires-clause-txid
replace-requires-clause-txid g c =
    let over = standing c.args.chain.now c.args.pool.now.entries c.new-floor.result c.args.verdicts.now c.args.policy.now in
    let same : c.new-entry.result.tx ≡ c.in-Some.candidate = ap (λ (e : Admitted). e.tx) c.new-entry.ensures ∙ c.in_ok-identified.ensures ∙ c.identified.ensures in
    let absent = granted_absent Again over c.in-Some.candidate c.in-Ok.grant (sym c.in-Ok.is ∙ c.in_ok-decision.ensures.decision) in
    ap (λ es. entry_by_txid es (txid_of c.new-entry.result.tx)) c.in_ok-reserve.ensures.entries ∙ ap (λ t. entry_by_txid c.args.pool.now.entries (txid_of t)) same ∙ absent.0

pub replace-requires-clause-wtxid : goal.replace-requires-clause-wtxid
replace-requires-clause-wtxid g c =
    let over = standing c.args.chain.now c.args.pool.now.entries c.new-floor.result c.args.verdicts.now c.args.policy.now in
    let same : c.new-entry.result.tx ≡ c.in-Some.candidate = ap (λ (e : Admitted). e.tx) c.new-entry.ensures ∙ c.in_ok-identified.ensures ∙ c.identified.ensures in
    let absent = granted_absent Again over c.in-Some.candidate c.in-Ok.grant (sym c.in-Ok.is ∙ c.in_ok-decision.ensures.decision) in
    ap (λ es. entry_by_wtxid es (wtxid_of c.new-entry.result.tx)) c.in_ok-reserve.ensures.entries ∙ ap (λ t. entry_by_wtxid c.args.pool.now.entries (wtxid_of t)) same ∙ absent.1
