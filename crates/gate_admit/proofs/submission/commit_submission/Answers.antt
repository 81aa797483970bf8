use Rattle.std.proofs.Common.{◌≡◌, true, false, sym, ap, ◌∙◌}
use Rattle.gate_tx.specs.Ids.{txid_of}
use Rattle.gate_trim.specs.Expiry.{expired}
use Rattle.gate_trim.specs.Trimming.{trim_of}
use Rattle.gate_admit.specs.Submission.{holds}
use Rattle.gate_admit.proofs.Submitting.{committed}
use Rattle.gate_admit.proofs.submission.commit_submission.Goals as goal

pub returns-then-contains-clause-made : goal.returns-then-contains-clause-made
returns-then-contains-clause-made g c =
    let held : holds c.trim.new.pool.entries (txid_of c.args.coming.entry.tx) ≡ true =
    ap (λ x. holds c.trim.new.pool.entries x) (sym c.txid-txid.ensures) ∙ sym c.contains.ensures ∙ c.if-contains.true in
    committed c.args.policy.now c.args.budget c.args.pool.now.entries c.args.coming.sibling c.args.floor.now c.args.coming.entry c.args.coming.grant c.replace_beside.new.self.entries c.expire.new.pool.entries c.trim.new.pool.entries c.trim.new.floor true
    c.replace_beside.ensures.entries (c.expire.ensures.entries ∙ ap (λ n. expired n c.time-now.result c.replace_beside.new.self.entries) c.stay.ensures ∙ ap (λ n. expired c.args.policy.now.stay n c.replace_beside.new.self.entries) c.time-now.ensures) (ap (λ n. trim_of n c.args.budget c.expire.new.pool.entries c.args.floor.now) (sym c.incremental_rate.ensures) ∙ c.trim.ensures.trimmed) held

pub returns-else-contains-clause-made : goal.returns-else-contains-clause-made
returns-else-contains-clause-made g c =
    let held : holds c.trim.new.pool.entries (txid_of c.args.coming.entry.tx) ≡ false =
    ap (λ x. holds c.trim.new.pool.entries x) (sym c.txid-txid.ensures) ∙ sym c.contains.ensures ∙ c.if-contains.false in
    committed c.args.policy.now c.args.budget c.args.pool.now.entries c.args.coming.sibling c.args.floor.now c.args.coming.entry c.args.coming.grant c.replace_beside.new.self.entries c.expire.new.pool.entries c.trim.new.pool.entries c.trim.new.floor false
    c.replace_beside.ensures.entries (c.expire.ensures.entries ∙ ap (λ n. expired n c.time-now.result c.replace_beside.new.self.entries) c.stay.ensures ∙ ap (λ n. expired c.args.policy.now.stay n c.replace_beside.new.self.entries) c.time-now.ensures) (ap (λ n. trim_of n c.args.budget c.expire.new.pool.entries c.args.floor.now) (sym c.incremental_rate.ensures) ∙ c.trim.ensures.trimmed) held
