use Rattle.std.proofs.Common.{false, ℕ, List, Option, ap, ◌∙◌}
use Rattle.gate_tx.specs.Tx.{Tx}
use Rattle.gate_submission.specs.declared.Fate.TheVariants.{Taken}
use Rattle.gate_pool.specs.Counting.{replaced_beside}
use Rattle.gate_pool.specs.Pool.{listing_of}
use Rattle.gate_admit.specs.declared.Attempt.TheVariants.{First}
use Rattle.gate_admit.specs.Truc.{sibling_of}
use Rattle.gate_package.proofs.members.granted.Goals as goal

pub returns-clause-fate : goal.returns-clause-fate
returns-clause-fate g c =
    let entries = c.args.pool.now.entries in
    ap (λ (r : List (List ℕ)). Taken c.args.grant.fee c.args.grant.vsize false r)
    (c.in_ok-replaced.ensures
    ∙ (ap (λ (s : Option (List ℕ)). listing_of (replaced_beside entries s c.transaction-tx.result.now)) c.in_ok-sibling.ensures
    ∙ ap (λ (t : Tx). listing_of (replaced_beside entries (sibling_of First c.args.under.now.policy.now entries t) t)) c.transaction-tx.ensures))
