-- Each decision follows the written order.
use Rattle.std.proofs.Common.{List, Option, Some, None}
use Rattle.gate_bytes.specs.Order.{Rule, IsFirstOf, first_failing}
use Rattle.gate_bytes.proofs.OrderLemmas.{first_failing_is_first}
use Rattle.gate_tx.specs.Tx.{Tx}
use Rattle.gate_rules.specs.declared.Denial.{Denial}
use Rattle.gate_admit.specs.declared.attempt.Attempt.{Attempt}
use Rattle.gate_admit.specs.declared.grant.Grant.{Grant}
use Rattle.gate_admit.specs.Laws.{Follows}
use Rattle.gate_admit.specs.Rules.{admission_rules, grant_of, denied_or, decision_of}
use Rattle.gate_admit.specs.Standing.{Standing}

follows : (rules : List (Rule Denial)) (found : Option Denial) (grant : Grant) → IsFirstOf rules found → Follows rules (denied_or found grant)
follows rules None grant h = h
follows rules (Some denial) grant h = h

pub decisions_follow : (attempt : Attempt) (over : Standing) (tx : Tx) → Follows (admission_rules attempt over tx) (decision_of attempt over (Some tx))
unfolding decision_of
decisions_follow attempt over tx =
    let rules = admission_rules attempt over tx in
    follows rules (first_failing rules) (grant_of attempt over tx) (first_failing_is_first rules)
