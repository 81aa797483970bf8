use Rattle.std.proofs.Common.{◌≡◌, drop}
use Rattle.gate_pool.specs.Pool.{IsRewindable}
use Rattle.gate_admit.specs.Lending.{lent_with}
use Rattle.gate_package.specs.Packages.{course_of}
use Rattle.gate_package.proofs.Coursing.{behind}
use Rattle.gate_package.proofs.submitting.judge_each.Given as goal

abbrev pub invariant-loop-candidate : goal.invariant-loop-candidate
invariant-loop-candidate g l = record {
  course : behind l.judged.items (course_of l.max_rate (lent_with l.under l.pool.entries) l.under.second (drop l.candidate-index l.members))
      ≡ behind l.fn.judged.items (course_of l.max_rate (lent_with l.under l.fn.pool.entries) l.under.second l.members);
  before : l.pool.before ≡ l.fn.pool.before;
  rewindable : IsRewindable l.fn.pool → IsRewindable l.pool;
}
