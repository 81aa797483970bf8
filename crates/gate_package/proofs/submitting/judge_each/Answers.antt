use Rattle.std.proofs.Common.{◌∙◌}
use Rattle.gate_admit.specs.Lending.{lent_with}
use Rattle.gate_package.specs.Packages.{course_of}
use Rattle.gate_package.proofs.Coursing.{behind, course_done, course_step}
use Rattle.gate_package.proofs.submitting.judge_each.Goals as goal

pub loop-candidate-preserved : goal.loop-candidate-preserved
loop-candidate-preserved g c =
    let under = c.args.under.now in
    let so = c.loop-candidate.invariant in
    record {
      course = course_step c.args.max_rate (lent_with under c.loop-candidate.pool.entries) under.second c.args.members.now c.loop-candidate.candidate-index c.candidate-item.result c.loop-candidate.judged.items
          c.judge_next.new.judged.items c.judge_next.new.pool.entries (behind c.args.judged.now.items (course_of c.args.max_rate (lent_with under c.args.pool.now.entries) under.second c.args.members.now))
          c.loop-candidate-test.true c.candidate-item.is c.in_ok-judge_next.ensures.members c.in_ok-judge_next.ensures.entries so.course;
      before = c.judge_next.ensures.before ∙ so.before;
      rewindable = λ was. c.judge_next.ensures.rewindable (so.rewindable was);
    }

pub returns-clause-members : goal.returns-clause-members
returns-clause-members g c =
    let under = c.args.under.now in
    (course_done c.args.max_rate (lent_with under c.loop-candidate.pool.entries) under.second c.args.members.now c.loop-candidate.candidate-index c.loop-candidate.judged.items
    (behind c.args.judged.now.items (course_of c.args.max_rate (lent_with under c.args.pool.now.entries) under.second c.args.members.now)) c.loop-candidate-test.false c.loop-candidate.invariant.course).0

pub returns-clause-entries : goal.returns-clause-entries
returns-clause-entries g c =
    let under = c.args.under.now in
    (course_done c.args.max_rate (lent_with under c.loop-candidate.pool.entries) under.second c.args.members.now c.loop-candidate.candidate-index c.loop-candidate.judged.items
    (behind c.args.judged.now.items (course_of c.args.max_rate (lent_with under c.args.pool.now.entries) under.second c.args.members.now)) c.loop-candidate-test.false c.loop-candidate.invariant.course).1
