use Rattle.std.proofs.Common.{◌≡◌, take, drop}
use Rattle.gate_bytes.specs.Order.{first_failing}
use Rattle.gate_package.specs.Shapes.{members_of, text_rules}
use Rattle.gate_package.proofs.shape.read_members.Given as goal

abbrev pub invariant-loop-submission : goal.invariant-loop-submission
invariant-loop-submission l = record {
  rest : first_failing (text_rules l.max_burn l.submissions) ≡ first_failing (text_rules l.max_burn (drop l.submission-index l.submissions));
  read : l.members.items ≡ members_of (take l.submission-index l.submissions);
}
