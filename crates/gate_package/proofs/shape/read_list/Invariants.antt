use Rattle.std.proofs.Common.{◌≡◌, take, drop, is_none}
use Rattle.std.specs.List.{list_any}
use Rattle.gate_package.specs.Shapes.{members_of}
use Rattle.gate_package.proofs.shape.read_list.Given as goal

abbrev pub invariant-loop-submission : goal.invariant-loop-submission
invariant-loop-submission l = record {
  rest : list_any is_none l.submissions ≡ list_any is_none (drop l.submission-index l.submissions);
  read : l.members.items ≡ members_of (take l.submission-index l.submissions);
}
