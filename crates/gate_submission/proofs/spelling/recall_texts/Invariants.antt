use Rattle.std.proofs.Common.{drop}
use Rattle.std.specs.List.{flat_map}
use Rattle.std.specs.Option.{option_to_list}
use Rattle.gate_submission.proofs.Telling.{AreSpelled}
use Rattle.gate_submission.proofs.spelling.recall_texts.Given as goal

abbrev pub invariant-loop-submission : goal.invariant-loop-submission
invariant-loop-submission l = AreSpelled (flat_map option_to_list (drop l.submission-index l.submissions)) → AreSpelled (flat_map option_to_list l.submissions)
