use Rattle.std.proofs.Common.{◌∙◌, inl, inr}
use Rattle.std.proofs.lemmas.Result.{IfOk-weaker}
use Rattle.gate_rpc.proofs.Each.{few_or_many, in_between, is_nothing, is_something}
use Rattle.gate_rpc.proofs.params.submissions.Goals as goal
use Rattle.gate_rpc.proofs.params.submissions.Goals.{then-is_empty-via-then-is_empty, then-is_empty-via-else-is_empty+then-items-gt-MOST_TESTED}

pub returns-then-is_empty : goal.returns-then-is_empty
returns-then-is_empty c =
    elim c.then-is_empty.branch [
      | then-is_empty-via-then-is_empty w ↦ few_or_many c.args.items.now (inl (is_nothing _ _ c.is_empty.ensures w.if-is_empty.true))
      | then-is_empty-via-else-is_empty+then-items-gt-MOST_TESTED w ↦ few_or_many c.args.items.now (inr w.if-items-gt-MOST_TESTED.true)
    ]

pub returns : goal.returns
returns c =
    IfOk-weaker c.each_submission.result _ _ (λ s is. is ∙ in_between c.args.items.now (is_something _ _ c.is_empty.ensures c.if-is_empty.false) c.if-items-gt-MOST_TESTED.false) c.each_submission.ensures
