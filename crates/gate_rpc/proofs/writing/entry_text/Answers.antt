use Rattle.std.proofs.Common.{◌∙◌, ap}
use Rattle.std.proofs.lemmas.Result.{IfOk-weaker}
use Rattle.gate_rpc.specs.Texts.{entry_start, entry_middle}
use Rattle.gate_rpc.proofs.writing.entry_text.Goals as goal

pub returns : goal.returns
returns c = IfOk-weaker c.entry_start.result _ _
    (λ text is. is ∙ ap (λ rest. entry_start c.args.entry.now c.args.depends.now rest)
    (c.as_str-2.ensures.value ∙ c.in_ok-rest-2.ensures ∙ ap (λ rest. entry_middle c.args.entry.now c.args.spent_by.now rest) (c.as_str.ensures.value ∙ c.in_ok-rest.ensures)))
    c.entry_start.ensures
