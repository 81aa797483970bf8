use Rattle.std.proofs.Common.{◌∙◌, sym, ap}
use Rattle.std.proofs.lemmas.Result.{IfOk-weaker}
use Rattle.serde_json.specs.Written.{compact_text}
use Rattle.gate_rpc.specs.Replies.{entries_json}
use Rattle.gate_rpc.proofs.writing.entries_json.Goals as goal

pub returns-in-Some : goal.returns-in-Some
returns-in-Some c = IfOk-weaker c.some_entries_json.result _ _ (λ text is. is ∙ ap (λ l. compact_text (entries_json l)) (sym c.in-Some.ensures.cases.0)) c.some_entries_json.ensures
