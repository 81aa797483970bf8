use Rattle.std.proofs.Common.{◌∙◌, ap}
use Rattle.serde_json.specs.Written.{compact_text}
use Rattle.gate_rpc.specs.Values.{txids_json}
use Rattle.gate_rpc.proofs.Objects.{entry_whole}
use Rattle.gate_rpc.proofs.writing.entry_json.Goals as goal

pub returns : goal.returns
returns c = c.in_ok-entry_text.ensures ∙ entry_whole _ _ _ c.args.entry.now (c.as_str.ensures.value ∙ c.in_ok-depends.ensures ∙ ap (λ l. compact_text (txids_json l)) c.as_slice.ensures) (c.as_str-2.ensures.value ∙ c.in_ok-spent_by.ensures ∙ ap (λ l. compact_text (txids_json l)) c.as_slice-2.ensures) (c.as_str-3.ensures.value ∙ c.in_ok-wtxid.ensures)
