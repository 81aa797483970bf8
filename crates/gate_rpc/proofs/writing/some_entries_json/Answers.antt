use Rattle.std.proofs.Common.{◌∷◌, ◌∙◌, sym, ap, string_bytes, arith}
use Rattle.std.proofs.lemmas.List.{append-nil}
use Rattle.gate_rpc.proofs.Listed.{entries_whole, member_is, member_text, one_more}
use Rattle.gate_rpc.proofs.writing.some_entries_json.Goals as goal

pub loop-known-init : goal.loop-known-init
loop-known-init c =
    c.in_ok-text.ensures ∙ ap (λ t. 123 ∷ t) (c.as_str.ensures.value ∙ c.in_ok-member.ensures ∙ member_is c.args.first.now ∙ sym (append-nil (member_text c.args.first.now)))

pub loop-known-preserved : goal.loop-known-preserved
loop-known-preserved c =
    one_more member_text (123 ∷ member_text c.args.first.now) c.args.others.now c.loop-known.known-index c.known-item.result (string_bytes c.loop-known.text) c.as_str-in-loop-known.result.now _
    (omega (arith, c.loop-known-test.true)) c.known-item.is c.loop-known.invariant (c.as_str-in-loop-known.ensures.value ∙ c.in_ok-member-2.ensures ∙ member_is c.known-item.result) c.in_ok-push_later.ensures

pub returns : goal.returns
returns c = entries_whole c.args.first.now c.args.others.now c.loop-known.known-index _ _ c.loop-known.invariant (omega (arith, c.loop-known-test.false)) c.in_ok-push_str.ensures.bytes
