use Rattle.std.proofs.Common.{◌∷◌, ◌∙◌, sym, ap, string_bytes, arith}
use Rattle.std.proofs.lemmas.List.{append-nil}
use Rattle.gate_rpc.proofs.Listed.{fate_is, fate_text, fates_whole, one_more}
use Rattle.gate_rpc.proofs.packaging.some_members_json.Goals as goal

pub loop-member-init : goal.loop-member-init
loop-member-init c =
    let all = c.args.all.now in
    c.in_ok-text.ensures ∙ ap (λ t. 123 ∷ t) (c.as_str.ensures.value ∙ c.in_ok-json.ensures ∙ fate_is all c.args.first.now ∙ sym (append-nil (fate_text all c.args.first.now)))

pub loop-member-preserved : goal.loop-member-preserved
loop-member-preserved c =
    let all = c.args.all.now in
    one_more (fate_text all) (123 ∷ fate_text all c.args.first.now) c.args.others.now c.loop-member.member-index c.member-item.result (string_bytes c.loop-member.text) c.as_str-in-loop-member.result.now _
    (omega (arith, c.loop-member-test.true)) c.member-item.is c.loop-member.invariant (c.as_str-in-loop-member.ensures.value ∙ c.in_ok-json-2.ensures ∙ fate_is all c.member-item.result) c.in_ok-push_later.ensures

pub returns : goal.returns
returns c = fates_whole c.args.all.now c.args.first.now c.args.others.now c.loop-member.member-index _ _ c.loop-member.invariant (omega (arith, c.loop-member-test.false)) c.in_ok-push_str.ensures.bytes
