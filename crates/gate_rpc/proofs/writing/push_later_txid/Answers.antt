use Rattle.std.proofs.Common.{[], ◌∷◌, ◌++◌, ◌∙◌, ap, append_assoc, subst, string_bytes}
use Rattle.hex.specs.Hex.{IsBytes}
use Rattle.gate_tx.specs.Ids.{id_text}
use Rattle.gate_rpc.proofs.Digits.{quoted_id}
use Rattle.gate_rpc.proofs.writing.push_later_txid.Goals as goal

pub returns : goal.returns
returns c =
    let text = string_bytes c.args.text.now in
    let digits = id_text c.args.txid.now in
    c.in_ok-push_str-2.ensures.bytes
    ∙ ap (λ t. t ++ 34 ∷ []) (c.in_ok-write.ensures.bytes ∙ ap (λ t. t ++ digits) c.in_ok-push_str.ensures.bytes)
    ∙ append_assoc (text ++ 44 ∷ 34 ∷ []) digits (34 ∷ [])
    ∙ append_assoc text (44 ∷ 34 ∷ []) (digits ++ 34 ∷ [])
    ∙ ap (λ t. text ++ 44 ∷ t) (quoted_id c.args.txid.now (subst IsBytes c.as_bytes.ensures.bytes c.recall_bytes.ensures))
