use Rattle.std.proofs.Common.{◌≡◌, ◌++◌, length, take, string_bytes}
use Rattle.std.specs.Prelude.{codes}
use Rattle.std.specs.List.{flat_map}
use Rattle.std.specs.Fmt.{decimal}
use Rattle.gate_tx.specs.Ids.{id_text}
use Rattle.gate_message.proofs.reply.push_listing.Given as goal

abbrev pub invariant-loop-txid : goal.invariant-loop-txid
invariant-loop-txid l = string_bytes l.text ≡ string_bytes l.fn.text ++ (codes "listing " ++ decimal (length l.txids) ++ flat_map (λ txid. codes " " ++ id_text txid) (take l.txid-index l.txids))
