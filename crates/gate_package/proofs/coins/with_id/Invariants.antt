use Rattle.std.proofs.Common.{◌≡◌, drop}
use Rattle.std.specs.Prelude.{find}
use Rattle.std.specs.Str.{bytes_eq}
use Rattle.gate_tx.specs.Ids.{txid_of}
use Rattle.gate_tx.specs.Tx.{Tx}
use Rattle.gate_package.proofs.coins.with_id.Given as goal

abbrev pub invariant-loop-other : goal.invariant-loop-other
invariant-loop-other l = find (λ (t : Tx). bytes_eq (txid_of t) l.txid) l.others ≡ find (λ (t : Tx). bytes_eq (txid_of t) l.txid) (drop l.other-index l.others)
