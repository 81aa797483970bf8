use Rattle.std.proofs.Common.{◌∙◌, ap, true, false}
use Rattle.sha2.specs.Sha256.{sha256}
use Rattle.gate_tx.proofs.Pieces.{text-extended}
use Rattle.gate_tx.proofs.hashing.hash_of_stripped.Goals as goal

pub hash_without_witnesses-requires : goal.hash_without_witnesses-requires
hash_without_witnesses-requires c = text-extended c.args.transaction.now c.args.bytes.now true c.if-has_witness.ensures c.requires.spelled

pub returns-else-has_witness : goal.returns-else-has_witness
returns-else-has_witness c = c.requires.hashed ∙ ap (λ x. sha256 (sha256 x)) (text-extended c.args.transaction.now c.args.bytes.now false c.if-has_witness.ensures c.requires.spelled)
