use Rattle.std.proofs.Common.{◌∙◌, ap, arith}
use Rattle.sha2.specs.Sha256.{sha256}
use Rattle.gate_tx.specs.Ids.{txid_of, wtxid_of}
use Rattle.gate_tx.proofs.Pieces.{is_weighed}
use Rattle.gate_tx.proofs.identified.Identified.spelled.Goals as goal

pub overflow_mul-weight : goal.overflow_mul-weight
overflow_mul-weight c = let at = is_weighed c.args.transaction c.args.bytes.now c.stripped_size.result c.requires c.stripped_size.ensures in omega arith

pub overflow_add-weight : goal.overflow_add-weight
overflow_add-weight c = let at = is_weighed c.args.transaction c.args.bytes.now c.stripped_size.result c.requires c.stripped_size.ensures in omega arith

pub invariant_of-result : goal.invariant_of-result
unfolding txid_of wtxid_of
invariant_of-result c = record {
  txid = c.new.ensures ∙ c.hash_of_stripped-stripped.ensures;
  wtxid = c.new-2.ensures ∙ c.double_hash-hash.ensures ∙ ap (λ x. sha256 (sha256 x)) c.requires.parts;
  weight = (is_weighed c.args.transaction c.args.bytes.now c.stripped_size.result c.requires c.stripped_size.ensures).0;
}
