use Rattle.std.proofs.Common.{◌∙◌, ◌-◌, ap, length, arith}
use Rattle.sha2.specs.Sha256.{sha256}
use Rattle.gate_tx.proofs.Pieces.{places, cut_is_stripped, cut}
use Rattle.gate_tx.proofs.hashing.hash_without_witnesses.Goals as goal

pub overflow_sub-lists_end : goal.overflow_sub-lists_end
overflow_sub-lists_end c = let at = places c.args.transaction.now c.args.bytes.now c.requires in omega arith

pub double_hash_of_pieces-requires-clause-lists : goal.double_hash_of_pieces-requires-clause-lists
double_hash_of_pieces-requires-clause-lists c = let at = places c.args.transaction.now c.args.bytes.now c.requires in omega arith

pub double_hash_of_pieces-requires-clause-witnesses : goal.double_hash_of_pieces-requires-clause-witnesses
double_hash_of_pieces-requires-clause-witnesses c = let at = places c.args.transaction.now c.args.bytes.now c.requires in omega arith

pub returns : goal.returns
returns c =
    c.double_hash_of_pieces.ensures
    ∙ ap (λ n. sha256 (sha256 (cut (n - 2) (length c.args.bytes.now - 4) c.args.bytes.now))) c.stripped_size-lists_end.ensures
    ∙ ap (λ x. sha256 (sha256 x)) (cut_is_stripped c.args.transaction.now c.args.bytes.now c.requires)
