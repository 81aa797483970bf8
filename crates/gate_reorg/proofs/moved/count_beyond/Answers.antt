use Rattle.std.proofs.Common.{arith}
use Rattle.std.specs.Prelude.{is_none}
use Rattle.std.proofs.lemmas.Grind.{common_steps}
use Rattle.gate_pool.specs.Pool.{entry_by_txid}
use Rattle.gate_reorg.proofs.Counting.{length-listing}
use Rattle.gate_reorg.proofs.moved.count_beyond.Goals as goal

pub returns : goal.returns
returns g c =
    let all = length-listing (λ x. is_none (entry_by_txid c.args.other.now.entries x)) c.args.pool.now.entries in
    grind (arith, common_steps, all, c.loop-txid.invariant, c.as_slice-txid-items.ensures, c.in_ok-listing.ensures)
