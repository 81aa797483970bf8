use Rattle.std.proofs.Common.{arith}
use Rattle.std.specs.List.{list_any}
use Rattle.gate_tx.specs.declared.TxIn.{TxIn}
use Rattle.gate_tx.specs.Ids.{txid_of}
use Rattle.gate_graph.specs.Family.{reaches}
use Rattle.gate_pool.specs.Pool.{Admitted}
use Rattle.gate_pool.specs.Family.{steps}
use Rattle.gate_pool.proofs.Walking.{shorter}
use Rattle.gate_rbf.proofs.Rivals.{some_unless_none}
use Rattle.gate_figures.proofs.families.crowded_past.Goals as goal

pub unwrap-above-requires : goal.unwrap-above-requires
unwrap-above-requires g c =
    let entries = c.args.pool.now.entries in
    some_unless_none c.in_ok-found.found (λ none.
    absurd (omega (
      arith,
      c.in_ok-found.ensures.many none,
      c.count.ensures,
      shorter (λ (e : Admitted). list_any (λ (i : TxIn). reaches (steps entries) (txid_of e.tx) i.prevout.txid) c.inputs.result.now) entries,
    )))
