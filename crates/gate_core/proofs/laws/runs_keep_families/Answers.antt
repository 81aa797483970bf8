use Rattle.std.proofs.Common.{subst}
use Rattle.std.specs.List.{All}
use Rattle.gate_tx.specs.Ids.{txid_of}
use Rattle.gate_pool.specs.Pool.{Admitted}
use Rattle.gate_admit.specs.Good.{IsLimited, Limits}
use Rattle.gate_core.specs.World.{World, opened_world}
use Rattle.gate_core.specs.Runs.{run_of}
use Rattle.gate_core.proofs.Keeping.{opened_good}
use Rattle.gate_core.proofs.Running.{run_good, run_same_limits}
use Rattle.gate_core.proofs.laws.runs_keep_families.Goals as goal

pub returns : goal.returns
returns c = λ o events bounds spelled apart.
    let end : World = (run_of (opened_world o) events).1 in
    let good = (run_good events (opened_world o) spelled apart (opened_good o bounds)).pool.sound in
    record {
      coins = good.coins;
      limited = subst (λ (l : Limits). All (λ (e : Admitted). IsLimited l.policy end.pool (txid_of e.tx)) end.pool) (run_same_limits events (opened_world o)) good.limited;
    }
