use Rattle.gate_admit.proofs.Granted.{Differ}
use Rattle.gate_admit.proofs.Lists.{AllPairs-nil}
use Rattle.gate_core.specs.World.{opened_world}
use Rattle.gate_core.proofs.Listings.{lists_the_pool, answers_the_pool, describes_the_pool}
use Rattle.gate_core.proofs.Spends.{run_once}
use Rattle.gate_core.proofs.laws.runs_keep_the_pool_sound.Goals as goal

pub returns : goal.returns
returns c = λ o events. (
  run_once events (opened_world o) (AllPairs-nil Differ),
  lists_the_pool events (opened_world o),
  answers_the_pool events (opened_world o),
  describes_the_pool events (opened_world o),
)
