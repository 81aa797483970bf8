use Rattle.gate_graph.proofs.Reaching.{reaches_from_Leads}
use Rattle.gate_trim.proofs.Aging.{one_young, all_young, young_stays}
use Rattle.gate_trim.proofs.law.expiry_leaves_the_young.Goals as goal

pub returns : goal.returns
returns c = record {
  left = one_young;
  above = λ stay now entries e m a k l. all_young stay now entries e m a k (reaches_from_Leads l);
  stays = young_stays;
}
