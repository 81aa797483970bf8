use Rattle.std.proofs.Common.{subst}
use Rattle.gate_chain.specs.Founding.{AreConnected}
use Rattle.gate_chain.proofs.Founded.{all_founded}
use Rattle.gate_chain.proofs.Parted.{fine}
use Rattle.gate_chain.proofs.chain.Chain.recall_blocks.Goals as goal

pub returns-clause-connected : goal.returns-clause-connected
returns-clause-connected g c = subst AreConnected c.self.view_is (fine _ _ _ _ _ _ c.self.inside.coins.opening.entries c.self.inside.coins.made.entries _ c.self.invariant)

pub returns-clause-founded : goal.returns-clause-founded
returns-clause-founded g c = all_founded c.args.self.now (returns-clause-connected g c)
