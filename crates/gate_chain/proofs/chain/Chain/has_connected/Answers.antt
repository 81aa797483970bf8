use Rattle.gate_chain.proofs.Learnt.{blocks_have}
use Rattle.gate_chain.proofs.chain.Chain.has_connected.Goals as goal

pub returns : goal.returns
returns g c = blocks_have _ _ _ _ _ _ c.self.inside.coins.opening.entries c.self.inside.coins.made.entries _ c.args.self.now c.self.invariant c.self.view_is c.args.txid.now c.contains.result c.contains.ensures
