use Rattle.gate_chain.proofs.Learnt.{opening_has}
use Rattle.gate_chain.proofs.chain.Chain.has_opening_coin.Goals as goal

pub returns : goal.returns
returns g c = opening_has _ _ _ _ _ _ c.self.inside.coins.opening.entries c.self.inside.coins.made.entries _ c.args.self.now c.self.invariant c.self.view_is c.args.outpoint.now c.contains_key.result c.contains_key.ensures
