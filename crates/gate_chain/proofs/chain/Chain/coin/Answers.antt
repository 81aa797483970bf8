use Rattle.std.proofs.Common.{ap, ◌∙◌, subst}
use Rattle.gate_chain.specs.Coins.{coin_of}
use Rattle.gate_chain.specs.History.{History}
use Rattle.gate_chain.specs.Keeping.{IsOpening}
use Rattle.gate_chain.proofs.Growing.{unspent_is}
use Rattle.gate_chain.proofs.Heights.{coin_within}
use Rattle.gate_chain.proofs.Opened.{height_of_lent}
use Rattle.gate_chain.proofs.chain.Chain.coin.Goals as goal

pub returns-clause-coin : goal.returns-clause-coin
returns-clause-coin g c = c.unspent.ensures ∙ unspent_is _ _ _ c.self.invariant.maps c.args.outpoint.now ∙ ap (λ h. coin_of h c.args.outpoint.now) c.self.view_is

pub returns-clause-height : goal.returns-clause-height
returns-clause-height g c =
    height_of_lent c.unspent.result _ _ (returns-clause-coin g c)
    (coin_within c.args.self.now c.args.outpoint.now (subst (λ (h : History). IsOpening h.first h.coins h.times) c.self.view_is c.self.invariant.opening))
