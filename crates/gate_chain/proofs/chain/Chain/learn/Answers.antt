use Rattle.std.proofs.Common.{◌∙◌, sym, ap, subst}
use Rattle.gate_chain.specs.Coins.{coin_of, is_known_txid}
use Rattle.gate_chain.specs.History.{History}
use Rattle.gate_chain.specs.Learning.{learnt}
use Rattle.gate_chain.proofs.Learnt.{Fits, fits, coin_same, known_same, not_opened_yet, linked_learns}
use Rattle.gate_chain.proofs.chain.Chain.learn.Goals as goal

pub put-requires : goal.put-requires
put-requires g c =
    not_opened_yet _ _ _ _ _ _ c.self.inside.coins.opening.entries c.self.inside.coins.made.entries _ c.args.self.now c.self.invariant c.self.view_is c.args.coin (fits c.args.self.now c.args.coin (sym c.in_default.ensures))

pub invariant_of-self-2 : goal.invariant_of-self-2
invariant_of-self-2 g c =
    (linked_learns _ _ _ _ _ _ _ c.self.inside.coins.opening.entries c.self.inside.coins.made.entries _ _ c.self.invariant c.args.coin
    (subst (λ (h : History). Fits h c.args.coin) (sym c.self.view_is) (fits c.args.self.now c.args.coin (sym c.in_default.ensures))) c.in_ok-put.ensures.coins c.in_ok-put.ensures.ids).0

pub returns-clause-ok : goal.returns-clause-ok
returns-clause-ok g c =
    (linked_learns _ _ _ _ _ _ _ c.self.inside.coins.opening.entries c.self.inside.coins.made.entries _ _ c.self.invariant c.args.coin
    (subst (λ (h : History). Fits h c.args.coin) (sym c.self.view_is) (fits c.args.self.now c.args.coin (sym c.in_default.ensures))) c.in_ok-put.ensures.coins c.in_ok-put.ensures.ids).1
    ∙ ap (λ (h : History). learnt h c.args.coin) c.self.view_is

pub returns-clause-coins : goal.returns-clause-coins
returns-clause-coins g c = λ p there. ap (λ (h : History). coin_of h p) (returns-clause-ok g c) ∙ coin_same c.args.self.now c.args.coin (fits c.args.self.now c.args.coin (sym c.in_default.ensures)) p there

pub returns-clause-known : goal.returns-clause-known
returns-clause-known g c = λ id other. ap (λ (h : History). is_known_txid h id) (returns-clause-ok g c) ∙ known_same c.args.self.now c.args.coin id other
