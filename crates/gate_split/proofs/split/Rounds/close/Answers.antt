use Rattle.gate_split.proofs.Rounds.{closed_bound}
use Rattle.gate_split.proofs.split.Rounds.close.Goals as goal

pub returns-clause-bounded : goal.returns-clause-bounded
returns-clause-bounded c =
    closed_bound c.args.self.over.items _ c.args.self.whole.items c.args.self.last c.in-Some.last _ c.args.self.count c.requires (cc c.in-Some.is) c.in_ok-push-2.ensures.items
