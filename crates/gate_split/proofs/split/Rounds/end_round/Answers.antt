use Rattle.gate_split.proofs.Rounds.{round_ends}
use Rattle.gate_split.proofs.split.Rounds.end_round.Goals as goal

pub returns : goal.returns
returns c = λ line closes.
    round_ends c.args.self.now.over.items _ c.args.self.now.whole.items c.push.new.self.items c.replace-lanes.new.dest.items c.args.self.now.last c.take.new.self c.in-Some.last c.replace-lanes.result c.args.self.now.count line
    c.requires closes (cc (c.take.ensures.value, c.in-Some.is)) c.take.ensures.after c.in_ok-push.ensures.items (cc c.replace-lanes.ensures.value) (cc (c.replace-lanes.ensures.after, c.new.ensures.items)) c.in_ok-push-2.ensures.items
