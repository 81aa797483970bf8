use Rattle.gate_split.proofs.Rounds.{first_begins, lane_past, next_begins}
use Rattle.gate_split.proofs.split.Rounds.begin_lane.Goals as goal

pub returns-then-self-ge-MAX_LANES : goal.returns-then-self-ge-MAX_LANES
returns-then-self-ge-MAX_LANES c = λ line parts closes. lane_past _ _ _ line c.args.self.now.count c.requires c.if-self-ge-MAX_LANES.true closes parts

pub returns-in_ok-push-in-Some : goal.returns-in_ok-push-in-Some
returns-in_ok-push-in-Some c = λ line parts closes.
    next_begins _ c.args.self.now.whole.items _ c.args.self.now.last c.replace.new.self c.in-Some.whole c.new.result c.args.self.now.count line c.requires c.if-self-ge-MAX_LANES.false
    closes parts (cc (c.replace.ensures.value, c.in-Some.is)) c.replace.ensures.after c.new.ensures.items c.in_ok-push-in-Some.ensures.items

pub returns-in-None : goal.returns-in-None
returns-in-None c = λ line parts closes.
    first_begins _ c.args.self.now.whole.items c.args.self.now.last c.replace.new.self c.new.result c.args.self.now.count line c.requires c.if-self-ge-MAX_LANES.false
    closes parts (cc (c.replace.ensures.value, c.in-None.is)) c.replace.ensures.after c.new.ensures.items
