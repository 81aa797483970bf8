use Rattle.std.proofs.Common.{sym, ◌∙◌}
use Rattle.gate_split.proofs.Rounds.{lane_grows, line_skipped}
use Rattle.gate_split.proofs.split.Rounds.go_on.Goals as goal

pub returns-in_ok-extend_from_slice-in-Some : goal.returns-in_ok-extend_from_slice-in-Some
returns-in_ok-extend_from_slice-in-Some c =
    lane_grows _ c.args.self.now.whole.items c.args.self.now.last c.in-Some.last c.extend_from_slice.new.self c.args.self.now.count c.args.line.now
    c.requires.counted c.requires.closing c.requires.parting c.in-Some.is c.in_ok-extend_from_slice-in-Some.ensures.items

pub returns-in-None : goal.returns-in-None
returns-in-None c =
    line_skipped _ c.args.self.now.whole.items c.args.self.now.last c.args.self.now.count c.args.line.now
    c.requires.counted c.requires.closing c.requires.parting (sym c.is_skipped.ensures ∙ c.if-is_skipped.true) c.in-None.is
