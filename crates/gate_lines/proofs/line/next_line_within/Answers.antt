use Rattle.std.proofs.Common.{◌≡◌, ◌-◌, length, rules}
use Rattle.gate_lines.proofs.PartLemmas.{held_whole, held_more, held_too_long}
use Rattle.gate_lines.proofs.line.next_line_within.Goals as goal

pub returns-in-Newline-clause-read : goal.returns-in-Newline-clause-read
returns-in-Newline-clause-read g c =
    let left : c.args.most - c.len.result ≡ c.args.most - length c.loop-line.line.items = search rules in
    held_whole c.args.most _ (g.R.Read.remaining c.loop-line.reader) _ c.loop-line.line.items _ _ left c.loop-line.invariant (rw c.in-Newline.is at c.in_ok-take_part.ensures.taken)

pub loop-line-preserved : goal.loop-line-preserved
loop-line-preserved g c =
    let left : c.args.most - c.len.result ≡ c.args.most - length c.loop-line.line.items = search rules in
    (held_more c.args.most _ (g.R.Read.remaining c.loop-line.reader) _ c.loop-line.line.items _ _ left c.loop-line.invariant (rw c.in-More.is at c.in_ok-take_part.ensures.taken)).0

pub returns-in-TooLong-clause-read : goal.returns-in-TooLong-clause-read
returns-in-TooLong-clause-read g c =
    let left : c.args.most - c.len.result ≡ c.args.most - length c.loop-line.line.items = search rules in
    held_too_long c.args.most _ (g.R.Read.remaining c.loop-line.reader) _ c.loop-line.line.items _ _ left c.loop-line.invariant (rw c.in-TooLong.is at c.in_ok-take_part.ensures.taken)
