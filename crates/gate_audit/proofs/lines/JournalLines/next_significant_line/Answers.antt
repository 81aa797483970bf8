use Rattle.std.proofs.Common.{sym, ◌∙◌}
use Rattle.gate_audit.proofs.AskingTaken.{asking_found, asking_skip}
use Rattle.gate_audit.proofs.lines.JournalLines.next_significant_line.Goals as goal

pub returns-then-not-is_blank_or_comment-clause-read : goal.returns-then-not-is_blank_or_comment-clause-read
returns-then-not-is_blank_or_comment-clause-read g c =
    let read = rw c.if-branch.true at c.in_ok-read_line.ensures.read in
    asking_found _ (g.R.Read.remaining c.loop-self.reader) _ _ c.loop-self.self.lines.count _ _ c.loop-self.self.has_ended _ _ c.loop-self.invariant read c.read_line.new.self.few (sym (rw c.as_slice.ensures at c.is_blank_or_comment.ensures) ∙ c.if-not-is_blank_or_comment.true)

pub loop-self-preserved : goal.loop-self-preserved
loop-self-preserved g c =
    let read = rw c.if-branch.true at c.in_ok-read_line.ensures.read in
    asking_skip _ (g.R.Read.remaining c.loop-self.reader) _ _ c.loop-self.self.lines.count _ _ c.loop-self.self.has_ended _ _ c.loop-self.invariant read (sym (rw c.as_slice.ensures at c.is_blank_or_comment.ensures) ∙ c.if-not-is_blank_or_comment.false)
