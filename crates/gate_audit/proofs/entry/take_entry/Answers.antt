use Rattle.std.proofs.Common.{ap, sym, refl, Err, inl, inr, string_bytes, ◌∙◌}
use Rattle.std.proofs.lemmas.Bool.{true≢false}
use Rattle.std.proofs.lemmas.Result.{err_from_is_err_and}
use Rattle.gate_audit.proofs.EntryTaken.{entry_base, entry_legal, entry_unreplied, entry_wrong, handed_on, past_first, past_second, round_goes_on}
use Rattle.gate_audit.proofs.entry.take_entry.Goals as goal

pub returns-in_err-next_significant_line-clause-past : goal.returns-in_err-next_significant_line-clause-past
returns-in_err-next_significant_line-clause-past g c = λ steady err.
    let same = handed_on _ c.in_err-next_significant_line.field-0.0 _ (err_from_is_err_and c.from_residual.result c.from_residual.ensures.1) err in
    past_first _ _ c.args.counts.in_round (c.in_err-next_significant_line.ensures.past steady (ap (λ e. Err e) same))

pub returns-then-is_base-clause-taken : goal.returns-then-is_base-clause-taken
returns-then-is_base-clause-taken g c =
    let read = rw c.if-not-branch.false at c.in_ok-next_significant_line.ensures.read in
    let is = rw c.as_slice.ensures at c.is_base.ensures in
    entry_base _ (g.R.Read.remaining c.next_significant_line.new.reader) _ c.next_significant_line.new.self.lines.count c.next_significant_line.new.self.has_ended c.args.state.now _ c.next_significant_line.new.self.lines.line c.args.counts.all read (is.0 c.if-is_base.true) refl

pub returns-then-is_full-clause-taken : goal.returns-then-is_full-clause-taken
returns-then-is_full-clause-taken g c =
    let read = rw c.if-not-branch.false at c.in_ok-next_significant_line.ensures.read in
    let is = rw c.as_slice.ensures at c.is_base.ensures in
    entry_wrong _ (g.R.Read.remaining c.next_significant_line.new.reader) _ c.next_significant_line.new.self.lines.count _ c.next_significant_line.new.self.has_ended c.args.state.now c.args.counts c.next_significant_line.new.self.lines.line read
    (λ e. true≢false (sym (is.1 e) ∙ c.if-is_base.false)) (inl (c.is_full.ensures.0 c.if-is_full.true))

pub returns-in_default-clause-taken : goal.returns-in_default-clause-taken
returns-in_default-clause-taken g c =
    let read = rw c.if-not-branch.false at c.in_ok-next_significant_line.ensures.read in
    let is = rw c.as_slice.ensures at c.is_base.ensures in
    let none = rw (c.in_default.is, c.as_slice-2.ensures) at c.in_ok-reply.ensures in
    entry_wrong _ (g.R.Read.remaining c.next_significant_line.new.reader) _ c.next_significant_line.new.self.lines.count _ c.next_significant_line.new.self.has_ended c.args.state.now c.args.counts c.next_significant_line.new.self.lines.line read
    (λ e. true≢false (sym (is.1 e) ∙ c.if-is_base.false)) (inr none)

pub returns-in_err-reply_follows-clause-past : goal.returns-in_err-reply_follows-clause-past
returns-in_err-reply_follows-clause-past g c = λ steady err.
    let same = handed_on _ c.in_err-reply_follows.field-0.0 _ (err_from_is_err_and c.from_residual-in_err-reply_follows.result c.from_residual-in_err-reply_follows.ensures.1) err in
    let read = rw c.if-not-branch.false at c.in_ok-next_significant_line.ensures.read in
    let some = rw (c.in-Some.is, c.as_slice-2.ensures) at c.in_ok-reply.ensures in
    past_second _ (g.R.Read.remaining c.next_significant_line.new.reader) _ c.next_significant_line.new.self.lines.count c.next_significant_line.new.self.has_ended c.args.state.now c.reply_to.new.state c.args.counts.in_round c.next_significant_line.new.self.lines.line
    (string_bytes c.in-Some.reply) read (round_goes_on _ _ c.args.counts.bounded c.is_full.ensures c.if-is_full.false) some
    (c.in_err-reply_follows.ensures.past steady (ap (λ e. Err e) same))

pub returns-then-branch-clause-taken : goal.returns-then-branch-clause-taken
returns-then-branch-clause-taken g c =
    let read = rw c.if-not-branch.false at c.in_ok-next_significant_line.ensures.read in
    let some = rw (c.in-Some.is, c.as_slice-2.ensures) at c.in_ok-reply.ensures in
    let follows = rw (c.if-branch.true, c.as_str-2.ensures.value) at c.in_ok-reply_follows.ensures.read in
    entry_legal _ (g.R.Read.remaining c.next_significant_line.new.reader) _ _ c.next_significant_line.new.self.lines.count _ c.next_significant_line.new.self.has_ended _ c.args.state.now c.reply_to.new.state c.args.counts.in_round c.next_significant_line.new.self.lines.line
    (string_bytes c.in-Some.reply) read (round_goes_on _ _ c.args.counts.bounded c.is_full.ensures c.if-is_full.false) some follows

pub returns-clause-taken : goal.returns-clause-taken
returns-clause-taken g c =
    let read = rw c.if-not-branch.false at c.in_ok-next_significant_line.ensures.read in
    let is = rw c.as_slice.ensures at c.is_base.ensures in
    let some = rw (c.in-Some.is, c.as_slice-2.ensures) at c.in_ok-reply.ensures in
    let follows = rw (c.if-branch.false, c.as_str-2.ensures.value) at c.in_ok-reply_follows.ensures.read in
    entry_unreplied _ (g.R.Read.remaining c.next_significant_line.new.reader) _ c.next_significant_line.new.self.lines.count _ c.next_significant_line.new.self.has_ended c.args.state.now c.reply_to.new.state c.args.counts c.next_significant_line.new.self.lines.line
    (string_bytes c.in-Some.reply) read (λ e. true≢false (sym (is.1 e) ∙ c.if-is_base.false)) some follows
