use Rattle.std.proofs.Common.{◌≡◌, ℕ, sym, subst, ◌∙◌, arith}
use Rattle.std.specs.Str.Iter.{split_steps}
use Rattle.std.specs.Str.Pattern.{FindsChar}
use Rattle.std.proofs.lemmas.Iterator.Splits.{YieldsList-from_str_split}
use Rattle.gate_net.specs.Permissions.{Permissions, permissions_of}
use Rattle.gate_net.proofs.Flags.{AreLeft, left_begin, left_done, left_wrong, left_more}
use Rattle.gate_net.proofs.permissions.Permissions.parse.Goals as goal

pub loop-word-init : goal.loop-word-init
loop-word-init c = record {
  ready = tt;
  ends = tt;
  left =
      left_begin (split_steps FindsChar (λ a b. b ≡ a)) (λ x. x.now) c.none-flags.result c.into_iter-word-iterator.result c.split-word-items.result _
      c.none-flags.ensures c.into_iter-word-iterator.ensures.into_iter_gives
      (YieldsList-from_str_split 44 c.args.text.now (omega arith) c.split-word-items.ensures.text c.split-word-items.ensures.has_more c.split-word-items.ensures.pattern);
}

pub returns-in_err-of_word : goal.returns-in_err-of_word
returns-in_err-of_word c =
    c.from_residual.ensures
    ∙ left_wrong _ _ c.loop-word.flags c.loop-word.word-iterator c.next.new.self (permissions_of c.args.text.now) c.in-Some.word c.loop-word.invariant.left c.in-Some.ensures.steps (sym c.in_err-of_word.ensures)

pub loop-word-preserved : goal.loop-word-preserved
loop-word-preserved c = record {
  ready = tt;
  ends = tt;
  left =
      subst (λ (f : Permissions). AreLeft (split_steps FindsChar (λ a b. b ≡ a)) (λ x. x.now) f c.next.new.self (permissions_of c.args.text.now)) (sym c.union-flags.ensures)
      (left_more _ _ c.loop-word.flags c.loop-word.word-iterator c.next.new.self (permissions_of c.args.text.now) c.in-Some.word c.in_ok-of_word.field-0 c.loop-word.invariant.left c.in-Some.ensures.steps (sym c.in_ok-of_word.ensures));
}

pub returns : goal.returns
returns c = left_done _ _ c.loop-word.flags c.loop-word.word-iterator c.next.new.self (permissions_of c.args.text.now) c.loop-word.invariant.left c.in-None.ensures.steps
