use Rattle.std.proofs.Common.{◌≡◌}
use Rattle.std.specs.Str.Iter.{split_steps}
use Rattle.std.specs.Str.Pattern.{FindsChar}
use Rattle.gate_net.specs.Permissions.{permissions_of}
use Rattle.gate_net.proofs.Flags.{AreLeft}
use Rattle.gate_net.proofs.permissions.Permissions.parse.Given as goal

abbrev pub invariant-loop-word : goal.invariant-loop-word
invariant-loop-word l = record {
  ready : (goal.iterator-loop-word).can_next l.word-iterator;
  ends : (goal.iterator-loop-word).is_finite l.word-iterator;
  left : AreLeft (split_steps FindsChar (λ a b. b ≡ a)) (λ x. x.now) l.flags l.word-iterator (permissions_of l.text);
}
