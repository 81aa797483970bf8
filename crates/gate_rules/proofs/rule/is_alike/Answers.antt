use Rattle.std.proofs.Common.{map}
use Rattle.std.specs.Char.{to_ascii_lowercase}
use Rattle.std.proofs.lemmas.Slice.Eq.{bytes_eq-Decides}
use Rattle.gate_rules.specs.Rules.{is_alike}
use Rattle.gate_rules.proofs.Finding.{both_or_neither}
use Rattle.gate_rules.proofs.rule.is_alike.Goals as goal

pub returns : goal.returns
unfolding is_alike
returns c =
    let decides = bytes_eq-Decides (map to_ascii_lowercase c.args.text.now) (map to_ascii_lowercase c.args.other.now) in
    both_or_neither _ _ (λ e. decides.1 (c.eq_ignore_ascii_case.ensures.test.0 e)) (λ e. c.eq_ignore_ascii_case.ensures.test.1 (decides.0 e))
