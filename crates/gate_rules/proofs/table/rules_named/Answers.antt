use Rattle.std.proofs.Common.{◌≡◌, ◌∙◌, ap, List, filter, map}
use Rattle.gate_rules.specs.Key.{Key}
use Rattle.gate_rules.specs.Rules.{is_named, key_of, named_among}
use Rattle.gate_rules.specs.declared.rule.Rule.{Rule}
use Rattle.gate_rules.proofs.Finding.{map_filter}
use Rattle.gate_rules.proofs.table.rules_named.Goals as goal

pub returns : goal.returns
returns c =
    let word = c.args.word.now in
    let rules = c.in_ok-rules.rules.items in
    let found : c.in_ok-found.found.items ≡ named_among word rules = c.in_ok-found.ensures ∙ ap (named_among word) c.as_slice.ensures.value in
    ap (λ (rs : List Rule). map key_of rs) found ∙ (map_filter (is_named word) rules ∙ ap (λ (ks : List Key). filter (is_named word) ks) c.in_ok-rules.ensures)
