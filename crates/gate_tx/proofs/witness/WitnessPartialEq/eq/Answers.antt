use Rattle.std.proofs.Common.{◌≡◌, rules, List, ℕ, ap, ◌∙◌}
use Rattle.std.specs.Str.{bytes_eq}
use Rattle.std.specs.Cmp.Lexicographic.{pointwise}
use Rattle.gate_tx.specs.Items.{items_at}
use Rattle.gate_tx.proofs.Items.{same_texts}
use Rattle.gate_tx.proofs.witness.WitnessPartialEq.eq.Goals as goal

pub returns-then-self-other : goal.returns-then-self-other
returns-then-self-other c =
    let a = c.self.inside in
    let b = c.other.inside in
    let texts : c.eq.result ≡ bytes_eq a.texts.items b.texts.items = search rules in
    texts
    ∙ same_texts (items_at a.count a.texts.items) (items_at b.count b.texts.items) a.count b.count a.texts.items b.texts.items c.self.invariant c.other.invariant c.if-self-other.true
    ∙ ap (λ (items : List (List ℕ)). pointwise bytes_eq items (items_at b.count b.texts.items)) c.self.view_is
    ∙ ap (pointwise bytes_eq c.args.self.now) c.other.view_is
