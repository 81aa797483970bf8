use Rattle.std.proofs.Common.{rules, ◌+◌, ◌<◌, ◌^◌, ◌∷◌, [], ◌++◌, List, ℕ, refl, ap, ◌∙◌, arith}
use Rattle.gate_tx.specs.Items.{items_at}
use Rattle.gate_tx.proofs.Items.{kept_few, pushed_kept, pushed_are}
use Rattle.gate_tx.proofs.witness.Witness.push.Goals as goal

pub overflow_add-self : goal.overflow_add-self
overflow_add-self c =
    let s = c.self.inside in
    let few = kept_few (items_at s.count s.texts.items) s.count s.texts.items c.self.invariant in
    let fits : s.count + 1 < 2 ^ 64 = omega (arith, few, s.texts.ok, s.texts.small) in
    search rules

pub invariant_of-self-2 : goal.invariant_of-self-2
invariant_of-self-2 c =
    let s = c.self.inside in
    pushed_kept (items_at s.count s.texts.items) c.args.item.now s.count (s.count + 1) s.texts.items c.put_counted.new.out.items c.self.invariant c.requires refl c.in_ok-put_counted.ensures.ok

pub returns-clause-ok : goal.returns-clause-ok
returns-clause-ok c =
    let s = c.self.inside in
    pushed_are (items_at s.count s.texts.items) c.args.item.now s.count (s.count + 1) s.texts.items c.put_counted.new.out.items c.self.invariant c.requires refl c.in_ok-put_counted.ensures.ok
    ∙ ap (λ (items : List (List ℕ)). items ++ c.args.item.now ∷ []) c.self.view_is
