use Rattle.std.proofs.Common.{◌++◌, ◌∷◌, [], ℕ, List, Option, Some, sym, ap, ◌∙◌, subst}
use Rattle.std.specs.Option.{option_copied}
use Rattle.gate_pool.specs.Pool.{Admitted}
use Rattle.gate_pool.specs.Counting.{counted_of}
use Rattle.gate_rbf.specs.Direct.{AreThese}
use Rattle.gate_rbf.proofs.Siblings.{nobody, beside_it}
use Rattle.gate_rbf.proofs.counting.put_sibling.Goals as goal

pub returns-in_default : goal.returns-in_default
returns-in_default g c = λ tx these.
    subst (λ (s : Option (List ℕ)). AreThese c.args.found.now.items (counted_of c.args.pool.now.entries s tx)) (sym c.in_default.is) these

pub returns-in_default-entry : goal.returns-in_default-entry
returns-in_default-entry g c = λ tx these.
    let entries = c.args.pool.now.entries in
    let none = sym c.entry.ensures ∙ ap option_copied c.in_default-entry.is in
    subst (λ (s : Option (List ℕ)). AreThese c.args.found.now.items (counted_of entries s tx)) (sym c.in-Some.is)
    (nobody entries tx c.in-Some.txid c.args.found.now.items these none)

pub returns : goal.returns
returns g c = λ tx these.
    let entries = c.args.pool.now.entries in
    let e = c.in-Some-entry.entry.now in
    subst (λ (s : Option (List ℕ)). AreThese c.push.new.self.items (counted_of entries s tx)) (sym c.in-Some.is)
    (subst (λ (l : List Admitted). AreThese l (counted_of entries (Some c.in-Some.txid) tx)) (sym (c.in_ok-push.ensures.items ∙ ap (λ (x : Admitted). c.args.found.now.items ++ x ∷ []) c.of.ensures))
    (beside_it entries tx c.in-Some.txid c.args.found.now.items these c.recall_distinct.ensures e (sym c.entry.ensures ∙ ap option_copied c.in-Some-entry.is)))
