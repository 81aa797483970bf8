-- The last member of a package, and those before it; and what the rules on the whole package say of its members.
use Rattle.std.proofs.Common.{◌≡◌, false, List, [], ◌∷◌, ◌++◌, None, refl, ap}
use Rattle.gate_bytes.specs.Order.{first_failing}
use Rattle.gate_bytes.proofs.OrderLemmas.{none_fails}
use Rattle.gate_tx.specs.Tx.{Tx}
use Rattle.gate_chain.specs.History.{History}
use Rattle.gate_admit.specs.Policies.{Policy}
use Rattle.gate_package.specs.Shapes.{child_inputs, has_conflict, has_duplicates, parents_of, shape_rules}

pub parents_at : (parents : List Tx) (child : Tx) → parents_of (parents ++ child ∷ []) ≡ parents
parents_at [] child = refl
parents_at (tx ∷ []) child = refl
parents_at (tx ∷ next ∷ others) child = ap (λ l. tx ∷ l) (parents_at (next ∷ others) child)

pub child_at : (parents : List Tx) (child : Tx) → child_inputs (parents ++ child ∷ []) ≡ child.inputs
child_at [] child = refl
child_at (tx ∷ []) child = refl
child_at (tx ∷ next ∷ others) child = child_at (next ∷ others) child

-- the rules on the whole package let no two members share an id or an input
pub shape_passes : (chain : History) (policy : Policy) (txs : List Tx) → first_failing (shape_rules chain policy txs) ≡ None → (has_duplicates txs ≡ false) × (has_conflict txs ≡ false)
unfolding shape_rules
shape_passes chain policy txs h = let p = none_fails (shape_rules chain policy txs) h in (p.1.1.0, p.1.1.1.0)
