-- Totals that are lent.
use Rattle.std.proofs.Common.{◌≡◌, ◌<◌, ◌^◌, ℕ, List, map, length, Option, Some, None, sym, ap, subst, ◌∙◌, Bor}
use Rattle.std.specs.Prelude.{Contains, IfSome}
use Rattle.gate_graph.specs.declared.held.Totals.{Totals}
use Rattle.gate_graph.specs.Weighing.{sums_of as node_sums, totals_of as node_totals}
use Rattle.gate_pool.specs.Pool.{Admitted, IsBounded}
use Rattle.gate_pool.specs.Family.{node_of, ancestors_of, descendants_of, totals_of}
use Rattle.gate_pool.proofs.Bounding.{size_small}
use Rattle.gate_pool.proofs.Carrying.{above_are, below_are}
use Rattle.gate_pool.proofs.Scoring.{sums_are}

-- the totals of nodes as those of entries
pub totals_are : (es : List Admitted) (x : List ℕ) → node_totals (map node_of es) x ≡ totals_of es x
totals_are es x = λ i. record {
  above = (ap node_sums (above_are es x) ∙ sums_are (ancestors_of es x)) i;
  below = (ap node_sums (below_are es x) ∙ sums_are (descendants_of es x)) i;
}

pub same_totals : (r : Option (Bor Totals)) (a b : Totals) → a ≡ b → IfSome r (λ t. t.now ≡ a) → IfSome r (λ t. t.now ≡ b)
same_totals None a b e h = h
same_totals (Some t) a b e h = h ∙ e

-- the sizes below an id are small
pub small_totals : (r : Option (Bor Totals)) (es : List Admitted) (x : List ℕ) → IfSome r (λ t. t.now ≡ totals_of es x) → ((e : Admitted) → Contains es e → IsBounded e) → length es < 2 ^ 64
    → IfSome r (λ t. t.now.below.size < 2 ^ 100)
small_totals None es x h all few = h
small_totals (Some t) es x h all few = subst (λ n. n < 2 ^ 100) (sym (ap (λ (s : Totals). s.below.size) h)) (size_small es x all few)
