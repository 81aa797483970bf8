-- How nodes rank among one another: by fees over size.
use Rattle.std.specs.Prelude.{◌≡◌, ◌≤◌, ℕ, List, Option, map, max, sum_by, if◌then◌else◌}
use Rattle.std.specs.Option.{option_map}
use Rattle.std.specs.Ordering.{is_lt}
use Rattle.gate_ranking.specs.Rate.{Fraction, rate_cmp}
use Rattle.gate_ranking.specs.Ranking.{Ranked}
use Rattle.gate_ranking.specs.Lesser.{least_by}
use Rattle.gate_graph.specs.Family.{Node}
use Rattle.gate_graph.specs.Families.{descendants_of}
use Rattle.gate_graph.specs.declared.held.Held.{Held}
use Rattle.gate_graph.specs.Holding.{nodes_in, nodes_of}
use Rattle.gate_graph.specs.declared.held.Sums.{Sums}
use Rattle.gate_graph.specs.Slots.{entries_of}
use Rattle.gate_graph.specs.Weighing.{sums_of}

-- fees over a size; a size of 0 counts as 1
abbrev pub rate : ℕ → ℕ → Fraction
rate fees size = record { fees = fees; size = max size 1 }

-- a fee over a size, or the fees of a family over its size if that is more
unfoldable pub rate_with : ℕ → ℕ → Sums → Fraction
rate_with fee size family = if is_lt (rate_cmp (rate fee size) (rate family.fees family.size)) then rate family.fees family.size else rate fee size

-- what a node is ranked by: its own fee over its size, or the fees over the sizes of all that is below it, itself among them,
-- whichever is greater
abbrev pub rate_in : List Node → Node → Fraction
rate_in g n = rate_with n.fee n.size (sums_of (descendants_of g n.id))

module _ {T : Type 0} where
  -- what a node is ranked by, from the totals that it keeps
  abbrev pub rate_of : Held T → Fraction
  rate_of h = rate_with h.fee h.size h.totals.below

  -- the node that ranks least, of equal ones the last
  abbrev pub least_of : List (Node × T) → Option (Node × T)
  least_of g = least_by rate_cmp (λ p. rate_in (nodes_in g) p.0) g

  -- each node's rate stands at its place in a ranking, which has room for as many more, and the sizes add up
  pub record IsRanked (slots : List (Option (Held T))) (room : ℕ) (ranks : Ranked Fraction) (size : ℕ) : Type 0 where
    pub keys : ranks.keys ≡ map (option_map rate_of) slots
    pub ranks_room : room ≤ ranks.room
    pub sum : size ≡ sum_by (λ n. n.size) (nodes_of (entries_of slots))
