-- A new node between others, and the chains between these.
use Rattle.std.specs.Prelude.{◌≡◌, ◌≤◌, ◌+◌, ℕ, true, List, length, Contains}
use Rattle.gate_graph.specs.Family.{steps_of, reaches}
use Rattle.gate_graph.specs.Families.{has, descendants_of}
use Rattle.gate_graph.specs.declared.held.Held.{Held}
use Rattle.gate_graph.specs.Holding.{nodes_of}
use Rattle.gate_graph.specs.Weighing.{IsNewLast}

module _ {T : Type 0} where
  -- the last node adds no chain: between the others a chain leads where one led without it
  pub record AddsNoChain (hs : List (Held T)) (id : List ℕ) : Type 0 where
    pub last : IsNewLast hs id
    pub same : (a b : List ℕ) → has (nodes_of last.before) a ≡ true → has (nodes_of last.before) b ≡ true → reaches (steps_of (nodes_of hs)) a b ≡ reaches (steps_of (nodes_of last.before)) a b

  -- below an id there is one node more, at most, than its node's totals say
  abbrev pub GainsOne : List (Held T) → List ℕ → Type 0
  GainsOne hs id = (h : Held T) → Contains hs h → h.id ≡ id → length (descendants_of (nodes_of hs) id) ≤ h.totals.below.count + 1
