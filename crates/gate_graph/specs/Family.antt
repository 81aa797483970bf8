-- Families: the parent steps of nodes, and which ids a chain of them leads to.
use Rattle.std.specs.Prelude.{ℕ, Bool, ◌&&◌, ◌||◌, List, [], ◌∷◌, ◌++◌, map, Contains}
use Rattle.std.specs.Str.{bytes_eq}

-- a node: its id, its size and fee, and the ids of its parents
pub record Node : Type 0 where
  pub id : List ℕ
  pub size : ℕ
  pub fee : ℕ
  pub parents : List (List ℕ)

-- the steps of nodes, each from a parent to a child
abbrev pub steps_of : List Node → List (List ℕ × List ℕ)
steps_of [] = []
steps_of (n ∷ ns) = map (λ p. (p, n.id)) n.parents ++ steps_of ns

-- a chain of steps leads from one id down to another
pub data Leads (steps : List (List ℕ × List ℕ)) : List ℕ → List ℕ → Type 0 where
  here : {a : List ℕ} → Leads steps a a
  down : {a b c : List ℕ} → Contains steps (a, b) → Leads steps b c → Leads steps a c

-- the test for `Leads`: with one step more, a chain either avoids that step or goes through it once
unfoldable pub reaches : List (List ℕ × List ℕ) → List ℕ → List ℕ → Bool
reaches [] a b = bytes_eq a b
reaches (s ∷ ss) a b = reaches ss a b || (reaches ss a s.0 && reaches ss s.1 b)
