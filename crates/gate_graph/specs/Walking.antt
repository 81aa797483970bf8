-- Ids that a walk finds.
use Rattle.std.specs.Prelude.{◌≡◌, ℕ, Bool, true, false, ◌&&◌, not, List, [], ◌∷◌, ◌++◌, Contains, ◌⊎◌, Option, is_some, length, get_or}
use Rattle.gate_graph.specs.Family.{Node, steps_of, reaches}
use Rattle.gate_graph.specs.Families.{among, has}
use Rattle.gate_graph.specs.Slots.{at}
use Rattle.gate_graph.specs.Holding.{ids_at}
use Rattle.gate_graph.specs.declared.walk.Way.{Way}
use Rattle.gate_graph.specs.declared.walk.Way.TheVariants.{Up, Down}

-- a list that has no id twice
abbrev pub are_once : List (List ℕ) → Bool
are_once [] = true
are_once (x ∷ xs) = not (among xs x) && are_once xs

-- a chain of steps leads this way from an id to another
abbrev pub is_led : Way → List Node → List ℕ → List ℕ → Bool
is_led Up g from to = reaches (steps_of g) to from
is_led Down g from to = reaches (steps_of g) from to

-- a step leads this way from an id to a node
abbrev pub Next : Way → List Node → List ℕ → List ℕ → Type 0
Next Up g a b = Contains (steps_of g) (b, a) × (has g b ≡ true)
Next Down g a b = Contains (steps_of g) (a, b) × (has g b ≡ true)

-- a walk this way from an id has begun: it found the id, or all that is one step from it
pub record Begins (way : Way) (g : List Node) (x : List ℕ) (ids : List (List ℕ)) : Type 0 where
  pub start : has g x ≡ true → Contains ids x
  pub first : (b : List ℕ) → Next way g x b → Contains ids x ⊎ Contains ids b
  pub sound : (a : List ℕ) → Contains ids a → is_led way g x a ≡ true

-- as many marks as slots, and none is set
pub record AreClear (slots : ℕ) (marks : List Bool) : Type 0 where
  pub len : length marks ≡ slots
  pub clear : (p : ℕ) → get_or marks p false ≡ false

-- places of nodes, none twice
pub record AreStanding (spots : List (Option (List ℕ))) (found : List ℕ) : Type 0 where
  pub stand : (p : ℕ) → Contains found p → is_some (at spots p) ≡ true
  pub once : are_once (ids_at spots found) ≡ true

-- the nodes at these places are those to which a chain leads this way from an id
abbrev pub AreLed : Way → List Node → List (Option (List ℕ)) → List ℕ → List ℕ → Type 0
AreLed way g spots x found = (b : List ℕ) → has g b ≡ true → among (ids_at spots found) b ≡ is_led way g x b

-- a search underway: the places that were found are marked, and no others
pub record IsSearch (g : List Node) (spots : List (Option (List ℕ))) (marks : List Bool) (found : List ℕ) : Type 0 where
  pub len : length marks ≡ length spots
  pub only : (p : ℕ) → get_or marks p false ≡ true → Contains found p
  pub all : (p : ℕ) → Contains found p → get_or marks p false ≡ true
  pub standing : AreStanding spots found
  pub nodes : (id : List ℕ) → Contains (ids_at spots found) id → has g id ≡ true

-- ids with a property were added to those found before, so that all ids with it are there
pub record AreFound (P : List ℕ → Type 0) (before after : List (List ℕ)) : Type 0 where
  pub more : List (List ℕ)
  pub is : after ≡ before ++ more
  pub only : (id : List ℕ) → Contains more id → P id
  pub all : (id : List ℕ) → P id → Contains after id

-- places were added to those found before: those of the ids of which this holds
abbrev pub AreFoundAt : List (Option (List ℕ)) → (List ℕ → Type 0) → List ℕ → List ℕ → Type 0
AreFoundAt spots P before after = AreFound P (ids_at spots before) (ids_at spots after)

-- from each id from which a walk this way began by what had been found, all places to which it leads are found
abbrev pub AreLedOn : Way → List Node → List (Option (List ℕ)) → List ℕ → List ℕ → Type 0
AreLedOn way g spots before after = (x : List ℕ) → Begins way g x (ids_at spots before) → AreLed way g spots x after

-- an id is this one, and a node's
abbrev pub IsNode : List Node → List ℕ → List ℕ → Type 0
IsNode g id b = (id ≡ b) × (has g b ≡ true)

-- an id is one of these, and a node's
abbrev pub IsOneOf : List Node → List (List ℕ) → List ℕ → Type 0
IsOneOf g ids b = Contains ids b × (has g b ≡ true)
