-- What the slots hold.
use Rattle.std.specs.Prelude.{◌≡◌, ◌≢◌, ◌≤◌, ◌<◌, ◌+◌, ◌++◌, ℕ, Bool, true, not, List, [], Contains, Option, None, Some, length, cond, map, filter, find, if◌then◌else◌}
use Rattle.std.specs.List.{filter_map, AllPairs}
use Rattle.std.specs.Option.{option_map, unwrap_or}
use Rattle.gate_graph.specs.Families.{among}
use Rattle.std.specs.Str.{bytes_eq}
use Rattle.gate_graph.specs.Family.{Node, steps_of, reaches}
use Rattle.gate_graph.specs.declared.held.Gone.{Gone}
use Rattle.gate_graph.specs.declared.held.Held.{Held}
use Rattle.gate_graph.specs.declared.held.Totals.{Totals}
use Rattle.gate_graph.specs.Slots.{entries_of, at, Indexes}

module _ {T : Type 0} where
  abbrev pub has_id : Held T → List ℕ → Bool
  has_id h id = bytes_eq h.id id

  abbrev pub node_of : Held T → Node
  node_of h = record { id = h.id; size = h.size; fee = h.fee; parents = h.parents.items }

  abbrev pub nodes_of : List (Held T) → List Node
  nodes_of hs = map node_of hs

  -- nodes, each with what it carries
  abbrev pub loaded : List (Held T) → List (Node × T)
  loaded hs = map (λ h. (node_of h, h.load)) hs

  -- a node as it is seen: with its totals, and with what it carries
  abbrev pub seen : Held T → Node × Totals × T
  seen h = (node_of h, h.totals, h.load)

  abbrev pub seen_of : List (Held T) → List (Node × Totals × T)
  seen_of hs = map seen hs

  -- a node with other totals
  abbrev pub with_totals : Totals → Held T → Held T
  with_totals totals h = record h { totals = totals }

  -- a change that is made to the node of an id alone
  abbrev pub at_id : List ℕ → (Held T → Held T) → Held T → Held T
  at_id id f h = cond (bytes_eq h.id id) (f h) h

-- the id that stands at a place, and those that stand at some places
abbrev pub id_at : List (Option (List ℕ)) → ℕ → List ℕ
id_at spots place = unwrap_or (at spots place) []

abbrev pub ids_at : List (Option (List ℕ)) → List ℕ → List (List ℕ)
ids_at spots places = map (id_at spots) places

-- which id stands in each slot
abbrev pub spots_of : {T : Type 0} → List (Option (Held T)) → List (Option (List ℕ))
spots_of slots = map (option_map (λ h. h.id)) slots

-- a place, which is empty if the id that stood there passes a test; and places of which each is
abbrev pub unless : (List ℕ → Bool) → Option (List ℕ) → Option (List ℕ)
unless test None = None
unless test (Some id) = if test id then None else Some id

abbrev pub vacated : (List ℕ → Bool) → List (Option (List ℕ)) → List (Option (List ℕ))
vacated test places = map (unless test) places

-- each id has the place of its node, and `n` nodes stand there
pub record IsPlaced {T : Type 0} (slots : List (Option (Held T))) (n : ℕ) (look : List ℕ → Option ℕ) : Type 0 where
  pub places : Indexes has_id slots look
  pub count : n ≡ length (entries_of slots)

module _ {T : Type 0} where
  -- the nodes, except those of some ids
  abbrev pub left_of : List (List ℕ) → List (Held T) → List (Held T)
  left_of ids hs = filter (λ h. not (among ids h.id)) hs

  -- what the node of an id carries
  abbrev pub load_of : List (Held T) → List ℕ → Option T
  load_of hs id = option_map (λ h. h.load) (find (λ h. has_id h id) hs)

  -- the ids that the node of an id names
  abbrev pub names_of : List (Held T) → List ℕ → Option (List (List ℕ))
  names_of hs id = option_map (λ h. h.parents.items) (find (λ h. has_id h id) hs)

  -- what the node at a place carries, with the place and the ids that it names; and what those at some places carry, in the
  -- order of the places
  abbrev pub gone_from : List (Option (List ℕ)) → List (Held T) → ℕ → Option (Gone T)
  gone_from spots hs place = option_map (λ h. record { place = place; parents = h.parents; load = h.load }) (find (λ h. has_id h (id_at spots place)) hs)

  abbrev pub all_gone : List (Option (List ℕ)) → List (Held T) → List ℕ → List (Gone T)
  all_gone spots hs places = filter_map (gone_from spots hs) places

  -- the nodes alone
  abbrev pub nodes_in : List (Node × T) → List Node
  nodes_in g = map (λ p. p.0) g

  -- the nodes, each with what it carries, except that of an id and all that are below it
  abbrev pub without_below : List (Node × T) → List ℕ → List (Node × T)
  without_below g id = filter (λ p. not (reaches (steps_of (nodes_in g)) id p.0.id)) g

  -- the nodes, each with what it carries, except that of an id
  abbrev pub without_one : List (Node × T) → List ℕ → List (Node × T)
  without_one g id = filter (λ p. not (bytes_eq p.0.id id)) g

-- what is held, which id stands at each place, and how many more there is room for
pub record Stored (T : Type 0) : Type 0 where
  pub held : List (Held T)
  pub spots : List (Option (List ℕ))
  pub room : ℕ

-- `room` nodes more have a place in the index, among the slots and among the places that are kept beside them
pub record HasSpot (room spare len capacity near_len near_capacity : ℕ) : Type 0 where
  pub place : room ≤ spare
  pub slot : 0 < room → len + room ≤ capacity
  pub near : 0 < room → near_len + room ≤ near_capacity

-- a graph: its nodes in the order of their places, each with what it carries, which id stands at each place, and the room that
-- was taken beforehand: `room` nodes that name `names` parents together are put without memory
pub record Carried (T : Type 0) : Type 0 where
  pub nodes : List (Node × T)
  pub places : List (Option (List ℕ))
  pub room : ℕ
  pub names : ℕ

-- what a node carries
abbrev pub load_in : {T : Type 0} → List (Node × T) → List ℕ → Option T
load_in g id = option_map (λ p. p.1) (find (λ p. bytes_eq p.0.id id) g)

-- the ids that a node names
abbrev pub names_in : {T : Type 0} → List (Node × T) → List ℕ → Option (List (List ℕ))
names_in g id = option_map (λ p. p.0.parents) (find (λ p. bytes_eq p.0.id id) g)

-- a list that grew by what the node of an id and those below it carry, each with the ids that it named and the place at which
-- it stood, and by nothing else
pub record AreGone {T : Type 0} (g : List (Node × T)) (places : List (Option (List ℕ))) (id : List ℕ) (before after : List (Gone T)) : Type 0 where
  pub more : List (Gone T)
  pub is : after ≡ before ++ more
  pub all : (p : Node × T) → Contains g p → reaches (steps_of (nodes_in g)) id p.0.id ≡ true → (x : Gone T) × Contains more x × (at places x.place ≡ Some p.0.id) × (x.parents.items ≡ p.0.parents) × (x.load ≡ p.1)
  pub only : (x : Gone T) → Contains more x → (p : Node × T) × Contains g p × (reaches (steps_of (nodes_in g)) id p.0.id ≡ true) × (at places x.place ≡ Some p.0.id) × (x.parents.items ≡ p.0.parents) × (x.load ≡ p.1)
  pub once : AllPairs (λ (x : Gone T) (y : Gone T). x.place ≢ y.place) more
