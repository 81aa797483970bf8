-- What becomes of a chain's tables as its lowest blocks become the opening's.
use Rattle.std.specs.Prelude.{◌≡◌, ℕ, ◌-◌, not, Bool, ◌&&◌, ◌||◌, List, [], ◌∷◌, filter, length}
use Rattle.std.specs.List.{list_any}
use Rattle.std.specs.Str.{bytes_eq}
use Rattle.gate_tx.specs.declared.OutPoint.{OutPoint}
use Rattle.gate_chain.specs.declared.connected.Connected.{Connected}
use Rattle.gate_chain.specs.declared.connected.Place.{Place}
use Rattle.gate_chain.specs.declared.marked.Marked.{Marked}
use Rattle.gate_chain.specs.Tops.{place_of}

-- an entry is kept if a later block spends its coin, or none spends it and it is wanted
abbrev pub is_kept : (OutPoint → Bool) → (OutPoint → Bool) → OutPoint × Marked → Bool
is_kept later wanted e = later e.0 || (not e.1.spent && wanted e.0)

-- an entry is lost if it is not kept although no block spends its coin
abbrev pub is_lost : (OutPoint → Bool) → (OutPoint → Bool) → OutPoint × Marked → Bool
is_lost later wanted e = not (is_kept later wanted e) && not e.1.spent

abbrev pub kept_of : (OutPoint → Bool) → (OutPoint → Bool) → List (OutPoint × Marked) → List (OutPoint × Marked)
kept_of later wanted es = filter (is_kept later wanted) es

abbrev pub lost_of : (OutPoint → Bool) → (OutPoint → Bool) → List (OutPoint × Marked) → List (OutPoint × Marked)
lost_of later wanted es = filter (is_lost later wanted) es

-- the transaction with this id made one of these coins
abbrev pub has_id : List ℕ → List (OutPoint × Marked) → Bool
has_id id es = list_any (λ e. bytes_eq e.0.txid id) es

-- what a tally says of entries: the ids of those that are kept, and how many are kept and how many are lost
pub record IsTally (later wanted : OutPoint → Bool) (es : List (OutPoint × Marked)) (ids : List (List ℕ)) (kept lost : ℕ) : Type 0 where
  pub ids_are : (id : List ℕ) → list_any (bytes_eq id) ids ≡ has_id id (kept_of later wanted es)
  pub kept_is : kept ≡ length (kept_of later wanted es)
  pub lost_is : lost ≡ length (lost_of later wanted es)

-- how many coins and ids the blocks below these made: all, if these are none
abbrev pub place_below : List Connected → Place → Place
place_below [] all = all
place_below (c ∷ cs) all = place_of c

-- a block whose place has so many coins and ids fewer
abbrev pub rebased : Place → Connected → Connected
rebased by c = record { block = c.block; coins = c.coins - by.coins; ids = c.ids - by.ids }
