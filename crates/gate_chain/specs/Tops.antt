-- What the last blocks of a chain made, kept aside while they are off.
use Rattle.std.specs.Prelude.{◌≡◌, ℕ, ◌+◌, ◌≤◌, List, [], ◌∷◌, ◌++◌, map, take, length, None}
use Rattle.std.specs.List.{IsDistinct}
use Rattle.std.specs.Map.{lookup, keys_of}
use Rattle.std.specs.Str.{bytes_eq}
use Rattle.gate_tx.specs.declared.OutPoint.{OutPoint}
use Rattle.gate_tx.specs.Coins.{point_eq}
use Rattle.gate_chain.specs.Blocks.{Block}
use Rattle.gate_chain.specs.declared.connected.Connected.{Connected}
use Rattle.gate_chain.specs.declared.connected.Place.{Place}
use Rattle.gate_chain.specs.declared.marked.Marked.{Marked}
use Rattle.gate_chain.specs.Linked.{is_spent, SpentMade, IsConnected}
use Rattle.gate_chain.specs.Marking.{coins_in, coins_made, made_by_blocks, ids_of, is_marked}
use Rattle.gate_chain.specs.History.{first_connected}
use Rattle.gate_chain.specs.Times.{times_of}
use Rattle.gate_chain.specs.Lowering.{Top, lowered, above}

abbrev pub place_of : Connected → Place
place_of c = record { coins = c.coins; ids = c.ids }

-- blocks with the places that they had
abbrev pub placed : List Place → List Block → List Connected
placed [] blocks = []
placed (p ∷ places) [] = []
placed (p ∷ places) (b ∷ blocks) = record { block = b; coins = p.coins; ids = p.ids } ∷ placed places blocks

-- what holds of coins and ids that the blocks above a height made, and of the room for all
pub record IsTop (top : Top) (places : List Place) (es : List (OutPoint × Marked)) (ids : List (List ℕ)) (coin_room id_room time_room block_room : ℕ) : Type 0 where
  pub coins_are : coins_made (lowered top.whole top.kept) ++ coins_in es ≡ coins_made top.whole
  pub ids_are : ids_of (lowered top.whole top.kept).blocks ++ ids ≡ ids_of top.whole.blocks
  pub marks_are : (p : OutPoint) → lookup (point_eq p) (coins_made (lowered top.whole top.kept)) ≡ None → is_marked es p ≡ is_spent top.whole p
  pub spent_made : SpentMade top.whole
  pub apart : IsDistinct point_eq (keys_of (made_by_blocks (first_connected top.whole) top.whole.blocks))
  pub ids_apart : IsDistinct bytes_eq (ids_of top.whole.blocks)
  pub few : length (times_of top.whole) + top.whole.first ≤ 10000001
  pub counted : length places ≡ length (above top)
  pub each : (before after : List Connected) (c : Connected) → placed places (above top) ≡ before ++ c ∷ after
      → IsConnected (record { first = top.whole.first; coins = top.whole.coins; times = top.whole.times; blocks = take top.kept top.whole.blocks ++ map (λ c. c.block) before }) c
  pub coins_fit : length (coins_made top.whole) ≤ length top.whole.coins + coin_room
  pub ids_fit : length (ids_of top.whole.blocks) ≤ id_room
  pub times_fit : length (times_of top.whole) ≤ time_room
  pub blocks_fit : length top.whole.blocks ≤ block_room
