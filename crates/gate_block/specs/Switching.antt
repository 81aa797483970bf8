-- Several blocks in the place of the last ones.
use Rattle.std.specs.Prelude.{◌≡◌, ℕ, ◌-◌, ◌||◌, nat_lt, List, [], ◌∷◌, ◌++◌, length, take, drop, Option, Some, None}
use Rattle.gate_bytes.specs.Order.{Rule}
use Rattle.gate_chain.specs.Blocks.{Block}
use Rattle.gate_rules.specs.declared.ChainDenial.{ChainDenial}
use Rattle.gate_rules.specs.declared.ChainDenial.TheVariants.{NoUndo}
use Rattle.gate_chain.specs.Connecting.{grown, block_rules}
use Rattle.gate_chain.specs.History.{History}
use Rattle.gate_chain.specs.Lowering.{Top, above}

-- a history with these blocks in place of its own
abbrev pub with_blocks : History → List Block → History
with_blocks h blocks = record { first = h.first; coins = h.coins; times = h.times; blocks = blocks }

-- a history with more blocks
abbrev pub grown_by : History → List Block → History
grown_by h blocks = with_blocks h (h.blocks ++ blocks)

-- how many blocks are left without the last `depth` of them
abbrev pub left_of : History → ℕ → ℕ
left_of h depth = length h.blocks - depth

-- a history without its last blocks
abbrev pub without_last : History → ℕ → History
without_last h depth = with_blocks h (take (left_of h depth) h.blocks)

-- the last blocks of a history
abbrev pub last_blocks : History → ℕ → List Block
last_blocks h depth = drop (left_of h depth) h.blocks

-- a history with new blocks in the place of its last ones
abbrev pub switched : History → ℕ → List Block → History
switched h depth blocks = grown_by (without_last h depth) blocks

-- the most blocks that one event disconnects
abbrev pub max_depth : ℕ
max_depth = 100

-- what is asked of blocks in turn, each on top of those before it
abbrev pub blocks_rules : History → List Block → List (Rule ChainDenial)
blocks_rules h [] = []
blocks_rules h (block ∷ blocks) = block_rules h block ++ blocks_rules (grown h block) blocks

-- what is asked of a switch: that `depth` blocks can be disconnected, and then of each new block
abbrev pub switch_rules : History → ℕ → List Block → List (Rule ChainDenial)
switch_rules h depth blocks =
    (NoUndo, nat_lt max_depth depth || nat_lt (length h.blocks) depth) ∷ blocks_rules (without_last h depth) blocks

-- what is kept for going back: the history before, how many blocks were connected, and the blocks that were disconnected,
-- the lowest first
pub record WayBack : Type 0 where
  pub before : History
  pub connected : ℕ
  pub gone : List Block

-- a history is the one before, but for the blocks that were connected and those that were disconnected
abbrev pub LeadsBack : WayBack → History → Type 0
LeadsBack way h = without_last h way.connected ≡ without_last way.before (length way.gone)

-- what is kept of the blocks that were disconnected, if there are any
abbrev pub HasTop : History → List Block → Option Top → Type 0
HasTop before gone None = gone ≡ []
HasTop before gone (Some top) = (top.whole ≡ before) × (top.kept ≡ left_of before (length gone)) × (gone ≡ above top)
