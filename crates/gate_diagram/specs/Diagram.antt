-- The feerate diagram of chunks: the broken line from the origin through the sums of sizes and fees, by falling feerate, and level
-- behind its end.
--
-- Two lines are compared by what their chunks pay beyond each feerate. A line that falls off as this one does is the least of its
-- tangents, and of each feerate the tangent begins at the height that the chunks pay beyond it: so one line is nowhere below another
-- exactly where its chunks pay beyond no feerate less than those of the other. What is paid beyond a feerate changes its slope at
-- the feerates of chunks alone: so these and 0 are asked. Nothing is sorted, and all is whole numbers.
use Rattle.std.specs.Prelude.{ℕ, ◌+◌, ◌-◌, ◌*◌, ◌≤◌, nat_lt, Bool, not, ◌&&◌, List, [], ◌∷◌, ◌++◌, sum_by, if◌then◌else◌}
use Rattle.std.specs.List.{list_any}
use Rattle.gate_diagram.specs.declared.price.Price.{Price}

-- the bounds of a chunk's numbers: it is one entry, or two of them
pub record IsSmall (chunk : Price) : Type 0 where
  pub fee : chunk.fee ≤ 4_200_000_000_000_000
  pub vsize : chunk.vsize ≤ 20_000_000

-- what a chunk pays beyond a feerate, which is a price, times the size of that price; nothing if it pays less
abbrev pub beyond : Price → Price → ℕ
beyond rate chunk = chunk.fee * rate.vsize - rate.fee * chunk.vsize

-- what all of them do
abbrev pub surplus : Price → List Price → ℕ
surplus rate chunks = sum_by (beyond rate) chunks

-- the feerate of 0
abbrev pub zero_rate : Price
zero_rate = record { fee = 0; vsize = 1 }

-- the feerates at which what these and those pay beyond one changes its slope, and 0
abbrev pub corners_of : List Price → List Price → List Price
corners_of chunks others = zero_rate ∷ (chunks ++ others)

-- beyond a feerate these pay less than the others
abbrev pub is_below : List Price → List Price → Price → Bool
is_below chunks others rate = nat_lt (surplus rate chunks) (surplus rate others)

-- the line of these is nowhere below that of the others, and above it somewhere
abbrev pub improves : List Price → List Price → Bool
improves chunks others =
    not (list_any (is_below chunks others) (corners_of chunks others)) && list_any (is_below others chunks) (corners_of chunks others)

-- ---- chunks

abbrev pub both_of : Price → Price → Price
both_of a b = record { fee = a.fee + b.fee; vsize = a.vsize + b.vsize }

-- the feerate of the first is below that of the second
abbrev pub is_dearer : Price → Price → Bool
is_dearer a b = nat_lt (a.fee * b.vsize) (b.fee * a.vsize)

-- a parent and its child are one chunk together if the child's feerate is above that of both, and else two
abbrev pub pair_chunks : Price → Price → List Price
pair_chunks parent child = if is_dearer (both_of parent child) child then both_of parent child ∷ [] else parent ∷ child ∷ []
