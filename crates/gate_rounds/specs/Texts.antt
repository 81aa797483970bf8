-- The bytes of lists of lanes.
use Rattle.std.specs.Prelude.{ℕ, List, map}
use Rattle.std.specs.Global.{Vec}
use Rattle.gate_lanes.specs.declared.LaneEnd.{LaneEnd}

abbrev pub bytes_of : List (Vec ℕ) → List (List ℕ)
bytes_of lists = map (λ (list : Vec ℕ). list.items) lists

abbrev pub lists_of : List (Vec (Vec ℕ)) → List (List (List ℕ))
lists_of rounds = map (λ (lanes : Vec (Vec ℕ)). bytes_of lanes.items) rounds

-- what was written in each lane
abbrev pub texts_of : List (LaneEnd (Vec ℕ)) → List (List ℕ)
texts_of ends = map (λ (end : LaneEnd (Vec ℕ)). end.writer.items) ends
