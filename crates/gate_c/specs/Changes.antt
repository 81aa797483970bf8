-- The lines that tell what an event moved.
use Rattle.std.specs.Prelude.{ℕ, List, ◌++◌, codes}
use Rattle.std.specs.List.{flat_map}
use Rattle.gate_pool.specs.Moves.{arrived, departed}
use Rattle.gate_pool.specs.Pool.{Admitted}
use Rattle.gate_tx.specs.Ids.{id_text}

-- the line of a txid: a sign, a blank and the txid, with its newline
abbrev pub signed : List ℕ → List ℕ → List ℕ
signed sign txid = sign ++ codes " " ++ id_text txid ++ codes "\n"

-- a line for each txid that left, and then one for each that came
abbrev pub moved_text : List (List ℕ) → List (List ℕ) → List ℕ
moved_text gone come = flat_map (signed (codes "-")) gone ++ flat_map (signed (codes "+")) come

-- the lines of what moved from the entries before to those after
abbrev pub change_text : List Admitted → List Admitted → List ℕ
change_text before after = moved_text (departed before after) (arrived before after)
