-- What holds of every opening that is accepted.
use Rattle.std.specs.Prelude.{◌≡◌, ℕ, ◌||◌, if◌then◌else◌, Bool, true, false, List, [], ◌∷◌, Option, Some, None, Ok}
use Rattle.gate_admit.specs.Policies.{usual_policy}
use Rattle.gate_core.specs.Good.{IsGoodWorld}
use Rattle.gate_core.specs.World.{World}
use Rattle.gate_lines.specs.Lines.{lines_of}
use Rattle.gate_opening.specs.OpeningLines.{said_by}
use Rattle.gate_opening.specs.Said.{is_end, spelled}
use Rattle.gate_opening.specs.declared.opening_line.OpeningLine.{OpeningLine}
use Rattle.gate_opening.specs.declared.opening_line.OpeningLine.TheVariants as says
use Rattle.gate_register.specs.declared.Setting.{Setting}
use Rattle.gate_register.specs.declared.Setting.TheVariants.{Bloom, BlocksOnly, WhitelistRelay, WhitelistForceRelay, RpcWhitelistDefault}

-- the state that a text spells is good: its policy is within its bounds
abbrev pub OpeningsAreGood : Type 0
OpeningsAreGood = (text : List ℕ) (w : World) → spelled text ≡ Ok w → IsGoodWorld w

-- ---- what an operator asks of transactions

-- the setting is one of the policy on transactions
abbrev pub is_asked : Setting → Bool
is_asked Bloom = false
is_asked BlocksOnly = false
is_asked WhitelistRelay = false
is_asked WhitelistForceRelay = false
is_asked RpcWhitelistDefault = false
is_asked setting = true

-- the line sets a number or a switch of that policy, or takes those of a release
abbrev pub sets_policy : OpeningLine → Bool
sets_policy (says.Number setting value) = is_asked setting
sets_policy (says.Defaults release) = true
sets_policy line = false

abbrev pub is_set_by : Option OpeningLine → Bool
is_set_by None = false
is_set_by (Some line) = sets_policy line

-- some line up to the end of the opening sets that policy
abbrev pub some_set : List (List ℕ) → Bool
some_set [] = false
some_set (line ∷ lines) = if is_end line then false else is_set_by (said_by line) || some_set lines

-- an opening none of whose lines sets the policy on transactions has the usual one
abbrev pub OpeningsHaveDefaults : Type 0
OpeningsHaveDefaults = (text : List ℕ) (w : World) → spelled text ≡ Ok w → some_set (lines_of text) ≡ false → w.policy ≡ usual_policy
