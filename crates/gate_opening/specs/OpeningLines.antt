-- What one line of an opening says.
use Rattle.std.specs.Prelude.{ℕ, nat_le, ◌==◌, if◌then◌else◌, List, length, codes, Option, Some, None, option_and_then}
use Rattle.std.specs.Option.{option_map}
use Rattle.std.specs.Str.{bytes_eq}
use Rattle.gate_chain.specs.History.{max_height}
use Rattle.gate_net.specs.Whitelists.{entry_of}
use Rattle.gate_register.specs.Settings.{allows, setting_named}
use Rattle.gate_release.specs.Releases.{release_named}
use Rattle.gate_words.specs.CoinWords.{coin_of}
use Rattle.gate_words.specs.VerdictWords.{row_of, verdict_of}
use Rattle.gate_opening.specs.declared.opening_line.OpeningLine.{OpeningLine}
use Rattle.gate_opening.specs.declared.opening_line.OpeningLine.TheVariants as says
use Rattle.gate_lines.specs.Lines.{if_text}
use Rattle.gate_lines.specs.Words.{part_of}
use Rattle.gate_lines.specs.Numbers.{number_of, small_number_of}

infixl 10 ◌>>=◌
abbrev pub ◌>>=◌ : {A B : Type 0} → Option A → (A → Option B) → Option B
x >>= f = option_and_then f x

-- `N`
abbrev pub budget_line_of : List ℕ → Option OpeningLine
budget_line_of text = do
  budget ← number_of text
  if nat_le budget 1000000000 then Some (says.Budget budget) else None

-- `HEIGHT`, at most the greatest height of a chain
abbrev pub from_line_of : List ℕ → Option OpeningLine
from_line_of text = do
  height ← small_number_of text
  if nat_le height max_height then Some (says.From height) else None

-- `COUNT FIRST STEP`
abbrev pub times_line_of : List ℕ → Option OpeningLine
times_line_of text = do
  p ← part_of text
  q ← part_of p.1
  count ← number_of p.0
  first ← small_number_of q.0
  step ← number_of q.1
  Some (says.Times count first step)

-- `TXID INDEX VALUE HEIGHT plain|cb SCRIPT`
abbrev pub coin_line_of : List ℕ → Option OpeningLine
coin_line_of text = option_map says.Coin (coin_of text)

-- `WTXID INPUT ok|soft|hard`, or `* ok|soft|hard`
abbrev pub verdict_line_of : List ℕ → Option OpeningLine
verdict_line_of text = do
  p ← part_of text
  if bytes_eq p.0 (codes "*") then option_map says.OtherVerdicts (verdict_of p.1) else option_map says.Verdict (row_of text)

-- `RELEASE`, by its word
abbrev pub policy_line_of : List ℕ → Option OpeningLine
policy_line_of text = option_map says.Defaults (release_named text)

-- `TEXT`, which isn't empty
abbrev pub whitelist_line_of : List ℕ → Option OpeningLine
whitelist_line_of text = if length text == 0 then None else Some (says.Whitelist (entry_of text))

-- `TEXT`, which isn't empty
abbrev pub rpc_line_of : List ℕ → Option OpeningLine
rpc_line_of text = if length text == 0 then None else Some (says.RpcWhitelist text)

-- `N`, within its bounds, behind the word of a setting
abbrev pub setting_line_of : List ℕ → List ℕ → Option OpeningLine
setting_line_of word text = do
  setting ← setting_named word
  number ← number_of text
  if allows setting number then Some (says.Number setting number) else None

-- what a line says, by its name and the text after it
abbrev pub named_line : List ℕ × List ℕ → Option OpeningLine
named_line p =
    if bytes_eq p.0 (codes "budget") then budget_line_of p.1
    else if bytes_eq p.0 (codes "from") then from_line_of p.1
    else if bytes_eq p.0 (codes "times") then times_line_of p.1
    else if bytes_eq p.0 (codes "coin") then coin_line_of p.1
    else if bytes_eq p.0 (codes "verdict") then verdict_line_of p.1
    else if bytes_eq p.0 (codes "policy") then policy_line_of p.1
    else if bytes_eq p.0 (codes "whitelist") then whitelist_line_of p.1
    else if bytes_eq p.0 (codes "rpcwhitelist") then rpc_line_of p.1
    else setting_line_of p.0 p.1

-- what a text says in an opening
abbrev pub opening_line_of : List ℕ → Option OpeningLine
opening_line_of text = option_and_then named_line (part_of text)

-- what a line says
abbrev pub said_by : List ℕ → Option OpeningLine
said_by line = if_text opening_line_of line
