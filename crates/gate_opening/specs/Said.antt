-- What the lines of an opening say: each in turn, up to a line `---` or the end of the text.
use Rattle.std.specs.Prelude.{◌≡◌, ℕ, ◌+◌, nat_lt, nat_le, ◌||◌, not, if◌then◌else◌, Bool, true, false, List, [], ◌∷◌, ◌++◌, length, map, replicate, slice_index_or, slice_set, codes, Option, Some, None, is_some, Result, Ok, Err}
use Rattle.std.specs.Option.{unwrap_or}
use Rattle.std.specs.Str.{bytes_eq}
use Rattle.gate_chain.specs.History.{max_height}
use Rattle.gate_chain.specs.Opening.{open_fault_from, times_limit}
use Rattle.gate_chain.specs.declared.OpenFault.{OpenFault}
use Rattle.gate_chain.specs.declared.OpeningCoin.{OpeningCoin}
use Rattle.gate_submission.specs.declared.verdict.Verdict.{Verdict}
use Rattle.gate_submission.specs.declared.verdict.VerdictRow.{VerdictRow}
use Rattle.gate_admit.specs.Policies.{policy_of}
use Rattle.gate_admit.specs.Verdicts.{has_row_on}
use Rattle.gate_rules.specs.declared.NetDenial.{NetDenial}
use Rattle.gate_net.specs.declared.entry.WhitelistEntry.{WhitelistEntry}
use Rattle.gate_net.specs.declared.whitelist.Whitelist.{Whitelist}
use Rattle.gate_rpc.specs.Lists.{Lists, entry_of, default_of}
use Rattle.gate_core.specs.Opening.{Start}
use Rattle.gate_core.specs.World.{World, opened_world}
use Rattle.gate_opening.specs.declared.opening_fault.OpeningFault.{OpeningFault}
use Rattle.gate_opening.specs.declared.opening_fault.OpeningFault.TheVariants.{Line, Read, Memory}
use Rattle.gate_opening.specs.declared.opening_fault.OpeningToken.{OpeningToken}
use Rattle.gate_opening.specs.declared.opening_fault.OpeningToken.TheVariants as tokens
use Rattle.gate_opening.specs.declared.opening_line.OpeningLine.{OpeningLine}
use Rattle.gate_opening.specs.declared.opening_line.OpeningLine.TheVariants as says
use Rattle.gate_lines.specs.Lines.{line_limit, count_limit, is_skipped, lines_of}
use Rattle.gate_register.specs.declared.Setting.{Setting}
use Rattle.gate_register.specs.declared.Setting.TheVariants.{Bloom, BlocksOnly, WhitelistRelay, WhitelistForceRelay, RpcWhitelistDefault}
use Rattle.gate_register.specs.Settings.{allows, count, place_of}
use Rattle.gate_register.specs.Policies.{is_on, usual_policy, with_number}
use Rattle.gate_release.specs.Releases.{choices, policy_beside}
use Rattle.gate_release.specs.declared.Release.{Release}
use Rattle.gate_opening.specs.OpeningLines.{said_by}
use Rattle.gate_opening.specs.OpeningFaults.{located}
use Rattle.gate_opening.specs.BlockTimes.{times_from, some_too_great}

-- what was said: with the line of each coin, the texts of the entries of the lists of methods, the release whose numbers hold where
-- no line says another, whether each setting was said, in their order, and the policy by these
pub record Said : Type 0 where
  pub budget : Option ℕ
  pub from : Option ℕ
  pub times : List ℕ
  pub coins : List OpeningCoin
  pub coin_lines : List ℕ
  pub rows : List VerdictRow
  pub other : Option Verdict
  pub whitelist : List WhitelistEntry
  pub rpcwhitelist : List (List ℕ)
  pub release : Option Release
  pub said : List Bool
  pub policy : List ℕ

abbrev pub nothing_said : Said
nothing_said = record { budget = None; from = None; times = []; coins = []; coin_lines = []; rows = []; other = None; whitelist = []; rpcwhitelist = []; release = None; said = replicate count false; policy = usual_policy }

-- ---- one line

-- a line said this setting
abbrev pub is_said : Said → Setting → Bool
is_said said setting = slice_index_or said.said (place_of setting) false

-- the height of the first time
abbrev pub first_height : Said → ℕ
first_height said = unwrap_or said.from 0

-- with this many times, and this many more, from this height on, the tip is above the greatest height
abbrev pub is_past : ℕ → ℕ → ℕ → Bool
is_past from held more = nat_lt (max_height + 1) (from + held + more)

-- with this many more times there are more than an opening may have, or one of them doesn't fit 32 bits
abbrev pub exceeds : ℕ → ℕ → ℕ → ℕ → Bool
exceeds held count first step = nat_lt times_limit (held + count) || some_too_great (times_from count first step)

abbrev pub fault_if : Bool → OpeningToken → Option OpeningToken
fault_if fails token = if fails then Some token else None

abbrev pub entry_fault : Result WhitelistEntry NetDenial → Option OpeningToken
entry_fault (Ok entry) = None
entry_fault (Err denial) = Some (tokens.Whitelist denial)

-- what is wrong with one more line: a setting, a release, or a verdict on an input, may stand only once, and a number is within its
-- bounds
abbrev pub line_fault : Said → OpeningLine → Option OpeningToken
line_fault said (says.Budget budget) = fault_if (is_some said.budget) tokens.BadLine
line_fault said (says.From height) =
    if is_some said.from then Some tokens.BadLine else fault_if (is_past height (length said.times) 0) tokens.TimesLimit
line_fault said (says.Times count first step) =
    fault_if (exceeds (length said.times) count first step || is_past (first_height said) (length said.times) count) tokens.TimesLimit
line_fault said (says.Coin coin) = None
line_fault said (says.Verdict row) = fault_if (has_row_on said.rows row.wtxid row.input) tokens.BadLine
line_fault said (says.OtherVerdicts verdict) = fault_if (is_some said.other) tokens.BadLine
line_fault said (says.Whitelist entry) = entry_fault entry
line_fault said (says.RpcWhitelist text) = None
line_fault said (says.Defaults release) = fault_if (is_some said.release) tokens.BadLine
line_fault said (says.Number setting value) = fault_if (is_said said setting || not (allows setting value)) tokens.BadLine

abbrev pub with_entry : List WhitelistEntry → Result WhitelistEntry NetDenial → List WhitelistEntry
with_entry entries (Ok entry) = entries ++ entry ∷ []
with_entry entries (Err denial) = entries

-- what is said with one more line
abbrev pub joined : Said → ℕ → OpeningLine → Said
joined said number (says.Budget budget) = record said { budget = Some budget }
joined said number (says.From height) = record said { from = Some height }
joined said number (says.Times count first step) = record said { times = said.times ++ times_from count first step }
joined said number (says.Coin coin) = record said { coins = said.coins ++ coin ∷ []; coin_lines = said.coin_lines ++ number ∷ [] }
joined said number (says.Verdict row) = record said { rows = said.rows ++ row ∷ [] }
joined said number (says.OtherVerdicts verdict) = record said { other = Some verdict }
joined said number (says.Whitelist entry) = record said { whitelist = with_entry said.whitelist entry }
joined said number (says.RpcWhitelist text) = record said { rpcwhitelist = said.rpcwhitelist ++ text ∷ [] }
joined said number (says.Defaults release) = record said { release = Some release; policy = policy_beside release said.said said.policy choices }
joined said number (says.Number setting value) = record said { said = slice_set said.said (place_of setting) true; policy = with_number said.policy setting value }

abbrev pub unless : Option OpeningToken → ℕ → Said → Result Said OpeningFault
unless None number said = Ok said
unless (Some token) number said = Err (Line number token)

abbrev pub with_line : Said → ℕ → OpeningLine → Result Said OpeningFault
with_line said number line = unless (line_fault said line) number (joined said number line)

abbrev pub with_form : Said → ℕ → Option OpeningLine → Result Said OpeningFault
with_form said number None = Err (Line number tokens.BadLine)
with_form said number (Some line) = with_line said number line

-- what is said with one more line by its number, from 1
abbrev pub with_text : Said → ℕ → List ℕ → Result Said OpeningFault
with_text said number line = if is_skipped line then Ok said else with_form said number (said_by line)

-- ---- all lines

-- the line behind which an opening ends
abbrev pub is_end : List ℕ → Bool
is_end line = bytes_eq line (codes "---")

abbrev pub on_said : Result Said OpeningFault → (Said → Result Said OpeningFault) → Result Said OpeningFault
on_said (Ok said) next = next said
on_said (Err fault) next = Err fault

-- What is said after these lines, with this many lines before them. The limits are tested before anything else of a line.
abbrev pub all_said : ℕ → Said → List (List ℕ) → Result Said OpeningFault
all_said number said [] = Ok said
all_said number said (line ∷ lines) =
    if nat_lt number count_limit
    then if nat_le (length line) line_limit
    then if is_end line then Ok said else on_said (with_text said (number + 1) line) (λ next. all_said (number + 1) next lines)
    else Err (Line (number + 1) tokens.BadLine)
    else Err (Line (number + 1) tokens.BadLine)

-- a switch, if a line said it
abbrev pub switch_in : Said → Setting → Option Bool
switch_in said setting = if is_said said setting then Some (is_on said.policy setting) else None

abbrev pub blocksonly_in : Said → Bool
blocksonly_in said = is_on said.policy BlocksOnly

-- entries without words give relay unless the node takes blocks only
abbrev pub whitelist_in : Said → Whitelist
whitelist_in said = record {
  entries = said.whitelist;
  relay = unwrap_or (switch_in said WhitelistRelay) (not (blocksonly_in said));
  forcerelay = is_on said.policy WhitelistForceRelay;
}

abbrev pub lists_in : Said → Lists
lists_in said = record {
  entries = map entry_of said.rpcwhitelist;
  is_default_on = default_of (switch_in said RpcWhitelistDefault) said.rpcwhitelist;
}

abbrev pub opening_of : Said → Start
opening_of said = record {
  budget = unwrap_or said.budget 300000000;
  policy = policy_of said.policy;
  first = first_height said;
  coins = said.coins;
  times = said.times;
  verdicts = record { rows = said.rows; other = said.other };
  whitelist = whitelist_in said;
  rpcwhitelist = lists_in said;
  blocksonly = blocksonly_in said;
  bloom = is_on said.policy Bloom;
}

abbrev pub opened_unless : Option OpenFault → Said → Result World OpeningFault
opened_unless None said = Ok (opened_world (opening_of said))
opened_unless (Some fault) said = Err (located said.coin_lines fault)

-- the state of what was said, or the first fault of its times and coins
abbrev pub opened_from : Said → Result World OpeningFault
opened_from said = opened_unless (open_fault_from (first_height said) said.coins said.times) said

abbrev pub on_all_said : Result Said OpeningFault → Result World OpeningFault
on_all_said (Ok said) = opened_from said
on_all_said (Err fault) = Err fault

-- the state of the opening that a text spells, or its first fault with its line
abbrev pub spelled : List ℕ → Result World OpeningFault
spelled text = on_all_said (all_said 0 nothing_said (lines_of text))

-- ---- what a call takes

abbrev pub Takes : Result (Unit {0}) OpeningFault → Said → Result Said OpeningFault → Type 0
Takes (Ok done) new read = read ≡ Ok new
Takes (Err (Line number token)) new read = read ≡ Err (Line number token)
Takes (Err Read) new read = ⊥
Takes (Err Memory) new read = Unit {0}
