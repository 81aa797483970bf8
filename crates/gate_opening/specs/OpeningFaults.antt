-- The faults of an opening, each at its line.
use Rattle.std.specs.Prelude.{ℕ, List, codes, slice_get}
use Rattle.std.specs.Option.{unwrap_or}
use Rattle.gate_chain.specs.declared.OpenFault.{OpenFault}
use Rattle.gate_chain.specs.declared.OpenFault.TheVariants as chain
use Rattle.gate_lines.specs.declared.fault.LaneFault.{LaneFault}
use Rattle.gate_lines.specs.declared.fault.LaneFault.TheVariants as lane
use Rattle.gate_rules.specs.Whitelist.{token_of}
use Rattle.gate_opening.specs.declared.opening_fault.OpeningToken.{OpeningToken}
use Rattle.gate_opening.specs.declared.opening_fault.OpeningToken.TheVariants as tokens
use Rattle.gate_opening.specs.declared.opening_fault.OpeningFault.{OpeningFault}
use Rattle.gate_opening.specs.declared.opening_fault.OpeningFault.TheVariants as faults

abbrev pub token_text : OpeningToken → List ℕ
token_text tokens.BadLine = codes "bad-line"
token_text tokens.TimesLimit = codes "times-limit"
token_text (tokens.Whitelist denial) = token_of denial
token_text tokens.NoTimes = codes "no-times"
token_text tokens.CoinValue = codes "coin-value"
token_text tokens.CoinUnspendable = codes "coin-unspendable"
token_text tokens.CoinAboveTip = codes "coin-above-tip"
token_text tokens.CoinTwice = codes "coin-twice"

-- the line of a coin by its place
abbrev pub line_of_coin : List ℕ → ℕ → ℕ
line_of_coin lines coin = unwrap_or (slice_get lines coin) 0

-- a fault of the chain, at the line of its coin, or at line 0 if it is not a coin's
abbrev pub located : List ℕ → OpenFault → OpeningFault
located lines chain.Memory = faults.Memory
located lines chain.NoTimes = faults.Line 0 tokens.NoTimes
located lines chain.TimesLimit = faults.Line 0 tokens.TimesLimit
located lines (chain.CoinValue coin) = faults.Line (line_of_coin lines coin) tokens.CoinValue
located lines (chain.CoinUnspendable coin) = faults.Line (line_of_coin lines coin) tokens.CoinUnspendable
located lines (chain.CoinAboveTip coin) = faults.Line (line_of_coin lines coin) tokens.CoinAboveTip
located lines (chain.CoinTwice coin) = faults.Line (line_of_coin lines coin) tokens.CoinTwice

-- a fault of the reader
abbrev pub unread_by : LaneFault → OpeningFault
unread_by lane.Read = faults.Read
unread_by lane.Write = faults.Read
unread_by lane.Memory = faults.Memory
