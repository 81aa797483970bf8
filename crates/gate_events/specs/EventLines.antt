-- The event that a line spells.
use Rattle.std.specs.Prelude.{ℕ, ◌==◌, if◌then◌else◌, Bool, true, false, List, [], length, codes, Option, Some, None, Result, Ok, Err, option_and_then}
use Rattle.std.specs.Option.{option_map}
use Rattle.std.specs.Str.{bytes_eq}
use Rattle.hex.specs.Hex.{decode_of}
use Rattle.hex.specs.declared.error.FromHexError.{FromHexError}
use Rattle.gate_tx.specs.Tx.{Tx}
use Rattle.gate_tx.specs.Reading.{decoded}
use Rattle.gate_net.specs.Addresses.{address_of}
use Rattle.gate_message.specs.UserCalls.{called}
use Rattle.gate_message.specs.declared.chain_event.ChainEvent.{ChainEvent}
use Rattle.gate_message.specs.declared.chain_event.ChainEvent.TheVariants as chain_events
use Rattle.gate_message.specs.declared.event.Event.{Event}
use Rattle.gate_message.specs.declared.event.Event.TheVariants as events
use Rattle.gate_message.specs.declared.switch.Switch.{Switch}
use Rattle.gate_message.specs.declared.switch.Switch.TheVariants.{Bloom, Upload, Historic, Download}
use Rattle.gate_chain.specs.Blocks.{Block}
use Rattle.gate_events.specs.ChainLines.{blocks_of}
use Rattle.gate_lines.specs.Lines.{if_text}
use Rattle.gate_lines.specs.Words.{part_of, is_word}
use Rattle.gate_lines.specs.Numbers.{number_of, small_number_of}
use Rattle.gate_words.specs.CoinWords.{coin_of}
use Rattle.gate_words.specs.VerdictWords.{row_of}

infixl 10 ◌>>=◌
abbrev pub ◌>>=◌ : {A B : Type 0} → Option A → (A → Option B) → Option B
x >>= f = option_and_then f x

abbrev pub decoded_from : Result (List ℕ) FromHexError → Option Tx
decoded_from (Ok bytes) = decoded bytes
decoded_from (Err fault) = None

-- the transaction that a text of hex spells
abbrev pub prepared_of : List ℕ → Option Tx
prepared_of text = decoded_from (decode_of text)

-- a number, and the text after its space
abbrev pub numbered_of : List ℕ → Option (ℕ × List ℕ)
numbered_of text = do
  p ← part_of text
  number ← number_of p.0
  Some (number, p.1)

-- `ADDRESS`
abbrev pub enter_event_of : ℕ → List ℕ → Option Event
enter_event_of peer text = option_map (events.Enter peer) (address_of text)

-- `NOW HEX`, whatever the word of hex is
abbrev pub tx_event_of : ℕ → List ℕ → Option Event
tx_event_of peer text = do
  p ← numbered_of text
  if is_word p.1 then Some (events.Tx peer p.0 (prepared_of p.1)) else None

-- a parent and its child, each in a word of hex
abbrev pub package_with : ℕ → ℕ → List ℕ × List ℕ → Option Event
package_with peer now p = if length p.0 == 0 then None else if is_word p.1 then Some (events.Package peer now (prepared_of p.0) (prepared_of p.1)) else None

-- `NOW HEX HEX`, whatever the words of hex are
abbrev pub package_event_of : ℕ → List ℕ → Option Event
package_event_of peer text = do
  p ← numbered_of text
  texts ← part_of p.1
  package_with peer p.0 texts

abbrev pub worded_event : ℕ → List ℕ × List ℕ → Option Event
worded_event peer p =
    if bytes_eq p.0 (codes "enter") then enter_event_of peer p.1
    else if bytes_eq p.0 (codes "tx") then tx_event_of peer p.1
    else if bytes_eq p.0 (codes "package") then package_event_of peer p.1
    else if bytes_eq p.0 (codes "getblock") then option_map (events.GetBlock peer) (small_number_of p.1)
    else if bytes_eq p.0 (codes "headers") then option_map (events.Headers peer) (small_number_of p.1)
    else if bytes_eq p.0 (codes "feefilter") then option_map (events.FeeFilter peer) (number_of p.1)
    else None

abbrev pub peer_event : ℕ × List ℕ → Option Event
peer_event p =
    if bytes_eq p.1 (codes "leave") then Some (events.Leave p.0)
    else if bytes_eq p.1 (codes "mempool") then Some (events.Mempool p.0)
    else option_and_then (worded_event p.0) (part_of p.1)

-- `P leave`, `P mempool`, `P enter ADDRESS`, `P tx NOW HEX`, `P package NOW HEX HEX`, `P getblock H`, `P headers H` or `P feefilter RATE`
abbrev pub peer_event_of : List ℕ → Option Event
peer_event_of text = option_and_then peer_event (numbered_of text)

-- `NOW JSON`, whatever the rest of the line is
abbrev pub call_event_of : List ℕ → List ℕ → Option Event
call_event_of user text = do
  p ← numbered_of text
  if length p.1 == 0 then None else Some (events.Rpc (called user p.0 p.1))

abbrev pub user_event : List ℕ → List ℕ × List ℕ → Option Event
user_event user p = if bytes_eq p.0 (codes "rpc") then call_event_of user p.1 else None

-- `NAME rpc NOW JSON`
abbrev pub user_event_of : List ℕ → Option Event
user_event_of text = do
  p ← part_of text
  if length p.0 == 0 then None else option_and_then (user_event p.0) (part_of p.1)

abbrev pub switch_of : List ℕ → Option Switch
switch_of word =
    if bytes_eq word (codes "bloom") then Some Bloom
    else if bytes_eq word (codes "upload") then Some Upload
    else if bytes_eq word (codes "historic") then Some Historic
    else if bytes_eq word (codes "ibd") then Some Download
    else None

abbrev pub is_on_of : List ℕ → Option Bool
is_on_of text =
    if bytes_eq text (codes "on") then Some true
    else if bytes_eq text (codes "off") then Some false
    else None

-- `bloom|upload|historic|ibd` and `on|off`
abbrev pub switch_event_of : List ℕ → List ℕ → Option Event
switch_event_of word text = do
  switch ← switch_of word
  on ← is_on_of text
  Some (events.Set switch on)

abbrev pub setting_event : List ℕ × List ℕ → Option Event
setting_event p =
    if bytes_eq p.0 (codes "floor") then option_map events.SetFloor (number_of p.1) else switch_event_of p.0 p.1

-- `floor RATE`, or a switch with `on|off`
abbrev pub operator_event_of : List ℕ → Option Event
operator_event_of text = option_and_then setting_event (part_of text)

abbrev pub with_blocks : List ℕ → Option (List ℕ × List ℕ) → Option (ℕ × List (Option Block))
with_blocks text None = option_map (λ now. (now, [])) (number_of text)
with_blocks text (Some p) = do
  now ← number_of p.0
  blocks ← blocks_of p.1
  Some (now, blocks)

-- `NOW`, or `NOW BLOCKHEX ..`, whatever the words of hex are
abbrev pub timed_blocks_of : List ℕ → Option (ℕ × List (Option Block))
timed_blocks_of text = with_blocks text (part_of text)

-- `D NOW`, or `D NOW BLOCKHEX ..`
abbrev pub blocks_event_of : List ℕ → Option ChainEvent
blocks_event_of text = do
  p ← numbered_of text
  timed ← timed_blocks_of p.1
  Some (chain_events.MoveTip p.0 timed.0 timed.1)

-- by the first word of the text and what stands behind it
abbrev pub chain_event : List ℕ → List ℕ × List ℕ → Option ChainEvent
chain_event text p =
    if bytes_eq p.0 (codes "coin") then option_map chain_events.LearnCoin (coin_of p.1)
    else if bytes_eq p.0 (codes "verdict") then option_map chain_events.LearnVerdict (row_of p.1)
    else if bytes_eq p.0 (codes "forget") then option_map chain_events.Forget (number_of p.1)
    else blocks_event_of text

-- `coin TXID INDEX VALUE HEIGHT plain|cb SCRIPT`, `verdict WTXID INPUT ok|soft|hard`, `forget N`, or blocks
abbrev pub chain_event_of : List ℕ → Option ChainEvent
chain_event_of text = option_and_then (chain_event text) (part_of text)

abbrev pub called_event : List ℕ × List ℕ → Option Event
called_event p =
    if bytes_eq p.0 (codes "peer") then peer_event_of p.1
    else if bytes_eq p.0 (codes "user") then user_event_of p.1
    else if bytes_eq p.0 (codes "chain") then option_map events.Chain (chain_event_of p.1)
    else if bytes_eq p.0 (codes "operator") then operator_event_of p.1
    else None

-- the event of a text
abbrev pub event_of : List ℕ → Option Event
event_of text = option_and_then called_event (part_of text)

-- the event of a line
abbrev pub line_event : List ℕ → Option Event
line_event line = if_text event_of line
