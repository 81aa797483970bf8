-- The words of a coin: `TXID INDEX VALUE HEIGHT plain|cb SCRIPT`.
use Rattle.std.specs.Prelude.{ℕ, ◌==◌, pos, if◌then◌else◌, Bool, true, false, List, [], ◌++◌, length, codes, Option, Some, None, Result, Ok, Err, option_and_then}
use Rattle.std.specs.Fmt.{decimal, signed_decimal}
use Rattle.std.specs.Str.{bytes_eq}
use Rattle.hex.specs.Hex.{decode_of, encode_lower}
use Rattle.hex.specs.declared.error.FromHexError.{FromHexError}
use Rattle.gate_lines.specs.Numbers.{number_of, small_number_of}
use Rattle.gate_lines.specs.Words.{part_of}
use Rattle.gate_tx.specs.Ids.{id_text, read_id}
use Rattle.gate_tx.specs.declared.transaction.OutPoint.{OutPoint}
use Rattle.gate_chain.specs.declared.opening.OpeningCoin.{OpeningCoin}
use Rattle.gate_words.specs.declared.coin.CoinHead.{CoinHead}

infixl 10 ◌>>=◌
abbrev pub ◌>>=◌ : {A B : Type 0} → Option A → (A → Option B) → Option B
x >>= f = option_and_then f x

abbrev pub is_coinbase_of : List ℕ → Option Bool
is_coinbase_of text =
    if bytes_eq text (codes "plain") then Some false
    else if bytes_eq text (codes "cb") then Some true
    else None

-- `TXID INDEX`, and what stands after it
abbrev pub outpoint_of : List ℕ → Option (OutPoint × List ℕ)
outpoint_of text = do
  p ← part_of text
  q ← part_of p.1
  txid ← read_id p.0
  index ← small_number_of q.0
  Some (record { txid = txid; index = index }, q.1)

-- what the words of a coin say between its outpoint and its script
abbrev pub Head : Type 0
Head = CoinHead

-- `VALUE HEIGHT plain|cb`, and what stands after it
abbrev pub coin_head_of : List ℕ → Option (Head × List ℕ)
coin_head_of text = do
  p ← part_of text
  q ← part_of p.1
  r ← part_of q.1
  value ← number_of p.0
  height ← small_number_of q.0
  coinbase ← is_coinbase_of r.0
  Some (record { value = pos value; height = height; coinbase = coinbase }, r.1)

abbrev pub script_from : Result (List ℕ) FromHexError → Option (List ℕ)
script_from (Ok script) = Some script
script_from (Err fault) = None

-- a script in hex, or `-` for an empty one
abbrev pub script_of : List ℕ → Option (List ℕ)
script_of text =
    if length text == 0 then None
    else if bytes_eq text (codes "-") then Some []
    else script_from (decode_of text)

-- a coin by the parts of its text
abbrev pub coin_with : OutPoint → Head → List ℕ → OpeningCoin
coin_with outpoint head script = record {
  outpoint = outpoint;
  coin = record { value = head.value; script = script; height = head.height; coinbase = head.coinbase };
}

-- the coin that a text says
abbrev pub coin_of : List ℕ → Option OpeningCoin
coin_of text = do
  p ← outpoint_of text
  q ← coin_head_of p.1
  script ← script_of q.1
  Some (coin_with p.0 q.0 script)

-- ---- printed

abbrev pub kind_word : Bool → List ℕ
kind_word true = codes "cb"
kind_word false = codes "plain"

-- a script in hex in lower case, or `-` for an empty one
abbrev pub script_word : List ℕ → List ℕ
script_word script = if length script == 0 then codes "-" else encode_lower script

-- the one text of a coin
abbrev pub coin_text : OpeningCoin → List ℕ
coin_text c =
    id_text c.outpoint.txid ++ (codes " " ++ (decimal c.outpoint.index ++ (codes " " ++ (signed_decimal c.coin.value ++ (codes " "
    ++ (decimal c.coin.height ++ (codes " " ++ (kind_word c.coin.coinbase ++ (codes " " ++ script_word c.coin.script)))))))))
