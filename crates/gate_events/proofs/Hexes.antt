-- The words of transactions and blocks: each is read as what it is the word of.
use Rattle.std.proofs.Common.{◌≡◌, ℕ, ◌*◌, ◌<◌, ◌≤◌, true, false, List, length, get_or, codes, Option, Some, None, Result, Ok, Err, refl, ap, subst, ◌∙◌, arith}
use Rattle.hex.specs.Hex.{decode_of, encode_lower, lower_digits}
use Rattle.hex.specs.declared.error.FromHexError.{FromHexError}
use Rattle.hex.proofs.HexLemmas.{decode_of-encode_lower, decode_of-ok, length-encode_with}
use Rattle.gate_tx.specs.Tx.{Tx}
use Rattle.gate_tx.specs.Text.{text}
use Rattle.gate_tx.specs.Reading.{decoded}
use Rattle.gate_tx.proofs.Laws.{decoded_is_spelled}
use Rattle.gate_chain.specs.Blocks.{Block}
use Rattle.gate_block.specs.Reading.{decoded_block}
use Rattle.gate_block.specs.Text.{block_text}
use Rattle.gate_block.proofs.Spelled.{block_takes}
use Rattle.gate_events.specs.ChainLines.{block_from, block_of}
use Rattle.gate_events.specs.EventLines.{decoded_from, prepared_of}
use Rattle.gate_events.specs.EventTexts.{transaction_word, block_word}
use Rattle.gate_events.proofs.Spaces.{has_space}
use Rattle.gate_events.proofs.Letters.{all_letters, hex_letters, hex_no_space, hex_filled}

-- what is printed for what a word was read as: it is read as the same, and is a word, no longer than that one
pub record IsReread {X : Type 0} (form : List ℕ → Option X) (value : Option X) (word printed : List ℕ) : Type 0 where
  pub read : form printed ≡ value
  pub filled : 0 < length printed
  pub whole : has_space printed ≡ false
  pub letters : all_letters printed ≡ true
  pub short : length printed ≤ length word

-- the bytes of a word, in lower case
record IsHex (bytes word : List ℕ) : Type 0 where
  read : decode_of (encode_lower bytes) ≡ Ok bytes
  fits : (k : ℕ) → get_or bytes k 0 < 256
  filled : 0 < length bytes
  short : length (encode_lower bytes) ≤ length word

hex_is : (word bytes : List ℕ) → 0 < length word → decode_of word ≡ Ok bytes → IsHex bytes word
hex_is word bytes some is =
    let of = decode_of-ok word bytes is in
    let two : length word ≡ 2 * length bytes = of.2 in
    let same : length (encode_lower bytes) ≡ 2 * length bytes = length-encode_with lower_digits bytes in
    record { read = decode_of-encode_lower bytes of.3; fits = of.3; filled = omega arith; short = omega arith }

-- ---- transactions

transaction_hex : (word bytes : List ℕ) (tx : Tx) → IsHex bytes word → decoded bytes ≡ Some tx → IsReread prepared_of (Some tx) word (encode_lower bytes)
transaction_hex word bytes tx is read = record {
  read = ap decoded_from is.read ∙ read;
  filled = hex_filled bytes is.filled;
  whole = hex_no_space bytes;
  letters = hex_letters bytes is.fits;
  short = is.short;
}

transaction_none : (word : List ℕ) → 0 < length word → IsReread prepared_of None word (codes "-")
transaction_none word some = record { read = refl; filled = omega arith; whole = refl; letters = refl; short = omega arith }

transaction_bytes : (word bytes : List ℕ) (read : Option Tx) → 0 < length word → decode_of word ≡ Ok bytes → decoded bytes ≡ read → IsReread prepared_of read word (transaction_word read)
transaction_bytes word bytes None some is none = transaction_none word some
transaction_bytes word bytes (Some tx) some is read =
    let hex = hex_is word bytes some is in
    let spells : bytes ≡ text tx = ((decoded_is_spelled bytes tx hex.fits).0 read).parts in
    subst (λ b. IsReread prepared_of (Some tx) word (encode_lower b)) spells (transaction_hex word bytes tx hex read)

pub transaction_again : (word : List ℕ) → 0 < length word → IsReread prepared_of (prepared_of word) word (transaction_word (prepared_of word))
transaction_again word some = by (decode_of word) refl
  where
    by : (read : Result (List ℕ) FromHexError) → decode_of word ≡ read → IsReread prepared_of (decoded_from read) word (transaction_word (decoded_from read))
    by (Ok bytes) is = transaction_bytes word bytes (decoded bytes) some is refl
    by (Err fault) is = transaction_none word some

-- ---- blocks

block_hex : (word bytes : List ℕ) (block : Block) → IsHex bytes word → decoded_block bytes ≡ Some block → IsReread block_of (Some block) word (encode_lower bytes)
block_hex word bytes block is read = record {
  read = ap block_from is.read ∙ read;
  filled = hex_filled bytes is.filled;
  whole = hex_no_space bytes;
  letters = hex_letters bytes is.fits;
  short = is.short;
}

block_none : (word : List ℕ) → 0 < length word → IsReread block_of None word (codes "-")
block_none word some = record { read = refl; filled = omega arith; whole = refl; letters = refl; short = omega arith }

block_bytes : (word bytes : List ℕ) (read : Option Block) → 0 < length word → decode_of word ≡ Ok bytes → decoded_block bytes ≡ read → IsReread block_of read word (block_word read)
block_bytes word bytes None some is none = block_none word some
block_bytes word bytes (Some block) some is read =
    let hex = hex_is word bytes some is in
    let spells : bytes ≡ block_text block = (block_takes bytes block hex.fits read).parts in
    subst (λ b. IsReread block_of (Some block) word (encode_lower b)) spells (block_hex word bytes block hex read)

pub block_again : (word : List ℕ) → 0 < length word → IsReread block_of (block_of word) word (block_word (block_of word))
block_again word some = by (decode_of word) refl
  where
    by : (read : Result (List ℕ) FromHexError) → decode_of word ≡ read → IsReread block_of (block_from read) word (block_word (block_from read))
    by (Ok bytes) is = block_bytes word bytes (decoded_block bytes) some is refl
    by (Err fault) is = block_none word some
