-- The blocks that a line of the chain spells.
use Rattle.std.specs.Prelude.{ℕ, ◌==◌, Bool, if◌then◌else◌, List, map, length, Option, Some, None, Result, Ok, Err}
use Rattle.std.specs.List.{slice_split, list_any}
use Rattle.hex.specs.Hex.{decode_of}
use Rattle.hex.specs.declared.error.FromHexError.{FromHexError}
use Rattle.gate_chain.specs.Blocks.{Block}
use Rattle.gate_block.specs.Reading.{decoded_block}

abbrev pub block_from : Result (List ℕ) FromHexError → Option Block
block_from (Ok bytes) = decoded_block bytes
block_from (Err fault) = None

-- the block that a word of hex spells
abbrev pub block_of : List ℕ → Option Block
block_of word = block_from (decode_of word)

-- the words of a text, which stand between single spaces
abbrev pub words_of : List ℕ → List (List ℕ)
words_of text = slice_split (λ b. b == 32) text

-- a word is empty
abbrev pub has_gap : List (List ℕ) → Bool
has_gap words = list_any (λ word. length word == 0) words

-- what each word spells, or `None` if a word is empty
abbrev pub blocks_of : List ℕ → Option (List (Option Block))
blocks_of text = if has_gap (words_of text) then None else Some (map block_of (words_of text))
