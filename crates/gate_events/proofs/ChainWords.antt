-- All words of a line were read, and none is empty.
use Rattle.std.proofs.Common.{◌≡◌, ℕ, true, false, List, [], ◌∷◌, map, Option, Some, None, Bor, refl, ap, sym, ◌∙◌, if◌then◌else◌}
use Rattle.gate_chain.specs.Blocks.{Block}
use Rattle.gate_events.specs.ChainLines.{block_of, blocks_of, words_of, has_gap}

abbrev pub block_at : Bor (List ℕ) → Option Block
block_at word = block_of word.now

abbrev pub text_at : Bor (List ℕ) → List ℕ
text_at word = word.now

each_read : (words : List (Bor (List ℕ))) → map block_at words ≡ map block_of (map text_at words)
each_read [] = refl
each_read (word ∷ words) = ap (λ l. block_at word ∷ l) (each_read words)

pub all_read : (words : List (Bor (List ℕ))) (blocks : List (Option Block)) (text : List ℕ)
    → map text_at words ≡ words_of text → has_gap (words_of text) ≡ false → blocks ≡ map block_at words
    → Some blocks ≡ blocks_of text
all_read words blocks text same filled read =
    let whole = read ∙ each_read words ∙ ap (map block_of) same in
    ap (λ b. Some b) whole ∙ sym (ap (λ b. if b then None else Some (map block_of (words_of text))) filled)

pub gap_read : (text : List ℕ) → has_gap (words_of text) ≡ true → None ≡ blocks_of text
gap_read text gap = sym (ap (λ b. if b then None else Some (map block_of (words_of text))) gap)
