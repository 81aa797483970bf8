-- The chain's event: what is printed for it is what was read, or is read as the same.
use Rattle.std.proofs.Common.{◌≡◌, ℕ, ◌<◌, ◌≤◌, ◌^◌, ◌==◌, ◌||◌, ◌⊎◌, Bool, true, false, if◌then◌else◌, List, [], ◌∷◌, ◌++◌, length, map, codes, All, Option, Some, None, refl, ap, sym, subst, ◌∙◌, inl, inr, arith, length-append, append-nil}
use Rattle.std.specs.Fmt.{decimal}
use Rattle.std.specs.List.{flat_map, join_with_byte}
use Rattle.std.specs.Option.{option_and_then, option_map}
use Rattle.std.specs.Str.{bytes_eq}
use Rattle.std.proofs.lemmas.Bool.{eqb-false}
use Rattle.std.proofs.lemmas.Bool.Decides.{nat_tests}
use Rattle.std.proofs.lemmas.List.Elements.{All-nil, All-cons}
use Rattle.std.proofs.lemmas.List.Splits.{slice_split_none, slice_split_at, length-slice_split, join_with_byte-slice_split}
use Rattle.std.proofs.lemmas.Option.{option_and_then_some}
use Rattle.gate_lines.specs.Numbers.{number_of, max_number}
use Rattle.gate_lines.specs.Words.{part_of}
use Rattle.gate_lines.proofs.Decimals.{number_decimal, decimal_number}
use Rattle.gate_chain.specs.Blocks.{Block}
use Rattle.gate_message.specs.declared.chain_event.ChainEvent.{ChainEvent}
use Rattle.gate_message.specs.declared.chain_event.ChainEvent.TheVariants.{MoveTip, LearnCoin, LearnVerdict, Forget}
use Rattle.gate_message.specs.declared.event.Event.{Event}
use Rattle.gate_message.specs.declared.event.Event.TheVariants.{Chain}
use Rattle.gate_chain.specs.declared.opening.OpeningCoin.{OpeningCoin}
use Rattle.gate_submission.specs.declared.verdict.VerdictRow.{VerdictRow}
use Rattle.gate_words.specs.CoinWords.{coin_of, coin_text}
use Rattle.gate_words.specs.VerdictWords.{row_of, row_text}
use Rattle.gate_events.specs.ChainLines.{block_of, blocks_of, words_of, has_gap}
use Rattle.gate_events.specs.EventLines.{numbered_of, with_blocks, timed_blocks_of, blocks_event_of, chain_event, chain_event_of}
use Rattle.gate_events.specs.EventTexts.{block_word, block_words, chain_event_text}
use Rattle.gate_events.proofs.Again.{IsAgain, IsAgainIn, again_behind, either, option_map_is, same_word, some_is}
use Rattle.gate_events.proofs.CoinTexts.{IsCoinRead, coin_again}
use Rattle.gate_events.proofs.IdWords.{not_word}
use Rattle.gate_events.proofs.RowTexts.{IsRowRead, row_again}
use Rattle.gate_events.proofs.Hexes.{IsReread, block_again}
use Rattle.gate_events.proofs.Letters.{all_letters, letters_joined}
use Rattle.gate_events.proofs.Numbered.{numbered_joined, numbered_at, decimal_letters, small_fits}
use Rattle.gate_events.proofs.Letters.{number_no_space}
use Rattle.gate_events.proofs.Spaces.{has_space, part_at, part_joined}

-- ---- words, none of which is empty

or_parts : (a b : Bool) → (a || b) ≡ false → (a ≡ false) × (b ≡ false)
or_parts true b h = absurd cc
or_parts false b h = (refl, h)

no_space : (word : List ℕ) → has_space word ≡ false → All (λ b. (b == 32) ≡ false) word
no_space [] h = All-nil _
no_space (c ∷ word) h =
    let parts = or_parts (c == 32) (has_space word) h in
    All-cons (λ b. (b == 32) ≡ false) c word parts.0 (no_space word parts.1)

-- the first word, and those behind it
gap_parts : (word : List ℕ) (words : List (List ℕ)) → has_gap (word ∷ words) ≡ false → (0 < length word) × (has_gap words ≡ false)
gap_parts word words h =
    let parts = or_parts (length word == 0) (has_gap words) h in
    let other = eqb-false (length word) 0 parts.0 in
    (omega arith, parts.1)

-- what is printed for the block that a word was read as
again : (word : List ℕ) → 0 < length word → IsReread block_of (block_of word) word (block_word (block_of word))
again word some = block_again word some

split_again : (word : List ℕ) (words : List (List ℕ)) → has_gap (word ∷ words) ≡ false → words_of (block_word (block_of word) ++ block_words (map block_of words)) ≡ map block_word (map block_of (word ∷ words))
split_again word [] full =
    let is = again word (gap_parts word [] full).0 in
    ap words_of (append-nil (block_word (block_of word))) ∙ slice_split_none (λ b. b == 32) (block_word (block_of word)) (no_space _ is.whole)
split_again word (next ∷ words) full =
    let parts = gap_parts word (next ∷ words) full in
    let is = again word parts.0 in
    slice_split_at (λ b. b == 32) (block_word (block_of word)) 32 (block_word (block_of next) ++ block_words (map block_of words)) (no_space _ is.whole) refl
    ∙ ap (λ l. block_word (block_of word) ∷ l) (split_again next words parts.1)

gap_again : (words : List (List ℕ)) → has_gap words ≡ false → has_gap (map block_word (map block_of words)) ≡ false
gap_again [] full = refl
gap_again (word ∷ words) full =
    let parts = gap_parts word words full in
    let some = (again word parts.0).filled in
    let here : (length (block_word (block_of word)) == 0) ≡ false = grind (arith, nat_tests) in
    rw here (gap_again words parts.1)

read_again : (words : List (List ℕ)) → has_gap words ≡ false → map block_of (map block_word (map block_of words)) ≡ map block_of words
read_again [] full = refl
read_again (word ∷ words) full =
    let parts = gap_parts word words full in
    (λ j. (again word parts.0).read j ∷ read_again words parts.1 j)

letters_again : (words : List (List ℕ)) → has_gap words ≡ false → all_letters (block_words (map block_of words)) ≡ true
letters_again [] full = refl
letters_again (word ∷ words) full =
    let parts = gap_parts word words full in
    letters_joined (block_word (block_of word)) (block_words (map block_of words)) (again word parts.0).letters (letters_again words parts.1)

-- the words as they were, each behind a space
abbrev spaced : List (List ℕ) → List ℕ
spaced words = flat_map (λ word. 32 ∷ word) words

joined_spaced : (word : List ℕ) (words : List (List ℕ)) → join_with_byte 32 (word ∷ words) ≡ word ++ spaced words
joined_spaced word [] = sym (append-nil word)
joined_spaced word (next ∷ words) = ap (λ l. word ++ 32 ∷ l) (joined_spaced next words)

short_again : (words : List (List ℕ)) → has_gap words ≡ false → length (block_words (map block_of words)) ≤ length (spaced words)
short_again [] full = omega arith
short_again (word ∷ words) full =
    let parts = gap_parts word words full in
    let here = (again word parts.0).short in
    let rest = short_again words parts.1 in
    omega (arith, length-append (block_word (block_of word)) (block_words (map block_of words)), length-append word (spaced words))

-- ---- the time and the blocks

abbrev timed_text : ℕ × List (Option Block) → List ℕ
timed_text timed = decimal timed.0 ++ block_words timed.1

-- what is printed is read as the same
record IsTimedRead (text : List ℕ) (timed : ℕ × List (Option Block)) : Type 0 where
  read : timed_blocks_of (timed_text timed) ≡ Some timed
  letters : all_letters (timed_text timed) ≡ true
  short : length (timed_text timed) ≤ length text

abbrev IsTimed : List ℕ → ℕ × List (Option Block) → Type 0
IsTimed text timed = (timed_text timed ≡ text) ⊎ IsTimedRead text timed

blocks_again : (word : List ℕ) (words : List (List ℕ)) → has_gap (word ∷ words) ≡ false → blocks_of (block_word (block_of word) ++ block_words (map block_of words)) ≡ Some (map block_of (word ∷ words))
blocks_again word words full = rw (split_again word words full, gap_again (word ∷ words) full, read_again (word ∷ words) full) refl

abbrev timed_by : ℕ → List (Option Block) → Option (ℕ × List (Option Block))
timed_by now blocks = Some (now, blocks)

timed_read : (now : ℕ) (rest word : List ℕ) (words : List (List ℕ)) → now ≤ max_number → words_of rest ≡ word ∷ words → has_gap (word ∷ words) ≡ false
    → IsTimedRead (decimal now ++ 32 ∷ rest) (now, map block_of (word ∷ words))
timed_read now rest word words small split full =
    let tail : List ℕ = block_word (block_of word) ++ block_words (map block_of words) in
    let same : rest ≡ word ++ spaced words = sym (join_with_byte-slice_split 32 rest) ∙ ap (join_with_byte 32) split ∙ joined_spaced word words in
    let short : length (32 ∷ tail) ≤ length (spaced (word ∷ words)) = short_again (word ∷ words) full in
    let long : length rest ≡ length (word ++ spaced words) = ap length same in
    record {
      read =
          ap (with_blocks (decimal now ++ 32 ∷ tail)) (part_at (decimal now) tail (number_no_space now (small_fits now small)))
          ∙ ap (option_and_then (λ n. option_and_then (timed_by n) (blocks_of tail))) (decimal_number (decimal now) now refl small)
          ∙ ap (option_and_then (timed_by now)) (blocks_again word words full);
      letters = letters_joined (decimal now) (32 ∷ tail) (decimal_letters now small) (letters_again (word ∷ words) full);
      short = omega (arith, length-append (decimal now) (32 ∷ tail), length-append (decimal now) (32 ∷ rest));
    }

timed_words : (now : ℕ) (rest : List ℕ) (words : List (List ℕ)) → now ≤ max_number → words_of rest ≡ words → has_gap words ≡ false → IsTimed (decimal now ++ 32 ∷ rest) (now, map block_of words)
timed_words now rest [] small split full = absurd (let count = ap length split in omega (arith, length-slice_split (λ b. b == 32) rest))
timed_words now rest (word ∷ words) small split full = inr (timed_read now rest word words small split full)

timed_blocks : (now : ℕ) (rest : List ℕ) (blocks : List (Option Block)) → now ≤ max_number → blocks_of rest ≡ Some blocks → IsTimed (decimal now ++ 32 ∷ rest) (now, blocks)
timed_blocks now rest blocks small h = by (either (has_gap (words_of rest)) None (Some (map block_of (words_of rest))) blocks h)
  where
    by : ((has_gap (words_of rest) ≡ true) × (◌≡◌ {A = Option (List (Option Block))} None (Some blocks))) ⊎ ((has_gap (words_of rest) ≡ false) × (◌≡◌ {A = Option (List (Option Block))} (Some (map block_of (words_of rest))) (Some blocks)))
        → IsTimed (decimal now ++ 32 ∷ rest) (now, blocks)
    by (inl other) = absurd (let none = other.1 in cc)
    by (inr is) = subst (λ l. IsTimed (decimal now ++ 32 ∷ rest) (now, l)) (some_is (map block_of (words_of rest)) blocks is.1) (timed_words now rest (words_of rest) small refl is.0)

timed_alone : (text : List ℕ) (timed : ℕ × List (Option Block)) → with_blocks text None ≡ Some timed → IsTimed text timed
timed_alone text timed h =
    let found = option_map_is alone (number_of text) timed h in
    let number : text ≡ decimal found.0 = (number_decimal text found.0 found.1).0 in
    subst (IsTimed text) found.2 (inl (append-nil (decimal found.0) ∙ sym number))
  where
    alone : ℕ → ℕ × List (Option Block)
    alone now = (now, [])

timed_behind : (text word rest : List ℕ) (timed : ℕ × List (Option Block)) → text ≡ word ++ 32 ∷ rest → with_blocks text (Some (word, rest)) ≡ Some timed → IsTimed text timed
timed_behind text word rest timed joined h =
    option_and_then_some (λ now. option_and_then (timed_by now) (blocks_of rest)) (number_of word) timed h (λ now is more.
    option_and_then_some (timed_by now) (blocks_of rest) timed more (λ blocks found same.
    let printed = number_decimal word now is in
    subst (IsTimed text) (some_is (now, blocks) timed same)
    (subst (λ t. IsTimed t (now, blocks)) (sym (joined ∙ ap (λ w. w ++ 32 ∷ rest) printed.0)) (timed_blocks now rest blocks printed.1 found))))

timed_again : (text : List ℕ) (timed : ℕ × List (Option Block)) → timed_blocks_of text ≡ Some timed → IsTimed text timed
timed_again text timed h = by (part_of text) refl h
  where
    by : (parts : Option (List ℕ × List ℕ)) → part_of text ≡ parts → with_blocks text parts ≡ Some timed → IsTimed text timed
    by None is read = timed_alone text timed read
    by (Some p) is read = timed_behind text p.0 p.1 timed (part_joined text p.0 p.1 is) read

-- ---- the event

-- the event that a form of the chain's events reads
abbrev pub told : (List ℕ → Option ChainEvent) → List ℕ → Option Event
told form text = option_map Chain (form text)

abbrev chained : ℕ → ℕ × List (Option Block) → Option ChainEvent
chained disconnect timed = Some (MoveTip disconnect timed.0 timed.1)

abbrev behind : ℕ → List ℕ → Option ChainEvent
behind disconnect text = option_and_then (chained disconnect) (timed_blocks_of text)

chained_again : (disconnect : ℕ) (text : List ℕ) (timed : ℕ × List (Option Block)) → IsTimed text timed
    → IsAgain (told (behind disconnect)) (Chain (MoveTip disconnect timed.0 timed.1)) text (timed_text timed)
chained_again disconnect text timed (inl same) = inl same
chained_again disconnect text timed (inr is) = inr (record {
  read = ap (λ o. option_map Chain (option_and_then (chained disconnect) o)) is.read;
  letters = is.letters;
  short = inl is.short;
})

-- none of three words
none_of_three : (a b c : Bool) (first second third last : Option ChainEvent) → a ≡ false → b ≡ false → c ≡ false
    → (if a then first else if b then second else if c then third else last) ≡ last
none_of_three a b c first second third last p q r = rw (p, q, r) refl

-- a number is none of the words of the other events
blocks_at : (disconnect : ℕ) (rest : List ℕ) → disconnect ≤ max_number → chain_event_of (decimal disconnect ++ 32 ∷ rest) ≡ blocks_event_of (decimal disconnect ++ 32 ∷ rest)
blocks_at disconnect rest small =
    let fits : disconnect < 2 ^ 64 = small_fits disconnect small in
    let text : List ℕ = decimal disconnect ++ 32 ∷ rest in
    ap (option_and_then (chain_event text)) (part_at (decimal disconnect) rest (number_no_space disconnect fits))
    ∙ none_of_three (bytes_eq (decimal disconnect) (codes "coin")) (bytes_eq (decimal disconnect) (codes "verdict")) (bytes_eq (decimal disconnect) (codes "forget"))
    (option_map LearnCoin (coin_of rest)) (option_map LearnVerdict (row_of rest)) (option_map Forget (number_of rest)) (blocks_event_of text)
    (not_word disconnect (codes "coin") fits refl) (not_word disconnect (codes "verdict") fits refl) (not_word disconnect (codes "forget") fits refl)

-- what is printed for an event of the chain is what was read, or is read as the same
abbrev Chained : List ℕ → ChainEvent → Type 0
Chained text event = IsAgainIn (λ x. codes "chain " ++ x) (told chain_event_of) (Chain event) text

numbered_again : (disconnect : ℕ) (rest : List ℕ) (timed : ℕ × List (Option Block)) → disconnect ≤ max_number → IsTimed rest timed
    → Chained (decimal disconnect ++ 32 ∷ rest) (MoveTip disconnect timed.0 timed.1)
numbered_again disconnect rest timed small is = (
  decimal disconnect ++ 32 ∷ timed_text timed,
  refl,
  again_behind (decimal disconnect) (told (behind disconnect)) (told chain_event_of) (Chain (MoveTip disconnect timed.0 timed.1)) rest (timed_text timed) (decimal_letters disconnect small)
      (λ x. ap (option_map Chain) (blocks_at disconnect x small ∙ ap (option_and_then (λ p. behind p.0 p.1)) (numbered_at disconnect x small))) (chained_again disconnect rest timed is),
)

moved_again : (text : List ℕ) (event : ChainEvent) → blocks_event_of text ≡ Some event → Chained text event
moved_again text event h = option_and_then_some (λ p. behind p.0 p.1) (numbered_of text) event h by
  where
    by : (p : ℕ × List ℕ) → numbered_of text ≡ Some p → behind p.0 p.1 ≡ Some event → Chained text event
    by p is read =
        option_and_then_some (chained p.0) (timed_blocks_of p.1) event read (λ timed found same.
        let number = numbered_joined text p is in
        subst (Chained text) (some_is (MoveTip p.0 timed.0 timed.1) event same)
        (subst (λ t. Chained t (MoveTip p.0 timed.0 timed.1)) (sym number.joined) (numbered_again p.0 p.1 timed number.small (timed_again p.1 timed found))))

-- ---- what is learnt and forgotten

-- behind the word of the event
worded_again : (word : List ℕ) (form : List ℕ → Option ChainEvent) (event : ChainEvent) (rest printed : List ℕ) → all_letters word ≡ true
    → ((x : List ℕ) → chain_event_of (word ++ 32 ∷ x) ≡ form x) → chain_event_text event ≡ codes "chain " ++ (word ++ 32 ∷ printed)
    → IsAgain (told form) (Chain event) rest printed → Chained (word ++ 32 ∷ rest) event
worded_again word form event rest printed letters read is again = (word ++ 32 ∷ printed, is, again_behind word (told form) (told chain_event_of) (Chain event) rest printed letters (λ x. ap (option_map Chain) (read x)) again)

coin_learnt : (rest : List ℕ) (event : ChainEvent) → option_map LearnCoin (coin_of rest) ≡ Some event → Chained (codes "coin" ++ 32 ∷ rest) event
coin_learnt rest event h =
    let found = option_map_is LearnCoin (coin_of rest) event h in
    subst (Chained (codes "coin" ++ 32 ∷ rest)) found.2 (by found.0 (coin_again rest found.0 found.1))
  where
    by : (coin : OpeningCoin) → IsCoinRead rest coin → Chained (codes "coin" ++ 32 ∷ rest) (LearnCoin coin)
    by coin is =
        worded_again (codes "coin") (λ x. option_map LearnCoin (coin_of x)) (LearnCoin coin) rest (coin_text coin) refl
        (λ x. ap (option_and_then (chain_event (codes "coin" ++ 32 ∷ x))) (part_at (codes "coin") x refl)) refl
        (inr (record { read = ap (λ o. option_map Chain (option_map LearnCoin o)) is.read; letters = is.letters; short = inl is.short }))

verdict_learnt : (rest : List ℕ) (event : ChainEvent) → option_map LearnVerdict (row_of rest) ≡ Some event → Chained (codes "verdict" ++ 32 ∷ rest) event
verdict_learnt rest event h =
    let found = option_map_is LearnVerdict (row_of rest) event h in
    subst (Chained (codes "verdict" ++ 32 ∷ rest)) found.2 (by found.0 (row_again rest found.0 found.1))
  where
    by : (row : VerdictRow) → IsRowRead rest row → Chained (codes "verdict" ++ 32 ∷ rest) (LearnVerdict row)
    by row is =
        worded_again (codes "verdict") (λ x. option_map LearnVerdict (row_of x)) (LearnVerdict row) rest (row_text row) refl
        (λ x. ap (option_and_then (chain_event (codes "verdict" ++ 32 ∷ x))) (part_at (codes "verdict") x refl)) refl
        (inr (record { read = ap (λ o. option_map Chain (option_map LearnVerdict o)) is.read; letters = is.letters; short = inl is.short }))

forgotten : (rest : List ℕ) (event : ChainEvent) → option_map Forget (number_of rest) ≡ Some event → Chained (codes "forget" ++ 32 ∷ rest) event
forgotten rest event h =
    let found = option_map_is Forget (number_of rest) event h in
    let number : rest ≡ decimal found.0 = (number_decimal rest found.0 found.1).0 in
    subst (Chained (codes "forget" ++ 32 ∷ rest)) found.2 (codes "forget " ++ decimal found.0, refl, inl (ap (λ r. codes "forget " ++ r) (sym number)))

as_word : (word literal rest : List ℕ) (event : ChainEvent) → bytes_eq word literal ≡ true → Chained (literal ++ 32 ∷ rest) event → Chained (word ++ 32 ∷ rest) event
as_word word literal rest event is again = subst (λ w. Chained (w ++ 32 ∷ rest) event) (sym (same_word word literal is)) again

first_word : (word rest : List ℕ) (event : ChainEvent) → chain_event (word ++ 32 ∷ rest) (word, rest) ≡ Some event → Chained (word ++ 32 ∷ rest) event
first_word word rest event h = first (either (bytes_eq word (codes "coin")) (option_map LearnCoin (coin_of rest)) behind_coin event h)
  where
    behind_verdict : Option ChainEvent
    behind_verdict = if bytes_eq word (codes "forget") then option_map Forget (number_of rest) else blocks_event_of (word ++ 32 ∷ rest)

    behind_coin : Option ChainEvent
    behind_coin = if bytes_eq word (codes "verdict") then option_map LearnVerdict (row_of rest) else behind_verdict

    third : ((bytes_eq word (codes "forget") ≡ true) × (option_map Forget (number_of rest) ≡ Some event)) ⊎ ((bytes_eq word (codes "forget") ≡ false) × (blocks_event_of (word ++ 32 ∷ rest) ≡ Some event)) → Chained (word ++ 32 ∷ rest) event
    third (inl is) = as_word word (codes "forget") rest event is.0 (forgotten rest event is.1)
    third (inr other) = moved_again (word ++ 32 ∷ rest) event other.1

    second : ((bytes_eq word (codes "verdict") ≡ true) × (option_map LearnVerdict (row_of rest) ≡ Some event)) ⊎ ((bytes_eq word (codes "verdict") ≡ false) × (behind_verdict ≡ Some event)) → Chained (word ++ 32 ∷ rest) event
    second (inl is) = as_word word (codes "verdict") rest event is.0 (verdict_learnt rest event is.1)
    second (inr other) = third (either (bytes_eq word (codes "forget")) (option_map Forget (number_of rest)) (blocks_event_of (word ++ 32 ∷ rest)) event other.1)

    first : ((bytes_eq word (codes "coin") ≡ true) × (option_map LearnCoin (coin_of rest) ≡ Some event)) ⊎ ((bytes_eq word (codes "coin") ≡ false) × (behind_coin ≡ Some event)) → Chained (word ++ 32 ∷ rest) event
    first (inl is) = as_word word (codes "coin") rest event is.0 (coin_learnt rest event is.1)
    first (inr other) = second (either (bytes_eq word (codes "verdict")) (option_map LearnVerdict (row_of rest)) behind_verdict event other.1)

pub chain_again : (text : List ℕ) (event : ChainEvent) → chain_event_of text ≡ Some event → Chained text event
chain_again text event h = option_and_then_some (chain_event text) (part_of text) event h by
  where
    by : (p : List ℕ × List ℕ) → part_of text ≡ Some p → chain_event text p ≡ Some event → Chained text event
    by p is read =
        let joined = part_joined text p.0 p.1 is in
        subst (λ t. Chained t event) (sym joined) (first_word p.0 p.1 event (ap (λ t. chain_event t p) (sym joined) ∙ read))
