-- The words of coins: what is printed for a coin is read as the same.
use Rattle.std.proofs.Common.{◌≡◌, ℕ, ◌*◌, ◌<◌, ◌≤◌, ◌==◌, ◌⊎◌, Bool, true, false, if◌then◌else◌, pos, List, [], ◌∷◌, ◌++◌, length, codes, Option, Some, None, Result, Ok, Err, refl, ap, sym, subst, ◌∙◌, inl, inr, arith, length-append}
use Rattle.std.specs.Fmt.{decimal}
use Rattle.std.specs.Option.{option_and_then}
use Rattle.std.specs.Str.{bytes_eq}
use Rattle.std.proofs.lemmas.Bool.{eqb-false}
use Rattle.std.proofs.lemmas.Bool.Decides.{nat_tests}
use Rattle.std.proofs.lemmas.Option.{option_and_then_some}
use Rattle.hex.specs.Hex.{decode_of, encode_lower, lower_digits}
use Rattle.hex.specs.declared.error.FromHexError.{FromHexError}
use Rattle.hex.proofs.HexLemmas.{decode_of-encode_lower, decode_of-ok, length-encode_with}
use Rattle.gate_lines.specs.Numbers.{number_of, small_number_of, max_number}
use Rattle.gate_lines.specs.Words.{part_of}
use Rattle.gate_lines.proofs.Decimals.{number_decimal, decimal_number}
use Rattle.gate_tx.specs.Ids.{id_text, read_id}
use Rattle.gate_tx.specs.declared.transaction.OutPoint.{OutPoint}
use Rattle.gate_chain.specs.declared.opening.OpeningCoin.{OpeningCoin}
use Rattle.gate_words.specs.CoinWords.{Head, outpoint_of, is_coinbase_of, coin_head_of, script_from, script_of, coin_with, coin_of, kind_word, script_word, coin_text}
use Rattle.gate_events.proofs.Again.{either, same_word, some_is}
use Rattle.gate_events.proofs.IdWords.{IsIdRead, IsSmall, id_again, small_again}
use Rattle.gate_events.proofs.Letters.{all_letters, hex_letters, letters_joined, number_no_space}
use Rattle.gate_events.proofs.Numbered.{decimal_letters, small_decimal, small_fits}
use Rattle.gate_events.proofs.Letters.{number_letters}
use Rattle.gate_events.proofs.Spaces.{has_space, part_at, part_joined}

-- ---- the outpoint

abbrev point_by : List ℕ → List ℕ → ℕ → Option (OutPoint × List ℕ)
point_by rest txid index = Some (record { txid = txid; index = index }, rest)

abbrev point_with : List ℕ × List ℕ → List ℕ → Option (OutPoint × List ℕ)
point_with q txid = option_and_then (point_by q.1 txid) (small_number_of q.0)

abbrev point_words : List ℕ → List ℕ × List ℕ → Option (OutPoint × List ℕ)
point_words word q = option_and_then (point_with q) (read_id word)

abbrev point_parts : List ℕ × List ℕ → Option (OutPoint × List ℕ)
point_parts p = option_and_then (point_words p.0) (part_of p.1)

-- the text of an outpoint and of what stands after it, with this word for its txid
abbrev point_text : List ℕ → OutPoint → List ℕ → List ℕ
point_text word point rest = word ++ 32 ∷ (decimal point.index ++ 32 ∷ rest)

record IsPoint (text : List ℕ) (p : OutPoint × List ℕ) : Type 0 where
  word : List ℕ
  joined : text ≡ point_text word p.0 p.1
  id : IsIdRead word p.0.txid
  index : IsSmall p.0.index

point_is : (word number rest txid text after : List ℕ) (index : ℕ) → text ≡ word ++ 32 ∷ after → after ≡ number ++ 32 ∷ rest
    → read_id word ≡ Some txid → small_number_of number ≡ Some index → IsPoint text (record { txid = txid; index = index }, rest)
point_is word number rest txid text after index first second id at = record {
  word = word;
  joined = first ∙ ap (λ t. word ++ 32 ∷ t) (second ∙ ap (λ t. t ++ 32 ∷ rest) (small_decimal number index at));
  id = id_again word txid id;
  index = small_again number index at;
}

point_joined : (text : List ℕ) (p : OutPoint × List ℕ) → outpoint_of text ≡ Some p → IsPoint text p
point_joined text p h =
    option_and_then_some point_parts (part_of text) p h (λ a first more.
    option_and_then_some (point_words a.0) (part_of a.1) p more (λ b second ids.
    option_and_then_some (point_with b) (read_id a.0) p ids (λ txid id number.
    option_and_then_some (point_by b.1 txid) (small_number_of b.0) p number (λ index at same.
    subst (IsPoint text) (some_is (record { txid = txid; index = index }, b.1) p same)
    (point_is a.0 b.0 b.1 txid text a.1 index (part_joined text a.0 a.1 first) (part_joined a.1 b.0 b.1 second) id at)))))

point_at : (word : List ℕ) (point : OutPoint) (rest : List ℕ) → has_space word ≡ false → read_id word ≡ Some point.txid → IsSmall point.index
    → outpoint_of (point_text word point rest) ≡ Some (point, rest)
point_at word point rest whole id index =
    rw (part_at word (decimal point.index ++ 32 ∷ rest) whole, part_at (decimal point.index) rest (number_no_space point.index index.fits), id, index.read) refl

-- ---- what stands between the outpoint and the script

abbrev head_by : List ℕ → ℕ → ℕ → Bool → Option (Head × List ℕ)
head_by rest value height coinbase = Some (record { value = pos value; height = height; coinbase = coinbase }, rest)

abbrev head_kind : List ℕ × List ℕ → ℕ → ℕ → Option (Head × List ℕ)
head_kind r value height = option_and_then (head_by r.1 value height) (is_coinbase_of r.0)

abbrev head_height : List ℕ → List ℕ × List ℕ → ℕ → Option (Head × List ℕ)
head_height word r value = option_and_then (head_kind r value) (small_number_of word)

abbrev head_value : List ℕ → List ℕ → List ℕ × List ℕ → Option (Head × List ℕ)
head_value word second r = option_and_then (head_height second r) (number_of word)

abbrev head_third : List ℕ → List ℕ × List ℕ → Option (Head × List ℕ)
head_third word q = option_and_then (head_value word q.0) (part_of q.1)

abbrev head_parts : List ℕ × List ℕ → Option (Head × List ℕ)
head_parts p = option_and_then (head_third p.0) (part_of p.1)

abbrev head_of : ℕ → ℕ → Bool → Head
head_of value height coinbase = record { value = pos value; height = height; coinbase = coinbase }

-- their text, and what stands after it
abbrev head_text : ℕ → ℕ → Bool → List ℕ → List ℕ
head_text value height coinbase rest = decimal value ++ 32 ∷ (decimal height ++ 32 ∷ (kind_word coinbase ++ 32 ∷ rest))

record IsHead (text : List ℕ) (p : Head × List ℕ) : Type 0 where
  value : ℕ
  height : ℕ
  coinbase : Bool
  is : p.0 ≡ head_of value height coinbase
  joined : text ≡ head_text value height coinbase p.1
  small : value ≤ max_number
  at : IsSmall height

kind_again : (word : List ℕ) (coinbase : Bool) → is_coinbase_of word ≡ Some coinbase → word ≡ kind_word coinbase
kind_again word coinbase h = first (either (bytes_eq word (codes "plain")) (Some false) behind_plain coinbase h)
  where
    behind_plain : Option Bool
    behind_plain = if bytes_eq word (codes "cb") then Some true else None

    second : ((bytes_eq word (codes "cb") ≡ true) × (◌≡◌ {A = Option Bool} (Some true) (Some coinbase))) ⊎ ((bytes_eq word (codes "cb") ≡ false) × (◌≡◌ {A = Option Bool} None (Some coinbase))) → word ≡ kind_word coinbase
    second (inl is) = same_word word (codes "cb") is.0 ∙ ap kind_word (some_is true coinbase is.1)
    second (inr other) = absurd (let none = other.1 in cc)

    first : ((bytes_eq word (codes "plain") ≡ true) × (◌≡◌ {A = Option Bool} (Some false) (Some coinbase))) ⊎ ((bytes_eq word (codes "plain") ≡ false) × (behind_plain ≡ Some coinbase)) → word ≡ kind_word coinbase
    first (inl is) = same_word word (codes "plain") is.0 ∙ ap kind_word (some_is false coinbase is.1)
    first (inr other) = second (either (bytes_eq word (codes "cb")) (Some true) None coinbase other.1)

kind_read : (coinbase : Bool) → is_coinbase_of (kind_word coinbase) ≡ Some coinbase
kind_read true = refl
kind_read false = refl

kind_whole : (coinbase : Bool) → has_space (kind_word coinbase) ≡ false
kind_whole true = refl
kind_whole false = refl

kind_letters : (coinbase : Bool) → all_letters (kind_word coinbase) ≡ true
kind_letters true = refl
kind_letters false = refl

head_is : (first second third rest text after behind : List ℕ) (value height : ℕ) (coinbase : Bool)
    → text ≡ first ++ 32 ∷ after → after ≡ second ++ 32 ∷ behind → behind ≡ third ++ 32 ∷ rest
    → number_of first ≡ Some value → small_number_of second ≡ Some height → is_coinbase_of third ≡ Some coinbase
    → IsHead text (head_of value height coinbase, rest)
head_is first second third rest text after behind value height coinbase one two three number at kind =
    let printed = number_decimal first value number in
    record {
      value = value;
      height = height;
      coinbase = coinbase;
      is = refl;
      joined =
          one ∙ ap (λ t. t ++ 32 ∷ after) printed.0
          ∙ ap (λ t. decimal value ++ 32 ∷ t)
          (two ∙ ap (λ t. t ++ 32 ∷ behind) (small_decimal second height at)
          ∙ ap (λ t. decimal height ++ 32 ∷ t) (three ∙ ap (λ t. t ++ 32 ∷ rest) (kind_again third coinbase kind)));
      small = printed.1;
      at = small_again second height at;
    }

head_joined : (text : List ℕ) (p : Head × List ℕ) → coin_head_of text ≡ Some p → IsHead text p
head_joined text p h =
    option_and_then_some head_parts (part_of text) p h (λ a one more.
    option_and_then_some (head_third a.0) (part_of a.1) p more (λ b two next.
    option_and_then_some (head_value a.0 b.0) (part_of b.1) p next (λ c three values.
    option_and_then_some (head_height b.0 c) (number_of a.0) p values (λ value number heights.
    option_and_then_some (head_kind c value) (small_number_of b.0) p heights (λ height at kinds.
    option_and_then_some (head_by c.1 value height) (is_coinbase_of c.0) p kinds (λ coinbase kind same.
    subst (IsHead text) (some_is (head_of value height coinbase, c.1) p same)
    (head_is a.0 b.0 c.0 c.1 text a.1 b.1 value height coinbase (part_joined text a.0 a.1 one) (part_joined a.1 b.0 b.1 two) (part_joined b.1 c.0 c.1 three) number at kind)))))))

head_at : (value height : ℕ) (coinbase : Bool) (rest : List ℕ) → value ≤ max_number → IsSmall height
    → coin_head_of (head_text value height coinbase rest) ≡ Some (head_of value height coinbase, rest)
head_at value height coinbase rest small at =
    rw (
      part_at (decimal value) (decimal height ++ 32 ∷ (kind_word coinbase ++ 32 ∷ rest)) (number_no_space value (small_fits value small)),
      part_at (decimal height) (kind_word coinbase ++ 32 ∷ rest) (number_no_space height at.fits),
      part_at (kind_word coinbase) rest (kind_whole coinbase),
      decimal_number (decimal value) value refl small,
      at.read,
      kind_read coinbase,
    ) refl

-- ---- the script

record IsScript (text script : List ℕ) : Type 0 where
  read : script_of (script_word script) ≡ Some script
  letters : all_letters (script_word script) ≡ true
  short : length (script_word script) ≤ length text

other_length : (a b : List ℕ) → (length a ≡ length b → ⊥) → bytes_eq a b ≡ false
other_length a b other = by (bytes_eq a b) refl
  where
    by : (same : Bool) → bytes_eq a b ≡ same → same ≡ false
    by true is = absurd (other (ap length (same_word a b is)))
    by false is = refl

bytes_script : (text script : List ℕ) → 0 < length text → decode_of text ≡ Ok script → IsScript text script
bytes_script text script some is =
    let of = decode_of-ok text script is in
    let two : length text ≡ 2 * length script = of.2 in
    let digits : length (encode_lower script) ≡ 2 * length script = length-encode_with lower_digits script in
    let full : (length script == 0) ≡ false = grind (arith, nat_tests) in
    let filled : (length (encode_lower script) == 0) ≡ false = grind (arith, nat_tests) in
    let dash : bytes_eq (encode_lower script) (codes "-") ≡ false = other_length (encode_lower script) (codes "-") (λ e. omega (arith, e)) in
    record {
      read = rw (full, filled, dash, decode_of-encode_lower script of.3) refl;
      letters = rw full (hex_letters script of.3);
      short = rw full (omega arith);
    }

script_again : (text script : List ℕ) → script_of text ≡ Some script → IsScript text script
script_again text script h = first (either (length text == 0) None behind_empty script h)
  where
    behind_dash : Option (List ℕ)
    behind_dash = script_from (decode_of text)

    behind_empty : Option (List ℕ)
    behind_empty = if bytes_eq text (codes "-") then Some [] else behind_dash

    empty : (length text == 0) ≡ false → ◌≡◌ {A = Option (List ℕ)} (Some []) (Some script) → IsScript text script
    empty some same =
        let other = eqb-false (length text) 0 some in
        subst (IsScript text) (some_is [] script same) (record { read = refl; letters = refl; short = omega (arith, other) })

    bytes : (length text == 0) ≡ false → (read : Result (List ℕ) FromHexError) → decode_of text ≡ read → script_from read ≡ Some script → IsScript text script
    bytes some (Ok found) is at =
        let other = eqb-false (length text) 0 some in
        subst (IsScript text) (some_is found script at) (bytes_script text found (omega (arith, other)) is)
    bytes some (Err fault) is at = absurd cc

    second : (length text == 0) ≡ false → ((bytes_eq text (codes "-") ≡ true) × (◌≡◌ {A = Option (List ℕ)} (Some []) (Some script))) ⊎ ((bytes_eq text (codes "-") ≡ false) × (behind_dash ≡ Some script)) → IsScript text script
    second some (inl is) = empty some is.1
    second some (inr other) = bytes some (decode_of text) refl other.1

    first : (((length text == 0) ≡ true) × (◌≡◌ {A = Option (List ℕ)} None (Some script))) ⊎ (((length text == 0) ≡ false) × (behind_empty ≡ Some script)) → IsScript text script
    first (inl other) = absurd (let none = other.1 in cc)
    first (inr is) = second is.0 (either (bytes_eq text (codes "-")) (Some []) behind_dash script is.1)

-- ---- the coin

-- what is printed for a coin is read as the same, and no longer than the text that it was read from
pub record IsCoinRead (text : List ℕ) (coin : OpeningCoin) : Type 0 where
  pub read : coin_of (coin_text coin) ≡ Some coin
  pub letters : all_letters (coin_text coin) ≡ true
  pub short : length (coin_text coin) ≤ length text

-- a text of a coin, by its words
abbrev words : List ℕ → OutPoint → ℕ → ℕ → Bool → List ℕ → List ℕ
words id point value height coinbase script = point_text id point (head_text value height coinbase script)

words_letters : (id : List ℕ) (point : OutPoint) (value height : ℕ) (coinbase : Bool) (script : List ℕ)
    → all_letters id ≡ true → IsSmall point.index → value ≤ max_number → IsSmall height → all_letters script ≡ true
    → all_letters (words id point value height coinbase script) ≡ true
words_letters id point value height coinbase script first index small at last =
    letters_joined id (32 ∷ (decimal point.index ++ 32 ∷ head_text value height coinbase script)) first
    (letters_joined (decimal point.index) (32 ∷ head_text value height coinbase script) (number_letters point.index index.fits)
    (letters_joined (decimal value) (32 ∷ (decimal height ++ 32 ∷ (kind_word coinbase ++ 32 ∷ script))) (decimal_letters value small)
    (letters_joined (decimal height) (32 ∷ (kind_word coinbase ++ 32 ∷ script)) (number_letters height at.fits)
    (letters_joined (kind_word coinbase) (32 ∷ script) (kind_letters coinbase) last))))

shorter : (front a b : List ℕ) → length a ≤ length b → length (front ++ 32 ∷ a) ≤ length (front ++ 32 ∷ b)
shorter front a b h = omega (arith, length-append front (32 ∷ a), length-append front (32 ∷ b))

words_short : (id id' : List ℕ) (point : OutPoint) (value height : ℕ) (coinbase : Bool) (script script' : List ℕ)
    → length id ≤ length id' → length script ≤ length script' → length (words id point value height coinbase script) ≤ length (words id' point value height coinbase script')
words_short id id' point value height coinbase script script' ids scripts =
    let rest : List ℕ = decimal point.index ++ 32 ∷ head_text value height coinbase script in
    let rest' : List ℕ = decimal point.index ++ 32 ∷ head_text value height coinbase script' in
    let fewer : length rest ≤ length rest' =
    shorter (decimal point.index) (head_text value height coinbase script) (head_text value height coinbase script')
    (shorter (decimal value) (decimal height ++ 32 ∷ (kind_word coinbase ++ 32 ∷ script)) (decimal height ++ 32 ∷ (kind_word coinbase ++ 32 ∷ script'))
    (shorter (decimal height) (kind_word coinbase ++ 32 ∷ script) (kind_word coinbase ++ 32 ∷ script')
    (shorter (kind_word coinbase) script script' scripts))) in
    omega (arith, fewer, ids, length-append id (32 ∷ rest), length-append id' (32 ∷ rest'))

-- the words are read as what each of them is the word of
words_read : (id : List ℕ) (point : OutPoint) (value height : ℕ) (coinbase : Bool) (word script : List ℕ)
    → has_space id ≡ false → read_id id ≡ Some point.txid → IsSmall point.index → value ≤ max_number → IsSmall height → script_of word ≡ Some script
    → coin_of (words id point value height coinbase word) ≡ Some (coin_with point (head_of value height coinbase) script)
words_read id point value height coinbase word script whole txid index small at is =
    rw (point_at id point (head_text value height coinbase word) whole txid index, head_at value height coinbase word small at, is) refl

coin_printed : (text word rest after : List ℕ) (point : OutPoint) (value height : ℕ) (coinbase : Bool) (script : List ℕ)
    → text ≡ point_text word point rest → rest ≡ head_text value height coinbase after
    → IsIdRead word point.txid → IsSmall point.index → value ≤ max_number → IsSmall height → IsScript after script
    → IsCoinRead text (coin_with point (head_of value height coinbase) script)
coin_printed text word rest after point value height coinbase script one two id index small at is =
    let long : length text ≡ length (words word point value height coinbase after) = ap length (one ∙ ap (point_text word point) two) in
    let short = words_short (id_text point.txid) word point value height coinbase (script_word script) after id.short is.short in
    record {
      read = words_read (id_text point.txid) point value height coinbase (script_word script) script id.whole id.read index small at is.read;
      letters = words_letters (id_text point.txid) point value height coinbase (script_word script) id.letters index small at is.letters;
      short = rw long short;
    }

coin_is : (text rest after script : List ℕ) (point : OutPoint) (head : Head) → IsPoint text (point, rest) → IsHead rest (head, after) → IsScript after script
    → IsCoinRead text (coin_with point head script)
coin_is text rest after script point head p q is =
    subst (λ (h : Head). IsCoinRead text (coin_with point h script)) (sym q.is)
    (coin_printed text p.word rest after point q.value q.height q.coinbase script p.joined q.joined p.id p.index q.small q.at is)

abbrev coin_by : OutPoint → Head → List ℕ → Option OpeningCoin
coin_by point head script = Some (coin_with point head script)

abbrev coin_behind : OutPoint → Head × List ℕ → Option OpeningCoin
coin_behind point q = option_and_then (coin_by point q.0) (script_of q.1)

abbrev coin_parts : OutPoint × List ℕ → Option OpeningCoin
coin_parts p = option_and_then (coin_behind p.0) (coin_head_of p.1)

pub coin_again : (text : List ℕ) (coin : OpeningCoin) → coin_of text ≡ Some coin → IsCoinRead text coin
coin_again text coin h =
    option_and_then_some coin_parts (outpoint_of text) coin h (λ p one more.
    option_and_then_some (coin_behind p.0) (coin_head_of p.1) coin more (λ q two next.
    option_and_then_some (coin_by p.0 q.0) (script_of q.1) coin next (λ script is same.
    subst (IsCoinRead text) (some_is (coin_with p.0 q.0 script) coin same)
    (coin_is text p.1 q.1 script p.0 q.0 (point_joined text p one) (head_joined p.1 q two) (script_again q.1 script is)))))
