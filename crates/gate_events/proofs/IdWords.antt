-- The words of ids and of small numbers: what is printed for each is read as the same.
use Rattle.std.proofs.Common.{◌≡◌, ℕ, ◌*◌, ◌<◌, ◌≤◌, ◌^◌, ◌⊎◌, nat_lt, Bool, true, false, List, length, reverse, Option, Some, None, Result, Ok, Err, refl, ap, sym, subst, ◌∙◌, inl, inr, arith}
use Rattle.std.specs.Fmt.{decimal}
use Rattle.std.specs.Str.{bytes_eq, all_ascii_digits}
use Rattle.std.proofs.lemmas.Fmt.{digits_decimal}
use Rattle.std.proofs.lemmas.List.{reverse-reverse}
use Rattle.std.proofs.lemmas.Option.{option_and_then_some}
use Rattle.hex.specs.Hex.{decode_sized, encode_lower, lower_digits}
use Rattle.hex.specs.declared.error.FromHexError.{FromHexError}
use Rattle.hex.proofs.HexLemmas.{decode_of-ok, decode_sized-encode_lower, decode_sized-ok, decode_sized-twice, length-encode_with}
use Rattle.gate_lines.specs.Numbers.{number_of, small_number_of, fit_small}
use Rattle.gate_lines.proofs.Decimals.{number_decimal}
use Rattle.gate_lines.proofs.NumberParts.{own}
use Rattle.gate_tx.specs.Ids.{id_text, read_id, reversed}
use Rattle.gate_events.proofs.Again.{either, same_word, some_is}
use Rattle.gate_events.proofs.Letters.{all_letters, hex_letters, hex_no_space}
use Rattle.gate_events.proofs.Numbered.{small_decimal}
use Rattle.gate_events.proofs.Spaces.{has_space}

-- ---- ids

-- what is printed for an id that a word was read as
pub record IsIdRead (word id : List ℕ) : Type 0 where
  pub read : read_id (id_text id) ≡ Some id
  pub whole : has_space (id_text id) ≡ false
  pub letters : all_letters (id_text id) ≡ true
  pub short : length (id_text id) ≤ length word

-- of the bytes that a word has, last first
printed_id : (word bytes : List ℕ) → decode_sized word 32 ≡ Ok bytes → IsIdRead word (reverse bytes)
unfolding read_id
printed_id word bytes is =
    let long : length word ≡ 64 = decode_sized-ok word 32 bytes is in
    let of = decode_of-ok word bytes (sym (decode_sized-twice word 32 long) ∙ is) in
    let two : length word ≡ 2 * length bytes = of.2 in
    let size : length bytes ≡ 32 = omega arith in
    let same : encode_lower (reverse (reverse bytes)) ≡ encode_lower bytes = ap encode_lower (reverse-reverse bytes) in
    let digits : length (encode_lower bytes) ≡ 2 * length bytes = length-encode_with lower_digits bytes in
    record {
      read = ap (λ text. reversed (decode_sized text 32)) same ∙ ap reversed (decode_sized-encode_lower bytes 32 size of.3);
      whole = ap has_space same ∙ hex_no_space bytes;
      letters = ap all_letters same ∙ hex_letters bytes of.3;
      short = rw same (omega arith);
    }

pub id_again : (word id : List ℕ) → read_id word ≡ Some id → IsIdRead word id
unfolding read_id
id_again word id h = by (decode_sized word 32) refl h
  where
    by : (read : Result (List ℕ) FromHexError) → decode_sized word 32 ≡ read → reversed read ≡ Some id → IsIdRead word id
    by (Ok bytes) is at = subst (IsIdRead word) (some_is (reverse bytes) id at) (printed_id word bytes is)
    by (Err fault) is at = absurd cc

-- ---- numbers of 32 bits

pub record IsSmall (n : ℕ) : Type 0 where
  pub read : small_number_of (decimal n) ≡ Some n
  pub fits : n < 2 ^ 64

pub small_again : (text : List ℕ) (n : ℕ) → small_number_of text ≡ Some n → IsSmall n
small_again text n h = record {
  read = ap small_number_of (sym (small_decimal text n h)) ∙ h;
  fits = option_and_then_some fit_small (number_of text) n h by;
}
  where
    found : (m : ℕ) → number_of text ≡ Some m → ((nat_lt m (2 ^ 32) ≡ true) × (◌≡◌ {A = Option ℕ} (Some m) (Some n))) ⊎ ((nat_lt m (2 ^ 32) ≡ false) × (◌≡◌ {A = Option ℕ} None (Some n))) → n < 2 ^ 64
    found m is (inl fits) = let same = some_is m n fits.1 in let small = (number_decimal text m is).1 in omega (arith, same, small)
    found m is (inr large) = absurd (let none = large.1 in cc)

    by : (m : ℕ) → number_of text ≡ Some m → fit_small m ≡ Some n → n < 2 ^ 64
    by m is fit = found m is (either (nat_lt m (2 ^ 32)) (Some m) None n fit)

-- ---- a number is no word of letters

pub not_word : (n : ℕ) (word : List ℕ) → n < 2 ^ 64 → all_ascii_digits word ≡ false → bytes_eq (decimal n) word ≡ false
not_word n word fits other = by (bytes_eq (decimal n) word) refl
  where
    by : (same : Bool) → bytes_eq (decimal n) word ≡ same → same ≡ false
    by true is = absurd (let digits = digits_decimal own n fits in let e = ap all_ascii_digits (same_word (decimal n) word is) in cc)
    by false is = refl
