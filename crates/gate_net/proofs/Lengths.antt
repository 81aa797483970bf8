-- The number of bits behind a slash, and netmasks.
use Rattle.std.proofs.Common.{◌≡◌, ◌≢◌, ℕ, zero, suc, ◌<◌, ◌≤◌, ◌^◌, ◌==◌, ◌&&◌, nat_lt, nat_le, if◌then◌else◌, Bool, true, false, List, [], ◌∷◌, length, get_or, Option, Some, None, Result, Ok, Err, refl, ap, sym, subst, ◌∙◌, arith, w32}
use lib.Count.{count_leading_zeros}
use Rattle.std.specs.Int.{leading_ones, from_be_bytes}
use Rattle.std.specs.Option.{option_or, option_and_then}
use Rattle.std.specs.Net.Grammar.{IsDotted, IsIpv4Text}
use Rattle.std.specs.declared.net.ipv4_addr.Ipv4Addr.{Ipv4Addr}
use Rattle.std.specs.Str.{all_ascii_digits}
use Rattle.std.specs.Str.Parse.{digits_value, ParsesUnsigned}
use Rattle.std.specs.Char.{is_ascii_digit}
use Rattle.std.proofs.lemmas.Bool.{lt-ltb, ltb-true, le-leb, leb-true, eqb-true, eqb-false, eq-eqb}
use Rattle.std.proofs.lemmas.Str.Parse.{IsNumeralModel, numerals_by_value, tells_all_ascii_digits, parse_plain}
use Rattle.gate_net.specs.Addresses.{Address, V4, V6, dotted_of, is_mapped, canonical}
use Rattle.gate_net.specs.Subnets.{width, prefix_of, netmask, mask_below, mask_length, is_length, length_of}
use Rattle.gate_net.proofs.Bools.{and_left, and_right, and_both, chosen, some_if}
use Rattle.gate_net.proofs.Dotted.{dotted_of-dotted, dotted-dotted_of}

own : IsNumeralModel (λ ds. all_ascii_digits ds ≡ true) (digits_value 10)
own = numerals_by_value _ tells_all_ascii_digits

-- what a number of bits is
pub record IsLength (most : ℕ) (text : List ℕ) : Type 0 where
  pub some : 0 < length text
  pub short : length text < 4
  pub digits : all_ascii_digits text ≡ true
  pub value : digits_value 10 text ≤ most

pub length_found : (most : ℕ) (text : List ℕ) → is_length most text ≡ true → IsLength most text
length_found most text h =
    let a = and_right (nat_lt 0 (length text)) _ h in
    let b = and_right (nat_lt (length text) 4) _ a in
    record {
      some = ltb-true 0 (length text) (and_left _ _ h);
      short = ltb-true (length text) 4 (and_left _ _ a);
      digits = and_left _ _ b;
      value = leb-true (digits_value 10 text) most (and_right (all_ascii_digits text) _ b);
    }

pub length_read : (most : ℕ) (text : List ℕ) → IsLength most text → is_length most text ≡ true
length_read most text h = and_both _ _ (lt-ltb 0 (length text) h.some) (and_both _ _ (lt-ltb (length text) 4 h.short) (and_both _ _ h.digits (le-leb (digits_value 10 text) most h.value)))

if_false : (b : Bool) (n : ℕ) → (b ≡ true → ⊥) → None ≡ (if b then Some n else None)
if_false true n h = absurd (h refl)
if_false false n h = refl

pub not_length : (most : ℕ) (text : List ℕ) → (IsLength most text → ⊥) → None ≡ length_of most text
unfolding length_of
not_length most text h = if_false (is_length most text) _ (λ all. h (length_found most text all))

pub length_long : (most : ℕ) (text : List ℕ) → 3 < length text → None ≡ length_of most text
length_long most text long = not_length most text (λ h. let short = h.short in omega arith)

plus_first : (text : List ℕ) → get_or text 0 0 ≡ 43 → all_ascii_digits text ≡ true → ⊥
plus_first [] first digits = omega arith
plus_first (c ∷ text) first digits =
    let here = and_left (is_ascii_digit c) _ digits in
    let plus : is_ascii_digit 43 ≡ true = ap is_ascii_digit (sym first) ∙ here in
    cc

pub length_plus : (most : ℕ) (text : List ℕ) → get_or text 0 0 ≡ 43 → None ≡ length_of most text
length_plus most text first = not_length most text (λ h. plus_first text first h.digits)

pub length_ok : {E : Type 0} (most : ℕ) (text : List ℕ) (r : Result ℕ E) (n : ℕ) → r ≡ Ok n → n ≤ most → length text ≤ 3 → get_or text 0 0 ≢ 43 → ParsesUnsigned 8 10 text r → Some n ≡ length_of most text
unfolding length_of
length_ok {E} most text r n is small short first h =
    let known = parse_plain own {E = E} 8 text (Ok n) (subst (λ (q : Result ℕ E). ParsesUnsigned 8 10 text q) is h) first in
    let value : n ≡ digits_value 10 text = known.1 in
    let bound : digits_value 10 text ≤ most = omega arith in
    let all = length_read most text (record { some = known.0.1; short = omega arith; digits = known.0.0; value = bound }) in
    ap Some value ∙ sym (chosen _ _ all)

pub length_great : {E : Type 0} (most : ℕ) (text : List ℕ) (r : Result ℕ E) (n : ℕ) → r ≡ Ok n → most < n → get_or text 0 0 ≢ 43 → ParsesUnsigned 8 10 text r → None ≡ length_of most text
length_great {E} most text r n is great first h =
    let known = parse_plain own {E = E} 8 text (Ok n) (subst (λ (q : Result ℕ E). ParsesUnsigned 8 10 text q) is h) first in
    let value : n ≡ digits_value 10 text = known.1 in
    not_length most text (λ l. let bound = l.value in omega arith)

pub length_err : {E : Type 0} (most : ℕ) (text : List ℕ) (e : E) → most < 256 → get_or text 0 0 ≢ 43 → ParsesUnsigned {E = E} 8 10 text (Err e) → None ≡ length_of most text
length_err {E} most text e fits first h =
    let known = parse_plain own {E = E} 8 text (Err e) h first in
    not_length most text (λ l. let bound = l.value in known (l.digits, l.some, omega arith))

-- so many ones, for each netmask there is
all_ones : ℕ → Bool
all_ones zero = true
all_ones (suc n) = (leading_ones w32 (netmask n) == n) && all_ones n

all_known : all_ones 33 ≡ true
unfolding all_ones count_leading_zeros
all_known = refl

ones_below : (k n : ℕ) → n < k → all_ones k ≡ true → leading_ones w32 (netmask n) ≡ n
unfolding all_ones
ones_below zero n h all = absurd (omega arith)
ones_below (suc k) n h all = by (n == k) refl (ones_below k n)
  where
    by : (here : Bool) → (n == k) ≡ here → (n < k → all_ones k ≡ true → leading_ones w32 (netmask n) ≡ n) → leading_ones w32 (netmask n) ≡ n
    by true is later =
        let same : n ≡ k = eqb-true n k is in
        subst (λ m. leading_ones w32 (netmask m) ≡ m) (sym same) (eqb-true _ _ (and_left _ _ all))
    by false is later =
        let other : n ≢ k = eqb-false n k is in
        later (omega arith) (and_right (leading_ones w32 (netmask k) == k) _ all)

ones_mask : (n : ℕ) → n ≤ 32 → leading_ones w32 (netmask n) ≡ n
ones_mask n h = ones_below 33 n (omega arith) all_known

below_found : (k n bits : ℕ) → k ≤ 33 → n < k → bits ≡ netmask n → mask_below k bits ≡ Some n
below_found zero n bits most h is = absurd (omega arith)
below_found (suc k) n bits most h is = by (bits == netmask k) refl (below_found k n bits)
  where
    by : (here : Bool) → (bits == netmask k) ≡ here → (k ≤ 33 → n < k → bits ≡ netmask n → mask_below k bits ≡ Some n) → mask_below (suc k) bits ≡ Some n
    by true at later =
        let same : k ≡ n = sym (ones_mask k (omega arith)) ∙ (ap (λ m. leading_ones w32 m) (sym (eqb-true _ _ at) ∙ is) ∙ ones_mask n (omega arith)) in
        rw at (ap Some same)
    by false at later =
        let other : k ≢ n = λ same. eqb-false _ _ at (is ∙ ap netmask (sym same)) in
        rw at (later (omega arith) (omega arith) is)

below_none : (k bits : ℕ) → k ≤ 33 → ((n : ℕ) → n ≤ 32 → bits ≢ netmask n) → mask_below k bits ≡ None
below_none zero bits most none = refl
below_none (suc k) bits most none = by (bits == netmask k) refl (below_none k bits)
  where
    by : (here : Bool) → (bits == netmask k) ≡ here → (k ≤ 33 → ((n : ℕ) → n ≤ 32 → bits ≢ netmask n) → mask_below k bits ≡ None) → mask_below (suc k) bits ≡ None
    by true at later = absurd (none k (omega arith) (eqb-true _ _ at))
    by false at later = rw at (later (omega arith) none)

pub mask_found : (bits n : ℕ) → n ≤ 32 → bits ≡ netmask n → Some n ≡ mask_length bits
unfolding mask_length
mask_found bits n small is = sym (below_found 33 n bits (omega arith) (omega arith) is)

pub mask_none : (bits : ℕ) → bits ≢ netmask (leading_ones w32 bits) → None ≡ mask_length bits
unfolding mask_length
mask_none bits other = sym (below_none 33 bits (omega arith) (λ n small is. other (is ∙ ap netmask (sym (ap (λ m. leading_ones w32 m) is ∙ ones_mask n small)))))

pub masked : (octets text mask : List ℕ) → None ≡ length_of 32 text → IsDotted text mask → mask_length (from_be_bytes w32 mask) ≡ prefix_of (V4 octets) text
masked octets text mask none is =
    sym (ap (λ o. option_or o (option_and_then (λ m. mask_length (from_be_bytes w32 m)) (dotted_of text))) (sym none)
    ∙ ap (λ d. option_and_then (λ m. mask_length (from_be_bytes w32 m)) d) (dotted_of-dotted text mask is))

none_dotted : (text : List ℕ) → ((a : Ipv4Addr) → ¬ (IsIpv4Text text a)) → dotted_of text ≡ None
none_dotted text none = by (dotted_of text) refl
  where
    by : (found : Option (List ℕ)) → dotted_of text ≡ found → found ≡ None
    by None is = refl
    by (Some octets) is = let a : Ipv4Addr = record { octets = octets } in absurd (none a (dotted-dotted_of text octets is))

pub unmasked : (octets text : List ℕ) → None ≡ length_of 32 text → ((a : Ipv4Addr) → ¬ (IsIpv4Text text a)) → None ≡ prefix_of (V4 octets) text
unmasked octets text none other =
    sym (ap (λ o. option_or o (option_and_then (λ m. mask_length (from_be_bytes w32 m)) (dotted_of text))) (sym none)
    ∙ ap (λ d. option_and_then (λ m. mask_length (from_be_bytes w32 m)) d) (none_dotted text other))

below_small : (k n bits : ℕ) → mask_below k bits ≡ Some n → n < k
below_small zero n bits h = cc
below_small (suc k) n bits h = by (bits == netmask k) refl (below_small k n bits)
  where
    by : (here : Bool) → (bits == netmask k) ≡ here → (mask_below k bits ≡ Some n → n < k) → n < suc k
    by true at later =
        let is : Some k ≡ Some n = rw at at h in
        let same : k ≡ n = cc in
        omega arith
    by false at later =
        let rest : mask_below k bits ≡ Some n = rw at at h in
        let small = later rest in
        omega arith

length_small : (most n : ℕ) (text : List ℕ) → length_of most text ≡ Some n → n ≤ most
unfolding length_of
length_small most n text h =
    let found = some_if (is_length most text) (digits_value 10 text) n h in
    let bound = (length_found most text found.0).value in
    omega arith

either_small : (n : ℕ) (text : List ℕ) (len mask : Option ℕ) → length_of 32 text ≡ len → ((m : ℕ) → mask ≡ Some m → m ≤ 32) → option_or len mask ≡ Some n → n ≤ 32
either_small n text None mask is small h = small n h
either_small n text (Some m) mask is small h =
    let same : m ≡ n = cc in
    subst (λ (k : ℕ). k ≤ 32) same (length_small 32 m text is)

mask_small : (found : Option (List ℕ)) (m : ℕ) → option_and_then (λ mask. mask_length (from_be_bytes w32 mask)) found ≡ Some m → m ≤ 32
unfolding mask_length
mask_small None m h = cc
mask_small (Some mask) m h = let small = below_small 33 m (from_be_bytes w32 mask) h in omega arith

prefix_small : (a : Address) (text : List ℕ) (n : ℕ) → prefix_of a text ≡ Some n → n ≤ width a
prefix_small (V4 octets) text n h = either_small n text (length_of 32 text) _ refl (mask_small (dotted_of text)) h
prefix_small (V6 groups) text n h = length_small 128 n text h

pub slashed_small : (a x : Address) (text : List ℕ) (n : ℕ) → x ≡ canonical a → is_mapped a ≡ false → prefix_of a text ≡ Some n → n ≤ width x
slashed_small a x text n is plain h =
    let same : x ≡ a = is ∙ rw plain in
    subst (λ y. n ≤ width y) (sym same) (prefix_small a text n h)
