-- What is printed for an address spells it.
use Rattle.std.proofs.Common.{◌≡◌, ℕ, zero, suc, ◌+◌, ◌<◌, ◌≤◌, ◌^◌, ◌/◌, ◌%◌, ◌==◌, Bool, true, false, List, [], ◌∷◌, length, get_or, map, Some, refl, ap, ap₂, sym, subst, ◌∙◌, inl, arith}
use Rattle.std.specs.List.{list_all, join_with_byte, AllByRecursion}
use Rattle.std.specs.Str.Parse.{digits_value}
use Rattle.std.specs.Fmt.{digits, digits_onto, digit_glyph}
use Rattle.std.specs.Net.Grammar.{IsGroup, IsGroups}
use Rattle.std.proofs.lemmas.Bool.{cond_both}
use Rattle.std.proofs.lemmas.Fmt.{digits_is_IsNumeral}
use Rattle.std.proofs.NetLemmas.Texts.{IsDotted-ipv4_text}
use Rattle.gate_net.specs.Addresses.{Address, V4, V6, is_group, is_mapped, canonical, address_of, address_text}
use Rattle.gate_net.specs.Spelling.{IsAddress}
use Rattle.gate_net.proofs.Bools.{and_both}
use Rattle.gate_net.proofs.Colons.{group_read, joined_found, joined_dots}
use Rattle.gate_net.proofs.Spelled.{address_read}

one_digit : (k n : ℕ) (after : List ℕ) → n < 16 → length (digits_onto k 16 false n after) ≤ 1 + length after
one_digit zero n after h = omega arith
one_digit (suc k) n after h = cond_both (n / 16 == 0) (digit_glyph false (n % 16) ∷ after) (digits_onto k 16 false (n / 16) (digit_glyph false (n % 16) ∷ after)) (λ (l : List ℕ). length l ≤ 1 + length after) (λ _. omega arith) (λ more. absurd (by (n / 16) (omega arith) more))
  where
    by : (m : ℕ) → m ≡ 0 → (m == 0) ≡ false → ⊥
    by m is not = let yes : (m == 0) ≡ true = ap (λ l. l == 0) is in cc

two_digits : (k n : ℕ) (after : List ℕ) → n < 256 → length (digits_onto k 16 false n after) ≤ 2 + length after
two_digits zero n after h = omega arith
two_digits (suc k) n after h = cond_both (n / 16 == 0) (digit_glyph false (n % 16) ∷ after) (digits_onto k 16 false (n / 16) (digit_glyph false (n % 16) ∷ after)) (λ (l : List ℕ). length l ≤ 2 + length after) (λ _. omega arith) (λ _. let rest = one_digit k (n / 16) (digit_glyph false (n % 16) ∷ after) (omega arith) in omega arith)

three_digits : (k n : ℕ) (after : List ℕ) → n < 4096 → length (digits_onto k 16 false n after) ≤ 3 + length after
three_digits zero n after h = omega arith
three_digits (suc k) n after h = cond_both (n / 16 == 0) (digit_glyph false (n % 16) ∷ after) (digits_onto k 16 false (n / 16) (digit_glyph false (n % 16) ∷ after)) (λ (l : List ℕ). length l ≤ 3 + length after) (λ _. omega arith) (λ _. let rest = two_digits k (n / 16) (digit_glyph false (n % 16) ∷ after) (omega arith) in omega arith)

four_digits : (k n : ℕ) (after : List ℕ) → n < 65536 → length (digits_onto k 16 false n after) ≤ 4 + length after
four_digits zero n after h = omega arith
four_digits (suc k) n after h = cond_both (n / 16 == 0) (digit_glyph false (n % 16) ∷ after) (digits_onto k 16 false (n / 16) (digit_glyph false (n % 16) ∷ after)) (λ (l : List ℕ). length l ≤ 4 + length after) (λ _. omega arith) (λ _. let rest = three_digits k (n / 16) (digit_glyph false (n % 16) ∷ after) (omega arith) in omega arith)

short : (n : ℕ) → n < 65536 → length (digits 16 false n) ≤ 4
unfolding digits
short n h = four_digits 64 n [] h

group_printed : (n : ℕ) → n < 65536 → IsGroup (digits 16 false n) n
group_printed n h = (digits_is_IsNumeral 16 false (omega arith) (omega arith) n (omega arith), short n h)

groups_printed : (groups : List ℕ) → AllByRecursion (λ n. n < 65536) groups → list_all is_group (map (digits 16 false) groups) ≡ true
groups_printed [] h = refl
groups_printed (n ∷ groups) h = and_both _ _ (group_read (digits 16 false n) n (group_printed n h.0)) (groups_printed groups h.1)

numbers_printed : (groups : List ℕ) → AllByRecursion (λ n. n < 65536) groups → map (digits_value 16) (map (digits 16 false) groups) ≡ groups
numbers_printed [] h = refl
numbers_printed (n ∷ groups) h = ap₂ (λ m l. m ∷ l) (group_printed n h.0).0.1 (numbers_printed groups h.1)

each_small : (xs : List ℕ) → AllByRecursion (λ n. n < 256) xs → (k : ℕ) → get_or xs k 0 < 2 ^ 8
each_small [] h k = omega arith
each_small (x ∷ xs) h zero = omega (arith, h.0)
each_small (x ∷ xs) h (suc k) = each_small xs h.1 k

pub read_back : (a : Address) → IsAddress a → address_of (address_text a) ≡ Some a
read_back (V4 octets) h = address_read (address_text (V4 octets)) (V4 octets) (V4 octets) (IsDotted-ipv4_text octets h.0 (each_small octets h.1)) refl
read_back (V6 groups) h =
    let all = groups_printed groups h.1 in
    let groups_are : IsGroups true (address_text (V6 groups)) groups = subst (IsGroups true (address_text (V6 groups))) (numbers_printed groups h.1) (joined_found true (map (digits 16 false) groups) all) in
    let same : V6 groups ≡ canonical (V6 groups) = rw h.2 in
    address_read (address_text (V6 groups)) (V6 groups) (V6 groups) (inl (groups_are, h.0), joined_dots (map (digits 16 false) groups) all) same
