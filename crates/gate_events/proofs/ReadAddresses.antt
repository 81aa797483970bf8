-- What is read as an address is one, and the text that is printed for it is of letters.
use Rattle.std.proofs.Common.{◌≡◌, ℕ, zero, suc, ◌+◌, ◌-◌, ◌*◌, ◌<◌, ◌≤◌, ◌^◌, Bool, true, false, if◌then◌else◌, List, [], ◌∷◌, ◌++◌, length, get_or, drop, replicate, map, codes, Some, refl, ap, sym, subst, ◌∙◌, inl, inr, arith, length-append}
use Rattle.std.specs.Char.{digit_value}
use Rattle.std.specs.Fmt.{decimal, digits}
use Rattle.std.specs.List.{AllByRecursion, join_with_byte}
use Rattle.std.specs.Net.Addr.{octets_of, segments_of}
use Rattle.std.specs.Net.Grammar.{IsDotted, IsGroup, IsGroupsAfter, IsColonHex}
use Rattle.std.specs.Str.Parse.{AllDigits, digits_value}
use Rattle.std.proofs.Math.Nat.{pow-le-pow_right}
use Rattle.std.proofs.lemmas.Bool.Decides.{nat_tests}
use Rattle.std.proofs.lemmas.Fmt.{digits_is_IsNumeral}
use Rattle.std.proofs.lemmas.Int.Digits.{digits_value-lt}
use Rattle.std.proofs.lemmas.List.{length-replicate}
use Rattle.std.proofs.lemmas.List.Folds.{list_all-append}
use Rattle.gate_lines.proofs.NumberParts.{and_both}
use Rattle.gate_net.specs.Addresses.{Address, V4, V6, is_mapped, canonical, address_of, address_text}
use Rattle.gate_net.specs.Spelling.{Spells, IsAddress}
use Rattle.gate_net.proofs.Spelled.{address_found}
use Rattle.gate_events.proofs.Letters.{is_letter, all_letters, letters_joined, number_letters}

abbrev AreOctets : List ℕ → Type 0
AreOctets octets = AllByRecursion (λ n. n < 256) octets

abbrev AreGroups : List ℕ → Type 0
AreGroups groups = AllByRecursion (λ n. n < 65536) groups

groups_joined : (a b : List ℕ) → AreGroups a → AreGroups b → AreGroups (a ++ b)
groups_joined [] b first second = second
groups_joined (s ∷ a) b first second = (first.0, groups_joined a b first.1 second)

groups_zero : (n : ℕ) → AreGroups (replicate n 0)
groups_zero zero = tt
groups_zero (suc n) = (omega arith, groups_zero n)

groups_behind : (n : ℕ) (groups : List ℕ) → AreGroups groups → AreGroups (drop n groups)
groups_behind zero groups h = h
groups_behind (suc n) [] h = tt
groups_behind (suc n) (s ∷ groups) h = groups_behind n groups h.1

-- ---- what the grammar spells

group_small : (text : List ℕ) (s : ℕ) → IsGroup text s → s < 65536
group_small text s is =
    let value : digits_value 16 text < 16 ^ length text = digits_value-lt 16 text is.0.0.1 in
    let most : 16 ^ length text ≤ 16 ^ 4 = pow-le-pow_right {n = 16} (omega arith) is.1 in
    let same : digits_value 16 text ≡ s = is.0.1 in
    omega arith

dotted_segments : (text octets : List ℕ) → IsDotted text octets → AreGroups (segments_of octets)
dotted_segments text octets is =
    let fit = is.fit in
    subst (λ l. AreGroups (segments_of l)) (sym is.value) (omega arith, (omega arith, tt))

groups_small : (ipv4 : Bool) (lead text groups : List ℕ) → IsGroupsAfter ipv4 lead text groups → AreGroups groups
groups_small ipv4 lead text [] is = tt
groups_small ipv4 lead text (s ∷ groups) (inl (group, rest, spelled, is, later)) = (group_small group s is, groups_small ipv4 (58 ∷ []) rest groups later)
groups_small ipv4 lead text (s ∷ groups) (inr (last, octets, may, spelled, is, value)) = subst AreGroups (sym value) (dotted_segments last octets is)

colon_hex_groups : (text groups : List ℕ) → IsColonHex text groups → (length groups ≡ 8) × AreGroups groups
colon_hex_groups text groups (inl (is, count)) = (count, groups_small true [] text groups is)
colon_hex_groups text groups (inr e) =
    let head = groups_small false [] e.head_text e.head e.head_groups in
    let tail = groups_small true [] e.tail_text e.tail e.tail_groups in
    let few : length e.head + length e.tail < 8 = e.room in
    let zeros : List ℕ = replicate (8 - length e.head - length e.tail) 0 in
    let zero_count : length zeros ≡ 8 - length e.head - length e.tail = length-replicate _ 0 in
    let count : length (e.head ++ zeros ++ e.tail) ≡ 8 = length-append (e.head ++ zeros) e.tail ∙ ap (λ n. n + length e.tail) (length-append e.head zeros) ∙ omega arith in (
      ap length e.value ∙ count,
      subst AreGroups (sym e.value) (groups_joined (e.head ++ zeros) e.tail (groups_joined e.head zeros head (groups_zero _)) tail),
    )

-- ---- the address itself

octets_small : (groups : List ℕ) → AreGroups groups → AreOctets (octets_of groups)
octets_small [] h = tt
octets_small (s ∷ groups) h = let small = h.0 in (omega arith, (omega arith, octets_small groups h.1))

octets_count : (groups : List ℕ) → length (octets_of groups) ≡ 2 * length groups
octets_count [] = refl
octets_count (s ∷ groups) = let rest = octets_count groups in omega arith

behind_count : (n : ℕ) (groups : List ℕ) → length (drop n groups) ≡ length groups - n
behind_count zero groups = omega arith
behind_count (suc n) [] = omega arith
behind_count (suc n) (s ∷ groups) = let rest = behind_count n groups in omega arith

canonical_is : (text : List ℕ) (written : Address) → Spells text written → IsAddress (canonical written)
canonical_is text (V4 octets) is =
    let fit = is.fit in
    subst (λ l. IsAddress (V4 l)) (sym is.value) (refl, (fit.0, (fit.1, (fit.2, (fit.3, tt)))))
canonical_is text (V6 groups) is = by (is_mapped (V6 groups)) refl
  where
    known : (length groups ≡ 8) × AreGroups groups
    known = colon_hex_groups text groups is.0

    by : (mapped : Bool) → is_mapped (V6 groups) ≡ mapped → IsAddress (if mapped then V4 (octets_of (drop 6 groups)) else V6 groups)
    by true at =
        let eight : length groups ≡ 8 = known.0 in
        let two = behind_count 6 groups in
        let count = octets_count (drop 6 groups) in
        (omega arith, octets_small (drop 6 groups) (groups_behind 6 groups known.1))
    by false at = (known.0, known.1, at)

-- what a text is read as
pub address_is : (text : List ℕ) (a : Address) → address_of text ≡ Some a → IsAddress a
address_is text a read =
    let found = address_found text a read in
    subst IsAddress (sym found.2) (canonical_is text found.0 found.1)

-- ---- its text

hex_letter : (c : ℕ) → digit_value c < 16 → is_letter c ≡ true
hex_letter c h = grind (arith, nat_tests)

hexes_letters : (text : List ℕ) → AllDigits 16 text → all_letters text ≡ true
hexes_letters [] h = refl
hexes_letters (c ∷ text) h = and_both _ _ (hex_letter c h.0) (hexes_letters text h.1)

group_letters : (n : ℕ) → n < 65536 → all_letters (digits 16 false n) ≡ true
group_letters n small = hexes_letters (digits 16 false n) (digits_is_IsNumeral 16 false (omega arith) (omega arith) n (omega arith)).0.1

groups_letters : (groups : List ℕ) → AreGroups groups → all_letters (join_with_byte 58 (map (digits 16 false) groups)) ≡ true
groups_letters [] h = refl
groups_letters (n ∷ []) h = group_letters n h.0
groups_letters (n ∷ m ∷ groups) h =
    letters_joined (digits 16 false n) (58 ∷ join_with_byte 58 (map (digits 16 false) (m ∷ groups))) (group_letters n h.0) (groups_letters (m ∷ groups) h.1)

octet_small : (octets : List ℕ) (k : ℕ) → AreOctets octets → get_or octets k 0 < 2 ^ 64
octet_small [] k h = omega arith
octet_small (n ∷ octets) zero h = let small = h.0 in omega arith
octet_small (n ∷ octets) (suc k) h = octet_small octets k h.1

dotted_letters : (a b c d : List ℕ) → all_letters a ≡ true → all_letters b ≡ true → all_letters c ≡ true → all_letters d ≡ true
    → all_letters (a ++ codes "." ++ b ++ codes "." ++ c ++ codes "." ++ d) ≡ true
dotted_letters a b c d p q r s =
    simp (list_all-append is_letter) (rw (p, q, r, s) refl)

pub address_letters : (a : Address) → IsAddress a → all_letters (address_text a) ≡ true
address_letters (V4 octets) is =
    let printed : ℕ → List ℕ = λ k. decimal (get_or octets k 0) in
    let at : (k : ℕ) → all_letters (printed k) ≡ true = λ k. number_letters (get_or octets k 0) (octet_small octets k is.1) in
    dotted_letters (printed 0) (printed 1) (printed 2) (printed 3) (at 0) (at 1) (at 2) (at 3)
address_letters (V6 groups) is = groups_letters groups is.1
