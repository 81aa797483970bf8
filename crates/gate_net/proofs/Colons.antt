-- Groups with colons between them, from their parts and back.
use Rattle.std.proofs.Common.{◌≡◌, ℕ, ◌<◌, ◌≤◌, ◌==◌, nat_lt, nat_le, Bool, true, false, List, [], ◌∷◌, ◌++◌, All, length, map, Option, Some, None, refl, ap, sym, subst, ◌∙◌, inl, inr, arith, append_assoc, append-nil}
use Rattle.std.specs.List.{slice_split, list_any, list_all, join_with_byte}
use Rattle.std.specs.Str.Parse.{AllDigits, digits_value}
use Rattle.std.specs.Char.{digit_value, is_digit}
use Rattle.std.specs.Net.Grammar.{IsDotted, IsGroup, IsGroupsAfter, IsGroups}
use Rattle.std.proofs.lemmas.Bool.{lt-ltb, ltb-true, le-leb, leb-true, true≢false}
use Rattle.std.proofs.lemmas.Bool.Decides.{nat_tests}
use Rattle.std.proofs.lemmas.List.Elements.{All-nil, All-cons}
use Rattle.std.proofs.lemmas.List.Splits.{slice_split_none, slice_split_at, join_with_byte-slice_split}
use Rattle.std.proofs.lemmas.List.Folds.{list_any-append}
use Rattle.gate_net.specs.Addresses.{is_group, numbers_of, groups_of}
use Rattle.gate_net.specs.Spelling.{has_dot}
use Rattle.gate_net.proofs.Bools.{and_left, and_right, and_both, or_both, or_left, or_right, chosen, some_if}
use Rattle.gate_net.proofs.Dotted.{has_dot-dotted}

abbrev pub parts_of : List ℕ → List (List ℕ)
parts_of text = slice_split (λ c. c == 58) text

hex_found : (part : List ℕ) → list_all (λ c. is_digit c 16) part ≡ true → AllDigits 16 part
hex_found [] h = tt
hex_found (c ∷ part) h = (ltb-true _ _ (and_left _ _ h), hex_found part (and_right (is_digit c 16) _ h))

hex_read : (part : List ℕ) → AllDigits 16 part → list_all (λ c. is_digit c 16) part ≡ true
hex_read [] h = refl
hex_read (c ∷ part) h = and_both _ _ (lt-ltb _ _ h.0) (hex_read part h.1)

pub group_found : (part : List ℕ) → is_group part ≡ true → IsGroup part (digits_value 16 part)
group_found part h =
    let some = ltb-true 0 (length part) (and_left _ _ h) in
    let rest = and_right (nat_lt 0 (length part)) _ h in
    let short = leb-true (length part) 4 (and_left _ _ rest) in
    (((some, hex_found part (and_right (nat_le (length part) 4) _ rest)), refl), short)

pub group_read : (part : List ℕ) (s : ℕ) → IsGroup part s → is_group part ≡ true
group_read part s h = and_both _ _ (lt-ltb 0 (length part) h.0.0.0) (and_both _ _ (le-leb (length part) 4 h.1) (hex_read part h.0.0.1))

-- a hexadecimal digit is neither a colon nor a dot
pub no_colon : (c : ℕ) → digit_value c < 16 → (c == 58) ≡ false
no_colon c h = grind (arith, nat_tests)

no_dot : (c : ℕ) → digit_value c < 16 → (c == 46) ≡ false
no_dot c h = grind (arith, nat_tests)

no_colons : (part : List ℕ) → AllDigits 16 part → All (λ c. (c == 58) ≡ false) part
no_colons [] h = All-nil _
no_colons (c ∷ part) h = All-cons (λ c. (c == 58) ≡ false) c part (no_colon c h.0) (no_colons part h.1)

no_dots : (part : List ℕ) → AllDigits 16 part → has_dot part ≡ false
no_dots [] h = refl
no_dots (c ∷ part) h = or_both _ _ (no_dot c h.0) (no_dots part h.1)

group_dots : (part : List ℕ) → is_group part ≡ true → has_dot part ≡ false
group_dots part h = no_dots part (group_found part h).0.0.1

-- the parts between colons are the groups of their joined text
after_found : (ipv4 : Bool) (part : List ℕ) (parts : List (List ℕ)) → list_all is_group (part ∷ parts) ≡ true
    → IsGroupsAfter ipv4 (58 ∷ []) (58 ∷ join_with_byte 58 (part ∷ parts)) (map (digits_value 16) (part ∷ parts))
after_found ipv4 part [] h = inl (part, [], ap (λ l. 58 ∷ l) (sym (append-nil part)), group_found part (and_left _ _ h), refl)
after_found ipv4 part (next ∷ parts) h =
    inl (part, 58 ∷ join_with_byte 58 (next ∷ parts), refl, group_found part (and_left _ _ h), after_found ipv4 next parts (and_right (is_group part) _ h))

pub joined_found : (ipv4 : Bool) (parts : List (List ℕ)) → list_all is_group parts ≡ true → IsGroups ipv4 (join_with_byte 58 parts) (map (digits_value 16) parts)
joined_found ipv4 [] h = refl
joined_found ipv4 (part ∷ []) h = inl (part, [], sym (append-nil part), group_found part (and_left _ _ h), refl)
joined_found ipv4 (part ∷ next ∷ parts) h =
    inl (part, 58 ∷ join_with_byte 58 (next ∷ parts), refl, group_found part (and_left _ _ h), after_found ipv4 next parts (and_right (is_group part) _ h))

pub joined_dots : (parts : List (List ℕ)) → list_all is_group parts ≡ true → has_dot (join_with_byte 58 parts) ≡ false
joined_dots [] h = refl
joined_dots (part ∷ []) h = group_dots part (and_left _ _ h)
joined_dots (part ∷ next ∷ parts) h =
    list_any-append (λ char. char == 46) part (58 ∷ join_with_byte 58 (next ∷ parts))
    ∙ or_both _ _ (group_dots part (and_left _ _ h)) (joined_dots (next ∷ parts) (and_right (is_group part) _ h))

numbers_found : (ipv4 : Bool) (parts : List (List ℕ)) (groups : List ℕ) → numbers_of parts ≡ Some groups
    → IsGroups ipv4 (join_with_byte 58 parts) groups × (has_dot (join_with_byte 58 parts) ≡ false)
numbers_found ipv4 parts groups h =
    let found = some_if _ _ groups h in
    (subst (IsGroups ipv4 (join_with_byte 58 parts)) found.1 (joined_found ipv4 parts found.0), joined_dots parts found.0)

pub groups_found : (ipv4 : Bool) (text groups : List ℕ) → groups_of text ≡ Some groups → IsGroups ipv4 text groups × (has_dot text ≡ false)
groups_found ipv4 [] groups h =
    let none : [] ≡ groups = cc in
    (subst (IsGroups ipv4 []) none refl, refl)
groups_found ipv4 (char ∷ text) groups h =
    subst (λ t. IsGroups ipv4 t groups × (has_dot t ≡ false)) (join_with_byte-slice_split 58 (char ∷ text)) (numbers_found ipv4 (parts_of (char ∷ text)) groups h)

-- and the other way round: what stands behind a group, a colon before each other
record AreParts (group rest groups : List ℕ) : Type 0 where
  parts : List (List ℕ)
  split : parts_of (group ++ rest) ≡ group ∷ parts
  each : list_all is_group parts ≡ true
  value : map (digits_value 16) parts ≡ groups

parts_read : (group rest groups : List ℕ) → AllDigits 16 group → IsGroupsAfter false (58 ∷ []) rest groups → AreParts group rest groups
parts_read group rest [] plain none = record {
  parts = [];
  split = ap (λ r. parts_of (group ++ r)) none ∙ (ap parts_of (append-nil group) ∙ slice_split_none (λ c. c == 58) group (no_colons group plain));
  each = refl;
  value = refl;
}
parts_read group rest (s ∷ groups) plain (inl (next, more, spelled, is, later)) =
    let tail = parts_read next more groups is.0.0.1 later in
    record {
      parts = next ∷ tail.parts;
      split =
          ap (λ r. parts_of (group ++ r)) spelled
          ∙ (slice_split_at (λ c. c == 58) group 58 (next ++ more) (no_colons group plain) refl ∙ ap (λ l. group ∷ l) tail.split);
      each = and_both _ _ (group_read next s is) tail.each;
      value = cc (is.0.1, tail.value);
    }
parts_read group rest (s ∷ groups) plain (inr (last, octets, never, spelled, is, value)) = absurd (true≢false (sym never))

first_read : (group rest groups : List ℕ) (s : ℕ) → IsGroup group s → AreParts group rest groups → groups_of (group ++ rest) ≡ Some (s ∷ groups)
first_read [] rest groups s is tail = absurd (omega (arith, is.0.0.0))
first_read (char ∷ group) rest groups s is tail =
    ap numbers_of tail.split ∙ (chosen _ _ (and_both _ _ (group_read (char ∷ group) s is) tail.each) ∙ cc (is.0.1, tail.value))

pub groups_read : (text groups : List ℕ) → IsGroups false text groups → groups_of text ≡ Some groups
groups_read text [] none = ap groups_of none
groups_read text (s ∷ groups) (inl (group, rest, spelled, is, later)) = ap groups_of spelled ∙ first_read group rest groups s is (parts_read group rest groups is.0.0.1 later)
groups_read text (s ∷ groups) (inr (last, octets, never, spelled, is, value)) = absurd (true≢false (sym never))

-- without a dot in the text, no group is written as an IPv4 address
pub without_dots : (ipv4 : Bool) (lead text groups : List ℕ) → has_dot text ≡ false → IsGroupsAfter ipv4 lead text groups → IsGroupsAfter false lead text groups
without_dots ipv4 lead text [] plain none = none
without_dots ipv4 lead text (s ∷ groups) plain (inl (group, rest, spelled, is, later)) =
    let all : has_dot (lead ++ (group ++ rest)) ≡ false = ap has_dot (sym (append_assoc lead group rest)) ∙ (ap has_dot (sym spelled) ∙ plain) in
    let behind = or_right (has_dot lead) _ (sym (list_any-append (λ char. char == 46) lead (group ++ rest)) ∙ all) in
    let last = or_right (has_dot group) _ (sym (list_any-append (λ char. char == 46) group rest) ∙ behind) in
    inl (group, rest, spelled, is, without_dots ipv4 (58 ∷ []) rest groups last later)
without_dots ipv4 lead text (s ∷ groups) plain (inr (last, octets, _, spelled, is, value)) =
    let all : has_dot (lead ++ last) ≡ false = ap has_dot (sym spelled) ∙ plain in
    let behind = or_right (has_dot lead) _ (sym (list_any-append (λ char. char == 46) lead last) ∙ all) in
    absurd (true≢false (sym (has_dot-dotted last octets is) ∙ behind))
