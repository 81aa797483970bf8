-- Subnets are read just where they are spelled.
use Rattle.std.proofs.Common.{◌≡◌, ◌⊎◌, ℕ, zero, suc, ◌+◌, ◌<◌, ◌≤◌, ◌==◌, ◌||◌, nat_lt, take, drop, inl, inr, if◌then◌else◌, Bool, true, false, List, [], ◌∷◌, ◌++◌, length, Option, Some, None, Result, Ok, Err, refl, ap, sym, subst, ◌∙◌, arith, w32}
use Rattle.std.specs.List.{position_or_len, before_first, after_first, list_any}
use Rattle.std.specs.Option.{option_map, option_or, option_and_then, ok_or}
use Rattle.std.specs.Int.{from_be_bytes}
use Rattle.std.specs.Str.{all_ascii_digits}
use Rattle.std.specs.Str.Parse.{digits_value}
use Rattle.std.specs.Char.{is_ascii_digit}
use Rattle.std.specs.Net.Grammar.{IsDotted}
use Rattle.std.proofs.lemmas.List.Sums.{split_at_first, passes_at_first}
use Rattle.std.proofs.lemmas.Bool.Decides.{nat_tests}
use Rattle.std.proofs.Math.Seq.{take-append_seam, drop-append-add}
use Rattle.std.proofs.lemmas.Bool.{true≢false, lt-ltb, ltb-true, eqb-true}
use Rattle.gate_rules.specs.declared.NetDenial.{NetDenial}
use Rattle.gate_rules.specs.declared.NetDenial.TheVariants.{BadSubnet, MappedSubnet}
use Rattle.gate_net.specs.Addresses.{Address, V4, V6, dotted_of, written_of, is_mapped, canonical, address_of}
use Rattle.gate_net.specs.Spelling.{has_dot, Spells}
use Rattle.gate_net.specs.Subnets.{Subnet, host, netmask, mask_below, mask_length, is_length, length_of, prefix_of, parted_at, slashed, subnet_at, subnet_of}
use Rattle.gate_net.specs.SubnetTexts.{has_slash, IsLength, IsNetmask, SpellsLength, SpellsHost, SpellsRange, IsParted}
use Rattle.gate_net.proofs.Bools.{and_left, and_right, or_left, or_right, or_both, some_if, chosen}
use Rattle.gate_net.proofs.Dotted.{dotted-dotted_of, dotted_of-dotted, has_dot-dotted}
use Rattle.gate_net.proofs.Lengths.{length_found, length_read, not_length, mask_found, masked}
use Rattle.gate_net.proofs.Spelled.{written_spelled, spelled_written, address_found, address_read}

one_more : (n : ℕ) → 1 + n ≡ suc n
one_more n = omega arith

next : (char : ℕ) (text : List ℕ) → (char == 47) ≡ false → position_or_len (λ char. char == 47) (char ∷ text) ≡ suc (position_or_len (λ char. char == 47) text)
next char text other = rw other (one_more _)

lacks : (text : List ℕ) → list_any (λ char. char == 47) (before_first (λ char. char == 47) text) ≡ false
lacks [] = refl
lacks (char ∷ text) = by (char == 47) refl (lacks text)
  where
    by : (here : Bool) → (char == 47) ≡ here → list_any (λ char. char == 47) (before_first (λ char. char == 47) text) ≡ false → list_any (λ char. char == 47) (before_first (λ char. char == 47) (char ∷ text)) ≡ false
    by true is later = rw is (refl)
    by false is later = subst (λ n. list_any (λ char. char == 47) (take n (char ∷ text)) ≡ false) (sym (next char text is)) (or_both (char == 47) _ is later)

split : (text : List ℕ) → position_or_len (λ char. char == 47) text < length text → text ≡ before_first (λ char. char == 47) text ++ 47 ∷ after_first (λ char. char == 47) text
split text h =
    subst (λ c. text ≡ before_first (λ char. char == 47) text ++ c ∷ after_first (λ char. char == 47) text) (eqb-true _ _ (passes_at_first (λ char. char == 47) text 0 h)) (split_at_first (λ char. char == 47) text 0 h)

parted_found : (text left right : List ℕ) → parted_at 47 text ≡ Some (left, right) → IsParted text left right
unfolding parted_at
parted_found text left right h =
    let e = some_if _ _ _ h in
    let l : before_first (λ char. char == 47) text ≡ left = ap (λ (p : List ℕ × List ℕ). p.0) e.1 in
    let r : after_first (λ char. char == 47) text ≡ right = ap (λ (p : List ℕ × List ℕ). p.1) e.1 in (
      split text (ltb-true _ _ e.0) ∙ (ap (λ l. l ++ 47 ∷ after_first (λ char. char == 47) text) l ∙ ap (λ r. left ++ 47 ∷ r) r),
      subst (λ l. has_slash l ≡ false) l (lacks text),
    )

-- a text without a slash is not parted
at_end : (text : List ℕ) → has_slash text ≡ false → position_or_len (λ char. char == 47) text ≡ length text
at_end [] h = refl
at_end (char ∷ text) h = next char text (or_left (char == 47) _ h) ∙ ap suc (at_end text (or_right (char == 47) _ h))

not_below : (n : ℕ) → nat_lt n n ≡ false
not_below n = grind (arith, nat_tests)

whole_read : (text : List ℕ) → has_slash text ≡ false → parted_at 47 text ≡ None
unfolding parted_at
whole_read text h = rw (at_end text h) (rw (not_below (length text)) refl)

-- one with a slash is
at_slash : (left right : List ℕ) → has_slash left ≡ false → position_or_len (λ char. char == 47) (left ++ 47 ∷ right) ≡ length left
at_slash [] right h = refl
at_slash (char ∷ left) right h = next char (left ++ 47 ∷ right) (or_left (char == 47) _ h) ∙ ap suc (at_slash left right (or_right (char == 47) _ h))

shorter : (left right : List ℕ) → length left < length (left ++ 47 ∷ right)
shorter [] right = omega arith
shorter (char ∷ left) right = let h = shorter left right in omega arith

pair : {a b c d : List ℕ} → a ≡ b → c ≡ d → ◌≡◌ {A = List ℕ × List ℕ} (a, c) (b, d)
pair p q = rw (p, q) refl

parted_read : (text left right : List ℕ) → IsParted text left right → parted_at 47 text ≡ Some (left, right)
unfolding parted_at
parted_read text left right h =
    rw (h.0) (rw (at_slash left right h.1) (rw (lt-ltb _ _ (shorter left right)) (ap Some (pair (take-append_seam left (47 ∷ right)) (drop-append-add left (47 ∷ right) 1)))))

-- nor is one without a slash
slash_below : (text : List ℕ) → has_slash text ≡ true → position_or_len (λ char. char == 47) text < length text
slash_below [] h = cc
slash_below (char ∷ text) h = by (char == 47) refl (slash_below text) h
  where
    by : (here : Bool) → (char == 47) ≡ here → (has_slash text ≡ true → position_or_len (λ char. char == 47) text < length text) → has_slash (char ∷ text) ≡ true → position_or_len (λ char. char == 47) (char ∷ text) < suc (length text)
    by true is later any = rw is (omega arith)
    by false is later any =
        let below = later (rw is at any) in
        rw (next char text is) (omega arith)

whole_found : (text : List ℕ) → parted_at 47 text ≡ None → has_slash text ≡ false
unfolding parted_at
whole_found text h = by (has_slash text) refl
  where
    by : (has : Bool) → has_slash text ≡ has → has ≡ false
    by false is = refl
    by true is = let test = lt-ltb _ _ (slash_below text is) in cc

-- netmasks
below_is : (k bits n : ℕ) → mask_below k bits ≡ Some n → (n < k) × (bits ≡ netmask n)
below_is zero bits n h = cc
below_is (suc k) bits n h = by (bits == netmask k) refl (below_is k bits n)
  where
    by : (here : Bool) → (bits == netmask k) ≡ here → (mask_below k bits ≡ Some n → (n < k) × (bits ≡ netmask n)) → (n < suc k) × (bits ≡ netmask n)
    by true at later =
        let same : k ≡ n = cc in
        (omega arith, eqb-true _ _ at ∙ ap netmask same)
    by false at later =
        let e = later (rw at at h) in
        let small = e.0 in
        (omega arith, e.1)

mask_is : (bits n : ℕ) → mask_length bits ≡ Some n → (bits ≡ netmask n) × (n ≤ 32)
unfolding mask_length
mask_is bits n h = let e = below_is 33 bits n h in let small = e.0 in (e.1, omega arith)

-- numbers of bits
length_is : (most : ℕ) (text : List ℕ) (n : ℕ) → length_of most text ≡ Some n → IsLength most text n
unfolding length_of
length_is most text n h =
    let e = some_if _ _ _ h in
    let all = length_found most text e.0 in
    (all.some, all.short, all.digits, e.1, subst (λ m. m ≤ most) e.1 all.value)

length_told : (most : ℕ) (text : List ℕ) (n : ℕ) → IsLength most text n → length_of most text ≡ Some n
unfolding length_of
length_told most text n h =
    chosen _ _ (length_read most text (record { some = h.0; short = h.1; digits = h.2; value = subst (λ m. m ≤ most) (sym h.3) h.4 })) ∙ ap Some h.3

digits_only : (text : List ℕ) → all_ascii_digits text ≡ true → has_dot text ≡ false
digits_only [] h = refl
digits_only (char ∷ text) h = or_both (char == 46) _ (no_dot (char == 46) refl) (digits_only text (and_right (is_ascii_digit char) _ h))
  where
    no_dot : (dot : Bool) → (char == 46) ≡ dot → dot ≡ false
    no_dot false is = refl
    no_dot true is = let digit : is_ascii_digit 46 ≡ true = ap is_ascii_digit (sym (eqb-true _ _ is)) ∙ and_left (is_ascii_digit char) _ h in cc

dotted_is_none : (most : ℕ) (text octets : List ℕ) → IsDotted text octets → None ≡ length_of most text
dotted_is_none most text octets is = not_length most text (λ all. true≢false (sym (has_dot-dotted text octets is) ∙ digits_only text all.digits))

prefix_found : (a : Address) (text : List ℕ) (n : ℕ) → prefix_of a text ≡ Some n → SpellsLength a text n
prefix_found (V6 groups) text n h = length_is 128 text n h
prefix_found (V4 octets) text n h = by (length_of 32 text) (dotted_of text) refl refl h
  where
    by : (number : Option ℕ) (mask : Option (List ℕ)) → length_of 32 text ≡ number → dotted_of text ≡ mask → option_or number (option_and_then (λ mask. mask_length (from_be_bytes w32 mask)) mask) ≡ Some n → SpellsLength (V4 octets) text n
    by (Some m) mask is other e = inl (length_is 32 text n (is ∙ e))
    by None (Some mask) is other e = let m = mask_is _ n e in inr (mask, dotted-dotted_of text mask other, m.0, m.1)
    by None None is other e = cc

prefix_told : (a : Address) (text : List ℕ) (n : ℕ) → SpellsLength a text n → prefix_of a text ≡ Some n
prefix_told (V6 groups) text n h = length_told 128 text n h
prefix_told (V4 octets) text n (inl h) = ap (λ o. option_or o (option_and_then (λ mask. mask_length (from_be_bytes w32 mask)) (dotted_of text))) (length_told 32 text n h)
prefix_told (V4 octets) text n (inr h) = sym (masked octets text h.0 (dotted_is_none 32 text h.0 h.1) h.1) ∙ sym (mask_found _ n h.3 h.2)

-- subnets
ranged_found : (left right : List ℕ) (subnet : Subnet) (written : Option Address) → written_of left ≡ written → slashed right written ≡ Ok subnet
    → Spells left subnet.address × (is_mapped subnet.address ≡ false) × SpellsLength subnet.address right subnet.prefix
ranged_found left right subnet None is h = cc
ranged_found left right subnet (Some a) is h = by (is_mapped a) (prefix_of a right) refl refl h
  where
    by : (mapped : Bool) (prefix : Option ℕ) → is_mapped a ≡ mapped → prefix_of a right ≡ prefix → (if mapped then Err MappedSubnet else ok_or (option_map (λ n. record { address = a; prefix = n }) prefix) BadSubnet) ≡ Ok subnet
        → Spells left subnet.address × (is_mapped subnet.address ≡ false) × SpellsLength subnet.address right subnet.prefix
    by true prefix m p e = cc
    by false None m p e = cc
    by false (Some n) m p e =
        let same : a ≡ subnet.address = cc in
        let number : n ≡ subnet.prefix = cc in (
          subst (Spells left) same (spelled_written left a is),
          ap is_mapped (sym same) ∙ m,
          subst (λ a. SpellsLength a right subnet.prefix) same (subst (SpellsLength a right) number (prefix_found a right n p)),
        )

pub subnet_found : (text : List ℕ) (subnet : Subnet) → subnet_of text ≡ Ok subnet → SpellsHost text subnet ⊎ SpellsRange text subnet
unfolding subnet_of
subnet_found text subnet h = by (parted_at 47 text) refl h
  where
    host_found : (a : Option Address) → address_of text ≡ a → ok_or (option_map host a) BadSubnet ≡ Ok subnet → (written : Address) × Spells text written × (subnet ≡ host (canonical written))
    host_found None is e = cc
    host_found (Some a) is e =
        let w = address_found text a is in
        let same : subnet ≡ host a = cc in
        (w.0, w.1, same ∙ ap host w.2)

    by : (parts : Option (List ℕ × List ℕ)) → parted_at 47 text ≡ parts → subnet_at text parts ≡ Ok subnet → SpellsHost text subnet ⊎ SpellsRange text subnet
    by None is e = inl (whole_found text is, host_found (address_of text) refl e)
    by (Some p) is e = let r = ranged_found p.0 p.1 subnet (written_of p.0) refl e in inr (p.0, p.1, parted_found text p.0 p.1 is, r.0, r.1, r.2)

pub subnet_read : (text : List ℕ) (subnet : Subnet) → SpellsHost text subnet ⊎ SpellsRange text subnet → subnet_of text ≡ Ok subnet
unfolding subnet_of
subnet_read text subnet (inl h) =
    rw (whole_read text h.0, address_read text (canonical h.1.0) h.1.0 h.1.1 refl) (ap Ok (sym h.1.2))
subnet_read text subnet (inr h) =
    rw (parted_read text h.0 h.1 h.2, written_spelled h.0 subnet.address h.3, h.4, prefix_told subnet.address h.1 subnet.prefix h.5) refl

pub mapped_found : (text : List ℕ) → subnet_of text ≡ Err MappedSubnet
    → (left : List ℕ) × (right : List ℕ) × IsParted text left right × ((written : Address) × Spells left written × (is_mapped written ≡ true))
unfolding subnet_of
mapped_found text h = by (parted_at 47 text) refl h
  where
    mapped : (left right : List ℕ) (written : Option Address) → written_of left ≡ written → slashed right written ≡ Err MappedSubnet → (written : Address) × Spells left written × (is_mapped written ≡ true)
    mapped left right None is e = cc
    mapped left right (Some a) is e = (a, spelled_written left a is, yes (is_mapped a) (prefix_of a right) e)
      where
        yes : (mapped : Bool) (prefix : Option ℕ) → ◌≡◌ {A = Result Subnet NetDenial} (if mapped then Err MappedSubnet else ok_or (option_map (λ n. record { address = a; prefix = n }) prefix) BadSubnet) (Err MappedSubnet) → mapped ≡ true
        yes true prefix e = refl
        yes false None e = cc
        yes false (Some n) e = cc

    whole : (a : Option Address) → ok_or (option_map host a) BadSubnet ≡ Err MappedSubnet → ⊥
    whole None e = cc
    whole (Some a) e = cc

    by : (parts : Option (List ℕ × List ℕ)) → parted_at 47 text ≡ parts → subnet_at text parts ≡ Err MappedSubnet
        → (left : List ℕ) × (right : List ℕ) × IsParted text left right × ((written : Address) × Spells left written × (is_mapped written ≡ true))
    by None is e = absurd (whole (address_of text) e)
    by (Some p) is e = (p.0, p.1, parted_found text p.0 p.1 is, mapped p.0 p.1 (written_of p.0) refl e)

pub mapped_read : (text : List ℕ)
    → ((left : List ℕ) × (right : List ℕ) × IsParted text left right × ((written : Address) × Spells left written × (is_mapped written ≡ true)))
    → subnet_of text ≡ Err MappedSubnet
unfolding subnet_of
mapped_read text h = rw (parted_read text h.0 h.1 h.2, written_spelled h.0 h.3.0 h.3.1, h.3.2) refl
