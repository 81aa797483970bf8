-- The double colon: where it stands, and what stands on each side of it.
use Rattle.std.proofs.Common.{◌≡◌, ℕ, ◌<◌, ◌==◌, ◌&&◌, nat_lt, Bool, true, false, List, [], ◌∷◌, ◌++◌, length, drop, Option, Some, None, refl, ap, sym, subst, ◌∙◌, inl, inr, arith, append_assoc, append-nil}
use Rattle.std.specs.List.{list_any}
use Rattle.std.specs.Option.{option_map, option_and_then}
use Rattle.std.specs.Str.Parse.{AllDigits}
use Rattle.std.specs.Net.Grammar.{IsGroup, IsGroupsAfter, IsGroups, IsElided, IsColonHex}
use Rattle.std.proofs.lemmas.Bool.{true≢false, lt-ltb, ltb-true, eqb-true, eq-eqb}
use Rattle.std.proofs.lemmas.List.Folds.{list_any-append}
use Rattle.std.proofs.lemmas.Option.{option_and_then_some}
use Rattle.gate_net.specs.Addresses.{begins_with_colon, elided, eight, filled, groups_of, colon_hex, colon_hex_of}
use Rattle.gate_net.specs.Spelling.{has_dot}
use Rattle.gate_net.proofs.Bools.{and_left, and_right, or_both, or_left, or_right, chosen, some_if}
use Rattle.gate_net.proofs.Colons.{no_colon, groups_found, groups_read, without_dots}

-- the parts, with a text before the first
abbrev carried : List ℕ → Option (List ℕ × List ℕ) → Option (List ℕ × List ℕ)
carried text found = option_map (λ p. (text ++ p.0, p.1)) found

carried_twice : (xs ys : List ℕ) (found : Option (List ℕ × List ℕ)) → carried xs (carried ys found) ≡ carried (xs ++ ys) found
carried_twice xs ys None = refl
carried_twice xs ys (Some p) = ap (λ l. Some (l, p.1)) (sym (append_assoc xs ys p.0))

carried_nothing : (found : Option (List ℕ × List ℕ)) → found ≡ carried [] found
carried_nothing None = refl
carried_nothing (Some p) = refl

-- one step of the search, where no double colon stands here
stepped : (char : ℕ) (text : List ℕ) → ((char == 58) && begins_with_colon text) ≡ false → elided (char ∷ text) ≡ carried (char ∷ []) (elided text)
stepped char text h = rw h

not_here : (a b : Bool) → a ≡ false → (a && b) ≡ false
not_here true b h = cc
not_here false b h = refl

not_next : (a b : Bool) → b ≡ false → (a && b) ≡ false
not_next true b h = h
not_next false b h = refl

over_digits : (group text : List ℕ) → AllDigits 16 group → elided (group ++ text) ≡ carried group (elided text)
over_digits [] text h = carried_nothing (elided text)
over_digits (char ∷ group) text h =
    stepped char (group ++ text) (not_here _ _ (no_colon char h.0))
    ∙ (ap (carried (char ∷ [])) (over_digits group text h.1) ∙ carried_twice (char ∷ []) group (elided text))

no_colon_first : (group text : List ℕ) → 0 < length group → AllDigits 16 group → begins_with_colon (group ++ text) ≡ false
no_colon_first [] text some h = absurd (omega arith)
no_colon_first (char ∷ group) text some h = no_colon char h.0

over_later : (text groups more : List ℕ) → IsGroupsAfter false (58 ∷ []) text groups → elided (text ++ more) ≡ carried text (elided more)
over_later text [] more none = subst (λ t. elided (t ++ more) ≡ carried t (elided more)) (sym none) (carried_nothing (elided more))
over_later text (s ∷ groups) more (inl (group, rest, spelled, is, later)) =
    let digits = is.0.0.1 in
    let behind : elided ((group ++ rest) ++ more) ≡ carried (group ++ rest) (elided more) =
    ap elided (append_assoc group rest more)
    ∙ (over_digits group (rest ++ more) digits ∙ (ap (carried group) (over_later rest groups more later) ∙ carried_twice group rest (elided more))) in
    let first : begins_with_colon ((group ++ rest) ++ more) ≡ false = ap begins_with_colon (append_assoc group rest more) ∙ no_colon_first group (rest ++ more) is.0.0.0 digits in
    let all : elided ((58 ∷ (group ++ rest)) ++ more) ≡ carried (58 ∷ (group ++ rest)) (elided more) =
    stepped 58 ((group ++ rest) ++ more) (not_next (58 == 58) _ first) ∙ (ap (carried (58 ∷ [])) behind ∙ carried_twice (58 ∷ []) (group ++ rest) (elided more)) in
    subst (λ t. elided (t ++ more) ≡ carried t (elided more)) (sym spelled) all
over_later text (s ∷ groups) more (inr (last, octets, never, spelled, is, value)) = absurd (true≢false (sym never))

-- no double colon stands in groups with colons between them
over_groups : (text groups more : List ℕ) → IsGroups false text groups → elided (text ++ more) ≡ carried text (elided more)
over_groups text [] more none = subst (λ t. elided (t ++ more) ≡ carried t (elided more)) (sym none) (carried_nothing (elided more))
over_groups text (s ∷ groups) more (inl (group, rest, spelled, is, later)) =
    let all : elided ((group ++ rest) ++ more) ≡ carried (group ++ rest) (elided more) =
    ap elided (append_assoc group rest more)
    ∙ (over_digits group (rest ++ more) is.0.0.1 ∙ (ap (carried group) (over_later rest groups more later) ∙ carried_twice group rest (elided more))) in
    subst (λ t. elided (t ++ more) ≡ carried t (elided more)) (sym spelled) all
over_groups text (s ∷ groups) more (inr (last, octets, never, spelled, is, value)) = absurd (true≢false (sym never))

whole_read : (text groups : List ℕ) → IsGroups false text groups → elided text ≡ None
whole_read text groups is = ap elided (sym (append-nil text)) ∙ over_groups text groups [] is

parted_read : (head tail groups : List ℕ) → IsGroups false head groups → elided (head ++ (58 ∷ 58 ∷ tail)) ≡ Some (head, tail)
parted_read head tail groups is = over_groups head groups (58 ∷ 58 ∷ tail) is ∙ ap (λ l. Some (l, tail)) (append-nil head)

pub colon_hex_read : (text groups : List ℕ) → IsColonHex text groups → has_dot text ≡ false → colon_hex_of text ≡ Some groups
unfolding colon_hex_of
colon_hex_read text groups (inl (is, count)) plain =
    let all = without_dots true [] text groups plain is in
    ap (colon_hex text) (whole_read text groups all) ∙ (ap (option_and_then eight) (groups_read text groups all) ∙ chosen _ groups (eq-eqb _ _ count))
colon_hex_read text groups (inr e) plain =
    let spelled : text ≡ e.head_text ++ (58 ∷ 58 ∷ e.tail_text) = e.spelled ∙ append_assoc e.head_text (58 ∷ 58 ∷ []) e.tail_text in
    let all : has_dot (e.head_text ++ (58 ∷ 58 ∷ e.tail_text)) ≡ false = ap has_dot (sym spelled) ∙ plain in
    let behind = or_right (has_dot e.head_text) _ (sym (list_any-append (λ char. char == 46) e.head_text (58 ∷ 58 ∷ e.tail_text)) ∙ all) in
    let tail = without_dots true [] e.tail_text e.tail behind e.tail_groups in
    ap (λ t. colon_hex text (elided t)) spelled
    ∙ (ap (colon_hex text) (parted_read e.head_text e.tail_text e.head e.head_groups)
    ∙ (ap (λ h. option_and_then (λ head. option_and_then (λ tail. filled head tail) (groups_of e.tail_text)) h) (groups_read e.head_text e.head e.head_groups)
    ∙ (ap (λ t. option_and_then (λ tail. filled e.head tail) t) (groups_read e.tail_text e.tail tail)
    ∙ (chosen _ _ (lt-ltb _ _ e.room) ∙ ap Some (sym e.value)))))

-- and back: where the double colon is found
colon_first : (text : List ℕ) → begins_with_colon text ≡ true → text ≡ 58 ∷ drop 1 text
colon_first [] h = cc
colon_first (char ∷ text) h = ap (λ c. c ∷ text) (eqb-true char 58 h)

same_parts : (a b c d : List ℕ) → ◌≡◌ {A = Option (List ℕ × List ℕ)} (Some (a, b)) (Some (c, d)) → (a ≡ c) × (b ≡ d)
same_parts a b c d h =
    let pairs : ◌≡◌ {A = List ℕ × List ℕ} (a, b) (c, d) = cc in
    (ap (λ p. p.0) pairs, ap (λ p. p.1) pairs)

found_here : (char : ℕ) (text head tail : List ℕ) → ((char == 58) && begins_with_colon text) ≡ true → elided (char ∷ text) ≡ Some (head, tail) → char ∷ text ≡ head ++ (58 ∷ 58 ∷ tail)
found_here char text head tail here found =
    let is : Some ([], drop 1 text) ≡ Some (head, tail) = rw here at found in
    let first = eqb-true char 58 (and_left _ _ here) in
    let next = colon_first text (and_right (char == 58) _ here) in
    let same = same_parts [] (drop 1 text) head tail is in
    subst (λ h. char ∷ text ≡ h ++ (58 ∷ 58 ∷ tail)) same.0 (ap (λ c. c ∷ text) first ∙ (ap (λ t. 58 ∷ t) next ∙ ap (λ t. 58 ∷ 58 ∷ t) same.1))

found_later : (char : ℕ) (text head tail : List ℕ) (found : Option (List ℕ × List ℕ)) → ((h t : List ℕ) → found ≡ Some (h, t) → text ≡ h ++ (58 ∷ 58 ∷ t))
    → carried (char ∷ []) found ≡ Some (head, tail) → char ∷ text ≡ head ++ (58 ∷ 58 ∷ tail)
found_later char text head tail None later is = cc
found_later char text head tail (Some p) later is =
    let same = same_parts (char ∷ p.0) p.1 head tail is in
    subst (λ h. char ∷ text ≡ h ++ (58 ∷ 58 ∷ tail)) same.0 (ap (λ t. char ∷ t) (later p.0 p.1 refl ∙ ap (λ t. p.0 ++ (58 ∷ 58 ∷ t)) same.1))

parted_found : (text head tail : List ℕ) → elided text ≡ Some (head, tail) → text ≡ head ++ (58 ∷ 58 ∷ tail)
parted_found [] head tail h = cc
parted_found (char ∷ text) head tail h = by ((char == 58) && begins_with_colon text) refl (parted_found text)
  where
    by : (here : Bool) → ((char == 58) && begins_with_colon text) ≡ here → ((h t : List ℕ) → elided text ≡ Some (h, t) → text ≡ h ++ (58 ∷ 58 ∷ t)) → char ∷ text ≡ head ++ (58 ∷ 58 ∷ tail)
    by true is later = found_here char text head tail is h
    by false is later = found_later char text head tail (elided text) later (sym (stepped char text is) ∙ h)

IsRead : List ℕ → List ℕ → Type 0
IsRead text groups = IsColonHex text groups × (has_dot text ≡ false)

elided_found : (text head tail groups : List ℕ) (h t : List ℕ) → text ≡ head ++ (58 ∷ 58 ∷ tail) → groups_of head ≡ Some h → groups_of tail ≡ Some t → filled h t ≡ Some groups → IsRead text groups
unfolding IsRead
elided_found text head tail groups h t spelled front back full =
    let room = some_if _ _ groups full in
    let before = groups_found false head h front in
    let behind = groups_found true tail t back in
    let plain : has_dot (head ++ (58 ∷ 58 ∷ tail)) ≡ false = list_any-append (λ char. char == 46) head (58 ∷ 58 ∷ tail) ∙ or_both _ _ before.1 behind.1 in (
      inr (record {
        head_text = head;
        tail_text = tail;
        head = h;
        tail = t;
        spelled = spelled ∙ sym (append_assoc head (58 ∷ 58 ∷ []) tail);
        head_groups = before.0;
        tail_groups = behind.0;
        room = ltb-true _ _ room.0;
        value = sym room.1;
      }),
      ap has_dot spelled ∙ plain,
    )

pub colon_hex_found : (text groups : List ℕ) → colon_hex_of text ≡ Some groups → IsColonHex text groups × (has_dot text ≡ false)
unfolding colon_hex_of IsRead
colon_hex_found text groups h = by (elided text) refl
  where
    by : (found : Option (List ℕ × List ℕ)) → elided text ≡ found → IsRead text groups
    by None is =
        let read : colon_hex text None ≡ Some groups = ap (colon_hex text) (sym is) ∙ h in
        option_and_then_some eight (groups_of text) groups read (λ all at count.
        let whole = some_if _ _ groups count in
        let found = groups_found true text all at in
        (inl (subst (IsGroups true text) whole.1 found.0, ap length (sym whole.1) ∙ eqb-true _ _ whole.0), found.1))
    by (Some p) is =
        let read : colon_hex text (Some p) ≡ Some groups = ap (colon_hex text) (sym is) ∙ h in
        option_and_then_some (λ head. option_and_then (λ tail. filled head tail) (groups_of p.1)) (groups_of p.0) groups read (λ head front rest.
        option_and_then_some (λ tail. filled head tail) (groups_of p.1) groups rest (λ tail back full.
        elided_found text p.0 p.1 groups head tail (parted_found text p.0 p.1 is) front back full))
