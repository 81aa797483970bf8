-- A part of a line, from the bytes that a reader shows; and a line, from its parts.
use Rattle.std.proofs.Common.{◌≡◌, ℕ, zero, suc, ◌+◌, ◌-◌, ◌<◌, ◌≤◌, true, List, [], ◌∷◌, ◌++◌, length, take, get_or, Option, OnSome, Some, None, Ok, refl, sym, ap, subst, ◌∙◌, arith, append_assoc, append-nil, length-append, length-take-le, take-take, nat_lt, ⊎_elim}
use Rattle.std.proofs.lemmas.List.{take_all, take_more}
use Rattle.std.proofs.lemmas.Bool.{cases_Bool, ltb-true, ltb-false}
use Rattle.std.proofs.lemmas.Bool.Decides.{nat_tests}
use Rattle.std.specs.Io.KnownBytes.{Consumes, IsAtEnd}
use Rattle.std.proofs.KnownBytes.{Consumes-trans}
use Rattle.memchr.specs.Find.{IsFirstByte, is_byte}
use Rattle.gate_lines.specs.declared.part.Part.{Part}
use Rattle.gate_lines.specs.declared.part.Part.TheVariants.{Newline, More, TooLong, End}
use Rattle.gate_lines.specs.Lines.{LacksNewline}
use Rattle.gate_lines.specs.Parts.{LineShown, PartShown, PartTaken}

is_newline : (x : ℕ) → x ≡ 10 → is_byte 10 x ≡ true
is_newline x e = grind (arith, nat_tests)

newline_is : (x : ℕ) → is_byte 10 x ≡ true → x ≡ 10
newline_is x e = grind (arith, nat_tests)

-- where no place before one has a newline, none stands in the front
lacks_before : (xs : List ℕ) (n : ℕ) → n ≤ length xs → ((k : ℕ) → 0 ≤ k → k < n → is_byte 10 (get_or xs k 0) ≡ true → ⊥) → LacksNewline (take n xs)
lacks_before xs zero within h = tt
lacks_before [] (suc n) within h = absurd (omega arith)
lacks_before (x ∷ xs) (suc n) within h =
    (λ e. h 0 (omega arith) (omega arith) (is_newline x e), lacks_before xs n (omega arith) (λ k low high p. h (suc k) (omega arith) (omega arith) p))

shown_newline : (shown front old new : List ℕ) (most room place : ℕ) → front ≡ take most shown → most ≤ length shown → most ≤ room + 1
    → IsFirstByte (is_byte 10) front (Some place) → new ≡ old ++ take place front → PartShown Newline (take (place + 1) shown) old new room
shown_newline shown front old new most room place is within few first grown =
    let long : length front ≡ most = ap length is ∙ length-take-le most shown within in
    let high : place < length front = first.0.high in
    let same : take (place + 1) front ≡ take (place + 1) shown = ap (take (place + 1)) is ∙ take-take (place + 1) most shown (omega arith) in (
      take place front,
      sym same ∙ take_more front place 0 high ∙ ap (λ x. take place front ++ x ∷ []) (newline_is _ first.1),
      lacks_before front place (omega arith) first.0.before,
      omega (arith, length-take-le place front (omega arith)),
      grown,
    )

pub line_shown : (shown front old new : List ℕ) (most room place : ℕ) → front ≡ take most shown → most ≤ length shown → most ≤ room + 1
    → IsFirstByte (is_byte 10) front (Some place) → new ≡ old ++ take place front → LineShown (Some (place + 1)) shown old new room
line_shown shown front old new most room place is within few first grown = (
  omega (arith, ap length is, length-take-le most shown within, first.0.high),
  shown_newline shown front old new most room place is within few first grown,
)

all_lack : (front : List ℕ) → IsFirstByte (is_byte 10) front None → LacksNewline front
all_lack front none = subst LacksNewline (take_all (length front) front (omega arith)) (lacks_before front (length front) (omega arith) none)

-- what is looked at is all that is shown, or as much as may be kept and one byte more
same_front : (shown : List ℕ) (most room : ℕ) → (length shown ≤ room → most ≡ length shown) → (room < length shown → most ≡ room + 1)
    → take most shown ≡ take (room + 1) shown
same_front shown most room all some = ⊎_elim
    (λ over. ap (λ n. take n shown) (some (ltb-true room (length shown) over)))
    (λ under.
    let fits = ltb-false room (length shown) under in
    ap (λ n. take n shown) (all fits) ∙ take_all (length shown) shown (omega arith) ∙ sym (take_all (room + 1) shown (omega (arith, fits))))
    (cases_Bool (nat_lt room (length shown)))

pub none_shown : (shown front line : List ℕ) (most room : ℕ) → front ≡ take most shown → (length shown ≤ room → most ≡ length shown)
    → (room < length shown → most ≡ room + 1) → IsFirstByte (is_byte 10) front None → LineShown None shown line line room
none_shown shown front line most room is all some none = (subst LacksNewline (is ∙ same_front shown most room all some) (all_lack front none), refl)

-- ---- a line from its parts

LacksNewline-append : (xs ys : List ℕ) → LacksNewline xs → LacksNewline ys → LacksNewline (xs ++ ys)
LacksNewline-append [] ys h k = k
LacksNewline-append (x ∷ xs) ys h k = (h.0, LacksNewline-append xs ys h.1 k)

-- what was read of a line so far
pub record Held (most : ℕ) (r r' : Option (List ℕ)) (line : List ℕ) : Type 0 where
  pub taken : Consumes r r' line
  pub clean : LacksNewline line
  pub short : length line ≤ most

pub held_whole : (most : ℕ) (r r' r'' : Option (List ℕ)) (line new : List ℕ) (room : ℕ) → room ≡ most - length line → Held most r r' line → PartTaken r' r'' line new room (Ok Newline)
    → Consumes r r'' (new ++ 10 ∷ []) × LacksNewline new × (length new ≤ most)
held_whole most r r' r'' line new room left held (bytes, read, (piece, is, clean, short, grown), end) = (
  subst (Consumes r r'') (ap (λ l. line ++ l) is ∙ sym (append_assoc line piece (10 ∷ [])) ∙ ap (λ l. l ++ 10 ∷ []) (sym grown)) (Consumes-trans r r' r'' _ _ held.taken read),
  subst LacksNewline (sym grown) (LacksNewline-append line piece held.clean clean),
  omega (arith, ap length grown, length-append line piece, held.short, left),
)

pub held_more : (most : ℕ) (r r' r'' : Option (List ℕ)) (line new : List ℕ) (room : ℕ) → room ≡ most - length line → Held most r r' line → PartTaken r' r'' line new room (Ok More)
    → Held most r r'' new × (length line < length new)
held_more most r r' r'' line new room left held (bytes, read, (clean, short, some, grown), end) = (
  record {
    taken = subst (Consumes r r'') (sym grown) (Consumes-trans r r' r'' _ _ held.taken read);
    clean = subst LacksNewline (sym grown) (LacksNewline-append line bytes held.clean clean);
    short = omega (arith, ap length grown, length-append line bytes, held.short, left);
  },
  omega (arith, ap length grown, length-append line bytes),
)

pub held_too_long : (most : ℕ) (r r' r'' : Option (List ℕ)) (line new : List ℕ) (room : ℕ) → room ≡ most - length line → Held most r r' line → PartTaken r' r'' line new room (Ok TooLong)
    → (long : List ℕ) × Consumes r r'' long × LacksNewline long × (length long ≡ most + 1)
held_too_long most r r' r'' line new room left held (bytes, read, (clean, long, same), end) =
    (line ++ bytes, Consumes-trans r r' r'' _ _ held.taken read, LacksNewline-append line bytes held.clean clean, omega (arith, length-append line bytes, held.short, left, long))

held_kept : (most : ℕ) (r r' r'' : Option (List ℕ)) (line new : List ℕ) → Held most r r' line → Consumes r' r'' [] → new ≡ line → Held most r r'' new
held_kept most r r' r'' line new held read same = record {
  taken = subst (Consumes r r'') (append-nil line ∙ sym same) (Consumes-trans r r' r'' _ _ held.taken read);
  clean = subst LacksNewline (sym same) held.clean;
  short = subst (λ l. length l ≤ most) (sym same) held.short;
}

ended : (r r' r'' : Option (List ℕ)) (line : List ℕ) → Consumes r r' line → OnSome r' (IsAtEnd r'') → OnSome r (IsAtEnd r'')
ended None r' r'' line read end = tt
ended (Some xs) None r'' line read end = absurd read
ended (Some xs) (Some ys) r'' line read end = end

pub held_end : (most : ℕ) (r r' r'' : Option (List ℕ)) (line new : List ℕ) (room : ℕ) → Held most r r' line → PartTaken r' r'' line new room (Ok End)
    → Held most r r'' new × OnSome r (IsAtEnd r'')
held_end most r r' r'' line new room held (bytes, read, (none, same), end) =
    (held_kept most r r' r'' line new held (subst (Consumes r' r'') none read) same, ended r r' r'' line held.taken end)

-- ---- one byte

one_byte : (bytes : List ℕ) → length bytes ≡ 1 → (byte : ℕ) × (bytes ≡ byte ∷ [])
one_byte [] one = absurd (omega arith)
one_byte (x ∷ []) one = (x, refl)
one_byte (x ∷ y ∷ ys) one = absurd (omega arith)

no_byte : (bytes : List ℕ) → length bytes ≤ 0 → bytes ≡ []
no_byte [] none = refl
no_byte (x ∷ xs) none = absurd (omega arith)

pub byte_taken : (part : Part) (r r' : Option (List ℕ)) (old new : List ℕ) → (part ≡ End → ⊥) → PartTaken r r' old new 0 (Ok part) → (byte : ℕ) × Consumes r r' (byte ∷ [])
byte_taken Newline r r' old new more (bytes, read, (piece, is, clean, short, grown), end) =
    (10, subst (Consumes r r') (is ∙ ap (λ l. l ++ 10 ∷ []) (no_byte piece short)) read)
byte_taken More r r' old new more (bytes, read, (clean, short, some, grown), end) = absurd (omega arith)
byte_taken TooLong r r' old new more (bytes, read, (clean, long, same), end) =
    let one = one_byte bytes long in
    (one.0, subst (Consumes r r') one.1 read)
byte_taken End r r' old new more h = absurd (more refl)

-- where no byte may be kept, none is
pub nothing_kept : (part : Part) (r r' : Option (List ℕ)) (old new : List ℕ) → PartTaken r r' old new 0 (Ok part) → old ≡ [] → new ≡ []
nothing_kept Newline r r' old new (bytes, read, (piece, is, clean, short, grown), end) none = grown ∙ ap (λ (l : List ℕ). l ++ piece) none ∙ no_byte piece short
nothing_kept More r r' old new (bytes, read, (clean, short, some, grown), end) none = absurd (omega arith)
nothing_kept TooLong r r' old new (bytes, read, (clean, long, same), end) none = same ∙ none
nothing_kept End r r' old new (bytes, read, (ends, same), end) none = same ∙ none
