-- An input parted so far, and how it ends from there.
use Rattle.std.proofs.Common.{◌≡◌, ℕ, ◌+◌, ◌<◌, ◌≤◌, ◌↔◌, Bool, true, false, List, [], ◌∷◌, ◌++◌, length, Option, OnSome, Some, None, IfSome, Ok, Err, refl, sym, ap, subst, ◌∙◌, arith, ◌⊎◌, inl, inr, append_assoc, append-nil, length-append, IsErrOf}
use Rattle.std.specs.Io.KnownBytes.{Consumes, IsAtEnd}
use Rattle.std.specs.List.{All}
use Rattle.std.proofs.KnownBytes.{Consumes-nil, Consumes-trans}
use Rattle.std.proofs.lemmas.List.Elements.{All-nil, All-cons, All-append, All-push, All-head, All-tail}
use Rattle.gate_split.specs.declared.fault.SplitFault.{SplitFault}
use Rattle.gate_split.specs.declared.fault.SplitFault.TheVariants as split
use Rattle.gate_lines.specs.Lines.{LacksNewline, EachLacksNewline, count_limit, line_limit, lines_of, unlines}
use Rattle.gate_lines.specs.Counting.{LastLine, NextTaken}
use Rattle.gate_lines.specs.Reading.{EndTold}
use Rattle.gate_lines.specs.declared.lines.Next.{Next}
use Rattle.gate_lines.specs.declared.lines.Next.TheVariants.{TooLong, TooMany}
use Rattle.gate_lines.proofs.FirstLines.{LongLine, LongLine-read, OnlyLine}
use Rattle.gate_lines.proofs.LineLists.{lines_of-unlines, lines_of-some, unlines-append, EachLacksNewline-push}
use Rattle.gate_split.specs.Parts.{HasTooManyLanes, IsBegun, IsIllFormed, RoundsRead, behind, ended_lines, is_closing, lane_limit, lanes_in, rounds_of}
use Rattle.gate_split.specs.Splitting.{AreBegun, AreShort, GoesOn, HasTooMany, InputTaken, IsCounted, LacksLane, LineTaken, SoFar, TurnTaken, TurnHasTooMany, TurnIsIllFormed, rounds_on}
use Rattle.gate_split.proofs.Lines.{ended_lines-whole, ended_lines-rest}
use Rattle.gate_split.proofs.Rounds.{lanes_counted}

both : {A B C : Type 0} → (A ↔ B) → (B ↔ C) → (A ↔ C)
both ab bc = (λ a. bc.0 (ab.0 a), λ c. ab.1 (bc.1 c))

same_both : {X : Type 0} (P : X → Type 0) {a b : X} → a ≡ b → (P a ↔ P b)
same_both P same = (subst P same, subst P (sym same))

-- ---- one turn

-- all that is left is this line
only_text : (r r' : Option (List ℕ)) (line : List ℕ) → Consumes r r' line → OnSome r (IsAtEnd r') → IfSome r (λ text. text ≡ line)
only_text None r' line read end = tt
only_text (Some xs) None line read end = absurd read
only_text (Some xs) (Some ys) line read end = read ∙ ap (λ l. line ++ l) end ∙ append-nil line

one_short : (line : List ℕ) → length line ≤ line_limit → AreShort (line ∷ [])
one_short line short = All-cons (λ (l : List ℕ). length l ≤ line_limit) line [] short (All-nil (λ (l : List ℕ). length l ≤ line_limit))

rest_text : (n : ℕ) (r : Option (List ℕ)) (old new : SoFar) (line : List ℕ) → n < count_limit → LacksNewline line → length line ≤ line_limit
    → 0 < length line → IfSome r (λ text. lines_of text ≡ line ∷ []) → IfSome r (λ text. text ≡ line) → GoesOn old new line
    → IfSome r (λ text. (n + length (lines_of text) ≤ count_limit) × AreShort (lines_of text)
    × (rounds_on old (ended_lines text) ≡ rounds_on new []) × (AreBegun old.last (ended_lines text) ↔ AreBegun new.last []))
rest_text n None old new line few clean short some only is goes = tt
rest_text n (Some text) old new line few clean short some only is goes =
    let ended : ended_lines text ≡ line ∷ [] = ap ended_lines is ∙ ended_lines-rest line clean some in (
      omega (arith, few, ap length only),
      subst AreShort (sym only) (one_short line short),
      ap (rounds_on old) ended ∙ goes.rounds [],
      both (same_both (AreBegun old.last) ended) (goes.begun []),
    )

pub rest_taken : (n n' : ℕ) (r r' : Option (List ℕ)) (old new : SoFar) (line : List ℕ) → n < count_limit → Consumes r r' line → OnSome r (IsAtEnd r') → LacksNewline line
    → length line ≤ line_limit → 0 < length line → GoesOn old new line → TurnTaken n n' r r' old new false
rest_taken n n' r r' old new line below read end clean short some goes =
    (goes.counted, rest_text n r old new line below clean short some (OnlyLine r r' line read end clean some) (only_text r r' line read end) goes)

end_text : (n : ℕ) (r : Option (List ℕ)) (s : SoFar) → n ≤ count_limit → IfSome r (λ text. text ≡ [])
    → IfSome r (λ text. (n + length (lines_of text) ≤ count_limit) × AreShort (lines_of text)
    × (rounds_on s (ended_lines text) ≡ rounds_on s []) × (AreBegun s.last (ended_lines text) ↔ AreBegun s.last []))
end_text n None s few is = tt
end_text n (Some text) s few is = (
  omega (arith, few, ap length (ap lines_of is)),
  subst AreShort (sym (ap lines_of is)) (All-nil (λ (l : List ℕ). length l ≤ line_limit)),
  ap (λ t. rounds_on s (ended_lines t)) is,
  same_both (λ t. AreBegun s.last (ended_lines t)) is,
)

pub end_taken : (n n' : ℕ) (r r' : Option (List ℕ)) (s : SoFar) → n ≤ count_limit → Consumes r r' [] → OnSome r (IsAtEnd r') → IsCounted s → TurnTaken n n' r r' s s false
end_taken n n' r r' s within read end counted = (counted, end_text n r s within (only_text r r' [] read end))

-- ---- a turn that comes to a fault

whole_lines : (xs ys line : List ℕ) → xs ≡ (line ++ 10 ∷ []) ++ ys → LacksNewline line → ended_lines xs ≡ (line ++ 10 ∷ []) ∷ ended_lines ys
whole_lines xs ys line read clean = ap ended_lines (read ∙ append_assoc line (10 ∷ []) ys) ∙ ended_lines-whole line ys clean

pub whole_many : (r r' : Option (List ℕ)) (s : SoFar) (line : List ℕ) → Consumes r r' (line ++ 10 ∷ []) → LacksNewline line → HasTooMany s (line ++ 10 ∷ []) → TurnHasTooMany r s
whole_many None r' s line read clean past = tt
whole_many (Some xs) None s line read clean past = absurd read
whole_many (Some xs) (Some ys) s line read clean past =
    subst (λ ls. lane_limit < lanes_in (rounds_on s ls)) (sym (whole_lines xs ys line read clean)) (past (ended_lines ys))

pub whole_lacking : (n : ℕ) (r r' : Option (List ℕ)) (s : SoFar) (line : List ℕ) → Consumes r r' (line ++ 10 ∷ []) → LacksNewline line → LacksLane s (line ++ 10 ∷ []) → TurnIsIllFormed n r s
whole_lacking n None r' s line read clean lacks = tt
whole_lacking n (Some xs) None s line read clean lacks = absurd read
whole_lacking n (Some xs) (Some ys) s line read clean lacks =
    inl (λ begun. lacks (ended_lines ys) (subst (AreBegun s.last) (whole_lines xs ys line read clean) begun))

rest_lines : (text line : List ℕ) → text ≡ line → LacksNewline line → 0 < length line → ended_lines text ≡ line ∷ []
rest_lines text line is clean some = ap ended_lines is ∙ ended_lines-rest line clean some

rest_over : (r : Option (List ℕ)) (s : SoFar) (line : List ℕ) → LacksNewline line → 0 < length line → IfSome r (λ text. text ≡ line) → HasTooMany s line → TurnHasTooMany r s
rest_over None s line clean some is past = tt
rest_over (Some text) s line clean some is past = subst (λ ls. lane_limit < lanes_in (rounds_on s ls)) (sym (rest_lines text line is clean some)) (past [])

pub rest_many : (r r' : Option (List ℕ)) (s : SoFar) (line : List ℕ) → Consumes r r' line → OnSome r (IsAtEnd r') → LacksNewline line → 0 < length line → HasTooMany s line → TurnHasTooMany r s
rest_many r r' s line read end clean some past = rest_over r s line clean some (only_text r r' line read end) past

rest_without : (n : ℕ) (r : Option (List ℕ)) (s : SoFar) (line : List ℕ) → LacksNewline line → 0 < length line → IfSome r (λ text. text ≡ line) → LacksLane s line → TurnIsIllFormed n r s
rest_without n None s line clean some is lacks = tt
rest_without n (Some text) s line clean some is lacks = inl (λ begun. lacks [] (subst (AreBegun s.last) (rest_lines text line is clean some) begun))

pub rest_lacking : (n : ℕ) (r r' : Option (List ℕ)) (s : SoFar) (line : List ℕ) → Consumes r r' line → OnSome r (IsAtEnd r') → LacksNewline line → 0 < length line → LacksLane s line → TurnIsIllFormed n r s
rest_lacking n r r' s line read end clean some lacks = rest_without n r s line clean some (only_text r r' line read end) lacks

long_past : (n : ℕ) (r : Option (List ℕ)) (s : SoFar) → LongLine r → TurnIsIllFormed n r s
long_past n None s long = tt
long_past n (Some text) s long = inr (inl (λ short.
    let head : length long.line ≤ line_limit =
    All-head (λ (l : List ℕ). length l ≤ line_limit) long.line long.first.0 (subst AreShort long.first.1 short) in
    omega (arith, head, long.long)))

full_past : (n : ℕ) (r r' : Option (List ℕ)) (s : SoFar) → n ≡ count_limit → EndTold r r' (Ok false) → TurnIsIllFormed n r s
full_past n None r' s full told = tt
full_past n (Some xs) None s full told = absurd told.1
full_past n (Some xs) (Some ys) s full (byte, read) =
    let next = lines_of-some byte ys in
    let lines : lines_of xs ≡ next.0 ∷ next.1 = ap lines_of read ∙ next.2 in
    inr (inr (omega (arith, full, ap length lines)))

pub limits_past : (next : Next) (r r' : Option (List ℕ)) (old new : LastLine) (s : SoFar) → (next ≡ TooLong) ⊎ (next ≡ TooMany)
    → NextTaken line_limit r r' old new (Ok next) → TurnIsIllFormed old.count r s
limits_past next r r' old new s (inl long) taken =
    let t = subst (λ (n : Next). NextTaken line_limit r r' old new (Ok n)) long taken in
    long_past old.count r s (LongLine-read r r' t.0.0 t.0.1 t.0.2 t.0.3)
limits_past next r r' old new s (inr many) taken =
    let t = subst (λ (n : Next). NextTaken line_limit r r' old new (Ok n)) many taken in
    full_past old.count r r' s t.1 t.0

-- ---- lines so far

pub record SplitSoFar (number : ℕ) (r r' : Option (List ℕ)) (s : SoFar) : Type 0 where
  pub lines : List (List ℕ)
  pub read : Consumes r r' (unlines lines)
  pub clean : EachLacksNewline lines
  pub short : AreShort lines
  pub counted : length lines ≡ number
  pub kept : IsCounted s
  -- whatever follows, the rounds go on with it
  pub rounds : (more : List ℕ) → rounds_of (unlines lines ++ more) ≡ rounds_on s (ended_lines more)
  pub begun : (more : List ℕ) → (All IsBegun (behind is_closing (ended_lines (unlines lines ++ more))) ↔ AreBegun s.last (ended_lines more))

abbrev pub at_start : SoFar
at_start = record { over = []; whole = []; last = Some []; count = 1 }

started : (r : Option (List ℕ)) → SplitSoFar 0 r r at_start
started r = record {
  lines = [];
  read = Consumes-nil r;
  clean = tt;
  short = All-nil (λ (l : List ℕ). length l ≤ line_limit);
  counted = refl;
  kept = record { count = refl; few = omega arith; rounds = omega arith };
  rounds = λ more. refl;
  begun = λ more. (λ h. h, λ h. h);
}

pub split_start : (n : ℕ) (r : Option (List ℕ)) (s : SoFar) → n ≡ 0 → s ≡ at_start → SplitSoFar n r r s
split_start n r s zero is =
    subst (λ (m : ℕ). SplitSoFar m r r s) (sym zero) (subst (λ (t : SoFar). SplitSoFar 0 r r t) (sym is) (started r))

unlines-push : (lines : List (List ℕ)) (line more : List ℕ) → unlines (lines ++ line ∷ []) ++ more ≡ unlines lines ++ (line ++ 10 ∷ more)
unlines-push lines line more =
    ap (λ t. t ++ more) (unlines-append lines (line ∷ [])) ∙ append_assoc (unlines lines) (line ++ 10 ∷ []) more ∙ ap (λ t. unlines lines ++ t) (append_assoc line (10 ∷ []) more)

pub split_next : (number next : ℕ) (r r' r'' : Option (List ℕ)) (old new : SoFar) → SplitSoFar number r r' old
    → TurnTaken number next r' r'' old new true → SplitSoFar next r r'' new
split_next number next r r' r'' old new so (line, below, is, read, clean, short, goes) = record {
  lines = so.lines ++ line ∷ [];
  read = subst (Consumes r r'') (sym (unlines-append so.lines (line ∷ []))) (Consumes-trans r r' r'' _ _ so.read read);
  clean = EachLacksNewline-push so.lines line so.clean clean;
  short = All-push (λ (l : List ℕ). length l ≤ line_limit) so.lines line so.short short;
  counted = omega (arith, so.counted, is, length-append so.lines (line ∷ []));
  kept = goes.counted;
  rounds = λ more. ap rounds_of (unlines-push so.lines line more) ∙ so.rounds (line ++ 10 ∷ more) ∙ ap (rounds_on old) (ended_lines-whole line more clean) ∙ goes.rounds (ended_lines more);
  begun = λ more. both (same_both (λ t. All IsBegun (behind is_closing (ended_lines t))) (unlines-push so.lines line more))
      (both (so.begun (line ++ 10 ∷ more)) (both (same_both (AreBegun old.last) (ended_lines-whole line more clean)) (goes.begun (ended_lines more))));
}

taken_all : (n : ℕ) (r r' : Option (List ℕ)) (old new : SoFar) → SplitSoFar n r r' old
    → IfSome r' (λ text. (n + length (lines_of text) ≤ count_limit) × AreShort (lines_of text)
    × (rounds_on old (ended_lines text) ≡ rounds_on new []) × (AreBegun old.last (ended_lines text) ↔ AreBegun new.last []))
    → IfSome r (λ text. (length (lines_of text) ≤ count_limit) × AreShort (lines_of text)
    × (rounds_of text ≡ rounds_on new []) × (All IsBegun (behind is_closing (ended_lines text)) ↔ AreBegun new.last []))
taken_all n None r' old new so rest = tt
taken_all n (Some xs) None old new so rest = absurd so.read
taken_all n (Some xs) (Some ys) old new so rest =
    let lines : lines_of xs ≡ so.lines ++ lines_of ys = ap lines_of so.read ∙ lines_of-unlines so.lines ys so.clean in (
      omega (arith, ap length lines, length-append so.lines (lines_of ys), rest.0, so.counted),
      subst AreShort (sym lines) (All-append (λ (l : List ℕ). length l ≤ line_limit) so.lines (lines_of ys) so.short rest.1),
      ap rounds_of so.read ∙ so.rounds ys ∙ rest.2,
      both (same_both (λ t. All IsBegun (behind is_closing (ended_lines t))) so.read) (both (so.begun ys) rest.3),
    )

pub split_done : (number next : ℕ) (r r' r'' : Option (List ℕ)) (old new : SoFar) → SplitSoFar number r r' old → TurnTaken number next r' r'' old new false → InputTaken r new
split_done number next r r' r'' old new so (counted, rest) = (counted, taken_all number r r' old new so rest)

pub split_many : (number : ℕ) (r r' : Option (List ℕ)) (s : SoFar) → SplitSoFar number r r' s → TurnHasTooMany r' s → HasTooManyLanes r
split_many number None r' s so many = tt
split_many number (Some xs) None s so many = absurd so.read
split_many number (Some xs) (Some ys) s so many = omega (arith, many, ap lanes_in (ap rounds_of so.read ∙ so.rounds ys))

short_rest : (lines more : List (List ℕ)) → AreShort (lines ++ more) → AreShort more
short_rest [] more short = short
short_rest (line ∷ lines) more short = short_rest lines more (All-tail (λ (l : List ℕ). length l ≤ line_limit) line (lines ++ more) short)

pub split_past : (number : ℕ) (r r' : Option (List ℕ)) (s : SoFar) → SplitSoFar number r r' s → TurnIsIllFormed number r' s → IsIllFormed r
split_past number None r' s so past = tt
split_past number (Some xs) None s so past = absurd so.read
split_past number (Some xs) (Some ys) s so (inl lacks) = λ all.
    lacks ((so.begun ys).0 (subst (λ t. All IsBegun (behind is_closing (ended_lines t))) so.read all.begun))
split_past number (Some xs) (Some ys) s so (inr (inl long)) = λ all.
    long (short_rest so.lines (lines_of ys) (subst AreShort (ap lines_of so.read ∙ lines_of-unlines so.lines ys so.clean) all.short))
split_past number (Some xs) (Some ys) s so (inr (inr full)) = λ all.
    let lines : lines_of xs ≡ so.lines ++ lines_of ys = ap lines_of so.read ∙ lines_of-unlines so.lines ys so.clean in
    omega (arith, all.few, ap length lines, length-append so.lines (lines_of ys), so.counted, full)

-- ---- the rounds of an input that was taken

pub rounds_read : (r : Option (List ℕ)) (s : SoFar) (rounds : List (List (List ℕ))) → InputTaken r s → rounds ≡ rounds_on s [] → AreBegun s.last [] → RoundsRead r rounds
rounds_read None s rounds taken are begun = tt
rounds_read (Some text) s rounds (counted, rest) are begun = (
  record {
    form = record { few = rest.0; short = rest.1; begun = rest.3.1 begun };
    lanes = subst (λ (rs : List (List (List ℕ))). lanes_in rs ≤ lane_limit) (sym rest.2) (lanes_counted s begun counted);
  },
  are ∙ sym rest.2,
)

pub rounds_unread : (r : Option (List ℕ)) (s : SoFar) → InputTaken r s → (AreBegun s.last [] → ⊥) → IsIllFormed r
rounds_unread None s taken lacks = tt
rounds_unread (Some text) s (counted, rest) lacks = λ form. lacks (rest.3.0 form.begun)

-- ---- which fault it is

pub fault_is : (T : Type 0) (a b : SplitFault) → IsErrOf {T = T} (Err a) b → a ≡ b
fault_is T a b h = cc

pub whole_fault : (fault : SplitFault) (r r' : Option (List ℕ)) (old new : SoFar) (line taken : List ℕ) → Consumes r r' (line ++ 10 ∷ []) → LacksNewline line
    → taken ≡ line ++ 10 ∷ [] → IsErrOf {T = Bool} (Err fault) split.TooManyLanes → LineTaken old new taken (Err fault) → TurnHasTooMany r old
whole_fault fault r r' old new line taken read clean is kind many =
    whole_many r r' old line read clean
    (subst (HasTooMany old) is (subst (λ (f : SplitFault). LineTaken old new taken (Err f)) (fault_is Bool fault split.TooManyLanes kind) many))

pub whole_bad : (n : ℕ) (fault : SplitFault) (r r' : Option (List ℕ)) (old new : SoFar) (line taken : List ℕ) → Consumes r r' (line ++ 10 ∷ []) → LacksNewline line
    → taken ≡ line ++ 10 ∷ [] → IsErrOf {T = Bool} (Err fault) split.Read → LineTaken old new taken (Err fault) → TurnIsIllFormed n r old
whole_bad n fault r r' old new line taken read clean is kind lacks =
    whole_lacking n r r' old line read clean
    (subst (LacksLane old) is (subst (λ (f : SplitFault). LineTaken old new taken (Err f)) (fault_is Bool fault split.Read kind) lacks))

pub rest_fault : (fault : SplitFault) (r r' : Option (List ℕ)) (old new : SoFar) (line taken : List ℕ) → Consumes r r' line → OnSome r (IsAtEnd r') → LacksNewline line
    → 0 < length line → taken ≡ line → IsErrOf {T = Bool} (Err fault) split.TooManyLanes → LineTaken old new taken (Err fault) → TurnHasTooMany r old
rest_fault fault r r' old new line taken read end clean some is kind many =
    rest_many r r' old line read end clean some
    (subst (HasTooMany old) is (subst (λ (f : SplitFault). LineTaken old new taken (Err f)) (fault_is Bool fault split.TooManyLanes kind) many))

pub rest_bad : (n : ℕ) (fault : SplitFault) (r r' : Option (List ℕ)) (old new : SoFar) (line taken : List ℕ) → Consumes r r' line → OnSome r (IsAtEnd r') → LacksNewline line
    → 0 < length line → taken ≡ line → IsErrOf {T = Bool} (Err fault) split.Read → LineTaken old new taken (Err fault) → TurnIsIllFormed n r old
rest_bad n fault r r' old new line taken read end clean some is kind lacks =
    rest_lacking n r r' old line read end clean some
    (subst (LacksLane old) is (subst (λ (f : SplitFault). LineTaken old new taken (Err f)) (fault_is Bool fault split.Read kind) lacks))
