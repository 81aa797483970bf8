-- The next line of a journal, from what a reader gave.
use Rattle.std.proofs.Common.{◌≡◌, ℕ, ◌+◌, ◌-◌, ◌<◌, ◌≤◌, ◌||◌, if◌then◌else◌, Bool, true, false, List, [], ◌∷◌, ◌++◌, length, Option, OnSome, Some, None, Ok, sym, ap, subst, ◌∙◌, arith, append_assoc, append-nil, ◌⊎◌, inl, inr}
use Rattle.std.specs.Io.KnownBytes.{Consumes, IsAtEnd}
use Rattle.gate_lines.specs.Lines.{LacksNewline, count_limit, line_limit, lines_of}
use Rattle.gate_lines.specs.Counting.{LastLine, NextTaken}
use Rattle.gate_lines.specs.Reading.{EndTold}
use Rattle.gate_lines.specs.declared.lines.Next.{Next}
use Rattle.gate_lines.specs.declared.lines.Next.TheVariants.{TooLong, TooMany}
use Rattle.gate_lines.proofs.LineLists.{lines_of-whole, lines_of-rest, lines_of-long, lines_of-some}
use Rattle.gate_audit.specs.Journals.{bears, counted}
use Rattle.gate_audit.specs.Reading.{AreAll, Leads, NextIsPast}

-- ---- what is left behind a line

pub Leads-whole : (r r' : Option (List ℕ)) (line : List ℕ) → Consumes r r' (line ++ 10 ∷ []) → LacksNewline line → Leads r r' (line ∷ [])
Leads-whole None r' line h clean = tt
Leads-whole (Some xs) None line h clean = absurd h
Leads-whole (Some xs) (Some ys) line h clean = ap lines_of (h ∙ append_assoc line (10 ∷ []) ys) ∙ lines_of-whole line ys clean

pub Leads-rest : (r r' : Option (List ℕ)) (line : List ℕ) → Consumes r r' line → OnSome r (IsAtEnd r') → LacksNewline line → 0 < length line → Leads r r' (line ∷ [])
Leads-rest None r' line h end clean some = tt
Leads-rest (Some xs) None line h end clean some = absurd h
Leads-rest (Some xs) (Some ys) line h end clean some =
    ap lines_of (h ∙ ap (λ l. line ++ l) end ∙ append-nil line) ∙ lines_of-rest line clean some ∙ ap (λ ls. line ∷ lines_of ls) (sym end)

pub all_read : (r r' : Option (List ℕ)) → Consumes r r' [] → OnSome r (IsAtEnd r') → AreAll r []
all_read None r' h end = tt
all_read (Some xs) None h end = absurd h
all_read (Some xs) (Some ys) h end = ap lines_of (h ∙ end)

pub none_left : (r : Option (List ℕ)) → IsAtEnd r → AreAll r []
none_left None over = tt
none_left (Some xs) over = ap lines_of over

-- ---- a line past a limit

marked : (b : Bool) (n : ℕ) → n ≤ (if b then n - 2 else n) + 2
marked true n = omega arith
marked false n = omega arith

-- the mark has two bytes
counted-most : (line : List ℕ) → length line ≤ counted line + 2
counted-most line = marked (bears 62 line || bears 60 line) (length line)

past_long : (r r' : Option (List ℕ)) (number most : ℕ) (front : List ℕ) → most ≡ line_limit + 2 → Consumes r r' front → LacksNewline front → length front ≡ most + 1 → NextIsPast r number []
past_long None r' number most front is h clean long = tt
past_long (Some xs) None number most front is h clean long = absurd h
past_long (Some xs) (Some ys) number most front is h clean long =
    let f = lines_of-long front ys clean (omega (arith, long)) in
    (f.line, f.more, ap lines_of h ∙ f.first, inr (omega (arith, counted-most f.line, f.long, long, is)))

-- one line more than a reader may give
past_full : (r r' : Option (List ℕ)) (number : ℕ) → number ≡ count_limit → EndTold r r' (Ok false) → NextIsPast r number []
past_full None r' number full h = tt
past_full (Some xs) None number full h = absurd h.1
past_full (Some xs) (Some ys) number full (byte, h) =
    let f = lines_of-some byte ys in
    (f.0, f.1, ap lines_of h ∙ f.2, inl (omega (arith, full)))

pub past_either : (next : Next) (r r' : Option (List ℕ)) (most : ℕ) (old new : LastLine) → most ≡ line_limit + 2 → (next ≡ TooLong) ⊎ (next ≡ TooMany)
    → NextTaken most r r' old new (Ok next) → NextIsPast r old.count []
past_either next r r' most old new is (inl long) taken =
    let t = subst (λ (n : Next). NextTaken most r r' old new (Ok n)) long taken in
    past_long r r' old.count most t.0.0 is t.0.1 t.0.2 t.0.3
past_either next r r' most old new is (inr many) taken =
    let t = subst (λ (n : Next). NextTaken most r r' old new (Ok n)) many taken in
    past_full r r' old.count t.1 t.0

pub past_counted : (r r' : Option (List ℕ)) (number : ℕ) (line : List ℕ) → Leads r r' (line ∷ []) → line_limit < counted line → NextIsPast r number []
past_counted None r' number line h long = tt
past_counted (Some xs) None number line h long = absurd h
past_counted (Some xs) (Some ys) number line h long = (line, lines_of ys, h, inr long)
