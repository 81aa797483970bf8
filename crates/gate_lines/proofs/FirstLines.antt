-- The first lines of an input, from what was read of it.
use Rattle.std.proofs.Common.{◌≡◌, ℕ, ◌+◌, ◌<◌, List, [], ◌∷◌, ◌++◌, length, Option, OnSome, Some, None, IfSome, refl, ap, ◌∙◌, arith, append_assoc, append-nil}
use Rattle.std.specs.Io.KnownBytes.{Consumes, IsAtEnd}
use Rattle.gate_lines.specs.Lines.{LacksNewline, FirstLines, line_limit, lines_of}
use Rattle.gate_lines.proofs.LineLists.{lines_of-whole, lines_of-rest, lines_of-long}

pub FirstLines-none : (r : Option (List ℕ)) → FirstLines r []
FirstLines-none None = tt
FirstLines-none (Some xs) = (lines_of xs, refl)

pub FirstLines-whole : (r r' : Option (List ℕ)) (line : List ℕ) → Consumes r r' (line ++ 10 ∷ []) → LacksNewline line → FirstLines r (line ∷ [])
FirstLines-whole None r' line h clean = tt
FirstLines-whole (Some xs) None line h clean = absurd h
FirstLines-whole (Some xs) (Some ys) line h clean =
    (lines_of ys, ap lines_of h ∙ ap lines_of (append_assoc line (10 ∷ []) ys) ∙ lines_of-whole line ys clean)

-- all that is left is one line
pub OnlyLine : (r r' : Option (List ℕ)) (line : List ℕ) → Consumes r r' line → OnSome r (IsAtEnd r') → LacksNewline line → 0 < length line
    → IfSome r (λ xs. lines_of xs ≡ line ∷ [])
OnlyLine None r' line h end clean some = tt
OnlyLine (Some xs) None line h end clean some = absurd h
OnlyLine (Some xs) (Some ys) line h end clean some =
    ap lines_of (h ∙ ap (λ l. line ++ l) end ∙ append-nil line) ∙ lines_of-rest line clean some

pub FirstLines-only : (r : Option (List ℕ)) (line : List ℕ) → IfSome r (λ xs. lines_of xs ≡ line ∷ []) → FirstLines r (line ∷ [])
FirstLines-only None line h = tt
FirstLines-only (Some xs) line h = ([], h)

-- a line that begins with too many bytes
pub record LongLine (r : Option (List ℕ)) : Type 0 where
  pub line : List ℕ
  pub long : line_limit < length line
  pub first : FirstLines r (line ∷ [])

pub LongLine-read : (r r' : Option (List ℕ)) (front : List ℕ) → Consumes r r' front → LacksNewline front → length front ≡ line_limit + 1 → LongLine r
LongLine-read None r' front h clean long = record { line = front; long = omega (arith, long); first = tt }
LongLine-read (Some xs) None front h clean long = absurd h
LongLine-read (Some xs) (Some ys) front h clean long =
    let f = lines_of-long front ys clean (omega arith) in
    record { line = f.line; long = omega (arith, f.long, long); first = (f.more, ap lines_of h ∙ f.first) }
