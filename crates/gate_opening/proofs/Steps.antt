-- One step of an opening, from what was read and what was said.
use Rattle.std.proofs.Common.{◌≡◌, ◌≢◌, ℕ, ◌+◌, ◌<◌, ◌≤◌, true, false, List, [], ◌∷◌, ◌++◌, length, Option, OnSome, Some, None, IfSome, Ok, Err, refl, sym, ap, ◌∙◌, append_assoc, append-nil, arith, ◌⊎◌, inl, inr, subst}
use Rattle.std.specs.Io.KnownBytes.{Consumes, IsAtEnd}
use Rattle.gate_lines.specs.declared.fault.LaneFault.{LaneFault}
use Rattle.gate_lines.specs.declared.fault.LaneFault.TheVariants as lane
use Rattle.gate_lines.specs.Counting.{LastLine, NextTaken}
use Rattle.gate_lines.specs.declared.lines.Next.{Next}
use Rattle.gate_lines.specs.declared.lines.Next.TheVariants.{TooLong, TooMany}
use Rattle.gate_lines.specs.Reading.{EndTold}
use Rattle.gate_opening.specs.OpeningFaults.{unread_by}
use Rattle.gate_opening.specs.declared.opening_fault.OpeningFault.{OpeningFault}
use Rattle.gate_opening.specs.declared.opening_fault.OpeningFault.TheVariants.{Line, Read, Memory}
use Rattle.gate_opening.specs.declared.opening_fault.OpeningToken.TheVariants.{BadLine}
use Rattle.gate_opening.specs.declared.opening.Step.TheVariants.{Ended}
use Rattle.gate_lines.specs.Lines.{FirstLines, LacksNewline, line_limit, count_limit, lines_of}
use Rattle.gate_opening.specs.Said.{Said, Takes, all_said, with_text, is_end}
use Rattle.gate_opening.specs.Openings.{StepTaken, opening_part}
use Rattle.gate_lines.proofs.LineLists.{lines_of-whole, lines_of-some}
use Rattle.gate_lines.proofs.FirstLines.{LongLine, LongLine-read}
use Rattle.gate_opening.proofs.OpeningParts.{opening_part-end, opening_part-only}
use Rattle.gate_opening.proofs.Saying.{all_said-ended, all_said-went, all_said-fault, all_said-full, all_said-long}

-- a whole line `---`
pub step_end : (number : ℕ) (r r' : Option (List ℕ)) (said : Said) (line : List ℕ) → number < count_limit
    → Consumes r r' (line ++ 10 ∷ []) → LacksNewline line → length line ≤ line_limit → is_end line ≡ true → StepTaken number r r' said said (Ok Ended)
step_end number None r' said line few read clean short ends = tt
step_end number (Some xs) None said line few read clean short ends = absurd read
step_end number (Some xs) (Some ys) said line few read clean short ends =
    let text : xs ≡ line ++ 10 ∷ ys = read ∙ append_assoc line (10 ∷ []) ys in (
      ap (λ t. all_said number said (lines_of t)) text ∙ ap (all_said number said) (lines_of-whole line ys clean) ∙ all_said-ended number said line (lines_of ys) few short ends,
      read ∙ ap (λ l. l ++ ys) (sym (ap opening_part text ∙ opening_part-end line ys clean ends)),
    )

-- a fault in what was read as one line, the first of the text
pub step_fault : (fault : OpeningFault) (number : ℕ) (r r' : Option (List ℕ)) (said new : Said) (line : List ℕ) → number < count_limit
    → FirstLines r (line ∷ []) → length line ≤ line_limit → is_end line ≡ false → Takes (Err fault) new (with_text said (number + 1) line)
    → StepTaken number r r' said new (Err fault)
step_fault (Line n token) number None r' said new line few first short open' takes = tt
step_fault (Line n token) number (Some xs) r' said new line few (more, first) short open' takes =
    ap (all_said number said) first ∙ all_said-fault number said (Line n token) line more few short open' takes
step_fault Read number r r' said new line few first short open' takes = absurd takes
step_fault Memory number r r' said new line few first short open' takes = tt

-- the last line, without a newline
pub step_rest : (number : ℕ) (r r' : Option (List ℕ)) (said new : Said) (line : List ℕ)
    → Consumes r r' line → OnSome r (IsAtEnd r') → IfSome r (λ xs. lines_of xs ≡ line ∷ []) → all_said number said (line ∷ []) ≡ Ok new
    → StepTaken number r r' said new (Ok Ended)
step_rest number None r' said new line read end only h = tt
step_rest number (Some xs) None said new line read end only h = absurd read
step_rest number (Some xs) (Some ys) said new line read end only h =
    let text : xs ≡ line = read ∙ ap (λ l. line ++ l) end ∙ append-nil line in (
      ap (all_said number said) only ∙ h,
      read ∙ ap (λ l. l ++ ys) (sym (ap opening_part text ∙ opening_part-only line (ap lines_of (sym text) ∙ only))),
    )

pub rest_ended : (number : ℕ) (said : Said) (line : List ℕ) → number < count_limit → length line ≤ line_limit → is_end line ≡ true → all_said number said (line ∷ []) ≡ Ok said
rest_ended number said line few short ends = all_said-ended number said line [] few short ends

pub rest_said : (number : ℕ) (said new : Said) (line : List ℕ) → number < count_limit → length line ≤ line_limit → is_end line ≡ false
    → with_text said (number + 1) line ≡ Ok new → all_said number said (line ∷ []) ≡ Ok new
rest_said number said new line few short open' h = all_said-went number said new line [] few short open' h

-- the end of the input
pub step_nothing : (number : ℕ) (r r' : Option (List ℕ)) (said : Said) → Consumes r r' [] → OnSome r (IsAtEnd r') → StepTaken number r r' said said (Ok Ended)
step_nothing number None r' said read end = tt
step_nothing number (Some xs) None said read end = absurd read
step_nothing number (Some xs) (Some ys) said read end =
    let text : xs ≡ [] = read ∙ end in (
      ap (λ t. all_said number said (lines_of t)) text,
      read ∙ ap (λ l. l ++ ys) (sym (ap opening_part text)),
    )

step_long : (number : ℕ) (r r' : Option (List ℕ)) (said : Said) → number < count_limit → LongLine r → StepTaken number r r' said said (Err (Line (number + 1) BadLine))
step_long number None r' said few l = tt
step_long number (Some xs) r' said few l =
    ap (all_said number said) l.first.1 ∙ all_said-long number said l.line l.first.0 few l.long

-- a line past the last that an opening may have
step_full : (number : ℕ) (r r' : Option (List ℕ)) (said : Said) → number ≡ count_limit → EndTold r r' (Ok false)
    → StepTaken number r r' said said (Err (Line (number + 1) BadLine))
step_full number None r' said full told = tt
step_full number (Some xs) None said full told = absurd told.1
step_full number (Some xs) (Some ys) said full (byte, read) =
    let f = lines_of-some byte ys in
    ap (λ t. all_said number said (lines_of t)) read ∙ ap (all_said number said) f.2
    ∙ all_said-full number said f.0 f.1 (omega (arith, full))

-- a line past a limit
pub step_past : (next : Next) (r r' : Option (List ℕ)) (said : Said) (old new : LastLine) (count : ℕ) → (next ≡ TooLong) ⊎ (next ≡ TooMany)
    → NextTaken line_limit r r' old new (Ok next) → count ≡ new.count → StepTaken old.count r r' said said (Err (Line (count + 1) BadLine))
step_past next r r' said old new count (inl is) taken same =
    let t = subst (λ (n : Next). NextTaken line_limit r r' old new (Ok n)) is taken in
    subst (λ (n : ℕ). StepTaken old.count r r' said said (Err (Line (n + 1) BadLine))) (sym (same ∙ t.2))
    (step_long old.count r r' said t.1 (LongLine-read r r' t.0.0 t.0.1 t.0.2 t.0.3))
step_past next r r' said old new count (inr is) taken same =
    let t = subst (λ (n : Next). NextTaken line_limit r r' old new (Ok n)) is taken in
    subst (λ (n : ℕ). StepTaken old.count r r' said said (Err (Line (n + 1) BadLine))) (sym (same ∙ t.2))
    (step_full old.count r r' said t.1 t.0)

-- the line was not read
pub step_unread : (fault : LaneFault) (number : ℕ) (r r' : Option (List ℕ)) (said : Said) (old new : LastLine) → NextTaken line_limit r r' old new (Err fault)
    → StepTaken number r r' said said (Err (unread_by fault))
step_unread lane.Read number r r' said old new h = h
step_unread lane.Write number r r' said old new h = absurd h
step_unread lane.Memory number r r' said old new h = tt

pub not_unread : (fault : LaneFault) (r r' : Option (List ℕ)) (old new : LastLine) → NextTaken line_limit r r' old new (Err fault)
    → fault ≢ lane.Read → unread_by fault ≢ Read
not_unread lane.Read r r' old new h other = absurd (other refl)
not_unread lane.Write r r' old new h other = absurd h
not_unread lane.Memory r r' old new h other = λ e. cc
