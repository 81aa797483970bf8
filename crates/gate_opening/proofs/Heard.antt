-- An opening after some whole lines, and how it ends from there.
use Rattle.std.proofs.Common.{◌≡◌, ℕ, ◌+◌, ◌<◌, Bool, true, false, ◌||◌, List, [], ◌∷◌, ◌++◌, Option, Some, None, Ok, Err, refl, sym, ap, subst, ◌∙◌, append_assoc, append-nil}
use Rattle.std.specs.List.{list_any}
use Rattle.std.proofs.lemmas.List.Folds.{list_any-append}
use Rattle.std.specs.Io.KnownBytes.{Consumes}
use Rattle.std.proofs.KnownBytes.{Consumes-nil, Consumes-trans}
use Rattle.gate_opening.specs.declared.opening_fault.OpeningFault.{OpeningFault}
use Rattle.gate_opening.specs.declared.opening_fault.OpeningFault.TheVariants.{Line, Read, Memory}
use Rattle.gate_opening.specs.declared.opening.Step.TheVariants.{Went, Ended}
use Rattle.gate_lines.specs.Lines.{EachLacksNewline, count_limit, lines_of, unlines}
use Rattle.gate_lines.specs.Counting.{Counts, LastLine}
use Rattle.gate_lines.specs.Reading.{PieceRead}
use Rattle.gate_opening.specs.Said.{Said, nothing_said, all_said, is_end}
use Rattle.gate_opening.specs.Openings.{OpeningGathered, OpeningUnread, StepTaken, opening_part}
use Rattle.gate_lines.proofs.LineLists.{lines_of-unlines, unlines-append, EachLacksNewline-push}
use Rattle.gate_opening.proofs.OpeningParts.{opening_part-past}
use Rattle.gate_opening.proofs.Saying.{all_said-went}

pub record Heard (number : ℕ) (r r' : Option (List ℕ)) (said : Said) : Type 0 where
  pub lines : List (List ℕ)
  pub read : Consumes r r' (unlines lines)
  pub clean : EachLacksNewline lines
  pub unended : list_any is_end lines ≡ false
  -- what all lines say is what the rest of them say from here
  pub goes : (more : List (List ℕ)) → all_said 0 nothing_said (lines ++ more) ≡ all_said number said more

start : (r : Option (List ℕ)) → Heard 0 r r nothing_said
start r = record { lines = []; read = Consumes-nil r; clean = tt; unended = refl; goes = λ more. refl }

pub Heard-start : (number : ℕ) (r : Option (List ℕ)) (said : Said) → number ≡ 0 → said ≡ nothing_said → Heard number r r said
Heard-start number r said none is =
    subst (λ (n : ℕ). Heard n r r said) (sym none) (subst (λ (s : Said). Heard 0 r r s) (sym is) (start r))

both : (a b : Bool) → a ≡ false → b ≡ false → (a || (b || false)) ≡ false
both true b p q = cc
both false true p q = cc
both false false p q = refl

went_on : (number : ℕ) (r r' r'' : Option (List ℕ)) (said new : Said) → number < count_limit
    → Heard number r r' said → StepTaken number r' r'' said new (Ok Went) → Heard (number + 1) r r'' new
went_on number r r' r'' said new few so (line, read, clean, short, open', says) = record {
  lines = so.lines ++ line ∷ [];
  read = subst (Consumes r r'') (sym (unlines-append so.lines (line ∷ []))) (Consumes-trans r r' r'' _ _ so.read read);
  clean = EachLacksNewline-push so.lines line so.clean clean;
  unended = list_any-append is_end so.lines (line ∷ []) ∙ both (list_any is_end so.lines) (is_end line) so.unended open';
  goes = λ more. ap (all_said 0 nothing_said) (append_assoc so.lines (line ∷ []) more) ∙ so.goes (line ∷ more) ∙ all_said-went number said new line more few short open' says;
}

pub Heard-went : (r r' r'' : Option (List ℕ)) (said new : Said) (old now : LastLine) → Counts old now
    → Heard old.count r r' said → StepTaken old.count r' r'' said new (Ok Went) → Heard now.count r r'' new
Heard-went r r' r'' said new old now (few, next) so h =
    subst (λ (n : ℕ). Heard n r r'' new) (sym next) (went_on old.count r r' r'' said new few so h)

-- what a text says whose first lines these are
all_from : (number : ℕ) (r r' : Option (List ℕ)) (said : Said) (so : Heard number r r' said) (xs ys : List ℕ)
    → xs ≡ unlines so.lines ++ ys → all_said 0 nothing_said (lines_of xs) ≡ all_said number said (lines_of ys)
all_from number r r' said so xs ys text =
    ap (λ t. all_said 0 nothing_said (lines_of t)) text ∙ ap (all_said 0 nothing_said) (lines_of-unlines so.lines ys so.clean) ∙ so.goes (lines_of ys)

pub Heard-ended : (number : ℕ) (r r' r'' : Option (List ℕ)) (said new : Said)
    → Heard number r r' said → StepTaken number r' r'' said new (Ok Ended) → OpeningGathered r r'' new (Ok tt)
Heard-ended number None r' r'' said new so h = tt
Heard-ended number (Some xs) None r'' said new so h = absurd so.read
Heard-ended number (Some xs) (Some ys) r'' said new so (says, left) = (
  all_from number (Some xs) (Some ys) said so xs ys so.read ∙ says,
  subst (Consumes (Some xs) r'') (sym (ap opening_part so.read ∙ opening_part-past so.lines ys so.clean so.unended)) (Consumes-trans (Some xs) (Some ys) r'' _ _ so.read left),
)

-- the lines so far have no fault
heard : (number : ℕ) (r r' : Option (List ℕ)) (said : Said) (so : Heard number r r' said) → all_said 0 nothing_said so.lines ≡ Ok said
heard number r r' said so = ap (all_said 0 nothing_said) (sym (append-nil so.lines)) ∙ so.goes []

pub Heard-unread : (number : ℕ) (r r' r'' : Option (List ℕ)) (said : Said) → Heard number r r' said → PieceRead r' r'' → OpeningUnread r r''
Heard-unread number r r' r'' said so (piece, read, clean) =
    (so.lines, piece, said, Consumes-trans r r' r'' _ _ so.read read, so.clean, clean, so.unended, heard number r r' said so)

pub Heard-fault : (fault : OpeningFault) (number : ℕ) (r r' r'' : Option (List ℕ)) (said new : Said)
    → Heard number r r' said → StepTaken number r' r'' said new (Err fault) → OpeningGathered r r'' new (Err fault)
Heard-fault (Line n token) number None r' r'' said new so h = tt
Heard-fault (Line n token) number (Some xs) None r'' said new so h = absurd so.read
Heard-fault (Line n token) number (Some xs) (Some ys) r'' said new so h = all_from number (Some xs) (Some ys) said so xs ys so.read ∙ h
Heard-fault Read number r r' r'' said new so h = Heard-unread number r r' r'' said so h
Heard-fault Memory number r r' r'' said new so h = tt
