-- The lines up to one that asks for something.
use Rattle.std.proofs.Common.{◌≡◌, ℕ, ◌+◌, ◌≤◌, not, cond, Bool, true, false, List, [], ◌∷◌, ◌++◌, length, Option, OnSome, Some, None, refl, sym, ap, subst, ◌∙◌, arith, append_assoc, append-nil, length-append, add-zero}
use Rattle.std.proofs.lemmas.List.Elements.{All-nil, All-push, filter-append}
use Rattle.std.specs.List.{All}
use Rattle.gate_lines.specs.Lines.{count_limit, is_skipped, line_limit, lines_of}
use Rattle.gate_audit.specs.Journals.{asking, counted}
use Rattle.gate_audit.specs.Reading.{AreAll, AreTaken, AskingIsPast, Leads, NextIsPast, TellsEnd, TellsRest}
use Rattle.gate_audit.specs.Audits.{IsPast}

-- ---- laws of what is read

pub Leads-nil : (r : Option (List ℕ)) → Leads r r []
Leads-nil None = tt
Leads-nil (Some xs) = refl

pub Leads-trans : (r r' r'' : Option (List ℕ)) (lines more : List (List ℕ)) → Leads r r' lines → Leads r' r'' more → Leads r r'' (lines ++ more)
Leads-trans None r' r'' lines more h k = tt
Leads-trans (Some xs) None r'' lines more h k = absurd h
Leads-trans (Some xs) (Some ys) None lines more h k = absurd k
Leads-trans (Some xs) (Some ys) (Some zs) lines more h k = h ∙ ap (λ ls. lines ++ ls) k ∙ sym (append_assoc lines more (lines_of zs))

pub AreAll-behind : (r r' : Option (List ℕ)) (lines more : List (List ℕ)) → Leads r r' lines → AreAll r' more → AreAll r (lines ++ more)
AreAll-behind None r' lines more h k = tt
AreAll-behind (Some xs) None lines more h k = absurd h
AreAll-behind (Some xs) (Some ys) lines more h k = h ∙ ap (λ ls. lines ++ ls) k

-- what a line asks
pub asking-skip : (line : List ℕ) → is_skipped line ≡ true → asking (line ∷ []) ≡ []
asking-skip line h = ap (λ b. cond (not b) (line ∷ []) []) h

pub asking-line : (line : List ℕ) → is_skipped line ≡ false → asking (line ∷ []) ≡ line ∷ []
asking-line line h = ap (λ b. cond (not b) (line ∷ []) []) h

pub asking-append : (xs ys : List (List ℕ)) → asking (xs ++ ys) ≡ asking xs ++ asking ys
asking-append xs ys = filter-append (λ line. not (is_skipped line)) xs ys

-- ---- lines that were skipped

pub rest_told : (ended : Bool) (r r' r'' : Option (List ℕ)) (lines : List (List ℕ)) → Leads r r' lines → TellsRest ended r' r'' → TellsRest ended r r''
rest_told ended None r' r'' lines h k = λ e. tt
rest_told ended (Some xs) None r'' lines h k = absurd h
rest_told ended (Some xs) (Some ys) r'' lines h k = k

pub end_told : (ended : Bool) (r r' : Option (List ℕ)) → TellsRest ended r r' → OnSome r (TellsEnd ended r')
end_told ended None r' h = tt
end_told ended (Some xs) r' h = h

end_known : (ended : Bool) (r : Option (List ℕ)) → TellsEnd ended r → OnSome r (TellsEnd ended r)
end_known ended None h = tt
end_known ended (Some xs) h = h

pub record Skipped (r r' : Option (List ℕ)) (old new : ℕ) (was_ended ended : Bool) : Type 0 where
  pub lines : List (List ℕ)
  pub leads : Leads r r' lines
  pub short : All (λ line. counted line ≤ line_limit) lines
  pub asks : asking lines ≡ []
  pub number : new ≡ old + length lines
  pub ends : TellsEnd was_ended r → OnSome r (TellsEnd ended r')

pub Skipped-start : (r : Option (List ℕ)) (number : ℕ) (ended : Bool) → Skipped r r number number ended ended
Skipped-start r number ended = record {
  lines = [];
  leads = Leads-nil r;
  short = All-nil (λ line. counted line ≤ line_limit);
  asks = refl;
  number = omega arith;
  ends = end_known ended r;
}

-- ---- one line more

-- the next line was read
abbrev pub OneTaken : Option (List ℕ) → Option (List ℕ) → ℕ → ℕ → Bool → List ℕ → Type 0
OneTaken r r' old new ended line = Leads r r' (line ∷ []) × (counted line ≤ line_limit) × (new ≡ old + 1) × TellsRest ended r r'

more_short : (lines : List (List ℕ)) (line : List ℕ) → All (λ l. counted l ≤ line_limit) lines → counted line ≤ line_limit → All (λ l. counted l ≤ line_limit) (lines ++ line ∷ [])
more_short lines line short one = All-push (λ l. counted l ≤ line_limit) lines line short one

more_number : (lines : List (List ℕ)) (line : List ℕ) (old mid new : ℕ) → mid ≡ old + length lines → new ≡ mid + 1 → new ≡ old + length (lines ++ line ∷ [])
more_number lines line old mid new number one = omega (arith, number, one, length-append lines (line ∷ []))

pub asking_skip : (r r' r'' : Option (List ℕ)) (old mid new : ℕ) (was_ended ended now_ended : Bool) (line : List ℕ) → Skipped r r' old mid was_ended ended
    → OneTaken r' r'' mid new now_ended line → is_skipped line ≡ true → Skipped r r'' old new was_ended now_ended
asking_skip r r' r'' old mid new was_ended ended now_ended line so (leads, short, number, ends) skip = record {
  lines = so.lines ++ line ∷ [];
  leads = Leads-trans r r' r'' so.lines (line ∷ []) so.leads leads;
  short = more_short so.lines line so.short short;
  asks = asking-append so.lines (line ∷ []) ∙ ap (λ ls. ls ++ asking (line ∷ [])) so.asks ∙ asking-skip line skip;
  number = more_number so.lines line old mid new so.number number;
  ends = λ h. end_told now_ended r r'' (rest_told now_ended r r' r'' so.lines so.leads ends);
}

pub asking_found : (r r' r'' : Option (List ℕ)) (old mid new : ℕ) (was_ended ended now_ended : Bool) (line : List ℕ) → Skipped r r' old mid was_ended ended
    → OneTaken r' r'' mid new now_ended line → new ≤ count_limit → is_skipped line ≡ false
    → (lines : List (List ℕ)) × AreTaken old lines (line ∷ []) × Leads r r'' lines × (new ≡ old + length lines) × TellsRest now_ended r r''
asking_found r r' r'' old mid new was_ended ended now_ended line so (leads, short, number, ends) few asks =
    let all = more_number so.lines line old mid new so.number number in (
      so.lines ++ line ∷ [],
      record {
        few = omega (arith, few, all);
        short = more_short so.lines line so.short short;
        asks = asking-append so.lines (line ∷ []) ∙ ap (λ ls. ls ++ asking (line ∷ [])) so.asks ∙ asking-line line asks;
      },
      Leads-trans r r' r'' so.lines (line ∷ []) so.leads leads,
      all,
      rest_told now_ended r r' r'' so.lines so.leads ends,
    )

-- ---- no line that asks

taken_none : (r r' : Option (List ℕ)) (old mid : ℕ) (was_ended ended : Bool) (so : Skipped r r' old mid was_ended ended) → mid ≤ count_limit → AreTaken old so.lines []
taken_none r r' old mid was_ended ended so few = record {
  few = omega (arith, few, so.number);
  short = so.short;
  asks = so.asks;
}

all_behind : (r r' : Option (List ℕ)) (ended : Bool) (lines : List (List ℕ)) → Leads r r' lines → OnSome r (TellsEnd ended r') → (TellsEnd ended r' → AreAll r' []) → AreAll r lines
all_behind None r' ended lines leads ends all = tt
all_behind (Some xs) None ended lines leads ends all = absurd leads
all_behind (Some xs) (Some ys) ended lines leads ends all = leads ∙ ap (λ ls. lines ++ ls) (all ends) ∙ append-nil lines

pub asking_none : (r r' : Option (List ℕ)) (old mid : ℕ) (was_ended ended : Bool) → Skipped r r' old mid was_ended ended → mid ≤ count_limit → (TellsEnd ended r' → AreAll r' [])
    → (lines : List (List ℕ)) × AreTaken old lines [] × (TellsEnd was_ended r → AreAll r lines)
asking_none r r' old mid was_ended ended so few all =
    (so.lines, taken_none r r' old mid was_ended ended so few, λ known. all_behind r r' ended so.lines so.leads (so.ends known) all)

pub past_behind : (r r' : Option (List ℕ)) (old mid : ℕ) (lines : List (List ℕ)) → Leads r r' lines → mid ≡ old + length lines → NextIsPast r' mid [] → NextIsPast r old lines
past_behind None r' old mid lines leads number past = tt
past_behind (Some xs) None old mid lines leads number past = absurd leads
past_behind (Some xs) (Some ys) old mid lines leads number (line, rest, is, past) =
    (line, rest, leads ∙ ap (λ ls. lines ++ ls) is, subst (λ n. IsPast n line) (add-zero mid ∙ number) past)

pub asking_past : (r r' : Option (List ℕ)) (old mid : ℕ) (was_ended ended : Bool) → Skipped r r' old mid was_ended ended → mid ≤ count_limit → NextIsPast r' mid []
    → AskingIsPast r old
asking_past r r' old mid was_ended ended so few past =
    (so.lines, taken_none r r' old mid was_ended ended so few, past_behind r r' old mid so.lines so.leads so.number past)
