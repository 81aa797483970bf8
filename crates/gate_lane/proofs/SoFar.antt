-- A lane after some whole lines, and how it ends from there.
use Rattle.std.proofs.Common.{◌≡◌, ℕ, ◌+◌, ◌≤◌, List, [], ◌∷◌, ◌++◌, length, Some, None, Ok, Err, refl, sym, ap, subst, ◌∙◌, arith, append_assoc, append-nil, length-append}
use Rattle.std.specs.Io.KnownBytes.{Appends, Consumes}
use Rattle.std.proofs.KnownBytes.{Appends-nil, Appends-trans, Consumes-nil, Consumes-trans}
use Rattle.gate_lines.specs.declared.fault.LaneFault.{LaneFault}
use Rattle.gate_lines.specs.declared.fault.LaneFault.TheVariants as faults
use Rattle.gate_lines.specs.Lines.{FirstLines, EachLacksNewline, lines_of, unlines, count_limit}
use Rattle.gate_lines.specs.Reading.{PieceRead}
use Rattle.gate_lane.specs.Lanes.{Answering, Known, Run, StoppedBy, LaneUnread}
use Rattle.gate_lane.specs.Turns.{AllLines, TurnTaken, LaneCame}
use Rattle.gate_lane.specs.declared.lane.Turn.TheVariants.{Went, Ended}
use Rattle.gate_lines.proofs.LineLists.{lines_of-unlines, unlines-append, EachLacksNewline-push}
use Rattle.gate_lane.proofs.Runs.{Run-line}

pub record SoFar {V : Type 0} (A : Answering V) (number : ℕ) (r r' w w' : Known) (s s' : V) (count : ℕ) : Type 0 where
  pub lines : List (List ℕ)
  pub replies : List (List ℕ)
  pub read : Consumes r r' (unlines lines)
  pub clean : EachLacksNewline lines
  pub sent : Appends w w' (unlines replies)
  pub counted : count ≡ length replies
  pub few : count ≤ number
  pub within : number ≤ count_limit
  -- each run from here is the end of a run from the start
  pub goes : (more others : List (List ℕ)) (t : V) → Run A number s' more others t → Run A 0 s (lines ++ more) (replies ++ others) t

pub SoFar-start : {V : Type 0} (A : Answering V) (number : ℕ) (r w : Known) (s : V) → number ≡ 0 → SoFar A number r r w w s s 0
SoFar-start {V} A number r w s none = subst (λ (n : ℕ). SoFar A n r r w w s s 0) (sym none) (record {
  lines = [];
  replies = [];
  read = Consumes-nil r;
  clean = tt;
  sent = Appends-nil w;
  counted = refl;
  few = omega arith;
  within = omega arith;
  goes = λ more others t h. h;
})

unlines-push : (lines : List (List ℕ)) (line : List ℕ) → unlines (lines ++ line ∷ []) ≡ unlines lines ++ (line ++ 10 ∷ [])
unlines-push lines line = unlines-append lines (line ∷ [])

went_on : {V : Type 0} (A : Answering V) (number : ℕ) (r r' r'' w w' w'' : Known) (s s' s'' : V) (count n : ℕ)
    → SoFar A number r r' w w' s s' count → TurnTaken A number (number + 1) r' r'' w' w'' s' s'' (Ok (Went n))
    → SoFar A (number + 1) r r'' w w'' s s'' (count + n)
went_on A number r r' r'' w w' w'' s s' s'' count n so (line, first, below, next, read, clean, short, answered, sent, counted, one) = record {
  lines = so.lines ++ line ∷ [];
  replies = so.replies ++ first;
  read = subst (Consumes r r'') (sym (unlines-push so.lines line)) (Consumes-trans r r' r'' _ _ so.read read);
  clean = EachLacksNewline-push so.lines line so.clean clean;
  sent = subst (Appends w w'') (sym (unlines-append so.replies first)) (Appends-trans w w' w'' _ _ so.sent sent);
  counted = omega (arith, so.counted, counted, length-append so.replies first);
  few = omega (arith, so.few, one);
  within = omega (arith, below);
  goes = λ more others t h.
      subst (λ (ls : List (List ℕ)). Run A 0 s ls ((so.replies ++ first) ++ others) t) (sym (append_assoc so.lines (line ∷ []) more))
      (subst (λ (rs : List (List ℕ)). Run A 0 s (so.lines ++ line ∷ more) rs t) (sym (append_assoc so.replies first others))
      (so.goes (line ∷ more) (first ++ others) t (Run-line A number s' s'' t line more first others below short answered h)));
}

pub SoFar-went : {V : Type 0} (A : Answering V) (number next : ℕ) (r r' r'' w w' w'' : Known) (s s' s'' : V) (count n : ℕ)
    → SoFar A number r r' w w' s s' count → TurnTaken A number next r' r'' w' w'' s' s'' (Ok (Went n)) → SoFar A next r r'' w w'' s s'' (count + n)
SoFar-went {V} A number next r r' r'' w w' w'' s s' s'' count n so (line, first, below, is, read, clean, short, answered, sent, counted, one) =
    subst (λ (k : ℕ). SoFar A k r r'' w w'' s s'' (count + n)) (sym is)
    (went_on A number r r' r'' w w' w'' s s' s'' count n so (line, first, below, refl, read, clean, short, answered, sent, counted, one))

-- all lines, where these are the rest of them
all_lines : {V : Type 0} (A : Answering V) (number : ℕ) (r r' w w' : Known) (s s' : V) (count : ℕ) (lines : List (List ℕ)) (so : SoFar A number r r' w w' s s' count)
    → AllLines r' lines → AllLines r (so.lines ++ lines)
all_lines A number None r' w w' s s' count lines so h = tt
all_lines A number (Some xs) None w w' s s' count lines so h = absurd so.read
all_lines A number (Some xs) (Some ys) w w' s s' count lines so h =
    ap lines_of so.read ∙ lines_of-unlines so.lines ys so.clean ∙ ap (λ ls. so.lines ++ ls) h

pub SoFar-done : {V : Type 0} (A : Answering V) (number : ℕ) (r r' r'' w w' w'' : Known) (s s' t : V) (count total : ℕ) (lines others : List (List ℕ)) → SoFar A number r r' w w' s s' count
    → AllLines r' lines → Run A number s' lines others t → Appends w' w'' (unlines others) → total ≡ count + length others → LaneCame A r r'' w w'' s t (Ok total)
SoFar-done A number r r' r'' w w' w'' s s' t count total lines others so all goes sent counted = (
  so.lines ++ lines,
  so.replies ++ others,
  all_lines A number r r' w w' s s' count lines so all,
  so.goes lines others t goes,
  subst (Appends w w'') (sym (unlines-append so.replies others)) (Appends-trans w w' w'' _ _ so.sent sent),
  omega (arith, so.counted, counted, length-append so.replies others),
)

pub SoFar-ended : {V : Type 0} (A : Answering V) (number next : ℕ) (r r' r'' w w' w'' : Known) (s s' s'' : V) (count n : ℕ)
    → SoFar A number r r' w w' s s' count → TurnTaken A number next r' r'' w' w'' s' s'' (Ok (Ended n)) → LaneCame A r r'' w w'' s s'' (Ok (count + n))
SoFar-ended A number next r r' r'' w w' w'' s s' s'' count n so (lines, others, all, goes, sent, counted, one) =
    SoFar-done A number r r' r'' w w' w'' s s' s'' count (count + n) lines others so all goes sent (ap (λ k. count + k) counted)

run_to_here : {V : Type 0} (A : Answering V) (number : ℕ) (r r' w w' : Known) (s s' : V) (count : ℕ) (so : SoFar A number r r' w w' s s' count) → Run A 0 s so.lines so.replies s'
run_to_here A number r r' w w' s s' count so =
    subst (λ (ls : List (List ℕ)). Run A 0 s ls so.replies s') (append-nil so.lines)
    (subst (λ (rs : List (List ℕ)). Run A 0 s (so.lines ++ []) rs s') (append-nil so.replies) (so.goes [] [] s' (refl, refl)))

pub SoFar-unread : {V : Type 0} (A : Answering V) (number : ℕ) (r r' r'' w w' w'' : Known) (s s' s'' : V) (count : ℕ)
    → SoFar A number r r' w w' s s' count → PieceRead r' r'' → Appends w' w'' [] → s'' ≡ s' → LaneUnread A r r'' w w'' s s''
SoFar-unread {V} A number r r' r'' w w' w'' s s' s'' count so (piece, read, clean) kept same = (
  so.lines,
  piece,
  so.replies,
  Consumes-trans r r' r'' _ _ so.read read,
  so.clean,
  clean,
  subst (Appends w w'') (append-nil (unlines so.replies)) (Appends-trans w w' w'' _ _ so.sent kept),
  subst (λ (t : V). Run A 0 s so.lines so.replies t) (sym same) (run_to_here A number r r' w w' s s' count so),
)

first_lines : {V : Type 0} (A : Answering V) (number : ℕ) (r r' w w' : Known) (s s' : V) (count : ℕ) (lines : List (List ℕ)) (so : SoFar A number r r' w w' s s' count)
    → FirstLines r' lines → FirstLines r (so.lines ++ lines)
first_lines A number None r' w w' s s' count lines so h = tt
first_lines A number (Some xs) None w w' s s' count lines so h = absurd so.read
first_lines A number (Some xs) (Some ys) w w' s s' count lines so (more, e) =
    (more, ap lines_of so.read ∙ lines_of-unlines so.lines ys so.clean ∙ ap (λ ls. so.lines ++ ls) e ∙ sym (append_assoc so.lines lines more))

pub SoFar-stopped : {V : Type 0} (A : Answering V) (fault : LaneFault) (number : ℕ) (r r' w w' w'' : Known) (s s' s'' : V) (count : ℕ)
    → SoFar A number r r' w w' s s' count → StoppedBy A fault number r' w' w'' s' s'' → StoppedBy A fault 0 r w w'' s s''
SoFar-stopped A fault number r r' w w' w'' s s' s'' count so (lines, replies, sent, first, goes, wrote, (whole, last, part, parted, one, is, starts)) = (
  so.lines ++ lines,
  so.replies ++ replies,
  unlines so.replies ++ sent,
  first_lines A number r r' w w' s s' count lines so first,
  so.goes lines replies s'' goes,
  Appends-trans w w' w'' _ _ so.sent wrote,
  (
    so.replies ++ whole,
    last,
    part,
    ap (λ rs. so.replies ++ rs) parted ∙ sym (append_assoc so.replies whole last),
    one,
    ap (λ bs. unlines so.replies ++ bs) is ∙ sym (append_assoc (unlines so.replies) (unlines whole) part) ∙ ap (λ bs. bs ++ part) (sym (unlines-append so.replies whole)),
    starts,
  ),
)

-- ---- a fault in a turn

pub SoFar-fault : {V : Type 0} (A : Answering V) (fault : LaneFault) (number next : ℕ) (r r' r'' w w' w'' : Known) (s s' s'' : V) (count : ℕ)
    → SoFar A number r r' w w' s s' count → TurnTaken A number next r' r'' w' w'' s' s'' (Err fault) → LaneCame A r r'' w w'' s s'' (Err fault)
SoFar-fault A faults.Read number next r r' r'' w w' w'' s s' s'' count so (piece, kept, same) =
    SoFar-unread A number r r' r'' w w' w'' s s' s'' count so piece kept same
SoFar-fault A faults.Write number next r r' r'' w w' w'' s s' s'' count so h = SoFar-stopped A faults.Write number r r' w w' w'' s s' s'' count so h
SoFar-fault A faults.Memory number next r r' r'' w w' w'' s s' s'' count so h = SoFar-stopped A faults.Memory number r r' w w' w'' s s' s'' count so h
