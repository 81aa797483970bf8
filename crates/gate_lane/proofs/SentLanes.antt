-- A lane, and the sending of what it wrote.
use Rattle.std.proofs.Common.{◌≡◌, ℕ, List, [], Some, None, IfSome, Ok, Err, refl, sym, subst, ◌∙◌, arith, append-nil}
use Rattle.std.specs.Io.KnownBytes.{Appends}
use Rattle.std.proofs.KnownBytes.{Appends-trans}
use Rattle.gate_lines.specs.declared.fault.LaneFault.{LaneFault}
use Rattle.gate_lines.specs.declared.fault.LaneFault.TheVariants as faults
use Rattle.gate_lines.specs.Lines.{FirstLines, lines_of, unlines}
use Rattle.gate_lane.specs.Lanes.{Answering, Known, Run, StoppedBy, LaneDone, LaneRan}
use Rattle.gate_lane.specs.Turns.{AllLines, LaneCame}

then_sent : (w w' w'' : Known) (bytes : List ℕ) → Appends w w' bytes → Appends w' w'' [] → Appends w w'' bytes
then_sent w w' w'' bytes wrote kept = subst (Appends w w'') (append-nil bytes) (Appends-trans w w' w'' _ _ wrote kept)

stopped_sent : {V : Type 0} (A : Answering V) (fault : LaneFault) (r w w' w'' : Known) (s t : V) → StoppedBy A fault 0 r w w' s t → Appends w' w'' [] → StoppedBy A fault 0 r w w'' s t
stopped_sent A fault r w w' w'' s t (lines, replies, sent, first, goes, wrote, all) kept = (lines, replies, sent, first, goes, then_sent w w' w'' sent wrote kept, all)

pub fault_sent : {V : Type 0} (A : Answering V) (fault : LaneFault) (r r' w w' w'' : Known) (s t : V) → LaneCame A r r' w w' s t (Err fault) → Appends w' w'' [] → LaneCame A r r' w w'' s t (Err fault)
fault_sent A faults.Read r r' w w' w'' s t (lines, piece, replies, read, clean, bare, wrote, goes) kept = (lines, piece, replies, read, clean, bare, then_sent w w' w'' _ wrote kept, goes)
fault_sent A faults.Write r r' w w' w'' s t h kept = stopped_sent A faults.Write r w w' w'' s t h kept
fault_sent A faults.Memory r r' w w' w'' s t h kept = stopped_sent A faults.Memory r w w' w'' s t h kept

run_known : {V : Type 0} (A : Answering V) (r : Known) (lines replies : List (List ℕ)) (s t : V) → AllLines r lines → Run A 0 s lines replies t → IfSome r (λ bytes. Run A 0 s (lines_of bytes) replies t)
run_known A None lines replies s t all goes = tt
run_known A (Some xs) lines replies s t all goes = subst (λ (ls : List (List ℕ)). Run A 0 s ls replies t) (sym all) goes

pub done_sent : {V : Type 0} (A : Answering V) (r r' w w' w'' : Known) (s t : V) (count : ℕ) → LaneCame A r r' w w' s t (Ok count) → Appends w' w'' [] → LaneDone A r w w'' s t count
done_sent A r r' w w' w'' s t count (lines, replies, all, goes, wrote, counted) kept =
    (replies, then_sent w w' w'' _ wrote kept, counted, run_known A r lines replies s t all goes)

all_first : (r : Known) (lines : List (List ℕ)) → AllLines r lines → FirstLines r lines
all_first None lines all = tt
all_first (Some xs) lines all = ([], all ∙ sym (append-nil lines))

-- all was answered and written, and not sent on
pub done_unsent : {V : Type 0} (A : Answering V) (r r' w w' w'' : Known) (s t : V) (count : ℕ) → LaneCame A r r' w w' s t (Ok count) → Appends w' w'' [] → StoppedBy A faults.Write 0 r w w'' s t
done_unsent A r r' w w' w'' s t count (lines, replies, all, goes, wrote, counted) kept = (
  lines,
  replies,
  unlines replies,
  all_first r lines all,
  goes,
  then_sent w w' w'' _ wrote kept,
  (replies, [], [], sym (append-nil replies), omega arith, sym (append-nil (unlines replies)), refl),
)

-- ---- what running a lane came to

pub ran_done : {V : Type 0} (A : Answering V) (r r' w w' w'' : Known) (s t : V) (count : ℕ) → LaneCame A r r' w w' s t (Ok count) → Appends w' w'' [] → LaneRan A r r' w w'' s t (Ok count)
ran_done A r r' w w' w'' s t count came kept = done_sent A r r' w w' w'' s t count came kept

pub ran_faulted : {V : Type 0} (A : Answering V) (fault : LaneFault) (r r' w w' w'' : Known) (s t : V) → LaneCame A r r' w w' s t (Err fault) → Appends w' w'' [] → LaneRan A r r' w w'' s t (Err fault)
ran_faulted A faults.Read r r' w w' w'' s t came kept = fault_sent A faults.Read r r' w w' w'' s t came kept
ran_faulted A faults.Write r r' w w' w'' s t came kept = fault_sent A faults.Write r r' w w' w'' s t came kept
ran_faulted A faults.Memory r r' w w' w'' s t came kept = fault_sent A faults.Memory r r' w w' w'' s t came kept

pub ran_unsent : {V : Type 0} (A : Answering V) (fault : LaneFault) (r r' w w' w'' : Known) (s t : V) (count : ℕ) → fault ≡ faults.Write → LaneCame A r r' w w' s t (Ok count) → Appends w' w'' []
    → LaneRan A r r' w w'' s t (Err fault)
ran_unsent A faults.Read r r' w w' w'' s t count is came kept = cc
ran_unsent A faults.Write r r' w w' w'' s t count is came kept = done_unsent A r r' w w' w'' s t count came kept
ran_unsent A faults.Memory r r' w w' w'' s t count is came kept = cc
