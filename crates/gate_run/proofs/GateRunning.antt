-- What `gate run` writes are the reply lines of the run.
use Rattle.std.proofs.Common.{◌≡◌, ℕ, List, ◌++◌, Some, Result, Ok, sym, subst, ◌∙◌}
use Rattle.std.proofs.lemmas.List.{append_cancel_left}
use Rattle.gate_core.specs.World.{World}
use Rattle.gate_opening.specs.declared.OpeningFault.{OpeningFault}
use Rattle.gate_run.specs.GateRuns.{GateRunsAreRuns}
use Rattle.gate_run.specs.FaultedRuns.{FaultedLanesAreRuns, FaultedGateRunsAreRuns}
use Rattle.gate_run.specs.GateJobs.{GateRan, TextRan}
use Rattle.gate_run.specs.LaneRuns.{LanesAreRuns}
use Rattle.gate_run.specs.Lanes.{Run}
use Rattle.gate_lines.specs.Lines.{lines_of, unlines}
use Rattle.gate_opening.specs.Laws.{OpeningsAreGood}
use Rattle.gate_opening.specs.Openings.{opening_part}
use Rattle.gate_opening.specs.Said.{spelled}

-- a run of the gate over what stands behind its opening
ran : (text rest before after : List ℕ) (status : ℕ) (w : World) → spelled text ≡ Ok w → text ≡ opening_part text ++ rest
    → GateRan (Some text) (Some before) (Some after) status
    → (replies : List (List ℕ)) × (new : World) × Run 0 w (lines_of rest) replies new × (after ≡ before ++ unlines replies) × (status ≡ 0)
ran text rest before after status w is parted done =
    let ran : TextRan text (Ok w) (Some before) (Some after) status = subst (λ (r : Result World OpeningFault). TextRan text r (Some before) (Some after) status) is done in
    let same : ran.0 ≡ rest = append_cancel_left (opening_part text) ran.0 rest (sym ran.3 ∙ parted) in
    let goes : Run 0 w (lines_of rest) ran.1 ran.2 = subst (λ (r : List ℕ). Run 0 w (lines_of r) ran.1 ran.2) same ran.4 in
    (ran.1, ran.2, goes, ran.5, ran.6)

pub gate_runs_are_runs : OpeningsAreGood → LanesAreRuns → GateRunsAreRuns
gate_runs_are_runs openings lanes text rest before after status w is parted done =
    let r = ran text rest before after status w is parted done in
    (r.0, r.3, r.4, λ clean. let l = lanes w (lines_of rest) r.0 r.1 r.2 clean in (l.0, l.2 (openings text w is)))

pub faulted_gate_runs_are_runs : OpeningsAreGood → FaultedLanesAreRuns → FaultedGateRunsAreRuns
faulted_gate_runs_are_runs openings lanes text rest before after status w is parted done =
    let r = ran text rest before after status w is parted done in
    let l = lanes w (lines_of rest) r.0 r.1 r.2 in
    (r.0, r.3, r.4, l.0, l.2 (openings text w is))
