-- Where steps lead to from a state that was reached from an opening.
use Rattle.std.proofs.Common.{◌≡◌, ℕ, List, [], ◌∷◌, ◌++◌, Option, Some, None, sym, refl, ap, ◌∙◌}
use Rattle.std.specs.Prelude.{Result, Ok, Err, IfOk}
use Rattle.std.proofs.Math.Logic.{∥∥₁_map}
use Rattle.std.proofs.lemmas.List.Elements.{All-nil, All-push}
use Rattle.gate_chain.specs.Opening.{open_fault_from}
use Rattle.gate_chain.specs.declared.OpenFault.{OpenFault}
use Rattle.gate_core.specs.Good.{IsGoodWorld}
use Rattle.gate_core.specs.Runs.{run_of}
use Rattle.gate_core.specs.Steps.{step_of}
use Rattle.gate_core.specs.World.{World, opened_world}
use Rattle.gate_lines.specs.Lines.{lines_of}
use Rattle.gate_message.specs.Spelled.{IsSpelled}
use Rattle.gate_message.specs.declared.event.Event.{Event}
use Rattle.gate_message.specs.declared.reply.Reply.{Reply}
use Rattle.gate_opening.specs.declared.OpeningFault.{OpeningFault}
use Rattle.gate_opening.specs.Said.{Said, all_said, first_height, nothing_said, on_all_said, opened_unless, opening_of, spelled}
use Rattle.gate_c.specs.Reached.{EndsARun, IsReached}

-- ---- an opening

ok_same : (r : Result World OpeningFault) (v w : World) → r ≡ Ok v → r ≡ Ok w → v ≡ w
ok_same r v w one other = cc

unless_reached : (fault : Option OpenFault) (said : Said) (w : World) → IsGoodWorld w → opened_unless fault said ≡ Ok w → IsReached w w
unless_reached None said w good is =
    ∣ (opening_of said, [], sym (ok_same (Ok (opened_world (opening_of said))) (opened_world (opening_of said)) w refl is), good, All-nil IsSpelled, refl) ∣₁
unless_reached (Some fault) said w good is = absurd (cc)

said_reached : (said : Result Said OpeningFault) (w : World) → IsGoodWorld w → on_all_said said ≡ Ok w → IsReached w w
said_reached (Ok said) w good is = unless_reached (open_fault_from (first_height said) said.coins said.times) said w good is
said_reached (Err fault) w good is = absurd (cc)

-- the state that an opening spells is the first of a run
pub opening_reached : (opening : List ℕ) (result : Result World OpeningFault) → IfOk result (λ w. spelled opening ≡ Ok w) → IfOk result IsGoodWorld → IfOk result (λ w. IsReached w w)
opening_reached opening (Ok w) is good = said_reached (all_said 0 nothing_said (lines_of opening)) w good is
opening_reached opening (Err fault) is good = is

-- ---- a step

run_of-push : (events : List Event) (w : World) (event : Event) → (run_of w (events ++ event ∷ [])).1 ≡ (step_of (run_of w events).1 event).1
run_of-push [] w event = refl
run_of-push (e ∷ events) w event = run_of-push events (step_of w e).1 event

-- the state after a step of a reached one is reached
pub step_reached : (opened old new : World) (event : Event) (reply : Reply) → IsSpelled event → (reply, new) ≡ step_of old event → IsReached opened old → IsReached opened new
step_reached opened old new event reply told step reached =
    ∥∥₁_map reached (λ (run : EndsARun opened old). (
      run.0,
      run.1 ++ event ∷ [],
      run.2,
      run.3,
      All-push IsSpelled run.1 event run.4 told,
      ap (λ (p : Reply × World). p.1) step ∙ ap (λ (w : World). (step_of w event).1) run.5 ∙ sym (run_of-push run.1 opened event),
    ))
