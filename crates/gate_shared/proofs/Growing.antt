-- The value under the lock, one entry more.
use Rattle.std.proofs.Common.{◌≡◌, ◌<◌, List, [], ◌∷◌, ◌++◌, length, refl, sym, ap, ◌∙◌, subst, arith, length-append}
use Rattle.std.proofs.lemmas.List.Elements.{Contains-append_left}
use Rattle.gate_message.specs.declared.event.Event.{Event}
use Rattle.gate_message.specs.declared.reply.Reply.{Reply}
use Rattle.gate_core.specs.World.{World}
use Rattle.gate_core.specs.Steps.{step_of}
use Rattle.gate_core.specs.Good.{IsGoodWorld, IsApartFrom, StepGives}
use Rattle.gate_core.specs.Runs.{run_of, IsRunApart}
use Rattle.gate_core.proofs.Running.{apart_among, apart_first, apart_rest}
use Rattle.gate_journal.specs.declared.entry.Entry.{Entry}
use Rattle.gate_journal.specs.Legal.{events_of, state_after}
use Rattle.gate_journal.proofs.Replaying.{legal-push, state_after-push}
use Rattle.gate_shared.specs.Held.{Held, held, IsHeld}

-- ---- runs that are apart

-- so is the run before its last event
pub apart_before : (w : World) (events : List Event) (event : Event) → IsRunApart w (events ++ event ∷ []) → IsRunApart w events
apart_before w events event apart = apart_among w events (events ++ event ∷ []) (λ e h. Contains-append_left events (event ∷ []) e h) apart

-- and its last event, from the state before it
pub apart_last : (w : World) (events : List Event) (event : Event) → IsRunApart w (events ++ event ∷ []) → IsApartFrom (run_of w events).1 event
apart_last w [] event apart = apart_first w event [] apart
apart_last w (e ∷ events) event apart = apart_last (step_of w e).1 events event (apart_rest w e (events ++ event ∷ []) apart)

events_of-push : (es : List Entry) (e : Entry) → events_of (es ++ e ∷ []) ≡ events_of es ++ e.event ∷ []
events_of-push [] e = refl
events_of-push (x ∷ es) e = ap (λ t. x.event ∷ t) (events_of-push es e)

-- ---- the value

pub held_next : (base : World) (s : Held) (e : Entry) (next : World) (journal : List Entry) → IsHeld base s → length s.journal < 100000 → (e.reply, next) ≡ step_of s.state e.event → StepGives s.state e.event e.reply next
    → journal ≡ s.journal ++ e ∷ [] → IsHeld base (held next journal s.passes)
held_next base s e next journal is room step gives grown =
    let here : (e.reply, next) ≡ step_of (state_after base s.journal) e.event = step ∙ ap (λ v. step_of v e.event) is.state in
    let events : events_of journal ≡ events_of s.journal ++ e.event ∷ [] = ap events_of grown ∙ events_of-push s.journal e in
    record {
      few = omega (arith, ap length grown, length-append s.journal (e ∷ []));
      legal = rw grown (legal-push base s.journal e is.legal (ap (λ (p : Reply × World). p.0) here));
      state = ap (λ (p : Reply × World). p.1) here ∙ (sym (state_after-push base s.journal e) ∙ ap (state_after base) (sym grown));
      good = λ good apart.
          let whole : IsRunApart base (events_of s.journal ++ e.event ∷ []) = subst (IsRunApart base) events apart in
          let before = is.good good (apart_before base (events_of s.journal) e.event whole) in
          let from : IsApartFrom s.state e.event = subst (λ v. IsApartFrom v e.event) (sym is.state) (apart_last base (events_of s.journal) e.event whole) in
          (gives before from).1;
    }

pub held_opened : (base state : World) → state ≡ base → IsHeld base (held state [] 0)
held_opened base state same = record {
  few = omega arith;
  legal = refl;
  state = same;
  good = λ good apart. subst IsGoodWorld (sym same) good;
}
