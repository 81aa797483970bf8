-- A lane leads through the events of its lines.
use Rattle.std.proofs.Common.{◌≡◌, ℕ, ◌+◌, ◌<◌, true, List, [], ◌∷◌, ◌++◌, length, Option, Some, None, Ok, Err, inl, inr, refl, sym, ap, subst, ◌∙◌, append_assoc, append-nil, length-append, arith}
use Rattle.gate_message.specs.Callers.{caller_of}
use Rattle.gate_message.specs.declared.caller.Caller.{Caller}
use Rattle.gate_message.specs.declared.event.Event.{Event}
use Rattle.gate_shared.specs.Calls.{EachBelow, PassView, Rises}
use Rattle.gate_shared.specs.Held.{Grows, IsOwn, left_by}
use Rattle.gate_shared.specs.declared.receipt.Made.{Made}
use Rattle.gate_shared.specs.declared.shared.CallFault.{CallFault}
use Rattle.gate_shared.specs.declared.shared.CallFault.TheVariants.{WrongCaller, PassFull, HistoryShort, AuditFull, Memory}
use Rattle.gate_lanes.specs.LaneCalls.{Answer, answer_line, calls_made, count_after, AreRising, IsAnsweredFor, AreAnsweredFor, HasCalls, LanesAreCalls, SomeFull}
use Rattle.gate_lane.proofs.Led.{Leading, led, all_fit}
use Rattle.gate_lane.specs.LaneEvents.{lane_events}
use Rattle.gate_lanes.specs.Lanes.{Calls, IsUnder, MayFault}

-- ---- one event and many

-- what an answer does to a pass
abbrev Answered : PassView → Event → Answer → PassView → Type 0
Answered p event (Ok r) q = IsOwn p event × Grows p q event r
Answered p event (Err fault) q = MayFault p event fault × (q ≡ left_by fault p)

abbrev Leads : Option PassView → List Event → List Answer → Option PassView → Type 0
Leads old [] [] new = new ≡ old
Leads old [] (answer ∷ answers) new = ⊥
Leads old (event ∷ events) [] new = ⊥
Leads old (event ∷ events) (answer ∷ answers) new = (p : PassView) × (q : PassView) × IsUnder old event p × Answered p event answer q × Leads (Some q) events answers new

-- ---- one call

one_call : (old mid : Option PassView) (event : Event) (reply : List ℕ) → Unit {0} → Calls old event reply mid
    → (answer : Answer) × (reply ≡ answer_line answer)
    × ((events : List Event) (answers : List Answer) (new : Option PassView) → Leads mid events answers new → Leads old (event ∷ events) (answer ∷ answers) new)
one_call old mid event reply fit (p, q, under, inl (r, own, grows, is), same) =
    (Ok r, is, λ events answers new leads. (p, q, under, (own, grows), subst (λ (w : Option PassView). Leads w events answers new) same leads))
one_call old mid event reply fit (p, q, under, inr (fault, may, kept, is), same) =
    (Err fault, is, λ events answers new leads. (p, q, under, (may, kept), subst (λ (w : Option PassView). Leads w events answers new) same leads))

leading : Leading Calls (λ reply. Unit {0}) answer_line Leads
leading = record { ends = λ old new same. same; goes = one_call }

-- ---- the calls

fits : (p q : PassView) (event : Event) (answer : Answer) → Answered p event answer q → IsAnsweredFor p.caller (length p.calls) event answer
fits p q event (Ok r) h = h.0
fits p q event (Err WrongCaller) h = h.0
fits p q event (Err PassFull) h = h.0
fits p q event (Err (HistoryShort r)) h = absurd h.0
fits p q event (Err AuditFull) h = h.0
fits p q event (Err Memory) h = h.0

-- a fault leaves the pass its caller and its calls
left_calls : (fault : CallFault) (p : PassView) → (left_by fault p).calls ≡ p.calls
left_calls WrongCaller p = refl
left_calls PassFull p = refl
left_calls (HistoryShort r) p = refl
left_calls AuditFull p = refl
left_calls Memory p = refl

left_caller : (fault : CallFault) (p : PassView) → (left_by fault p).caller ≡ p.caller
left_caller WrongCaller p = refl
left_caller PassFull p = refl
left_caller (HistoryShort r) p = refl
left_caller AuditFull p = refl
left_caller Memory p = refl

left_full : (fault : CallFault) (p : PassView) → p.met_full ≡ true → (left_by fault p).met_full ≡ true
left_full WrongCaller p met = met
left_full PassFull p met = met
left_full (HistoryShort r) p met = met
left_full AuditFull p met = refl
left_full Memory p met = met

same_calls : (p q : PassView) (fault : CallFault) → q ≡ left_by fault p → q.calls ≡ p.calls
same_calls p q fault is = ap (λ (v : PassView). v.calls) is ∙ left_calls fault p

count_same : (p q : PassView) (event : Event) (answer : Answer) → Answered p event answer q → length q.calls ≡ count_after (length p.calls) answer
count_same p q event (Ok r) h =
    let grown : length q.calls ≡ length (p.calls ++ record { event = event; receipt = r } ∷ []) = ap (λ (v : PassView). length v.calls) h.1.0 in
    omega (arith, grown, length-append p.calls (record { event = event; receipt = r } ∷ []))
count_same p q event (Err fault) h = ap length (same_calls p q fault h.1)

same_caller : (p q : PassView) (event : Event) (answer : Answer) → Answered p event answer q → q.caller ≡ p.caller
same_caller p q event (Ok r) h = ap (λ (v : PassView). v.caller) h.1.0
same_caller p q event (Err fault) h = ap (λ (v : PassView). v.caller) h.1 ∙ left_caller fault p

-- a pass that met a full journal stays one that did
still_met : (p q : PassView) (event : Event) (answer : Answer) → Answered p event answer q → p.met_full ≡ true → q.met_full ≡ true
still_met p q event (Ok r) h met = ap (λ (v : PassView). v.met_full) h.1.0 ∙ met
still_met p q event (Err fault) h met = ap (λ (v : PassView). v.met_full) h.1 ∙ left_full fault p met

-- an answer that the journal is full, or one behind it
met_full : (p q new : PassView) (event : Event) (answer : Answer) (answers : List Answer) → Answered p event answer q → (q.met_full ≡ true → new.met_full ≡ true) → (SomeFull answers → new.met_full ≡ true)
    → SomeFull (answer ∷ answers) → new.met_full ≡ true
met_full p q new event (Ok r) answers h stays behind some = behind some
met_full p q new event (Err AuditFull) answers h stays behind some = stays (ap (λ (v : PassView). v.met_full) h.1)
met_full p q new event (Err WrongCaller) answers h stays behind some = behind some
met_full p q new event (Err PassFull) answers h stays behind some = behind some
met_full p q new event (Err (HistoryShort r)) answers h stays behind some = behind some
met_full p q new event (Err Memory) answers h stays behind some = behind some

-- the numbers of a pass's receipts rise with one call more
rises_more : (n : ℕ) (calls : List Made) (call : Made) → Rises n calls → n < call.receipt.number → EachBelow call.receipt.number calls → Rises n (calls ++ call ∷ [])
rises_more n [] call rises above below = (above, tt)
rises_more n (c ∷ cs) call rises above below = (rises.0, rises_more c.receipt.number cs call rises.1 below.0 below.1)

rising_more : (calls : List Made) (call : Made) → AreRising calls → EachBelow call.receipt.number calls → AreRising (calls ++ call ∷ [])
rising_more [] call rising below = tt
rising_more (c ∷ cs) call rising below = rises_more c.receipt.number cs call rising below.0 below.1

-- the pass after events, from the one before them
record Held (p : PassView) (events : List Event) (answers : List Answer) (new : Option PassView) : Type 0 where
  pass : PassView
  is : new ≡ Some pass
  caller : pass.caller ≡ p.caller
  calls : pass.calls ≡ p.calls ++ calls_made events answers
  fit : AreAnsweredFor p.caller (length p.calls) events answers
  rising : AreRising p.calls → AreRising pass.calls
  stays : p.met_full ≡ true → pass.met_full ≡ true
  full : SomeFull answers → pass.met_full ≡ true

fit_after : (p q : PassView) (event : Event) (answer : Answer) (events : List Event) (answers : List Answer) → Answered p event answer q
    → AreAnsweredFor q.caller (length q.calls) events answers → AreAnsweredFor p.caller (count_after (length p.calls) answer) events answers
fit_after p q event answer events answers h fit =
    subst (λ (n : ℕ). AreAnsweredFor p.caller n events answers) (count_same p q event answer h)
    (subst (λ (c : Caller). AreAnsweredFor c (length q.calls) events answers) (same_caller p q event answer h) fit)

held_call : (p q : PassView) (event : Event) (answer : Answer) (events : List Event) (answers : List Answer) (new : Option PassView)
    → Answered p event answer q → Held q events answers new → Held p (event ∷ events) (answer ∷ answers) new
held_call p q event (Ok r) events answers new h held = record {
  pass = held.pass;
  is = held.is;
  caller = held.caller ∙ same_caller p q event (Ok r) h;
  calls = held.calls ∙ ap (λ (v : PassView). v.calls ++ calls_made events answers) h.1.0 ∙ append_assoc p.calls (record { event = event; receipt = r } ∷ []) (calls_made events answers);
  fit = (fits p q event (Ok r) h, fit_after p q event (Ok r) events answers h held.fit);
  rising = λ rising. held.rising (subst (λ (v : PassView). AreRising v.calls) (sym h.1.0) (rising_more p.calls (record { event = event; receipt = r }) rising h.1.1));
  stays = λ met. held.stays (still_met p q event (Ok r) h met);
  full = met_full p q held.pass event (Ok r) answers h held.stays held.full;
}
held_call p q event (Err fault) events answers new h held = record {
  pass = held.pass;
  is = held.is;
  caller = held.caller ∙ same_caller p q event (Err fault) h;
  calls = held.calls ∙ ap (λ cs. cs ++ calls_made events answers) (same_calls p q fault h.1);
  fit = (fits p q event (Err fault) h, fit_after p q event (Err fault) events answers h held.fit);
  rising = λ rising. held.rising (subst AreRising (sym (same_calls p q fault h.1)) rising);
  stays = λ met. held.stays (still_met p q event (Err fault) h met);
  full = met_full p q held.pass event (Err fault) answers h held.stays held.full;
}

held : (p : PassView) (events : List Event) (answers : List Answer) (new : Option PassView) → Leads (Some p) events answers new → Held p events answers new
held p [] [] new h = record { pass = p; is = h; caller = refl; calls = sym (append-nil p.calls); fit = tt; rising = (λ rising. rising); stays = (λ met. met); full = λ some. absurd some }
held p [] (answer ∷ answers) new h = absurd h
held p (event ∷ events) [] new h = absurd h
held p (event ∷ events) (answer ∷ answers) new (p', q, under, answered, leads) =
    held_call p q event answer events answers new (subst (λ (v : PassView). Answered v event answer q) under answered) (held q events answers new leads)

has_calls : (events : List Event) (answers : List Answer) (new : Option PassView) → Leads None events answers new → HasCalls events answers new
has_calls [] [] new h = (refl, h)
has_calls [] (answer ∷ answers) new h = absurd h
has_calls (event ∷ events) [] new h = absurd h
has_calls (event ∷ events) (answer ∷ answers) new (p, q, under, answered, leads) =
    let h = held_call p q event answer events answers new answered (held q events answers new leads) in (
      h.pass,
      h.is,
      h.caller ∙ under.0,
      h.calls ∙ ap (λ cs. cs ++ calls_made (event ∷ events) (answer ∷ answers)) under.1,
      subst (λ (n : ℕ). AreAnsweredFor (caller_of event) n (event ∷ events) (answer ∷ answers)) (ap length under.1)
          (subst (λ (c : Caller). AreAnsweredFor c (length p.calls) (event ∷ events) (answer ∷ answers)) under.0 h.fit),
      h.rising (subst AreRising (sym under.1) tt),
      h.full,
    )

pub lanes_are_calls : LanesAreCalls
lanes_are_calls lines replies pass run =
    let l = led Calls (λ reply. Unit {0}) answer_line Leads leading 0 None lines replies pass run (all_fit (λ reply. Unit {0}) (λ reply. tt) replies) in
    (l.answers, has_calls (lane_events 0 lines) l.answers pass l.leads, l.made)
