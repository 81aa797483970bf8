-- A lane without a fault of memory leads through the events of its lines.
use Rattle.std.proofs.Common.{◌≡◌, ◌≢◌, ℕ, zero, suc, List, [], ◌∷◌, take, inl, inr, refl, ap, subst, ◌∙◌}
use Rattle.gate_core.specs.Good.{IsGoodWorld}
use Rattle.gate_core.specs.Runs.{KeepsFamilies, LeadsTo, StepsGiveTheRun, run_of}
use Rattle.gate_core.proofs.Running.{run_same_limits}
use Rattle.gate_core.specs.Steps.{step_of}
use Rattle.gate_core.specs.World.{World}
use Rattle.gate_lane.proofs.Led.{Leading, led}
use Rattle.gate_lane.specs.LaneEvents.{lane_events}
use Rattle.gate_message.specs.Texts.{reply_text}
use Rattle.gate_message.specs.declared.Event.{Event}
use Rattle.gate_message.specs.declared.Reply.{Reply}
use Rattle.gate_run.specs.Lanes.{Steps, fault_memory}
use Rattle.gate_run.specs.LaneRuns.{lane_replies, LanesAreRuns, StaysGood}

-- steps lead from a state through events, and they and the state are the run's
abbrev Gives : World → List Event → List Reply → World → Type 0
Gives w events answers end = ((answers, end) ≡ run_of w events) × LeadsTo w events answers end

one_more : (old mid new : World) (event : Event) (answer : Reply) (events : List Event) (answers : List Reply)
    → (answer, mid) ≡ step_of old event → (answers, new) ≡ run_of mid events → (answer ∷ answers, new) ≡ run_of old (event ∷ events)
one_more old mid new event answer events answers step run =
    ap (λ (rest : List Reply × World). (answer ∷ rest.0, rest.1)) run
    ∙ ap (λ (first : Reply × World). (first.0 ∷ (run_of first.1 events).0, (run_of first.1 events).1)) step

none : (old new : World) → new ≡ old → Gives old [] [] new
none old new same = (ap (λ (w : World). let answers : List Reply = [] in (answers, w)) same, same)

one_step : (old mid : World) (event : Event) (reply : List ℕ) → reply ≢ fault_memory → Steps old event reply mid
    → (answer : Reply) × (reply ≡ reply_text answer) × ((events : List Event) (answers : List Reply) (new : World) → Gives mid events answers new → Gives old (event ∷ events) (answer ∷ answers) new)
one_step old mid event reply clean (inl (answer, is, exact, gives)) =
    (answer, is, λ events answers new rest. (one_more old mid new event answer events answers exact rest.0, (mid, gives, rest.1)))
one_step old mid event reply clean (inr (is, same)) = absurd (clean is)

leading : Leading Steps (λ reply. reply ≢ fault_memory) reply_text Gives
leading = record { ends = none; goes = one_step }

-- ---- at each point

-- the first of the steps lead somewhere
led_to : (n : ℕ) (w : World) (events : List Event) (replies : List Reply) (end : World) → LeadsTo w events replies end
    → (some : List Reply) × (there : World) × LeadsTo w (take n events) some there
led_to zero w events replies end h = ([], w, refl)
led_to (suc n) w [] replies end h = ([], w, refl)
led_to (suc n) w (event ∷ events) [] end h = absurd h
led_to (suc n) w (event ∷ events) (reply ∷ replies) end (next, gives, rest) =
    let front = led_to n next events replies end rest in (reply ∷ front.0, front.1, (next, gives, front.2))

-- a good state keeps to its own policy, which is that of the first
families : (w : World) (events : List Event) → IsGoodWorld (run_of w events).1 → KeepsFamilies w.policy (run_of w events).1
families w events good =
    let end : World = (run_of w events).1 in
    let own : KeepsFamilies end.policy end = record { coins = good.pool.sound.coins; limited = good.pool.sound.limited } in
    let same : end.policy ≡ w.policy = λ i. (run_same_limits events w i).policy in
    subst (λ p. KeepsFamilies p end) same own

stays_good : StepsGiveTheRun → (w : World) (events : List Event) (replies : List Reply) (end : World) → IsGoodWorld w → LeadsTo w events replies end → StaysGood w events
stays_good run w events replies end good leads = λ n apart.
    let front = led_to n w events replies end leads in
    let given = run w (take n events) front.0 front.1 good apart front.2 in
    let ended : IsGoodWorld (run_of w (take n events)).1 = subst IsGoodWorld (ap (λ (p : List Reply × World). p.1) given.0) given.1 in
    (ended, families w (take n events) ended)

pub lanes_are_runs : StepsGiveTheRun → LanesAreRuns
lanes_are_runs run old lines replies new h clean =
    let l = led Steps (λ reply. reply ≢ fault_memory) reply_text Gives leading 0 old lines replies new h clean in (
      l.made ∙ ap (λ (p : List Reply × World). lane_replies 0 lines p.0) l.leads.0,
      ap (λ (p : List Reply × World). p.1) l.leads.0,
      λ good. stays_good run old (lane_events 0 lines) l.answers new good l.leads.1,
    )
