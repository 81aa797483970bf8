-- What is told of rounds, from what they came to.
use Rattle.std.proofs.Common.{◌≡◌, ◌≢◌, ℕ, ◌+◌, ◌*◌, ◌<◌, ◌≤◌, Bool, List, [], ◌∷◌, ◌++◌, length, take, drop, get_or, map, Bor, Option, Some, None, IfSome, OnOk, IfOk, IfErr, IsErrOf, Result, Ok, Err, inl, inr, refl, sym, ap, ap₂, subst, ◌∙◌, arith}
use Rattle.std.specs.Global.{Vec}
use Rattle.std.proofs.lemmas.List.{drop_all, drop_more, get_or-map, length-map, map-append, map_more}
use Rattle.std.proofs.KnownBytes.{Appends-nil, Appends-trans}
use Rattle.std.specs.Io.KnownBytes.{Appends, Consumes}
use Rattle.gate_core.specs.World.{World}
use Rattle.gate_lanes.specs.declared.Lane.{Lane}
use Rattle.gate_lanes.specs.declared.round.Conclusion.{Conclusion}
use Rattle.gate_lanes.specs.declared.round.Conclusion.TheVariants as conclusions
use Rattle.gate_lanes.specs.declared.round.RoundEnd.{RoundEnd}
use Rattle.gate_lanes.specs.Ends.{Given, given, lane_over}
use Rattle.gate_split.specs.Parts.{IsReadable, RoundsRead, rounds_of}
use Rattle.gate_lanes.specs.Rounds.{Concludes}
use Rattle.gate_lines.specs.declared.fault.LaneFault.{LaneFault}
use Rattle.gate_lines.specs.declared.fault.LaneFault.TheVariants as faults
use Rattle.gate_opening.specs.declared.OpeningFault.{OpeningFault}
use Rattle.gate_opening.specs.Openings.{LeavesRest, opening_part}
use Rattle.gate_opening.specs.Said.{spelled}
use Rattle.gate_shared.specs.Calls.{PassView}
use Rattle.gate_rounds.specs.LaneJobs.{LanesDone, LanesPastLimits, LanesPrinted, LanesStopped, StoppedInLanes}
use Rattle.gate_rounds.specs.LaneJobs.{Answered, GoesBehind, InputStopped, InputTold, IsUnreadable, RoundStopped, RoundTold, RoundsStopped, RoundsTold, StoppedInRounds}
use Rattle.gate_rounds.specs.LaneLines.{base_text, count_before, entries_by, told_text}
use Rattle.gate_print.specs.Printing.{PartSent, Prints}
use Rattle.gate_rounds.specs.Texts.{bytes_of, lists_of}
use Rattle.gate_print.proofs.Printed.{all_sent, back_sent, no_read, part_sent}
use Rattle.gate_rounds.proofs.LaneRefusals.{fault_is}
use Rattle.gate_run.proofs.Refusals.{opened_as, unread_behind}

-- ---- one round

few : (w : World) (passes : List PassView) (conclusion : Conclusion) (next : Option World) → Concludes w passes conclusion next → entries_by conclusion ≤ 100000
few w passes (conclusions.Settles settled) None concludes = absurd concludes
few w passes (conclusions.Settles settled) (Some next) concludes = omega (arith, concludes.few, concludes.settles.1.1)
few w passes conclusions.Unknown next concludes = omega arith

pub few_entries : (w : World) (lanes : List (List ℕ)) (end : RoundEnd (Vec ℕ)) (next : Option World) → Answered w lanes end next → entries_by end.conclusion ≤ 100000
few_entries w lanes end next (passes, led, ran, concludes, goes) = few w passes end.conclusion led concludes

-- a round that was printed, unless that failed
pub round_told : {X E : Type 0} (ended : Result X E) (state : X → World) (later : X → Option ℕ) (journal : Bool) (w : World) (behind : Option ℕ) (lanes : List (List ℕ)) (end : RoundEnd (Vec ℕ)) (next : Option World)
    (before middle after : Option (List ℕ)) → Answered w lanes end next → Appends before middle (base_text behind) → OnOk ended (Appends middle after (told_text journal end))
    → IfOk ended (λ x. GoesBehind behind end.conclusion next (state x) (later x)) → IfOk ended (λ x. RoundTold journal w behind lanes before after (state x) (later x))
round_told (Ok x) state later journal w behind lanes end next before middle after ran base told goes = (
  end,
  subst (λ (n : Option World). Answered w lanes end n) goes.0 ran,
  goes.1,
  Appends-trans before middle after (base_text behind) (told_text journal end) base told,
)
round_told (Err fault) state later journal w behind lanes end next before middle after ran base told goes = tt

pub round_bounded : {X E : Type 0} (ended : Result X E) (state : X → World) (later : X → Option ℕ) (behind : Option ℕ) (conclusion : Conclusion) (next : Option World)
    → entries_by conclusion ≤ 100000 → IfOk ended (λ x. GoesBehind behind conclusion next (state x) (later x)) → IfOk ended (λ x. count_before (later x) ≤ count_before behind + 100000)
round_bounded (Ok x) state later behind conclusion next few goes = omega (arith, few, ap count_before goes.1)
round_bounded (Err fault) state later behind conclusion next few goes = tt

-- the line of the base was not written whole
pub stopped_in_base : (journal : Bool) (w : World) (behind : Option ℕ) (lanes : List (List ℕ)) (before after : Option (List ℕ)) (fault : LaneFault) → Prints before after (base_text behind) (Err fault)
    → RoundStopped journal w behind lanes before after × (fault ≢ faults.Read)
stopped_in_base journal w behind lanes before after fault h = (inl (part_sent before after (base_text behind) fault h), no_read before after (base_text behind) fault h)

-- it was, and then memory ran out
pub stopped_behind_base : (journal : Bool) (w : World) (behind : Option ℕ) (lanes : List (List ℕ)) (before after : Option (List ℕ)) → Appends before after (base_text behind)
    → RoundStopped journal w behind lanes before after
stopped_behind_base journal w behind lanes before after base = inl (all_sent before after after (base_text behind) base (Appends-nil after))

pub stopped_in_end : {X : Type 0} (ended : Result X LaneFault) (journal : Bool) (w : World) (behind : Option ℕ) (lanes : List (List ℕ)) (end : RoundEnd (Vec ℕ)) (next : Option World) (before middle after : Option (List ℕ))
    → Answered w lanes end next → Appends before middle (base_text behind)
    → IfErr ended (λ fault. PartSent middle after (told_text journal end) × (fault ≢ faults.Read))
    → IfErr ended (λ fault. RoundStopped journal w behind lanes before after × (fault ≢ faults.Read))
stopped_in_end (Ok x) journal w behind lanes end next before middle after ran base stopped = tt
stopped_in_end (Err fault) journal w behind lanes end next before middle after ran base (sent, unread) =
    (inr (end, next, ran, back_sent before middle after (base_text behind) (told_text journal end) base sent), unread)

-- ---- rounds, one more

-- whatever is told of the rounds that are left is told of all behind what was told so far; nothing is held back
pub record ToldSoFar (journal : Bool) (w : World) (all : List (Vec (Vec ℕ))) (i : ℕ) (now : World) (behind : Option ℕ) (before middle : Option (List ℕ)) (held : List ℕ) : Type 0 where
  pub told : (after : Option (List ℕ)) → RoundsTold journal now behind (lists_of (drop i all)) middle after → RoundsTold journal w None (lists_of all) before after
  pub stopped : (after : Option (List ℕ)) → RoundsStopped journal now behind (lists_of (drop i all)) middle after → RoundsStopped journal w None (lists_of all) before after
  pub bound : count_before behind ≤ 100000 * i
  pub sent : 0 < i → held ≡ []

pub told_none : (journal : Bool) (w : World) (all : List (Vec (Vec ℕ))) (before : Option (List ℕ)) (held : List ℕ) → ToldSoFar journal w all 0 w None before before held
told_none journal w all before held = record {
  told = λ after h. h;
  stopped = λ after h. h;
  bound = omega arith;
  sent = λ some. absurd (omega (arith, some));
}

-- the lanes of the next round, and those of the rounds behind it
left_at : (all : List (Vec (Vec ℕ))) (i : ℕ) (lanes : Vec (Vec ℕ)) (parts : List (Vec ℕ)) → i < length all → lanes ≡ get_or all i lanes → parts ≡ lanes.items
    → bytes_of parts ∷ lists_of (drop (i + 1) all) ≡ lists_of (drop i all)
left_at all i lanes parts lt is lent =
    ap (λ (ls : List (Vec ℕ)). bytes_of ls ∷ lists_of (drop (i + 1) all)) (lent ∙ ap (λ (ls : Vec (Vec ℕ)). ls.items) is) ∙ ap lists_of (sym (drop_more all i lanes lt))

pub told_next : (journal : Bool) (w : World) (all : List (Vec (Vec ℕ))) (i : ℕ) (lanes : Vec (Vec ℕ)) (parts : List (Vec ℕ)) (now next : World) (behind later : Option ℕ) (before middle after : Option (List ℕ)) (held held' : List ℕ)
    → i < length all → lanes ≡ get_or all i lanes → parts ≡ lanes.items → ToldSoFar journal w all i now behind before middle held
    → RoundTold journal now behind (bytes_of parts) middle after next later → count_before later ≤ count_before behind + 100000 → held' ≡ []
    → ToldSoFar journal w all (i + 1) next later before after held'
told_next journal w all i lanes parts now next behind later before middle after held held' lt is lent so one few sent =
    let left = left_at all i lanes parts lt is lent in
    record {
      told = λ end h. so.told end (subst (λ (rounds : List (List (List ℕ))). RoundsTold journal now behind rounds middle end) left (next, later, after, one, h));
      stopped = λ end h. so.stopped end (subst (λ (rounds : List (List (List ℕ))). RoundsStopped journal now behind rounds middle end) left (inr (next, later, after, one, h)));
      bound = omega (arith, so.bound, few);
      sent = λ some. sent;
    }

pub told_in_part : (journal : Bool) (w : World) (all : List (Vec (Vec ℕ))) (i : ℕ) (lanes : Vec (Vec ℕ)) (parts : List (Vec ℕ)) (now : World) (behind : Option ℕ) (before middle after : Option (List ℕ)) (held : List ℕ)
    → i < length all → lanes ≡ get_or all i lanes → parts ≡ lanes.items → ToldSoFar journal w all i now behind before middle held
    → RoundStopped journal now behind (bytes_of parts) middle after → RoundsStopped journal w None (lists_of all) before after
told_in_part journal w all i lanes parts now behind before middle after held lt is lent so stopped =
    so.stopped after (subst (λ (rounds : List (List (List ℕ))). RoundsStopped journal now behind rounds middle after) (left_at all i lanes parts lt is lent) (inl stopped))

pub all_told : (journal : Bool) (w : World) (all : List (Vec (Vec ℕ))) (i : ℕ) (now : World) (behind : Option ℕ) (before after : Option (List ℕ)) (held : List ℕ)
    → length all ≤ i → ToldSoFar journal w all i now behind before after held → RoundsTold journal w None (lists_of all) before after
all_told journal w all i now behind before after held end so =
    so.told after (subst (λ (rounds : List (Vec (Vec ℕ))). RoundsTold journal now behind (lists_of rounds) after after) (sym (drop_all i all end)) (Appends-nil after))

-- ---- the lanes that are made

abbrev pub given_of : List (Lane (Bor (List ℕ)) (Vec ℕ)) → List Given
given_of lanes = map (λ (lane : Lane (Bor (List ℕ)) (Vec ℕ)). given (Some lane.reader.now) (Some lane.writer.items)) lanes

abbrev items : Vec ℕ → List ℕ
items list = list.items

part_at : (parts : List (Vec ℕ)) (i : ℕ) (p : Vec ℕ) → i < length parts → p ≡ get_or parts i p → get_or (bytes_of parts) i p.items ≡ p.items
part_at parts i p lt is = get_or-map items parts i p p.items lt ∙ ap items (sym is)

-- a lane over one more part
pub over_more : (parts : List (Vec ℕ)) (i : ℕ) (p : Vec ℕ) (old new : List (Lane (Bor (List ℕ)) (Vec ℕ))) (reader : Bor (List ℕ)) (writer : Vec ℕ)
    → new ≡ old ++ record { reader = reader; writer = writer } ∷ [] → i < length parts → p ≡ get_or parts i p → reader.now ≡ p.items → writer.items ≡ []
    → given_of old ≡ map lane_over (take i (bytes_of parts)) → given_of new ≡ map lane_over (take (i + 1) (bytes_of parts))
over_more parts i p old new reader writer grown lt is read empty before =
    let within : i < length (bytes_of parts) = rw (length-map parts items) lt in
    ap given_of grown
    ∙ map-append (λ (lane : Lane (Bor (List ℕ)) (Vec ℕ)). given (Some lane.reader.now) (Some lane.writer.items)) old (record { reader = reader; writer = writer } ∷ [])
    ∙ ap₂ (λ (front : List Given) (last : Given). front ++ last ∷ []) before
    (ap₂ (λ (input before : List ℕ). given (Some input) (Some before)) (read ∙ sym (part_at parts i p lt is)) empty)
    ∙ sym (map_more lane_over (bytes_of parts) i p.items within)

-- ---- the input of rounds

pub input_told : (r : Result ℕ LaneFault) (journal : Bool) (w : World) (input before after : Option (List ℕ)) (rounds : List (List (List ℕ))) → RoundsRead input rounds
    → IfOk r (λ status. RoundsTold journal w None rounds before after × (status ≡ 0)) → IfOk r (λ status. InputTold journal w input before after status)
input_told (Ok status) journal w input before after rounds read (told, none) = (rounds, read, told, none)
input_told (Err fault) journal w input before after rounds read h = tt

pub input_stopped : (r : Result ℕ LaneFault) (journal : Bool) (w : World) (input before after : Option (List ℕ)) (rounds : List (List (List ℕ))) → RoundsRead input rounds
    → IfErr r (λ fault. RoundsStopped journal w None rounds before after × (fault ≢ faults.Read))
    → IfErr r (InputStopped journal w input before after)
input_stopped (Ok status) journal w input before after rounds read h = tt
input_stopped (Err faults.Read) journal w input before after rounds read (stopped, kind) = absurd (kind refl)
input_stopped (Err faults.Write) journal w input before after rounds read (stopped, kind) = (rounds, read, stopped)
input_stopped (Err faults.Memory) journal w input before after rounds read (stopped, kind) = inr (rounds, read, stopped)

-- rounds that stop never stop for a failed read
pub none_unread : (r : Result ℕ LaneFault) (P : LaneFault → Type 0) (Q : Type 0) → IfErr r (λ fault. P fault × (fault ≢ faults.Read)) → IsErrOf r faults.Read → Q
none_unread (Ok status) P Q h is = cc
none_unread (Err fault) P Q h is = absurd (h.1 (fault_is ℕ fault faults.Read is))

-- ---- from the opening on

-- the rounds that were read are those behind the opening
parted : (text : List ℕ) (middle : Option (List ℕ)) (rounds : List (List (List ℕ))) → Consumes (Some text) middle (opening_part text) → RoundsRead middle rounds
    → (rest : List ℕ) × (text ≡ opening_part text ++ rest) × IsReadable rest × (rounds ≡ rounds_of rest)
parted text None rounds left read = absurd left
parted text (Some rest) rounds left (within, are) = (rest, left, within, are)

lanes_done : (journal : Bool) (input middle before after : Option (List ℕ)) (state : World) (status : ℕ)
    → IfSome input (λ text. spelled text ≡ Ok state) → LeavesRest input middle → InputTold journal state middle before after status
    → LanesPrinted journal input before after status
lanes_done journal None middle before after state status opened left told = tt
lanes_done journal (Some text) middle before after state status opened left (rounds, read, told, none) =
    let p = parted text middle rounds left read in
    let of_rest : RoundsTold journal state None (rounds_of p.0) before after = subst (λ (rs : List (List (List ℕ))). RoundsTold journal state None rs before after) p.3 told in
    subst (λ (r : Result World OpeningFault). LanesDone journal text r before after status) (sym opened) (p.0, p.1, p.2, of_rest, none)

pub lanes_printed : (r : Result ℕ LaneFault) (journal : Bool) (input middle before after : Option (List ℕ)) (state : World)
    → IfSome input (λ text. spelled text ≡ Ok state) → LeavesRest input middle → IfOk r (λ status. InputTold journal state middle before after status)
    → IfOk r (λ status. LanesPrinted journal input before after status)
lanes_printed (Ok status) journal input middle before after state opened left told = lanes_done journal input middle before after state status opened left told
lanes_printed (Err fault) journal input middle before after state opened left told = tt

stopped_in_lanes : (journal : Bool) (input middle before after : Option (List ℕ)) (state : World)
    → IfSome input (λ text. spelled text ≡ Ok state) → LeavesRest input middle → StoppedInRounds journal state middle before after → StoppedInLanes journal input before after
stopped_in_lanes journal input middle before after state opened left stopped = (middle, state, opened_as input middle state opened left, stopped)

lanes_stop : (fault : LaneFault) (journal : Bool) (input middle rest before after : Option (List ℕ)) (state : World)
    → IfSome input (λ text. spelled text ≡ Ok state) → LeavesRest input middle → InputStopped journal state middle before after fault
    → LanesStopped journal input rest before after fault
lanes_stop faults.Read journal input middle rest before after state opened left kept = unread_behind input middle rest before after state opened left kept
lanes_stop faults.Write journal input middle rest before after state opened left stopped = inr (stopped_in_lanes journal input middle before after state opened left stopped)
lanes_stop faults.Memory journal input middle rest before after state opened left (inl kept) = inl kept
lanes_stop faults.Memory journal input middle rest before after state opened left (inr stopped) = inr (stopped_in_lanes journal input middle before after state opened left stopped)

pub lanes_stopped : (r : Result ℕ LaneFault) (journal : Bool) (input middle rest before after : Option (List ℕ)) (state : World)
    → IfSome input (λ text. spelled text ≡ Ok state) → LeavesRest input middle → IfErr r (InputStopped journal state middle before after)
    → IfErr r (LanesStopped journal input rest before after)
lanes_stopped (Ok status) journal input middle rest before after state opened left h = tt
lanes_stopped (Err fault) journal input middle rest before after state opened left h = lanes_stop fault journal input middle rest before after state opened left h

past_opening : (input middle : Option (List ℕ)) (state : World) → IfSome input (λ text. spelled text ≡ Ok state) → LeavesRest input middle → IsUnreadable middle → LanesPastLimits input
past_opening None middle state opened left past = tt
past_opening (Some text) None state opened left past = absurd left
past_opening (Some text) (Some rest) state opened left past = (state, rest, opened, left, past)

pub lanes_unreadable : (r : Result ℕ LaneFault) (input middle : Option (List ℕ)) (state : World) → IfSome input (λ text. spelled text ≡ Ok state) → LeavesRest input middle
    → (IsErrOf r faults.Read → IsUnreadable middle) → IfErr r (λ fault. fault ≡ faults.Read → LanesPastLimits input)
lanes_unreadable (Ok status) input middle state opened left past = tt
lanes_unreadable (Err fault) input middle state opened left past = λ is. past_opening input middle state opened left (past (ap Err is))
