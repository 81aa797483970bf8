-- The replies of the lanes of a round that settles are those of one run.
use Rattle.std.proofs.Common.{◌≡◌, ◌⊎◌, ℕ, zero, suc, ◌+◌, ◌-◌, ◌<◌, ◌≤◌, false, List, [], ◌∷◌, length, get_or, map, Option, Some, None, IsOk, Result, Ok, Err, inl, inr, refl, sym, ap, ap₂, subst, ◌∙◌, arith, length-append}
use Rattle.std.specs.Prelude.{slice_get}
use Rattle.std.specs.Io.KnownBytes.{Appends}
use Rattle.std.specs.List.{All, cons_option}
use Rattle.std.proofs.lemmas.Bool.{false≢true}
use Rattle.std.proofs.lemmas.List.{length-map}
use Rattle.std.proofs.lemmas.List.Elements.{All-head, All-tail}
use Rattle.std.proofs.lemmas.Option.{none-some, same_Some, slice_get-get_or}
use Rattle.gate_core.specs.Runs.{run_of}
use Rattle.gate_core.specs.World.{World}
use Rattle.gate_journal.specs.Legal.{entry, entry_limit, events_of, replies_of, IsLegal}
use Rattle.gate_journal.specs.declared.Entry.{Entry}
use Rattle.gate_lane.specs.LaneEvents.{lane_events}
use Rattle.gate_lines.specs.Lines.{lines_of, unlines}
use Rattle.gate_lines.specs.declared.fault.LaneFault.{LaneFault}
use Rattle.gate_message.specs.Callers.{caller_of}
use Rattle.gate_message.specs.declared.caller.Caller.{Caller}
use Rattle.gate_message.specs.declared.event.Event.{Event}
use Rattle.gate_message.specs.declared.reply.Reply.{Reply}
use Rattle.gate_shared.specs.Calls.{IsFullIfMet, PassView, Rises}
use Rattle.gate_shared.specs.Settling.{AreTheCalls, IsAt, claim_list, claims_from, owner_at}
use Rattle.gate_shared.specs.declared.receipt.Made.{Made}
use Rattle.gate_shared.specs.declared.settle.Owner.{Owner}
use Rattle.gate_shared.specs.declared.settle.Settled.{Settled}
use Rattle.gate_lanes.specs.Ends.{AreWhole, LaneRan, LanesRan, Left, lane_over}
use Rattle.gate_lanes.specs.LaneCalls.{Answer, AreAnswered, AreAnsweredFor, AreRising, HasCalls, SomeFull, calls_made, lane_lines}
use Rattle.gate_lanes.specs.LaneReplies.{AreOfTheRun, EachAnswered, EachOfTheRun, HasReceipt, LanesReplyAsTheRun, RepliesAsTheRun, SomeHasReceipt, SomeToldFull, lane_text, lane_texts, receipts_in, receipts_of}
use Rattle.gate_lanes.specs.Rounds.{Concludes, SettlesTo}
use Rattle.gate_lanes.specs.declared.round.Conclusion.{Conclusion}
use Rattle.gate_lanes.specs.declared.round.Conclusion.TheVariants as conclusions
use Rattle.gate_lanes.proofs.LedCalls.{lanes_are_calls}

-- ---- calls that stand in a journal

-- the call is the entry of the journal at the place that its receipt names
record StandsIn (entries : List Entry) (c : Made) : Type 0 where
  some : 0 < c.receipt.number
  event : slice_get (events_of entries) (c.receipt.number - 1) ≡ Some c.event
  reply : slice_get (replies_of entries) (c.receipt.number - 1) ≡ Some c.receipt.reply

abbrev AllStand : List Entry → List Made → Type 0
AllStand entries calls = (j : ℕ) (c : Made) → slice_get calls j ≡ Some c → StandsIn entries c

at_map : {X Y : Type 0} (f : X → Y) (xs : List X) (k : ℕ) (x : X) → slice_get xs k ≡ Some x → slice_get (map f xs) k ≡ Some (f x)
at_map f [] k x is = absurd (none-some x is)
at_map f (y ∷ ys) zero x is = ap (λ z. Some (f z)) (same_Some _ _ is)
at_map f (y ∷ ys) (suc k) x is = at_map f ys k x is

-- the calls that settle with a journal stand in it
stands : (journal : List Entry) (passes : List PassView) (owners : List Owner) → AreTheCalls journal passes owners
    → (i : ℕ) (p : PassView) → slice_get passes i ≡ Some p → AllStand journal p.calls
stands journal passes owners calls i p at j c call =
    let own = calls.calls (owner_at i j) p c (at, call) in
    let k = c.receipt.number - 1 in
    let found = calls.entries k (owner_at i j) own.1 in
    let pass : found.0 ≡ p = same_Some _ _ (sym found.2.0 ∙ at) in
    let made : found.1 ≡ c = same_Some _ _ (sym found.2.1 ∙ ap (λ (q : PassView). slice_get q.calls j) pass ∙ call) in
    let e = entry found.0.number found.1.event found.1.receipt.reply in
    record {
      some = own.0;
      event = at_map (λ (x : Entry). x.event) journal k e found.4 ∙ ap (λ (m : Made). Some m.event) made;
      reply = at_map (λ (x : Entry). x.reply) journal k e found.4 ∙ ap (λ (m : Made). Some m.receipt.reply) made;
    }

-- ---- the answers of a lane

rises_from : (calls : List Made) → AreRising calls → ((j : ℕ) (c : Made) → slice_get calls j ≡ Some c → 0 < c.receipt.number) → Rises 0 calls
rises_from [] rising some = tt
rises_from (c ∷ cs) rising some = (some 0 c refl, rising)

of_the_run : (w : World) (entries : List Entry) → IsLegal w entries → (caller : Caller) (count n : ℕ) (events : List Event) (answers : List Answer) → AreAnsweredFor caller count events answers
    → Rises n (calls_made events answers) → AllStand entries (calls_made events answers) → AreOfTheRun w (events_of entries) n events answers
of_the_run w entries legal caller count n [] [] fit rises stand = tt
of_the_run w entries legal caller count n [] (answer ∷ answers) fit rises stand = absurd fit
of_the_run w entries legal caller count n (event ∷ events) [] fit rises stand = absurd fit
of_the_run w entries legal caller count n (event ∷ events) (Ok r ∷ answers) fit rises stand =
    let here = stand 0 (record { event = event; receipt = r }) refl in (
      rises.0,
      (here.event, subst (λ (replies : List Reply). slice_get replies (r.number - 1) ≡ Some r.reply) legal here.reply),
      of_the_run w entries legal caller (count + 1) r.number events answers fit.1 rises.1 (λ j c is. stand (suc j) c is),
    )
of_the_run w entries legal caller count n (event ∷ events) (Err fault ∷ answers) fit rises stand =
    of_the_run w entries legal caller count n events answers fit.1 rises stand

pass_replies : (w : World) (entries : List Entry) → IsLegal w entries → (events : List Event) (answers : List Answer) (pass : Option PassView) → HasCalls events answers pass
    → ((p : PassView) → pass ≡ Some p → AllStand entries p.calls) → AreOfTheRun w (events_of entries) 0 events answers
pass_replies w entries legal [] answers pass (none, is) stand = subst (AreOfTheRun w (events_of entries) 0 []) (sym none) tt
pass_replies w entries legal (event ∷ events) answers pass (p, is, caller, calls, fit, rising, full) stand =
    let all : AllStand entries p.calls = stand p is in
    let rises : Rises 0 p.calls = rises_from p.calls rising (λ j c at. (all j c at).some) in
    of_the_run w entries legal (caller_of event) 0 0 (event ∷ events) answers fit (subst (Rises 0) calls rises) (subst (AllStand entries) calls all)

pass_answered : (events : List Event) (answers : List Answer) (pass : Option PassView) → HasCalls events answers pass → AreAnswered events answers
pass_answered [] answers pass (none, is) = none
pass_answered (event ∷ events) answers pass (p, is, caller, calls, fit, rising, full) = fit

pass_full : (entries : List Entry) (events : List Event) (answers : List Answer) (pass : Option PassView) → HasCalls events answers pass → ((p : PassView) → pass ≡ Some p → IsFullIfMet entries p)
    → SomeFull answers → entry_limit ≤ length entries
pass_full entries [] answers pass (none, is) marks some = absurd (subst SomeFull none some)
pass_full entries (event ∷ events) answers pass (p, is, caller, calls, fit, rising, full) marks some = marks p is (full some)

-- ---- how many receipts

made_count : (caller : Caller) (count : ℕ) (events : List Event) (answers : List Answer) → AreAnsweredFor caller count events answers
    → receipts_of answers ≡ length (calls_made events answers)
made_count caller count [] [] fit = refl
made_count caller count [] (answer ∷ answers) fit = absurd fit
made_count caller count (event ∷ events) [] fit = absurd fit
made_count caller count (event ∷ events) (Ok r ∷ answers) fit = omega (arith, made_count caller (count + 1) events answers fit.1)
made_count caller count (event ∷ events) (Err fault ∷ answers) fit = made_count caller count events answers fit.1

-- the calls of a pass, and of passes
abbrev calls_of : Option PassView → ℕ
calls_of None = 0
calls_of (Some p) = length p.calls

abbrev calls_of_all : List PassView → ℕ
calls_of_all [] = 0
calls_of_all (p ∷ ps) = length p.calls + calls_of_all ps

pass_count : (events : List Event) (answers : List Answer) (pass : Option PassView) → HasCalls events answers pass → receipts_of answers ≡ calls_of pass
pass_count [] answers pass (none, is) = ap receipts_of none ∙ ap calls_of (sym is)
pass_count (event ∷ events) answers pass (p, is, caller, calls, fit, rising, full) =
    made_count (caller_of event) 0 (event ∷ events) answers fit ∙ (ap length (sym calls) ∙ ap calls_of (sym is))

first_and_rest : (pass : Option PassView) (rest : List PassView) → calls_of_all (cons_option pass rest) ≡ calls_of pass + calls_of_all rest
first_and_rest None rest = omega arith
first_and_rest (Some p) rest = refl

list_count : (place at pass : ℕ) (calls : List Made) → length (claim_list place at pass calls) ≡ length calls
list_count place at pass [] = refl
list_count place at pass (c ∷ cs) = ap suc (list_count place (at + 1) pass cs)

claims_count : (place : ℕ) (passes : List PassView) → length (claims_from place passes) ≡ calls_of_all passes
claims_count place [] = refl
claims_count place (p ∷ ps) =
    omega (arith, length-append (claim_list place 0 p.number p.calls) (claims_from (place + 1) ps), list_count place 0 p.number p.calls, claims_count (place + 1) ps)

has_receipt : (events : List Event) (answers : List Answer) (j : ℕ) (c : Made) → slice_get (calls_made events answers) j ≡ Some c → HasReceipt c.receipt.number answers
has_receipt [] answers j c is = absurd (none-some c is)
has_receipt (event ∷ events) [] j c is = absurd (none-some c is)
has_receipt (event ∷ events) (Ok r ∷ answers) zero c is = inl (ap (λ (m : Made). m.receipt.number) (same_Some _ _ is))
has_receipt (event ∷ events) (Ok r ∷ answers) (suc j) c is = inr (has_receipt events answers j c is)
has_receipt (event ∷ events) (Err fault ∷ answers) j c is = has_receipt events answers j c is

-- each call of the pass is the receipt of an answer
abbrev HasAll : List Answer → PassView → Type 0
HasAll answers p = (j : ℕ) (c : Made) → slice_get p.calls j ≡ Some c → HasReceipt c.receipt.number answers

pass_receipts : (events : List Event) (answers : List Answer) (pass : Option PassView) → HasCalls events answers pass → (p : PassView) → pass ≡ Some p → HasAll answers p
pass_receipts [] answers pass (none, is) p some = absurd (none-some p (sym is ∙ some))
pass_receipts (event ∷ events) answers pass (q, is, caller, calls, fit, rising, full) p some =
    let same : q ≡ p = same_Some _ _ (sym is ∙ some) in
    subst (HasAll answers) same
    (λ j c at. has_receipt (event ∷ events) answers j c (ap (λ (cs : List Made). slice_get cs j) (sym calls) ∙ at))

-- ---- a lane

record LaneReplied (w : World) (entries : List Entry) (all : List Event) (lane : List ℕ) (after : Option (List ℕ)) (pass : Option PassView) : Type 0 where
  answers : List Answer
  written : after ≡ Some (lane_text lane answers)
  replies : AreOfTheRun w all 0 (lane_events 0 (lines_of lane)) answers
  receipts : (p : PassView) → pass ≡ Some p → HasAll answers p
  count : receipts_of answers ≡ calls_of pass
  faults : AreAnswered (lane_events 0 (lines_of lane)) answers
  full : SomeFull answers → entry_limit ≤ length entries

appended : (after : Option (List ℕ)) (text : List ℕ) → Appends (Some []) after text → after ≡ Some text
appended None text wrote = absurd wrote
appended (Some bytes) text wrote = ap Some wrote

lane_replied : (w : World) (entries : List Entry) → IsLegal w entries → (lane : List ℕ) (after : Option (List ℕ)) (pass : Option PassView) (result : Result ℕ LaneFault) → IsOk result
    → LaneRan (Some lane) (Some []) after pass result → ((p : PassView) → pass ≡ Some p → AllStand entries p.calls) → ((p : PassView) → pass ≡ Some p → IsFullIfMet entries p)
    → LaneReplied w entries (events_of entries) lane after pass
lane_replied w entries legal lane after pass (Ok count) ok (replies, wrote, counted, run) stand marks =
    let led = lanes_are_calls (lines_of lane) replies pass run in
    record {
      answers = led.0;
      written = appended after (unlines replies) wrote ∙ ap (λ (ls : List (List ℕ)). Some (unlines ls)) led.2;
      replies = pass_replies w entries legal (lane_events 0 (lines_of lane)) led.0 pass led.1 stand;
      receipts = pass_receipts (lane_events 0 (lines_of lane)) led.0 pass led.1;
      count = pass_count (lane_events 0 (lines_of lane)) led.0 pass led.1;
      faults = pass_answered (lane_events 0 (lines_of lane)) led.0 pass led.1;
      full = pass_full entries (lane_events 0 (lines_of lane)) led.0 pass led.1 marks;
    }
lane_replied w entries legal lane after pass (Err fault) ok ran stand marks = absurd (false≢true ok)

-- ---- the lanes of a round

-- a pass of the lanes behind the first, and where it stands among those of all
behind_first : (pass : Option PassView) (rest : List PassView) (i : ℕ) (p : PassView) → slice_get rest i ≡ Some p → (k : ℕ) × (slice_get (cons_option pass rest) k ≡ Some p)
behind_first None rest i p is = (i, is)
behind_first (Some q) rest i p is = (suc i, is)

at_first : (pass : Option PassView) (rest : List PassView) (p : PassView) → pass ≡ Some p → slice_get (cons_option pass rest) 0 ≡ Some p
at_first None rest p is = absurd (none-some p is)
at_first (Some q) rest p is = is

-- a pass is that of the first lane, or of one behind it
first_or_behind : (pass : Option PassView) (rest : List PassView) (i : ℕ) (p : PassView) → slice_get (cons_option pass rest) i ≡ Some p
    → (pass ≡ Some p) ⊎ ((k : ℕ) × (slice_get rest k ≡ Some p))
first_or_behind None rest i p is = inr (i, is)
first_or_behind (Some q) rest zero p is = inl is
first_or_behind (Some q) rest (suc i) p is = inr (i, is)

-- each call of the passes is the receipt of an answer
abbrev HaveAll : List (List Answer) → List PassView → Type 0
HaveAll answers passes = (i : ℕ) (p : PassView) → slice_get passes i ≡ Some p → (j : ℕ) (c : Made) → slice_get p.calls j ≡ Some c → SomeHasReceipt c.receipt.number answers

have_all : (answers : List Answer) (more : List (List Answer)) (pass : Option PassView) (rest : List PassView) → ((p : PassView) → pass ≡ Some p → HasAll answers p) → HaveAll more rest
    → HaveAll (answers ∷ more) (cons_option pass rest)
have_all answers more pass rest here behind i p at j c call = found (first_or_behind pass rest i p at)
  where
    found : (pass ≡ Some p) ⊎ ((k : ℕ) × (slice_get rest k ≡ Some p)) → SomeHasReceipt c.receipt.number (answers ∷ more)
    found (inl is) = inl (here p is j c call)
    found (inr (k, is)) = inr (behind k p is j c call)

record LanesReplied (w : World) (entries : List Entry) (all : List Event) (lanes : List (List ℕ)) (after : List (Option (List ℕ))) (passes : List PassView) : Type 0 where
  answers : List (List Answer)
  written : after ≡ map Some (lane_texts lanes answers)
  replies : EachOfTheRun w all lanes answers
  receipts : HaveAll answers passes
  count : receipts_in answers ≡ calls_of_all passes
  faults : EachAnswered lanes answers
  full : SomeToldFull answers → entry_limit ≤ length entries

abbrev PassesStand : List Entry → List PassView → Type 0
PassesStand entries passes = (i : ℕ) (p : PassView) → slice_get passes i ≡ Some p → AllStand entries p.calls

abbrev AreMarked : List Entry → List PassView → Type 0
AreMarked entries passes = (i : ℕ) (p : PassView) → slice_get passes i ≡ Some p → IsFullIfMet entries p

are_marked : (entries : List Entry) (passes : List PassView) → All (IsFullIfMet entries) passes → AreMarked entries passes
are_marked entries [] all i p at = absurd (none-some p at)
are_marked entries (q ∷ qs) all zero p at = subst (IsFullIfMet entries) (same_Some _ _ at) (All-head (IsFullIfMet entries) q qs all)
are_marked entries (q ∷ qs) all (suc i) p at = are_marked entries qs (All-tail (IsFullIfMet entries) q qs all) i p at

either_full : (limit : Type 0) (answers : List Answer) (more : List (List Answer)) → (SomeFull answers → limit) → (SomeToldFull more → limit) → SomeToldFull (answers ∷ more) → limit
either_full limit answers more here behind (inl some) = here some
either_full limit answers more here behind (inr some) = behind some

lanes_replied : (w : World) (entries : List Entry) → IsLegal w entries → (lanes : List (List ℕ)) (ends : List Left) (passes : List PassView) → LanesRan (map lane_over lanes) ends passes → AreWhole ends
    → PassesStand entries passes → AreMarked entries passes → LanesReplied w entries (events_of entries) lanes (map (λ (end : Left). end.after) ends) passes
lanes_replied w entries legal [] [] passes ran whole stand marks = record {
  answers = [];
  written = refl;
  replies = tt;
  receipts = λ i p at. absurd (none-some p (ap (λ (ps : List PassView). slice_get ps i) (sym ran) ∙ at));
  count = ap calls_of_all (sym ran);
  faults = tt;
  full = λ some. absurd some;
}
lanes_replied w entries legal [] (end ∷ ends) passes ran whole stand marks = absurd ran
lanes_replied w entries legal (lane ∷ lanes) [] passes ran whole stand marks = absurd ran
lanes_replied w entries legal (lane ∷ lanes) (end ∷ ends) passes (pass, rest, is, one, more) whole stand marks =
    let stand' : PassesStand entries (cons_option pass rest) = subst (PassesStand entries) is stand in
    let marks' : AreMarked entries (cons_option pass rest) = subst (AreMarked entries) is marks in
    let here = lane_replied w entries legal lane end.after pass end.result (All-head (λ (x : Left). IsOk x.result) end ends whole) one
    (λ p some. stand' 0 p (at_first pass rest p some)) (λ p some. marks' 0 p (at_first pass rest p some)) in
    let behind = lanes_replied w entries legal lanes ends rest more (All-tail (λ (x : Left). IsOk x.result) end ends whole)
    (λ i p at. let found = behind_first pass rest i p at in stand' found.0 p found.1) (λ i p at. let found = behind_first pass rest i p at in marks' found.0 p found.1) in
    record {
      answers = here.answers ∷ behind.answers;
      written = ap₂ (λ (x : Option (List ℕ)) (xs : List (Option (List ℕ))). x ∷ xs) here.written behind.written;
      replies = (here.replies, behind.replies);
      receipts = subst (HaveAll (here.answers ∷ behind.answers)) (sym is) (have_all here.answers behind.answers pass rest here.receipts behind.receipts);
      count = omega (arith, here.count, behind.count, ap calls_of_all is, first_and_rest pass rest);
      faults = (here.faults, behind.faults);
      full = either_full _ here.answers behind.answers here.full behind.full;
    }

-- ---- the round

same_texts : (xs ys : List (List ℕ)) → map Some xs ≡ map Some ys → xs ≡ ys
same_texts [] [] same = refl
same_texts [] (y ∷ ys) same = absurd (cc)
same_texts (x ∷ xs) [] same = absurd (cc)
same_texts (x ∷ xs) (y ∷ ys) same =
    let first : x ≡ y = cc in
    let rest : map Some xs ≡ map Some ys = cc in
    ap₂ (λ (z : List ℕ) (zs : List (List ℕ)). z ∷ zs) first (same_texts xs ys rest)

-- each entry is a call
every : (journal : List Entry) (passes : List PassView) (owners : List Owner) (answers : List (List Answer)) → AreTheCalls journal passes owners → HaveAll answers passes
    → (k : ℕ) → k < length (events_of journal) → SomeHasReceipt (k + 1) answers
every journal passes owners answers calls receipts k lt =
    let within : k < length owners = omega (arith, calls.size, length-map journal (λ (x : Entry). x.event)) in
    let o = get_or owners k (owner_at 0 0) in
    let found = calls.entries k o (slice_get-get_or owners k (owner_at 0 0) within) in
    subst (λ (n : ℕ). SomeHasReceipt n answers) found.3 (receipts o.pass found.0 found.2.0 o.call found.1 found.2.1)

settles_to : (w next : World) (passes : List PassView) (conclusion : Conclusion) (settled : Settled) → conclusion ≡ conclusions.Settles settled → Concludes w passes conclusion (Some next) → SettlesTo w passes settled next
settles_to w next passes conclusion settled is concludes = subst (λ (c : Conclusion). Concludes w passes c (Some next)) is concludes

pub lanes_reply_as_the_run : LanesReplyAsTheRun
lanes_reply_as_the_run w next lanes texts round settled (passes, led, ran, concludes, goes) is written =
    let to = settles_to w next passes round.conclusion settled is (subst (λ (o : Option World). Concludes w passes round.conclusion o) goes.1 concludes) in
    let entries = settled.journal.entries in
    let calls = to.settles.1.2 in
    let all = lanes_replied w entries to.settles.0 lanes round.ends passes ran goes.0 (stands entries passes settled.owners calls) (are_marked entries passes to.full) in
    record {
      answers = all.answers;
      written = same_texts texts (lane_texts lanes all.answers) (sym written ∙ all.written);
      each = all.replies;
      every = every entries passes settled.owners all.answers calls all.receipts;
      count = all.count ∙ (sym (claims_count 0 passes) ∙ (calls.count ∙ sym (length-map entries (λ (x : Entry). x.event))));
      faults = all.faults;
      full = λ some. omega (arith, all.full some, length-map entries (λ (x : Entry). x.event));
    }
