-- Good states along a run that is apart.
use Rattle.std.proofs.Common.{◌≡◌, List, [], ◌∷◌, ◌++◌, Contains, ⊎_elim, refl, sym, ap, ◌∙◌, subst, append_assoc}
use Rattle.std.specs.List.{All, flat_map}
use Rattle.std.proofs.lemmas.List.Elements.{All-head, All-tail, Contains-append_left, Contains-append_right, Contains-append_cases}
use Rattle.gate_tx.specs.Tx.{Tx}
use Rattle.gate_reorg.proofs.Knowing.{Contains-flat_map, Contains-from_flat_map}
use Rattle.gate_message.specs.declared.event.Event.{Event}
use Rattle.gate_message.specs.declared.reply.Reply.{Reply}
use Rattle.gate_core.specs.World.{World}
use Rattle.gate_core.specs.Steps.{step_of}
use Rattle.gate_message.specs.Spelled.{IsSpelled, transactions_of}
use Rattle.gate_core.specs.Good.{IsGoodWorld, IsApartFrom, limits_of, transactions_in}
use Rattle.gate_core.specs.Runs.{run_of, IsRunApart, LeadsTo}
use Rattle.gate_core.proofs.Keeping.{apart_part, apart_stays, step_limits, step_good, step_from}

in_first : (a b c : List Tx) (tx : Tx) → Contains (a ++ b) tx → Contains (a ++ (b ++ c)) tx
in_first a b c tx h = subst (λ l. Contains l tx) (append_assoc a b c) (Contains-append_left (a ++ b) c tx h)

in_rest : (a b c d : List Tx) (tx : Tx) → (Contains d tx → Contains (a ++ b) tx) → Contains (d ++ c) tx → Contains (a ++ (b ++ c)) tx
in_rest a b c d tx from h =
    ⊎_elim (λ k. in_first a b c tx (from k)) (λ k. Contains-append_right a (b ++ c) tx (Contains-append_right b c tx k)) (Contains-append_cases d c tx h)

-- the first event of a run that is apart, and the run after it, are apart
pub apart_first : (w : World) (event : Event) (events : List Event) → IsRunApart w (event ∷ events) → IsApartFrom w event
apart_first w event events apart =
    apart_part (transactions_in w ++ transactions_of event) (transactions_in w ++ (transactions_of event ++ flat_map transactions_of events))
    (in_first (transactions_in w) (transactions_of event) (flat_map transactions_of events)) apart

pub apart_rest : (w : World) (event : Event) (events : List Event) → IsRunApart w (event ∷ events) → IsRunApart (step_of w event).1 events
apart_rest w event events apart =
    apart_part (transactions_in (step_of w event).1 ++ flat_map transactions_of events) (transactions_in w ++ (transactions_of event ++ flat_map transactions_of events))
    (λ tx. in_rest (transactions_in w) (transactions_of event) (flat_map transactions_of events) (transactions_in (step_of w event).1) tx (step_from w event tx)) apart

-- a run is apart where one is that has its events, whatever others it has
brought : (part whole : List Event) → ((event : Event) → Contains part event → Contains whole event) → (tx : Tx)
    → Contains (flat_map transactions_of part) tx → Contains (flat_map transactions_of whole) tx
brought part whole among tx h =
    let from = Contains-from_flat_map transactions_of part tx h in
    Contains-flat_map transactions_of whole from.item tx (among from.item from.among) from.within

pub apart_among : (w : World) (part whole : List Event) → ((event : Event) → Contains part event → Contains whole event) → IsRunApart w whole → IsRunApart w part
apart_among w part whole among apart =
    apart_part (transactions_in w ++ flat_map transactions_of part) (transactions_in w ++ flat_map transactions_of whole)
    (λ tx h.
    ⊎_elim (λ k. Contains-append_left (transactions_in w) (flat_map transactions_of whole) tx k)
    (λ k. Contains-append_right (transactions_in w) (flat_map transactions_of whole) tx (brought part whole among tx k))
    (Contains-append_cases (transactions_in w) (flat_map transactions_of part) tx h))
    apart

-- where the transactions of a run are told apart by their ids
pub run_good : (events : List Event) (w : World) → All IsSpelled events → IsRunApart w events → IsGoodWorld w → IsGoodWorld (run_of w events).1
run_good [] w spelled apart good = good
run_good (event ∷ events) w spelled apart good =
    let told = All-head IsSpelled event events spelled in
    run_good events (step_of w event).1 (All-tail IsSpelled event events spelled) (apart_rest w event events apart)
    (step_good w event told (apart_stays w event good.chain told (apart_first w event events apart)) good)

pub run_same_limits : (events : List Event) (w : World) → limits_of (run_of w events).1 ≡ limits_of w
run_same_limits [] w = refl
run_same_limits (event ∷ events) w = run_same_limits events (step_of w event).1 ∙ step_limits w event

pub steps_give_the_run : (w : World) (events : List Event) (replies : List Reply) (end : World) → IsGoodWorld w → IsRunApart w events → LeadsTo w events replies end
    → ((replies, end) ≡ run_of w events) × IsGoodWorld end
steps_give_the_run w [] [] end good apart h = (λ i. ([], h i), subst IsGoodWorld (sym h) good)
steps_give_the_run w [] (reply ∷ replies) end good apart h = absurd h
steps_give_the_run w (event ∷ events) [] end good apart h = absurd h
steps_give_the_run w (event ∷ events) (reply ∷ replies) end good apart h =
    let given = h.1 good (apart_first w event events apart) in
    let replied : reply ≡ (step_of w event).0 = ap (λ (p : Reply × World). p.0) given.0 in
    let moved : h.0 ≡ (step_of w event).1 = ap (λ (p : Reply × World). p.1) given.0 in
    let later = steps_give_the_run h.0 events replies end given.1 (subst (λ v. IsRunApart v events) (sym moved) (apart_rest w event events apart)) h.2 in
    let run : (replies, end) ≡ run_of (step_of w event).1 events = later.0 ∙ ap (λ v. run_of v events) moved in
    (λ i. (replied i ∷ (ap (λ (p : List Reply × World). p.0) run) i, (ap (λ (p : List Reply × World). p.1) run) i), later.1)
