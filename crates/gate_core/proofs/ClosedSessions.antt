-- Closed sessions along a run.
use Rattle.std.proofs.Common.{◌≡◌, ℕ, zero, suc, Bool, false, not, is_some, if◌then◌else◌, List, [], ◌∷◌, ◌++◌, Option, Some, None, ap, ◌∙◌, ◌⊎◌, ◌≢◌, is_none, inl, inr, ⊎_elim}
use Rattle.std.specs.Prelude.{◌||◌}
use Rattle.std.specs.List.{slice_get}
use Rattle.std.specs.Option.{option_map_or}
use Rattle.std.proofs.lemmas.Bool.Decides.{eqb_tells}
use Rattle.gate_bytes.specs.Order.{Rule, first_failing}
use Rattle.gate_rules.specs.declared.Denial.TheVariants.{Decode}
use Rattle.gate_message.specs.declared.caller.Caller.{Caller}
use Rattle.gate_message.specs.declared.caller.Caller.TheVariants.{Chain, Operator, Peer, User}
use Rattle.gate_message.specs.declared.event.Event.{Event}
use Rattle.gate_message.specs.declared.event.Event.TheVariants.{Enter, Leave, Tx as Submit, Package, Mempool, GetBlock, Headers, FeeFilter, Rpc, SetFloor, Set as Turn, Chain as OfChain}
use Rattle.gate_rules.specs.declared.PeerDenial.{PeerDenial}
use Rattle.gate_rules.specs.declared.PeerDenial.TheVariants.{PeerUnknown, PeerClosed, PeerKnown, BlocksOnly, AlreadyInMempool, MempoolNoBloom, MempoolUploadTarget, HeadersDuringDownload, UnknownBlock, HistoricalUploadTarget, NoPackages, Admission}
use Rattle.gate_message.specs.declared.reply.Reply.{Reply}
use Rattle.gate_message.specs.Callers.{caller_of}
use Rattle.gate_core.specs.Sessions.{Session, session_of, flags_in}
use Rattle.gate_core.specs.World.{World}
use Rattle.gate_core.specs.Access.{is_pooled, lacks_relay, lacks_bloom, lacks_upload, lacks_headers, lacks_history, is_above_tip, is_unknown_block, entering_rules, session_rules}
use Rattle.gate_core.specs.PeerSteps.{answered, entered, left, submitted, listed, block_given, headers_given, filter_set}
use Rattle.gate_core.specs.Pairing.{both_of, paired_if_read}
use Rattle.gate_core.specs.Steps.{step_of}
use Rattle.gate_core.specs.Runs.{run_of}
use Rattle.gate_core.specs.SessionLaws.{closed_reply}
use Rattle.gate_core.proofs.Separate.{step_leaves}

entering_known : (sessions : List Session) (peer : ℕ) (s : Session) → session_of sessions peer ≡ Some s → first_failing (entering_rules sessions peer) ≡ Some PeerKnown
entering_known sessions peer s h = ap (λ (o : Option Session). if is_some o then Some PeerKnown else None) h

abbrev by_session : List (Rule PeerDenial) → Option Session → Option PeerDenial
by_session rest o = if not (is_some o) then Some PeerUnknown else if option_map_or (λ (s : Session). not s.is_open) o false then Some PeerClosed else first_failing rest

closed_first : (sessions : List Session) (peer : ℕ) (s : Session) (rest : List (Rule PeerDenial)) → session_of sessions peer ≡ Some s → s.is_open ≡ false
    → first_failing (session_rules sessions peer ++ rest) ≡ Some PeerClosed
closed_first sessions peer s rest h shut = ap (λ (o : Option Session). by_session rest o) h ∙ ap (λ (b : Bool). if not b then Some PeerClosed else first_failing rest) shut

abbrev number_of : Caller → ℕ
number_of (Peer peer) = peer
number_of (User user) = 0
number_of Operator = 0
number_of Chain = 0

no_peer : {X : Type 0} (peer : ℕ) → Chain ≡ Peer peer → X
no_peer peer h = cc

own_session : (w : World) (number peer : ℕ) (s : Session) → Peer number ≡ Peer peer → session_of w.sessions peer ≡ Some s → session_of w.sessions number ≡ Some s
own_session w number peer s own h = ap (λ n. session_of w.sessions n) (ap number_of own) ∙ h

-- what a step gives, as a reply that there is
abbrev pub told : Reply × World → Option Reply × World
told given = (Some given.0, given.1)

pub step_closed : (w : World) (event : Event) (peer : ℕ) (s : Session) → caller_of event ≡ Peer peer → session_of w.sessions peer ≡ Some s → s.is_open ≡ false → told (step_of w event) ≡ (closed_reply event, w)
unfolding step_of
step_closed w (Enter number address) peer s own h shut = ap (λ r. told (answered w number (entered w number address) r)) (entering_known w.sessions number s (own_session w number peer s own h))
step_closed w (Leave number) peer s own h shut = ap (λ r. told (answered w number (left w number) r)) (closed_first w.sessions number s [] (own_session w number peer s own h) shut)
step_closed w (Submit number now transaction) peer s own h shut =
    ap (λ r. told (answered w number (submitted w number now transaction) r)) (closed_first w.sessions number s ((BlocksOnly, lacks_relay w (flags_in w.sessions number)) ∷ (Admission Decode, is_none transaction) ∷ (AlreadyInMempool, is_pooled w.pool transaction) ∷ []) (own_session w number peer s own h) shut)
step_closed w (Package number now parent child) peer s own h shut =
    ap (λ r. told (answered w number (paired_if_read w number now (both_of parent child)) r))
    (closed_first w.sessions number s ((BlocksOnly, lacks_relay w (flags_in w.sessions number)) ∷ (NoPackages, not w.policy.packages) ∷ (Admission Decode, is_none parent || is_none child) ∷ []) (own_session w number peer s own h) shut)
step_closed w (Mempool number) peer s own h shut = ap (λ r. told (answered w number (listed w number) r)) (closed_first w.sessions number s ((MempoolNoBloom, lacks_bloom w (flags_in w.sessions number)) ∷ (MempoolUploadTarget, lacks_upload w (flags_in w.sessions number)) ∷ []) (own_session w number peer s own h) shut)
step_closed w (GetBlock number height) peer s own h shut =
    ap (λ r. told (answered w number (block_given w height) r))
    (closed_first w.sessions number s ((UnknownBlock, is_unknown_block w height) ∷ (HistoricalUploadTarget, lacks_history w (flags_in w.sessions number) height) ∷ []) (own_session w number peer s own h) shut)
step_closed w (Headers number height) peer s own h shut =
    ap (λ r. told (answered w number (headers_given w height) r))
    (closed_first w.sessions number s ((HeadersDuringDownload, lacks_headers w (flags_in w.sessions number)) ∷ (UnknownBlock, is_above_tip w height) ∷ []) (own_session w number peer s own h) shut)
step_closed w (FeeFilter number rate) peer s own h shut = ap (λ r. told (answered w number (filter_set w number rate) r)) (closed_first w.sessions number s [] (own_session w number peer s own h) shut)
step_closed w (Rpc call) peer s own h shut = cc
step_closed w (SetFloor rate) peer s own h shut = cc
step_closed w (Turn switch on) peer s own h shut = cc
step_closed w (OfChain event) peer s own h shut = no_peer peer own

by_caller : (event : Event) (peer : ℕ) → (caller_of event ≡ Peer peer) ⊎ (caller_of event ≢ Peer peer)
by_caller event peer = by (caller_of event)
  where
    by : (c : Caller) → (c ≡ Peer peer) ⊎ (c ≢ Peer peer)
    by Operator = inr (λ h. cc)
    by Chain = inr (λ h. cc)
    by (User user) = inr (λ h. cc)
    by (Peer number) = ⊎_elim (λ k. inl (ap Peer k.1)) (λ k. inr (λ h. k.1 (ap number_of h))) (eqb_tells number peer)

step_shut : (w : World) (event : Event) (peer : ℕ) (s : Session) → session_of w.sessions peer ≡ Some s → s.is_open ≡ false → session_of (step_of w event).1.sessions peer ≡ Some s
step_shut w event peer s h shut =
    ⊎_elim (λ own. ap (λ (p : Option Reply × World). session_of p.1.sessions peer) (step_closed w event peer s own h shut) ∙ h) (λ other. step_leaves w event peer other ∙ h) (by_caller event peer)

some_is : (a b : Event) → Some a ≡ Some b → a ≡ b
some_is a b h = cc

first_reply : (w : World) (event asked : Event) (peer : ℕ) (s : Session) → event ≡ asked → caller_of asked ≡ Peer peer → session_of w.sessions peer ≡ Some s → s.is_open ≡ false
    → Some (step_of w event).0 ≡ closed_reply asked
first_reply w event asked peer s same own h shut =
    ap (λ e. Some (step_of w e).0) same ∙ ap (λ (p : Option Reply × World). p.0) (step_closed w asked peer s own h shut)

pub run_shut : (events : List Event) (w : World) (peer : ℕ) (s : Session) → session_of w.sessions peer ≡ Some s → s.is_open ≡ false → session_of (run_of w events).1.sessions peer ≡ Some s
run_shut [] w peer s h shut = h
run_shut (event ∷ events) w peer s h shut = run_shut events (step_of w event).1 peer s (step_shut w event peer s h shut) shut

pub run_answers : (events : List Event) (w : World) (peer : ℕ) (s : Session) (k : ℕ) (event : Event) → session_of w.sessions peer ≡ Some s → s.is_open ≡ false
    → slice_get events k ≡ Some event → caller_of event ≡ Peer peer → slice_get (run_of w events).0 k ≡ closed_reply event
run_answers [] w peer s k event h shut at own = cc
run_answers (first ∷ events) w peer s zero event h shut at own = first_reply w first event peer s (some_is first event at) own h shut
run_answers (first ∷ events) w peer s (suc k) event h shut at own = run_answers events (step_of w first).1 peer s k event (step_shut w first peer s h shut) shut at own
