-- What the listings of a run are.
use Rattle.std.proofs.Common.{◌≡◌, ℕ, zero, suc, Bool, true, false, if◌then◌else◌, List, [], ◌∷◌, Option, Some, None, Result, Ok, Err, map, refl, sym, ap, ◌∙◌, subst}
use Rattle.gate_bytes.specs.Order.{first_failing}
use Rattle.gate_tx.specs.Tx.{Tx}
use Rattle.gate_rules.specs.declared.Denial.{Denial}
use Rattle.gate_admit.specs.declared.Grant.{Grant}
use Rattle.gate_pool.specs.Pool.{Admitted, listing_of}
use Rattle.gate_tx.specs.Ids.{txid_of}
use Rattle.gate_admit.specs.Submission.{submit_of}
use Rattle.gate_message.specs.declared.event.Event.{Event}
use Rattle.gate_message.specs.declared.event.Event.TheVariants.{Enter, Leave, Tx as Submit, Package, Mempool, GetBlock, Headers, FeeFilter, Rpc, SetFloor, Set as Turn, Chain as OfChain}
use Rattle.gate_rules.specs.declared.PeerDenial.{PeerDenial}
use Rattle.gate_message.specs.declared.reply.Reply.{Reply}
use Rattle.gate_message.specs.declared.reply.Reply.TheVariants.{Listing, Rpc as Answered}
use Rattle.gate_message.specs.UserCalls.{UserCall}
use Rattle.gate_rpc.specs.declared.fault.CallError.{CallError}
use Rattle.gate_rpc.specs.declared.fault.CallError.TheVariants.{MethodNotFound}
use Rattle.gate_rpc.specs.declared.id.Id.{Id}
use Rattle.gate_rpc.specs.declared.request.Command.{Command}
use Rattle.gate_rpc.specs.declared.request.Command.TheVariants.{GetRawMempool, GetRawMempoolVerbose}
use Rattle.gate_rpc.specs.declared.request.Request.{Request}
use Rattle.gate_rpc.specs.declared.items.KnownEntry.{KnownEntry}
use Rattle.gate_rpc.specs.declared.result.RpcResult.TheVariants.{Entries, Txids}
use Rattle.gate_query.specs.Queries.{entries_known, known_from}
use Rattle.gate_rpc.specs.declared.reply.RpcReply.{RpcReply}
use Rattle.gate_rpc.specs.declared.reply.RpcReply.TheVariants.{NotAllowed, Answer}
use Rattle.gate_rpc.specs.Calls.{method_of, request_of}
use Rattle.gate_rpc.specs.Methods.{method_name}
use Rattle.gate_core.proofs.Calls.{call_gives}
use Rattle.gate_core.proofs.Pairs.{pair_gives}
use Rattle.gate_core.proofs.Following.{chain_gives}
use Rattle.gate_core.specs.World.{World, standing_of}
use Rattle.gate_core.specs.Access.{entering_rules, session_rules, submission_rules, listing_rules, block_rules, headers_rules}
use Rattle.gate_core.specs.PeerSteps.{decided, answered, entered, left, submitted, listed, block_given, headers_given, filter_set}
use Rattle.gate_core.specs.Steps.{step_of}
use Rattle.gate_core.specs.Packaging.{lacks_method, served}
use Rattle.gate_core.specs.RpcSteps.{is_barred, commanded, called_by, rpc_step}
use Rattle.gate_core.specs.Runs.{ListsThePool, AnswersThePool, DescribesThePool, told_to}

-- the event that a listing answers, and what it has
abbrev Told : World → Event → List (List ℕ) → Type 0
Told w event txids = (peer : ℕ) × (event ≡ Mempool peer) × (txids ≡ told_to peer w)

decided_lists : {X : Type 0} (w : World) (peer : ℕ) (transaction : Option Tx) (decision : Result Grant Denial) (txids : List (List ℕ)) → (decided w peer transaction decision).0 ≡ Listing txids → X
decided_lists w peer None decision txids h = cc
decided_lists w peer (Some tx) (Ok grant) txids h = cc
decided_lists w peer (Some tx) (Err denial) txids h = cc

submitted_lists : {X : Type 0} (w : World) (peer now : ℕ) (transaction : Option Tx) (txids : List (List ℕ)) → (submitted w peer now transaction).0 ≡ Listing txids → X
submitted_lists w peer now transaction txids h =
    let s = submit_of (standing_of w) transaction now w.budget in
    decided_lists (record w { pool = s.entries; floor = s.floor }) peer transaction s.decision txids h

answered_lists : {X : Type 0} (w : World) (peer : ℕ) (served : Reply × World) (denial : Option PeerDenial) (txids : List (List ℕ))
    → (served.0 ≡ Listing txids → X) → (answered w peer served denial).0 ≡ Listing txids → X
answered_lists w peer served (Some denial) txids done h = cc
answered_lists w peer served None txids done h = done h

no_answer : {X : Type 0} (answer : RpcReply) (txids : List (List ℕ)) → Answered answer ≡ Listing txids → X
no_answer answer txids h = cc

same_list : (a b : List (List ℕ)) → Listing a ≡ Listing b → b ≡ a
same_list a b h = cc

step_lists : (w : World) (event : Event) (txids : List (List ℕ)) → (step_of w event).0 ≡ Listing txids → Told w event txids
unfolding step_of
step_lists w (Enter peer address) txids h = answered_lists w peer (entered w peer address) (first_failing (entering_rules w.sessions peer)) txids (λ k. cc) h
step_lists w (Leave peer) txids h = answered_lists w peer (left w peer) (first_failing (session_rules w.sessions peer)) txids (λ k. cc) h
step_lists w (Submit peer now transaction) txids h =
    answered_lists w peer (submitted w peer now transaction) (first_failing (submission_rules w peer transaction)) txids (submitted_lists w peer now transaction txids) h
step_lists w (Package peer now parent child) txids h =
    pair_gives (λ p. p.0 ≡ Listing txids → Told w (Package peer now parent child) txids) w peer now parent child (λ denial k. cc) (λ denial k. cc) (λ offered is k. cc) h
step_lists w (Mempool peer) txids h =
    answered_lists w peer (listed w peer) (first_failing (listing_rules w peer)) txids (λ k. (peer, refl, same_list (told_to peer w) txids k)) h
step_lists w (GetBlock peer height) txids h = answered_lists w peer (block_given w height) (first_failing (block_rules w peer height)) txids (λ k. cc) h
step_lists w (Headers peer height) txids h = answered_lists w peer (headers_given w height) (first_failing (headers_rules w peer height)) txids (λ k. cc) h
step_lists w (FeeFilter peer rate) txids h = answered_lists w peer (filter_set w peer rate) (first_failing (session_rules w.sessions peer)) txids (λ k. cc) h
step_lists w (Rpc call) txids h =
    call_gives (λ p. p.0 ≡ Listing txids → Told w (Rpc call) txids) w call.time call.user (request_of call.json) (λ answer k. no_answer answer txids k)
    (λ id transaction is k. no_answer _ txids k) (λ id offer is k. no_answer _ txids k) h
step_lists w (SetFloor rate) txids h = cc
step_lists w (Turn switch on) txids h = cc
step_lists w (OfChain event) txids h =
    chain_gives (λ p. p.0 ≡ Listing txids → Told w (OfChain event) txids) w event (λ denial k. cc) (λ disconnect now blocks is passes k. cc) (λ coin passes k. cc) (λ row k. cc) (λ blocks k. cc) h

some_is : (reply other : Reply) → Some reply ≡ Some other → reply ≡ other
some_is reply other h = cc

pub lists_the_pool : (events : List Event) (w : World) → ListsThePool w events
lists_the_pool [] w k txids h = cc
lists_the_pool (event ∷ events) w zero txids h =
    let told = step_lists w event txids (some_is _ _ h) in
    (told.0, ap Some told.1, told.2)
lists_the_pool (event ∷ events) w (suc k) txids h = lists_the_pool events (step_of w event).1 k txids h

-- ---- answers to users

-- a call of a method that there always is
done_if_there : (P : Reply × World → Type 0) (w : World) (now : ℕ) (request : Request) (command : Command) → request.command ≡ command → lacks_method w (method_of command) ≡ false
    → P (commanded w now request.id request.command) → P (called_by w now (served w (Ok request)))
done_if_there P w now request command is there done =
    subst (λ (b : Bool). P (called_by w now (if b then Err (MethodNotFound request.id (method_name (method_of request.command))) else Ok request)))
    (sym (ap (λ (c : Command). lacks_method w (method_of c)) is ∙ there)) done

-- the answer to `getrawmempool`
abbrev Lists : World → Id → List (List ℕ) → Reply × World → Type 0
Lists w id txids given = given.0 ≡ Answered (Answer id (Txids txids)) → txids ≡ listing_of w.pool

command_lists : (w : World) (now : ℕ) (own id : Id) (command : Command) (txids : List (List ℕ)) → command ≡ GetRawMempool → Lists w id txids (commanded w now own command)
command_lists w now own id command txids is = subst (λ (c : Command). Lists w id txids (commanded w now own c)) (sym is) (λ h. cc)

request_lists : (w : World) (call : UserCall) (request : Request) (id : Id) (txids : List (List ℕ)) (b : Bool) → request.command ≡ GetRawMempool
    → Lists w id txids (if b then (Answered NotAllowed, w) else called_by w call.time (served w (Ok request)))
request_lists w call request id txids true is = λ h. cc
request_lists w call request id txids false is =
    done_if_there (Lists w id txids) w call.time request GetRawMempool is refl (command_lists w call.time request.id id request.command txids is)

step_answers : (w : World) (call : UserCall) (request : Request) (id : Id) (txids : List (List ℕ)) → request_of call.json ≡ Ok request → request.command ≡ GetRawMempool
    → Lists w id txids (step_of w (Rpc call))
unfolding step_of
step_answers w call request id txids read is =
    subst (λ (r : Result Request CallError). Lists w id txids (rpc_step w call.user call.time r)) (sym read)
    (request_lists w call request id txids (is_barred w call.user (Ok request)) is)

event_is : (event other : Event) → Some event ≡ Some other → event ≡ other
event_is event other h = cc

pub answers_the_pool : (events : List Event) (w : World) → AnswersThePool w events
answers_the_pool [] w k call request id txids at read is h = cc
answers_the_pool (event ∷ events) w zero call request id txids at read is h =
    subst (λ (e : Event). Lists w id txids (step_of w e)) (sym (event_is event (Rpc call) at)) (step_answers w call request id txids read is) (some_is _ _ h)
answers_the_pool (event ∷ events) w (suc k) call request id txids at read is h = answers_the_pool events (step_of w event).1 k call request id txids at read is h

-- the answer to `getrawmempool true`
known_ids : (all entries : List Admitted) → map (λ (e : KnownEntry). e.txid) (map (known_from all) entries) ≡ listing_of entries
known_ids all [] = refl
known_ids all (e ∷ entries) = ap (λ (ids : List (List ℕ)). txid_of e.tx ∷ ids) (known_ids all entries)

abbrev Describes : World → Id → List KnownEntry → Reply × World → Type 0
Describes w id entries given = given.0 ≡ Answered (Answer id (Entries entries)) → map (λ (e : KnownEntry). e.txid) entries ≡ listing_of w.pool

same_entries : (own id : Id) (some other : List KnownEntry) → Answered (Answer own (Entries some)) ≡ Answered (Answer id (Entries other)) → some ≡ other
same_entries own id some other h = cc

command_describes : (w : World) (now : ℕ) (own id : Id) (command : Command) (entries : List KnownEntry) → command ≡ GetRawMempoolVerbose → Describes w id entries (commanded w now own command)
command_describes w now own id command entries is =
    subst (λ (c : Command). Describes w id entries (commanded w now own c)) (sym is)
    (λ h. ap (λ (es : List KnownEntry). map (λ (e : KnownEntry). e.txid) es) (sym (same_entries own id (entries_known w.pool) entries h)) ∙ known_ids w.pool w.pool)

request_describes : (w : World) (call : UserCall) (request : Request) (id : Id) (entries : List KnownEntry) (b : Bool) → request.command ≡ GetRawMempoolVerbose
    → Describes w id entries (if b then (Answered NotAllowed, w) else called_by w call.time (served w (Ok request)))
request_describes w call request id entries true is = λ h. cc
request_describes w call request id entries false is =
    done_if_there (Describes w id entries) w call.time request GetRawMempoolVerbose is refl (command_describes w call.time request.id id request.command entries is)

step_describes : (w : World) (call : UserCall) (request : Request) (id : Id) (entries : List KnownEntry) → request_of call.json ≡ Ok request → request.command ≡ GetRawMempoolVerbose
    → Describes w id entries (step_of w (Rpc call))
unfolding step_of
step_describes w call request id entries read is =
    subst (λ (r : Result Request CallError). Describes w id entries (rpc_step w call.user call.time r)) (sym read)
    (request_describes w call request id entries (is_barred w call.user (Ok request)) is)

pub describes_the_pool : (events : List Event) (w : World) → DescribesThePool w events
describes_the_pool [] w k call request id entries at read is h = cc
describes_the_pool (event ∷ events) w zero call request id entries at read is h =
    subst (λ (e : Event). Describes w id entries (step_of w e)) (sym (event_is event (Rpc call) at)) (step_describes w call request id entries read is) (some_is _ _ h)
describes_the_pool (event ∷ events) w (suc k) call request id entries at read is h = describes_the_pool events (step_of w event).1 k call request id entries at read is h
