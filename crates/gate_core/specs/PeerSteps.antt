-- What each event of a peer gives: the reply, and the state after it.
use Rattle.std.specs.Prelude.{ℕ, ◌+◌, ◌-◌, min, true, if◌then◌else◌, List, [], ◌∷◌, ◌++◌, Option, Some, None, Result, Ok, Err}
use Rattle.gate_bytes.specs.Order.{Rule, first_failing}
use Rattle.gate_tx.specs.Tx.{Tx}
use Rattle.gate_tx.specs.Ids.{txid_of}
use Rattle.gate_rules.specs.declared.Denial.{Denial}
use Rattle.gate_rules.specs.declared.Denial.TheVariants.{Decode}
use Rattle.gate_admit.specs.declared.Grant.{Grant}
use Rattle.gate_admit.specs.Submission.{Submitted, submit_of}
use Rattle.gate_admit.specs.Policies.{Policy, feerate_by}
use Rattle.gate_query.specs.Answers.{listing_at}
use Rattle.gate_message.specs.declared.denial.Then.{Then}
use Rattle.gate_message.specs.declared.denial.Then.TheVariants.{Keep, Close, Relay}
use Rattle.gate_rules.specs.declared.PeerDenial.{PeerDenial}
use Rattle.gate_rules.specs.declared.PeerDenial.TheVariants.{Admission}
use Rattle.gate_message.specs.declared.reply.Reply.{Reply}
use Rattle.gate_message.specs.declared.reply.Reply.TheVariants.{Entered, Left, Admitted, Listing, Block, Headers, Filter, Denied}
use Rattle.gate_net.specs.Permissions.{Permissions}
use Rattle.gate_message.specs.Following.{then_of}
use Rattle.gate_core.specs.Sessions.{Session, session, flags_in, rate_in, rate_after, closed, rated}
use Rattle.gate_core.specs.World.{World, flags_at, standing_of}
use Rattle.gate_core.specs.Access.{entering_rules, session_rules, submission_rules, listing_rules, block_rules, headers_rules, seconds_at}
use Rattle.gate_net.specs.Addresses.{Address}
use Rattle.gate_chain.specs.Times.{tip_of}

-- the sessions after a denial to a peer, by what follows from it
abbrev pub sessions_after : Then → List Session → ℕ → List Session
sessions_after Keep sessions peer = sessions
sessions_after Close sessions peer = closed sessions peer
sessions_after Relay sessions peer = sessions

abbrev pub denied_then : World → ℕ → PeerDenial → Then → Reply × World
denied_then w peer denial follows = (Denied denial follows, record w { sessions = sessions_after follows w.sessions peer })

-- what follows under a policy for the session of a peer with these flags: a rule of admission closes none if the policy keeps them
abbrev pub then_under : Policy → Permissions → PeerDenial → Then
then_under policy flags (Admission denial) = if policy.keep_invalid then Keep else then_of flags (Admission denial)
then_under policy flags denial = then_of flags denial

-- what follows for the session of a peer
abbrev pub then_for : World → ℕ → PeerDenial → Then
then_for w peer denial = then_under w.policy (flags_in w.sessions peer) denial

abbrev pub denied : World → ℕ → PeerDenial → Reply × World
denied w peer denial = denied_then w peer denial (then_for w peer denial)

abbrev pub answered : World → ℕ → Reply × World → Option PeerDenial → Reply × World
answered w peer served (Some denial) = denied w peer denial
answered w peer served None = served

-- an event of a peer: the rules on it, and what it gives if none of them fails
abbrev pub peer_step : World → ℕ → List (Rule PeerDenial) → Reply × World → Reply × World
peer_step w peer rules served = answered w peer served (first_failing rules)

abbrev pub seated : World → ℕ → Permissions → Reply × World
seated w peer flags = (Entered flags, record w { sessions = w.sessions ++ session peer true flags 0 ∷ [] })

abbrev pub entered : World → ℕ → Address → Reply × World
entered w peer address = seated w peer (flags_at w address)

abbrev pub left : World → ℕ → Reply × World
left w peer = (Left, record w { sessions = closed w.sessions peer })

-- the reply to a submission with this decision
abbrev pub decided : World → ℕ → Option Tx → Result Grant Denial → Reply × World
decided w peer None decision = denied w peer (Admission Decode)
decided w peer (Some tx) (Ok grant) = (Admitted (txid_of tx) grant.fee grant.vsize grant.replaced, w)
decided w peer (Some tx) (Err denial) = denied w peer (Admission denial)

-- what a submission with this outcome gives: pool and floor are as it left them, whatever the reply
abbrev pub concluded : World → ℕ → Option Tx → Submitted → Reply × World
concluded w peer transaction s = decided (record w { pool = s.entries; floor = s.floor }) peer transaction s.decision

abbrev pub submitted : World → ℕ → ℕ → Option Tx → Reply × World
submitted w peer now transaction = concluded w peer transaction (submit_of (standing_of w) transaction now w.budget)

-- a listing leaves out the entries that the peer's own rate hides
abbrev pub listed : World → ℕ → Reply × World
listed w peer = (Listing (listing_at (feerate_by w.policy (rate_in w.sessions peer)) w.pool), w)

abbrev pub filter_with : World → ℕ → ℕ → Reply × World
filter_with w peer rate = (Filter rate, record w { sessions = rated w.sessions peer rate })

abbrev pub filter_set : World → ℕ → ℕ → Reply × World
filter_set w peer rate = filter_with w peer (rate_after w.sessions peer rate)

abbrev pub block_given : World → ℕ → Reply × World
block_given w height = (Block height (seconds_at w.chain height), w)

-- at most 2,000 headers are given at a time
abbrev pub headers_given : World → ℕ → Reply × World
headers_given w height = (Headers (height + 1) (min 2000 (tip_of w.chain - height)), w)

-- ---- each event, under its rules

-- a peer enters from an address
abbrev pub entering_step : World → ℕ → Address → Reply × World
entering_step w peer address = peer_step w peer (entering_rules w.sessions peer) (entered w peer address)

-- a peer leaves
abbrev pub leaving_step : World → ℕ → Reply × World
leaving_step w peer = peer_step w peer (session_rules w.sessions peer) (left w peer)

-- a peer submits a transaction
abbrev pub submission_step : World → ℕ → ℕ → Option Tx → Reply × World
submission_step w peer now transaction = peer_step w peer (submission_rules w peer transaction) (submitted w peer now transaction)

-- a peer asks for the listing of the pool
abbrev pub listing_step : World → ℕ → Reply × World
listing_step w peer = peer_step w peer (listing_rules w peer) (listed w peer)

-- a peer asks for a block
abbrev pub block_step : World → ℕ → ℕ → Reply × World
block_step w peer height = peer_step w peer (block_rules w peer height) (block_given w height)

-- a peer asks for headers
abbrev pub headers_step : World → ℕ → ℕ → Reply × World
headers_step w peer height = peer_step w peer (headers_rules w peer height) (headers_given w height)

-- a peer sets its fee filter
abbrev pub filter_step : World → ℕ → ℕ → Reply × World
filter_step w peer rate = peer_step w peer (session_rules w.sessions peer) (filter_set w peer rate)
