-- The step and what it rests on at small values, by computation.
use Rattle.std.specs.Prelude.{◌≡◌, ℕ, ℤ, pos, Bool, true, false, List, [], ◌∷◌, None, Some, Result, Ok, Err, codes, replicate}
use Rattle.gate_rules.specs.declared.Denial.{Denial}
use Rattle.gate_rules.specs.declared.Denial.TheVariants.{Decode, MempoolFull, VinEmpty}
use Rattle.gate_message.specs.declared.chain_event.ChainEvent.TheVariants.{LearnCoin, LearnVerdict, Forget}
use Rattle.gate_message.specs.declared.event.Event.TheVariants.{Enter, Leave, Tx as Submit, Package, Mempool, GetBlock, Headers as AskHeaders, FeeFilter, SetFloor, Set as Turn, Chain as OfChain}
use Rattle.gate_message.specs.declared.switch.Switch.TheVariants.{Download}
use Rattle.gate_message.specs.declared.denial.Then.TheVariants.{Keep, Close, Relay}
use Rattle.gate_rules.specs.declared.PeerDenial.TheVariants.{PeerUnknown, PeerClosed, PeerKnown, BlocksOnly, AlreadyInMempool, MempoolNoBloom, MempoolUploadTarget, HeadersDuringDownload, UnknownBlock, HistoricalUploadTarget, NoPackages, Admission}
use Rattle.gate_message.specs.declared.reply.Reply.TheVariants.{Entered, Left, Listing, Block, Headers, Filter, Rpc, Denied, Set, Forgotten, Refused}
use Rattle.gate_rules.specs.declared.ChainDenial.TheVariants.{CoinValue, CoinUnspendable, CoinAboveOpening, CoinKnown, NoUndo, VerdictKnown}
use Rattle.gate_chain.specs.declared.OpeningCoin.{OpeningCoin}
use Rattle.gate_submission.specs.declared.Fate.TheVariants as fates
use Rattle.gate_submission.specs.declared.Member.{Member}
use Rattle.gate_submission.specs.declared.Verdict.{Verdict}
use Rattle.gate_submission.specs.declared.Verdict.TheVariants.{Good, Hard}
use Rattle.gate_submission.specs.declared.VerdictRow.{VerdictRow}
use Rattle.gate_admit.specs.Policies.{usual_policy}
use Rattle.gate_net.specs.Addresses.{V4}
use Rattle.gate_tx.specs.declared.OutPoint.{OutPoint}
use Rattle.gate_net.specs.Permissions.{Permissions, no_permissions, permissions_text}
use Rattle.gate_core.specs.Switching.{unswitched}
use Rattle.gate_core.specs.Sessions.{Session, session}
use Rattle.gate_core.specs.World.{World}
use Rattle.gate_core.specs.PeerSteps.{denied}
use Rattle.gate_core.specs.Pairing.{then_after}
use Rattle.gate_core.specs.RpcSteps.{rpc_step}
use Rattle.gate_rpc.specs.declared.id.Id.TheVariants.{Null, Unsigned}
use Rattle.gate_rpc.specs.declared.request.Command.{Command}
use Rattle.gate_rpc.specs.declared.request.Command.TheVariants.{SendRawTransaction, TestMempoolAccept, TestList, GetRawMempool, GetRawMempoolVerbose, GetMempoolEntry, GetMempoolInfo, GetRawTransaction, GetTxSpendingPrevout}
use Rattle.gate_rpc.specs.declared.request.Request.{Request}
use Rattle.gate_rpc.specs.declared.fault.CallError.{CallError}
use Rattle.gate_rpc.specs.declared.fault.CallError.TheVariants.{ParseError, MethodNotFound}
use Rattle.gate_rpc.specs.declared.error.RpcError.TheVariants as errors
use Rattle.gate_rpc.specs.declared.result.RpcResult.TheVariants.{Txids, Info, Entries, Spendings}
use Rattle.gate_rpc.specs.declared.reply.RpcReply.TheVariants.{NotAllowed, Answer, Failure}
use Rattle.gate_core.specs.Steps.{step_of}

-- a state with these sessions and an empty pool
abbrev pub with_sessions : Bool → List Session → World
with_sessions bloom sessions = record {
  chain = record { first = 0; coins = []; times = []; blocks = [] };
  pool = [];
  floor = 0;
  sessions = sessions;
  budget = 0;
  policy = usual_policy;
  verdicts = record { rows = []; other = None };
  whitelist = record { entries = []; relay = true; forcerelay = false };
  rpcwhitelist = record { entries = []; is_default_on = false };
  blocksonly = false;
  switches = unswitched bloom;
}

-- peer 7, there or not, and peer 8, which has left
abbrev pub two_peers : Bool → Bool → World
two_peers bloom is_open = with_sessions bloom (session 7 is_open no_permissions 0 ∷ session 8 false no_permissions 0 ∷ [])

-- peer 7 alone, with this rate
abbrev pub with_rate : ℕ → World
with_rate rate = with_sessions true (session 7 true no_permissions rate ∷ [])

-- peer 7 alone, with these flags
abbrev pub one_peer : Permissions → Bool → World
one_peer flags is_open = with_sessions false (session 7 is_open flags 0 ∷ [])

abbrev pub noban : Permissions
noban = record no_permissions { noban = true; download = true }

abbrev pub forcerelay : Permissions
forcerelay = record no_permissions { forcerelay = true; relay = true }

abbrev pub relay : Permissions
relay = record no_permissions { relay = true }

abbrev pub mempool : Permissions
mempool = record no_permissions { mempool = true }

abbrev pub download : Permissions
download = record no_permissions { download = true }

-- peer 7 alone, while the node takes blocks only
abbrev pub blocks_only : Permissions → Bool → World
blocks_only flags is_open = record (one_peer flags is_open) { blocksonly = true }

-- peer 7 alone, with all switches on, over blocks of these times
abbrev pub all_on : List ℕ → Permissions → Bool → World
all_on times flags is_open = record (one_peer flags is_open) {
  chain = record { first = 0; coins = []; times = times; blocks = [] };
  switches = record { bloom = true; upload = true; historic = true; download = true };
}

-- no peer, and the user a, who may call these methods, while other users may call none
abbrev pub called_with : List (List ℕ) → World
called_with methods = record (with_sessions false []) {
  rpcwhitelist = record { entries = record { user = codes "a"; methods = Some methods } ∷ []; is_default_on = true };
}

abbrev pub request : Command → Result Request CallError
request command = Ok (record { id = Unsigned 7; command = command })

pub record SmallSteps : Type 0 where
  pub enters : step_of (with_sessions true []) (Enter 7 (V4 (192 ∷ 0 ∷ 2 ∷ 1 ∷ []))) ≡ (Entered no_permissions, with_sessions true (session 7 true no_permissions 0 ∷ []))
  pub enters_again : step_of (two_peers true true) (Enter 8 (V4 (192 ∷ 0 ∷ 2 ∷ 1 ∷ []))) ≡ (Denied PeerKnown Keep, two_peers true true)
  pub leaves : step_of (two_peers true true) (Leave 7) ≡ (Left, two_peers true false)
  pub unknown : step_of (two_peers true true) (Leave 9) ≡ (Denied PeerUnknown Keep, two_peers true true)
  pub closed : step_of (two_peers true true) (Mempool 8) ≡ (Denied PeerClosed Keep, two_peers true true)
  pub lists : step_of (two_peers true true) (Mempool 7) ≡ (Listing [], two_peers true true)
  pub no_bloom : step_of (two_peers false true) (Mempool 7) ≡ (Denied MempoolNoBloom Close, two_peers false false)
  pub filters : step_of (with_rate 5) (FeeFilter 7 2_100_000_000_000_000) ≡ (Filter 2_100_000_000_000_000, with_rate 2_100_000_000_000_000)
  pub filters_no_more : step_of (with_rate 5) (FeeFilter 7 2_100_000_000_000_001) ≡ (Filter 5, with_rate 5)
  pub closed_filters_nothing : step_of (two_peers true true) (FeeFilter 8 5) ≡ (Denied PeerClosed Keep, two_peers true true)
  pub sets_the_floor : step_of (two_peers true true) (SetFloor 5000) ≡ (Set, record (two_peers true true) { floor = 5000 })
  pub undecodable : step_of (two_peers true true) (Submit 7 5000 None) ≡ (Denied (Admission Decode) Keep, two_peers true true)

-- steps of peers with permissions
pub record PermittedSteps : Type 0 where
  pub noban_stays : step_of (one_peer noban true) (Mempool 7) ≡ (Denied MempoolNoBloom Keep, one_peer noban true)
  pub noban_leaves : step_of (one_peer noban true) (Leave 7) ≡ (Left, one_peer noban false)
  pub noban_empty : denied (one_peer noban true) 7 (Admission VinEmpty) ≡ (Denied (Admission VinEmpty) Keep, one_peer noban true)
  pub empty : denied (one_peer forcerelay true) 7 (Admission VinEmpty) ≡ (Denied (Admission VinEmpty) Close, one_peer forcerelay false)
  pub relayed : denied (one_peer forcerelay true) 7 AlreadyInMempool ≡ (Denied AlreadyInMempool Relay, one_peer forcerelay true)
  pub not_relayed : denied (one_peer noban true) 7 AlreadyInMempool ≡ (Denied AlreadyInMempool Keep, one_peer noban true)
  pub without_session : denied (one_peer noban true) 9 PeerUnknown ≡ (Denied PeerUnknown Keep, one_peer noban true)
  pub noban_text : permissions_text noban ≡ codes "noban,download"
  pub forcerelay_text : permissions_text forcerelay ≡ codes "forcerelay,relay"
  pub no_text : permissions_text no_permissions ≡ codes "none"

-- steps under the rules that ask peers for flags
pub record GuardedSteps : Type 0 where
  pub blocks_only_closes : step_of (blocks_only noban true) (Submit 7 5000 None) ≡ (Denied BlocksOnly Close, blocks_only noban false)
  pub relay_is_read : step_of (blocks_only relay true) (Submit 7 5000 None) ≡ (Denied (Admission Decode) Keep, blocks_only relay true)
  pub upload : step_of (all_on [] no_permissions true) (Mempool 7) ≡ (Denied MempoolUploadTarget Close, all_on [] no_permissions false)
  pub upload_noban : step_of (all_on [] noban true) (Mempool 7) ≡ (Denied MempoolUploadTarget Keep, all_on [] noban true)
  pub upload_mempool : step_of (all_on [] mempool true) (Mempool 7) ≡ (Listing [], all_on [] mempool true)
  pub mempool_without_bloom : step_of (one_peer mempool true) (Mempool 7) ≡ (Listing [], one_peer mempool true)
  pub downloads : step_of (all_on (0 ∷ 1 ∷ []) no_permissions true) (AskHeaders 7 5) ≡ (Denied HeadersDuringDownload Keep, all_on (0 ∷ 1 ∷ []) no_permissions true)
  pub above_the_tip : step_of (all_on (0 ∷ 1 ∷ []) download true) (AskHeaders 7 2) ≡ (Denied UnknownBlock Keep, all_on (0 ∷ 1 ∷ []) download true)
  pub at_the_tip : step_of (all_on (0 ∷ 1 ∷ []) download true) (AskHeaders 7 1) ≡ (Headers 2 0, all_on (0 ∷ 1 ∷ []) download true)
  pub below_the_tip : step_of (all_on (0 ∷ 1 ∷ []) download true) (AskHeaders 7 0) ≡ (Headers 1 1, all_on (0 ∷ 1 ∷ []) download true)
  pub old : step_of (all_on (0 ∷ 604801 ∷ []) no_permissions true) (GetBlock 7 0) ≡ (Denied HistoricalUploadTarget Close, all_on (0 ∷ 604801 ∷ []) no_permissions false)
  pub a_week_old : step_of (all_on (1 ∷ 604801 ∷ []) no_permissions true) (GetBlock 7 0) ≡ (Block 0 1, all_on (1 ∷ 604801 ∷ []) no_permissions true)
  pub old_by_download : step_of (all_on (0 ∷ 604801 ∷ []) download true) (GetBlock 7 0) ≡ (Block 0 0, all_on (0 ∷ 604801 ∷ []) download true)
  pub unknown_first : step_of (all_on (0 ∷ 604801 ∷ []) no_permissions true) (GetBlock 7 2) ≡ (Denied UnknownBlock Keep, all_on (0 ∷ 604801 ∷ []) no_permissions true)
  pub turns : step_of (one_peer noban true) (Turn Download true) ≡ (Set, record (one_peer noban true) { switches = record (unswitched false) { download = true } })

-- peer 7 alone, where packages are taken
abbrev pub taking_packages : Permissions → Bool → World
taking_packages flags is_open = record (one_peer flags is_open) { policy = record usual_policy { packages = true } }

-- a member that this rule denies
abbrev pub denied_member : Denial → Member
denied_member denial = record { txid = []; wtxid = []; fate = fates.Denied denial }

abbrev pub held_member : Member
held_member = record { txid = []; wtxid = []; fate = fates.Known 0 0 }

-- packages that peers submit, and what closes a session then
pub record OfferSteps : Type 0 where
  pub not_taken : step_of (one_peer no_permissions true) (Package 7 5000 None None) ≡ (Denied NoPackages Keep, one_peer no_permissions true)
  pub undecodable : step_of (taking_packages no_permissions true) (Package 7 5000 None None) ≡ (Denied (Admission Decode) Keep, taking_packages no_permissions true)
  pub blocks_only_closes : step_of (blocks_only noban true) (Package 7 5000 None None) ≡ (Denied BlocksOnly Close, blocks_only noban false)
  pub closed : step_of (taking_packages no_permissions false) (Package 7 5000 None None) ≡ (Denied PeerClosed Keep, taking_packages no_permissions false)
  pub member_closes : then_after (one_peer no_permissions true) 7 (held_member ∷ denied_member VinEmpty ∷ []) ≡ Close
  pub noban_is_kept : then_after (one_peer noban true) 7 (held_member ∷ denied_member VinEmpty ∷ []) ≡ Keep
  pub full_keeps : then_after (one_peer no_permissions true) 7 (denied_member MempoolFull ∷ denied_member MempoolFull ∷ []) ≡ Keep

-- a coin of this value, script and height
abbrev pub small_coin : ℤ → List ℕ → ℕ → OpeningCoin
small_coin value script height = record {
  outpoint = record { txid = replicate 32 7; index = 0 };
  coin = record { value = value; script = script; height = height; coinbase = false };
}

abbrev pub small_row : Verdict → VerdictRow
small_row verdict = record { wtxid = replicate 32 7; input = 0; verdict = verdict }

-- peer 7 alone, over two blocks from this height on, with these coins and rows
abbrev pub two_blocks : ℕ → List OpeningCoin → List VerdictRow → World
two_blocks first coins rows = record (one_peer no_permissions true) {
  chain = record { first = first; coins = coins; times = 1000 ∷ 1600 ∷ []; blocks = [] };
  verdicts = record { rows = rows; other = None };
}

abbrev pub plain_coin : OpeningCoin
plain_coin = small_coin (pos 5) [] 1

-- steps of the chain's caller that learn and forget, and blocks below the first one
pub record LearningSteps : Type 0 where
  pub learns : step_of (two_blocks 0 [] []) (OfChain (LearnCoin plain_coin)) ≡ (Set, two_blocks 0 (plain_coin ∷ []) [])
  pub worthless : step_of (two_blocks 0 [] []) (OfChain (LearnCoin (small_coin (pos 2_100_000_000_000_001) [] 1))) ≡ (Refused CoinValue, two_blocks 0 [] [])
  pub unspendable : step_of (two_blocks 0 [] []) (OfChain (LearnCoin (small_coin (pos 5) (0x6a ∷ []) 1))) ≡ (Refused CoinUnspendable, two_blocks 0 [] [])
  pub too_high : step_of (two_blocks 0 [] []) (OfChain (LearnCoin (small_coin (pos 5) [] 2))) ≡ (Refused CoinAboveOpening, two_blocks 0 [] [])
  pub as_high : step_of (two_blocks 5 [] []) (OfChain (LearnCoin (small_coin (pos 5) [] 6))) ≡ (Set, two_blocks 5 (small_coin (pos 5) [] 6 ∷ []) [])
  pub known : step_of (two_blocks 0 (plain_coin ∷ []) []) (OfChain (LearnCoin plain_coin)) ≡ (Refused CoinKnown, two_blocks 0 (plain_coin ∷ []) [])
  pub verdict : step_of (two_blocks 0 [] []) (OfChain (LearnVerdict (small_row Good))) ≡ (Set, two_blocks 0 [] (small_row Good ∷ []))
  pub verdict_again : step_of (two_blocks 0 [] (small_row Good ∷ [])) (OfChain (LearnVerdict (small_row Hard))) ≡ (Refused VerdictKnown, two_blocks 0 [] (small_row Good ∷ []))
  pub forgets : step_of (two_blocks 0 (plain_coin ∷ []) (small_row Good ∷ [])) (OfChain (Forget 0)) ≡ (Forgotten 0 1 1, two_blocks 0 [] [])
  pub too_few : step_of (two_blocks 0 (plain_coin ∷ []) []) (OfChain (Forget 1)) ≡ (Refused NoUndo, two_blocks 0 (plain_coin ∷ []) [])
  pub below_the_first : step_of (two_blocks 5 [] []) (GetBlock 7 4) ≡ (Denied UnknownBlock Keep, two_blocks 5 [] [])
  pub the_first : step_of (two_blocks 5 [] []) (GetBlock 7 5) ≡ (Block 5 1000, two_blocks 5 [] [])
  pub headers_below : step_of (two_blocks 5 [] []) (AskHeaders 7 4) ≡ (Headers 5 2, two_blocks 5 [] [])

abbrev pub small_point : OutPoint
small_point = record { txid = replicate 32 7; index = 0 }

-- steps of users' calls
pub record CallSteps : Type 0 where
  pub unread : rpc_step (called_with []) (codes "b") 0 (Err ParseError) ≡ (Rpc (Failure Null errors.ParseError), called_with [])
  pub barred : rpc_step (called_with []) (codes "a") 0 (Err (MethodNotFound Null (codes "foo"))) ≡ (Rpc NotAllowed, called_with [])
  pub barred_by_default : rpc_step (called_with (codes "getrawmempool" ∷ [])) (codes "b") 0 (request GetRawMempool) ≡ (Rpc NotAllowed, called_with (codes "getrawmempool" ∷ []))
  pub unknown : rpc_step (called_with (codes "foo" ∷ [])) (codes "a") 0 (Err (MethodNotFound Null (codes "foo"))) ≡ (Rpc (Failure Null errors.MethodNotFound), called_with (codes "foo" ∷ []))
  pub lists : rpc_step (called_with (codes "getrawmempool" ∷ [])) (codes "a") 0 (request GetRawMempool) ≡ (Rpc (Answer (Unsigned 7) (Txids [])), called_with (codes "getrawmempool" ∷ []))
  pub informs : rpc_step (with_sessions false []) (codes "a") 0 (request GetMempoolInfo) ≡ (Rpc (Answer (Unsigned 7) (Info 0 0 1000 1000 0)), with_sessions false [])
  pub no_entry : rpc_step (with_sessions false []) (codes "a") 0 (request (GetMempoolEntry [])) ≡ (Rpc (Failure (Unsigned 7) errors.NotInMempool), with_sessions false [])
  pub sends_nothing : rpc_step (with_sessions false []) (codes "a") 0 (request (SendRawTransaction None)) ≡ (Rpc (Failure (Unsigned 7) (errors.Denied Decode)), with_sessions false [])
  pub tests_nothing : rpc_step (with_sessions false []) (codes "a") 0 (request (TestMempoolAccept None)) ≡ (Rpc (Failure (Unsigned 7) (errors.Denied Decode)), with_sessions false [])
  pub tests_none_of_several : rpc_step (with_sessions false []) (codes "a") 0 (request (TestList (None ∷ None ∷ []))) ≡ (Rpc (Failure (Unsigned 7) (errors.Denied Decode)), with_sessions false [])
  pub knows_no_entry : rpc_step (with_sessions false []) (codes "a") 0 (request GetRawMempoolVerbose) ≡ (Rpc (Answer (Unsigned 7) (Entries [])), with_sessions false [])
  pub no_transaction : rpc_step (with_sessions false []) (codes "a") 0 (request (GetRawTransaction [])) ≡ (Rpc (Failure (Unsigned 7) errors.NotInMempool), with_sessions false [])
  pub unspent : rpc_step (with_sessions false []) (codes "a") 0 (request (GetTxSpendingPrevout (small_point ∷ []))) ≡ (Rpc (Answer (Unsigned 7) (Spendings (record { outpoint = small_point; spender = None } ∷ []))), with_sessions false [])
