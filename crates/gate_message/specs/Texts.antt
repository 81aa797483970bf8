-- The line of each reply, without its newline.
use Rattle.std.specs.Prelude.{ℕ, List, ◌++◌, length, codes}
use Rattle.std.specs.List.{flat_map}
use Rattle.std.specs.Fmt.{decimal}
use Rattle.gate_tx.specs.Ids.{id_text}
use Rattle.gate_rules.specs.declared.ChainDenial.{ChainDenial}
use Rattle.gate_rules.specs.declared.Denial.{Denial as AdmissionDenial}
use Rattle.gate_rules.specs.Chain as chain
use Rattle.gate_rules.specs.Denials as admission
use Rattle.gate_rules.specs.Packages as packages
use Rattle.gate_submission.specs.declared.Fate.{Fate}
use Rattle.gate_submission.specs.declared.Fate.TheVariants as fates
use Rattle.gate_submission.specs.declared.Member.{Member}
use Rattle.gate_submission.specs.declared.Moved.{Moved as Change}
use Rattle.gate_submission.specs.declared.PackageVerdict.{PackageVerdict}
use Rattle.gate_submission.specs.declared.PackageVerdict.TheVariants as verdicts
use Rattle.gate_rules.specs.declared.PeerDenial.{PeerDenial}
use Rattle.gate_message.specs.declared.denial.Then.{Then}
use Rattle.gate_message.specs.declared.reply.Reply.{Reply}
use Rattle.gate_message.specs.declared.reply.Reply.TheVariants.{Entered, Left, Admitted, Packaged, Listing, Block, Headers, Filter, Rpc, Denied, Set, Moved, Forgotten, Refused}
use Rattle.gate_rpc.specs.declared.reply.RpcReply.{RpcReply}
use Rattle.gate_rpc.specs.Replies.{reply_status, reply_text as answer_text}
use Rattle.gate_net.specs.Permissions.{Permissions, permissions_text}
use Rattle.gate_rules.specs.Peers.{name_of, token_of}
use Rattle.gate_message.specs.Following.{then_text}

abbrev pub entered_text : Permissions → List ℕ
entered_text flags = codes "entered " ++ permissions_text flags

abbrev pub admitted_text : List ℕ → ℕ → ℕ → ℕ → List ℕ
admitted_text txid fee vsize replaced =
    codes "admitted " ++ (id_text txid ++ (codes " fee " ++ (decimal fee ++ (codes " vsize " ++ (decimal vsize ++ (codes " replaced " ++ decimal replaced))))))

abbrev pub known_text : List ℕ → List ℕ
known_text txid = codes "known " ++ id_text txid

abbrev pub denied_member_text : AdmissionDenial → List ℕ
denied_member_text denial = codes "denied " ++ (admission.name_of denial ++ (codes " " ++ admission.token_of denial))

-- what became of the transaction of this txid: it came into the pool, was there before, also with another witness, or is denied
abbrev pub fate_text : List ℕ → Fate → List ℕ
fate_text txid (fates.Taken fee vsize together replaced) = admitted_text txid fee vsize (length replaced)
fate_text txid (fates.Known fee vsize) = known_text txid
fate_text txid (fates.OtherWitness wtxid) = known_text txid
fate_text txid (fates.Denied denial) = denied_member_text denial

abbrev pub member_text : Member → List ℕ
member_text m = fate_text m.txid m.fate

-- what became of each member, behind a bar
abbrev pub members_text : List Member → List ℕ
members_text members = flat_map (λ m. codes " | " ++ member_text m) members

-- what became of a package as a whole
abbrev pub verdict_text : PackageVerdict → List ℕ
verdict_text verdicts.Success = codes "success"
verdict_text verdicts.Failed = codes "transaction failed"
verdict_text (verdicts.Denied denial) = packages.name_of denial ++ (codes " " ++ packages.token_of denial)

abbrev pub packaged_text : Then → PackageVerdict → List Member → List ℕ
packaged_text then verdict members = codes "packaged " ++ (then_text then ++ (codes " " ++ (verdict_text verdict ++ members_text members)))

-- how many txids there are, and then each after a space
abbrev pub listing_text : List (List ℕ) → List ℕ
listing_text txids = codes "listing " ++ decimal (length txids) ++ flat_map (λ txid. codes " " ++ id_text txid) txids

-- a height, and the time of the block there
abbrev pub block_text : ℕ → ℕ → List ℕ
block_text height time = codes "block " ++ (decimal height ++ (codes " " ++ decimal time))

-- the height of the first header that follows, and how many follow
abbrev pub headers_text : ℕ → ℕ → List ℕ
headers_text first count = codes "headers " ++ (decimal first ++ (codes " " ++ decimal count))

-- the rate below which entries are hidden from a peer
abbrev pub filter_text : ℕ → List ℕ
filter_text rate = codes "filter " ++ decimal rate

abbrev pub rpc_text : RpcReply → List ℕ
rpc_text answer = codes "rpc " ++ (decimal (reply_status answer) ++ codes " ") ++ answer_text answer

abbrev pub denied_text : PeerDenial → List ℕ → List ℕ
denied_text denial then = codes "denied " ++ (name_of denial ++ (codes " " ++ (then ++ (codes " " ++ token_of denial))))

-- the height of the tip, and how many entries left and came
abbrev pub moved_text : Change → List ℕ
moved_text moved = codes "chain " ++ (decimal moved.tip ++ (codes " removed " ++ (decimal moved.removed ++ (codes " entered " ++ decimal moved.entered))))

-- how many blocks are part of the opening now, and how many unspent coins and rows of verdicts are known no more
abbrev pub forgotten_text : ℕ → ℕ → ℕ → List ℕ
forgotten_text blocks coins rows = codes "forgotten " ++ (decimal blocks ++ (codes " " ++ (decimal coins ++ (codes " " ++ decimal rows))))

-- the rule of the chain that fails, and its token
abbrev pub refused_text : ChainDenial → List ℕ
refused_text denial = codes "refused " ++ (chain.name_of denial ++ (codes " " ++ chain.token_of denial))

abbrev pub reply_text : Reply → List ℕ
reply_text (Entered flags) = entered_text flags
reply_text Left = codes "left"
reply_text (Admitted txid fee vsize replaced) = admitted_text txid fee vsize replaced
reply_text (Packaged then verdict members) = packaged_text then verdict members
reply_text (Listing txids) = listing_text txids
reply_text (Block height time) = block_text height time
reply_text (Headers first count) = headers_text first count
reply_text (Filter rate) = filter_text rate
reply_text (Rpc answer) = rpc_text answer
reply_text (Denied denial then) = denied_text denial (then_text then)
reply_text Set = codes "set"
reply_text (Moved moved) = moved_text moved
reply_text (Forgotten blocks coins rows) = forgotten_text blocks coins rows
reply_text (Refused denial) = refused_text denial
