-- What flags guard is denied to peers without them.
use Rattle.std.proofs.Common.{◌≡◌, ◌≢◌, ℕ, Bool, true, false, not, ◌&&◌, ◌||◌, true≢false, if◌then◌else◌, Option, Some, None, refl, sym}
use Rattle.gate_rules.specs.declared.Denial.TheVariants.{Decode, MempoolFull}
use Rattle.gate_admit.specs.Policies.{usual_policy}
use Rattle.gate_net.specs.Permissions.{Permissions}
use Rattle.gate_rules.specs.declared.PeerDenial.{PeerDenial}
use Rattle.gate_rules.specs.declared.PeerDenial.TheVariants.{PeerUnknown, PeerClosed, BlocksOnly, AlreadyInMempool, MempoolNoBloom, MempoolUploadTarget, HeadersDuringDownload, UnknownBlock, HistoricalUploadTarget, Admission, Package as Packages}
use Rattle.gate_message.specs.declared.denial.Then.{Then}
use Rattle.gate_message.specs.declared.denial.Then.TheVariants.{Keep, Close, Relay}
use Rattle.gate_message.specs.declared.reply.Reply.{Reply}
use Rattle.gate_message.specs.Following.{then_by, then_of}
use Rattle.gate_core.specs.Access.{is_known, is_closed, is_historical, is_unknown_block, lacks_relay, lacks_bloom, lacks_upload, lacks_headers, lacks_history}
use Rattle.gate_core.specs.AccessLaws.{FlagsGuard, InvalidIsKept, NobanIsKept}
use Rattle.gate_core.specs.PeerSteps.{answered, submitted, listed, block_given, headers_given, then_under}
use Rattle.gate_core.specs.Pairing.{both_of, paired_if_read}
use Rattle.gate_core.specs.SessionLaws.{IsDenied}
use Rattle.gate_core.specs.Sessions.{flags_in}
use Rattle.gate_core.specs.Steps.{step_of}
use Rattle.gate_core.specs.World.{World}
use Rattle.gate_rules.specs.Denials.{then_of as follows}
use Rattle.gate_rules.specs.declared.Denial.{Denial}
use Rattle.gate_rules.specs.declared.PackageDenial.{PackageDenial}
use Rattle.gate_rules.specs.declared.PackageDenial.TheVariants.{BurntAmount}
use Rattle.gate_rules.specs.declared.Consequence.{Consequence}
use Rattle.gate_rules.specs.declared.Consequence.TheVariants as row

-- a denial that is no denial by A46, where one is made
abbrev IsOther : Option PeerDenial → Type 0
IsOther None = ⊥
IsOther (Some denial) = denial ≢ Admission MempoolFull

denies : (w : World) (peer : ℕ) (served : Reply × World) (denial : Option PeerDenial) → IsOther denial → IsDenied (answered w peer served denial).0
denies w peer served None h = absurd h
denies w peer served (Some denial) h = h

-- the denial, where the session is open or not, and what follows is asked then
abbrev by_session : Bool → Bool → Option PeerDenial → Option PeerDenial
by_session known closed rest = if not known then Some PeerUnknown else if closed then Some PeerClosed else rest

session_first : (known closed : Bool) (rest : Option PeerDenial) → IsOther rest → IsOther (by_session known closed rest)
session_first false closed rest h = λ e. unknown e
  where
    unknown : PeerUnknown ≡ Admission MempoolFull → ⊥
    unknown e = cc
session_first true true rest h = λ e. shut e
  where
    shut : PeerClosed ≡ Admission MempoolFull → ⊥
    shut e = cc
session_first true false rest h = h

-- one rule that fails, and two of which one does
one_fails : (a : Bool) (r : PeerDenial) (rest : Option PeerDenial) → r ≢ Admission MempoolFull → a ≡ true → IsOther (if a then Some r else rest)
one_fails true r rest h is = h
one_fails false r rest h is = absurd (true≢false (sym is))

two_fail : (a b : Bool) (r s : PeerDenial) (rest : Option PeerDenial) → r ≢ Admission MempoolFull → s ≢ Admission MempoolFull → b ≡ true → IsOther (if a then Some r else if b then Some s else rest)
two_fail true b r s rest h k is = h
two_fail false b r s rest h k is = one_fails b s rest k is

both : (a b : Bool) → a ≡ true → b ≡ false → (a && not b) ≡ true
both true false p q = refl
both true true p q = absurd (true≢false q)
both false b p q = absurd (true≢false (sym p))

none_of : (a b c : Bool) → a ≡ false → b ≡ false → c ≡ false → not (a || (b || c)) ≡ true
none_of false false false p q r = refl
none_of true b c p q r = absurd (true≢false p)
none_of false true c p q r = absurd (true≢false q)
none_of false false true p q r = absurd (true≢false r)

all_of : (a b c : Bool) → a ≡ true → b ≡ false → c ≡ true → (a && (not b && c)) ≡ true
all_of true false true p q r = refl
all_of true false false p q r = absurd (true≢false (sym r))
all_of true true c p q r = absurd (true≢false q)
all_of false b c p q r = absurd (true≢false (sym p))

blocks_only : BlocksOnly ≢ Admission MempoolFull
blocks_only e = cc

no_bloom : MempoolNoBloom ≢ Admission MempoolFull
no_bloom e = cc

upload_target : MempoolUploadTarget ≢ Admission MempoolFull
upload_target e = cc

during_download : HeadersDuringDownload ≢ Admission MempoolFull
during_download e = cc

unknown_block : UnknownBlock ≢ Admission MempoolFull
unknown_block e = cc

historical_target : HistoricalUploadTarget ≢ Admission MempoolFull
historical_target e = cc

pub flags_guard : FlagsGuard
unfolding step_of
flags_guard w peer =
    let flags = flags_in w.sessions peer in
    let known = is_known w.sessions peer in
    let closed = is_closed w.sessions peer in
    record {
      relay = λ on lacks now transaction.
          denies w peer (submitted w peer now transaction) _ (session_first known closed _ (one_fails (lacks_relay w flags) BlocksOnly _ blocks_only (both w.blocksonly flags.relay on lacks)));
      packages = λ on lacks now parent child.
          denies w peer (paired_if_read w peer now (both_of parent child)) _
          (session_first known closed _ (one_fails (lacks_relay w flags) BlocksOnly _ blocks_only (both w.blocksonly flags.relay on lacks)));
      bloom = λ off lacks more.
          denies w peer (listed w peer) _ (session_first known closed _ (one_fails (lacks_bloom w flags) MempoolNoBloom _ no_bloom (none_of flags.mempool flags.bloomfilter w.switches.bloom more lacks off)));
      upload = λ on lacks.
          denies w peer (listed w peer) _ (session_first known closed _ (two_fail (lacks_bloom w flags) (lacks_upload w flags) MempoolNoBloom MempoolUploadTarget _ no_bloom upload_target (both w.switches.upload flags.mempool on lacks)));
      headers = λ on lacks height.
          denies w peer (headers_given w height) _ (session_first known closed _ (one_fails (lacks_headers w flags) HeadersDuringDownload _ during_download (both w.switches.download flags.download on lacks)));
      blocks = λ on lacks height old.
          denies w peer (block_given w height) _
          (session_first known closed _ (two_fail (is_unknown_block w height) (lacks_history w flags height) UnknownBlock HistoricalUploadTarget _ unknown_block historical_target (all_of w.switches.historic flags.download (is_historical w.chain height) on lacks old)));
    }

kept : (b : Bool) → b ≡ true → (if b then Keep else Close) ≢ Close
kept true is = λ e. keeps e
  where
    keeps : Keep ≡ Close → ⊥
    keeps e = cc
kept false is = absurd (true≢false (sym is))

keep_close : Keep ≢ Close
keep_close e = cc

relay_close : Relay ≢ Close
relay_close e = cc

either : (b : Bool) → (if b then Relay else Keep) ≢ Close
either true = relay_close
either false = keep_close

abbrev is_always : Consequence → Bool
is_always row.CloseAlways = true
is_always consequence = false

-- no rule of admission closes every session
never_always : (denial : Denial) → is_always (follows denial) ≡ false
never_always Decode = refl
never_always denial = refl

kept_by : (keeps : Bool) (flags : Permissions) (c : Consequence) → flags.noban ≡ true → is_always c ≡ false → (if keeps then Keep else then_by flags c) ≢ Close
kept_by true flags c is never = keep_close
kept_by false flags row.Close is never = kept flags.noban is
kept_by false flags row.CloseAlways is never = absurd (true≢false never)
kept_by false flags row.Relay is never = either flags.forcerelay
kept_by false flags consequence is never = keep_close

keeping : (keeps : Bool) (otherwise : Then) → keeps ≡ true → (if keeps then Keep else otherwise) ≡ Keep
keeping true otherwise is = refl
keeping false otherwise is = absurd (true≢false (sym is))

-- a rule on packages keeps every session
keeps_session : (flags : Permissions) (denial : PackageDenial) → then_of flags (Packages denial) ≢ Close
keeps_session flags BurntAmount = keep_close
keeps_session flags denial = keep_close

pub noban_is_kept : NobanIsKept
noban_is_kept policy flags BlocksOnly is other = absurd (other refl)
noban_is_kept policy flags AlreadyInMempool is other = either flags.forcerelay
noban_is_kept policy flags MempoolNoBloom is other = kept flags.noban is
noban_is_kept policy flags MempoolUploadTarget is other = kept flags.noban is
noban_is_kept policy flags HistoricalUploadTarget is other = kept flags.noban is
noban_is_kept policy flags (Packages denial) is other = keeps_session flags denial
noban_is_kept policy flags (Admission denial) is other = kept_by policy.keep_invalid flags (follows denial) is (never_always denial)
noban_is_kept policy flags denial is other = keep_close

usual_then : (flags : Permissions) (denial : PeerDenial) → then_under usual_policy flags denial ≡ then_of flags denial
usual_then flags (Admission denial) = refl
usual_then flags denial = refl

pub invalid_is_kept : InvalidIsKept
invalid_is_kept = record {
  kept = λ policy flags denial keeps. keeping policy.keep_invalid (then_of flags (Admission denial)) keeps;
  usual = usual_then;
}
