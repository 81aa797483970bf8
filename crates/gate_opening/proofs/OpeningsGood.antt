-- What holds of every opening that is accepted.
use Rattle.std.proofs.Common.{◌≡◌, ℕ, ◌+◌, ◌*◌, ◌≤◌, ◌==◌, nat_lt, nat_le, ◌||◌, not, Bool, true, false, if◌then◌else◌, List, [], ◌∷◌, length, Option, Some, None, Result, Ok, Err, refl, sym, ap, ◌∙◌, subst, arith}
use Rattle.std.proofs.lemmas.Bool.{true≢false}
use Rattle.gate_register.specs.Policies.{IsPolicy as IsSet, number_of, usual_policy as usual_set, with_number}
use Rattle.gate_register.specs.Settings.{allows, greatest_of, least_of, most_of}
use Rattle.gate_register.specs.declared.Setting.{Setting}
use Rattle.gate_register.specs.declared.Setting.TheVariants.{AncestorCount, AncestorSize, DescendantCount, DescendantSize, RelayRate, IncrementalRate, ExpiryHours, SigopSize, DustRate, DataSize, DataOutputs, LeastSize, FullRbf, BareMultisig, Bloom, BlocksOnly, WhitelistRelay, WhitelistForceRelay, RpcWhitelistDefault, FeesRoundUp, RelayFeeFirst, ReplacedParents, KeepInvalid, Anchors, LegacySigops, DataTotal, Truc, Packages, PackageAllParents, EphemeralDust}
use Rattle.gate_register.proofs.Policies.{is_policy, others_kept}
use Rattle.gate_release.specs.Releases.{choices}
use Rattle.gate_release.proofs.Kept.{beside_is_policy}
use Rattle.gate_admit.specs.Policies.{parents_by, policy_of, rounding_by, usual_policy}
use Rattle.gate_admit.proofs.Bounds.{bounds_of}
use Rattle.gate_chain.specs.declared.OpenFault.{OpenFault}
use Rattle.gate_chain.specs.Opening.{open_fault_from}
use Rattle.gate_core.specs.Good.{IsGoodWorld}
use Rattle.gate_core.specs.World.{World, opened_world}
use Rattle.gate_core.proofs.Keeping.{opened_good}
use Rattle.gate_lines.specs.Lines.{count_limit, is_skipped, line_limit, lines_of}
use Rattle.gate_opening.specs.Laws.{OpeningsAreGood, OpeningsHaveDefaults, is_asked, is_set_by, some_set, sets_policy}
use Rattle.gate_opening.specs.OpeningLines.{said_by}
use Rattle.gate_opening.specs.Said.{Said, all_said, fault_if, first_height, is_end, is_said, joined, line_fault, nothing_said, on_all_said, on_said, opened_unless, opening_of, spelled, unless, with_form, with_text}
use Rattle.gate_opening.specs.declared.opening_fault.OpeningFault.{OpeningFault}
use Rattle.gate_opening.specs.declared.opening_fault.OpeningFault.TheVariants.{Line}
use Rattle.gate_opening.specs.declared.opening_fault.OpeningToken.{OpeningToken}
use Rattle.gate_opening.specs.declared.opening_fault.OpeningToken.TheVariants.{BadLine}
use Rattle.gate_opening.specs.declared.opening_line.OpeningLine.{OpeningLine}
use Rattle.gate_opening.specs.declared.opening_line.OpeningLine.TheVariants as says

-- ---- what each line keeps

abbrev done : Said → Result Said OpeningFault
done said = Ok said

done_same : (a b : Said) → done a ≡ done b → a ≡ b
done_same a b is = cc

abbrev opened : World → Result World OpeningFault
opened w = Ok w

opened_same : (a b : World) → opened a ≡ opened b → a ≡ b
opened_same a b is = cc

-- this is so of each of these lines, up to the end of the opening
abbrev EachLine : (List ℕ → Type 0) → List (List ℕ) → Type 0
EachLine IsSo [] = Unit {0}
EachLine IsSo (line ∷ lines) = is_end line ≡ false → IsSo line × EachLine IsSo lines

if_fine : (P : Said → Type 0) (said next : Said) (number : ℕ) (saying : OpeningLine) (fault : Option OpeningToken) → line_fault said saying ≡ fault
    → (line_fault said saying ≡ None → P (joined said number saying)) → unless fault number (joined said number saying) ≡ Ok next → P next
if_fine P said next number saying None free step is = subst P (done_same (joined said number saying) next is) (step free)
if_fine P said next number saying (Some token) free step is = absurd (cc)

if_read : (P : Said → Type 0) (said next : Said) (number : ℕ) (line : List ℕ) (skipped : Bool) (form : Option OpeningLine) → said_by line ≡ form → P said
    → ((saying : OpeningLine) → said_by line ≡ Some saying → line_fault said saying ≡ None → P (joined said number saying))
    → (if skipped then done said else with_form said number form) ≡ Ok next → P next
if_read P said next number line true form told holds step is = subst P (done_same said next is) holds
if_read P said next number line false None told holds step is = absurd (cc)
if_read P said next number line false (Some saying) told holds step is =
    if_fine P said next number saying (line_fault said saying) refl (step saying told) is

if_went : (P : Said → Type 0) (next : Said → Result Said OpeningFault) (said end : Said) (read : Result Said OpeningFault)
    → ((new : Said) → read ≡ Ok new → next new ≡ Ok end → P end) → on_said read next ≡ Ok end → P end
if_went P next said end (Ok new) goes is = goes new refl is
if_went P next said end (Err fault) goes is = absurd (cc)

if_within : (P : Said → Type 0) (said end : Said) (few short ends : Bool) (went over : Result Said OpeningFault) (fault : OpeningFault) → P said → over ≡ Err fault
    → (ends ≡ false → went ≡ Ok end → P end) → (if few then (if short then (if ends then done said else went) else over) else over) ≡ Ok end → P end
if_within P said end false short ends went over fault holds past goes is = absurd (cc)
if_within P said end true false ends went over fault holds past goes is = absurd (cc)
if_within P said end true true true went over fault holds past goes is = subst P (done_same said end is) holds
if_within P said end true true false went over fault holds past goes is = goes refl is

-- what each line keeps that is so, all lines keep
all_kept : (IsSo : List ℕ → Type 0) (P : Said → Type 0)
    → ((said : Said) (number : ℕ) (line : List ℕ) (saying : OpeningLine) → IsSo line → P said → said_by line ≡ Some saying → line_fault said saying ≡ None → P (joined said number saying))
    → (number : ℕ) (said end : Said) (lines : List (List ℕ)) → EachLine IsSo lines → P said → all_said number said lines ≡ Ok end → P end
all_kept IsSo P step number said end [] each holds is = subst P (done_same said end is) holds
all_kept IsSo P step number said end (line ∷ lines) each holds is =
    if_within P said end (nat_lt number count_limit) (nat_le (length line) line_limit) (is_end line)
    (on_said (with_text said (number + 1) line) (λ next. all_said (number + 1) next lines)) (Err (Line (number + 1) BadLine)) (Line (number + 1) BadLine) holds refl
    (λ open' went.
    if_went P (λ next. all_said (number + 1) next lines) said end (with_text said (number + 1) line)
    (λ new read goes.
    all_kept IsSo P step (number + 1) new end lines (each open').1
    (if_read P said new (number + 1) line (is_skipped line) (said_by line) refl holds
    (λ saying told free. step said (number + 1) line saying (each open').0 holds told free) read) goes) went)
    is

-- what is so of what was said is so of what a state was opened with
opened_by : (Q : World → Type 0) (P : Said → Type 0) → ((said : Said) → P said → Q (opened_world (opening_of said)))
    → (text : List ℕ) (w : World) → ((said : Said) → all_said 0 nothing_said (lines_of text) ≡ Ok said → P said) → spelled text ≡ Ok w → Q w
opened_by Q P gives text w all is = from (all_said 0 nothing_said (lines_of text)) refl is
  where
    unless_fault : (said : Said) → P said → (fault : Option OpenFault) → opened_unless fault said ≡ Ok w → Q w
    unless_fault said holds None is = subst Q (opened_same (opened_world (opening_of said)) w is) (gives said holds)
    unless_fault said holds (Some fault) is = absurd (cc)

    from : (said : Result Said OpeningFault) → all_said 0 nothing_said (lines_of text) ≡ said → on_all_said said ≡ Ok w → Q w
    from (Ok said) says is = unless_fault said (all said says) (open_fault_from (first_height said) said.coins said.times) is
    from (Err fault) says is = absurd (cc)

-- ---- bounds

least_usual : (setting : Setting) → least_of setting ≤ number_of usual_set setting
least_usual AncestorCount = let h : 1 ≤ 25 = omega arith in h
least_usual AncestorSize = let h : 101 ≤ 101 = omega arith in h
least_usual DescendantCount = let h : 1 ≤ 25 = omega arith in h
least_usual DescendantSize = let h : 101 ≤ 101 = omega arith in h
least_usual RelayRate = let h : 0 ≤ 1000 = omega arith in h
least_usual IncrementalRate = let h : 0 ≤ 1000 = omega arith in h
least_usual ExpiryHours = let h : 1 ≤ 336 = omega arith in h
least_usual SigopSize = let h : 1 ≤ 20 = omega arith in h
least_usual DustRate = let h : 0 ≤ 3000 = omega arith in h
least_usual DataSize = let h : 0 ≤ 83 = omega arith in h
least_usual DataOutputs = let h : 0 ≤ 1 = omega arith in h
least_usual LeastSize = let h : 60 ≤ 82 = omega arith in h
least_usual FullRbf = let h : 0 ≤ 0 = omega arith in h
least_usual BareMultisig = let h : 0 ≤ 1 = omega arith in h
least_usual Bloom = let h : 0 ≤ 0 = omega arith in h
least_usual BlocksOnly = let h : 0 ≤ 0 = omega arith in h
least_usual WhitelistRelay = let h : 0 ≤ 1 = omega arith in h
least_usual WhitelistForceRelay = let h : 0 ≤ 0 = omega arith in h
least_usual RpcWhitelistDefault = let h : 0 ≤ 0 = omega arith in h
least_usual FeesRoundUp = let h : 0 ≤ 0 = omega arith in h
least_usual RelayFeeFirst = let h : 0 ≤ 0 = omega arith in h
least_usual ReplacedParents = let h : 0 ≤ 0 = omega arith in h
least_usual KeepInvalid = let h : 0 ≤ 0 = omega arith in h
least_usual Anchors = let h : 0 ≤ 0 = omega arith in h
least_usual LegacySigops = let h : 0 ≤ 1000000001 = omega arith in h
least_usual DataTotal = let h : 0 ≤ 100001 = omega arith in h
least_usual Truc = let h : 0 ≤ 0 = omega arith in h
least_usual Packages = let h : 0 ≤ 0 = omega arith in h
least_usual PackageAllParents = let h : 0 ≤ 0 = omega arith in h
least_usual EphemeralDust = let h : 0 ≤ 0 = omega arith in h

most_usual : (setting : Setting) → number_of usual_set setting ≤ greatest_of setting
most_usual AncestorCount = let h : 25 ≤ 1000 = omega arith in h
most_usual AncestorSize = let h : 101 ≤ 10000 = omega arith in h
most_usual DescendantCount = let h : 25 ≤ 1000 = omega arith in h
most_usual DescendantSize = let h : 101 ≤ 10000 = omega arith in h
most_usual RelayRate = let h : 1000 ≤ 100000000 = omega arith in h
most_usual IncrementalRate = let h : 1000 ≤ 100000000 = omega arith in h
most_usual ExpiryHours = let h : 336 ≤ 100000 = omega arith in h
most_usual SigopSize = let h : 20 ≤ 25 = omega arith in h
most_usual DustRate = let h : 3000 ≤ 100000000 = omega arith in h
most_usual DataSize = let h : 83 ≤ 100000 = omega arith in h
most_usual DataOutputs = let h : 1 ≤ 10000 = omega arith in h
most_usual LeastSize = let h : 82 ≤ 82 = omega arith in h
most_usual FullRbf = let h : 0 ≤ 1 = omega arith in h
most_usual BareMultisig = let h : 1 ≤ 1 = omega arith in h
most_usual Bloom = let h : 0 ≤ 1 = omega arith in h
most_usual BlocksOnly = let h : 0 ≤ 1 = omega arith in h
most_usual WhitelistRelay = let h : 1 ≤ 1 = omega arith in h
most_usual WhitelistForceRelay = let h : 0 ≤ 1 = omega arith in h
most_usual RpcWhitelistDefault = let h : 0 ≤ 1 = omega arith in h
most_usual FeesRoundUp = let h : 0 ≤ 1 = omega arith in h
most_usual RelayFeeFirst = let h : 0 ≤ 1 = omega arith in h
most_usual ReplacedParents = let h : 0 ≤ 1 = omega arith in h
most_usual KeepInvalid = let h : 0 ≤ 1 = omega arith in h
most_usual Anchors = let h : 0 ≤ 1 = omega arith in h
most_usual LegacySigops = let h : 1000000001 ≤ 1000000001 = omega arith in h
most_usual DataTotal = let h : 100001 ≤ 100001 = omega arith in h
most_usual Truc = let h : 0 ≤ 1 = omega arith in h
most_usual Packages = let h : 0 ≤ 1 = omega arith in h
most_usual PackageAllParents = let h : 0 ≤ 1 = omega arith in h
most_usual EphemeralDust = let h : 0 ≤ 1 = omega arith in h

usual_bounds : IsSet usual_set
usual_bounds = record { counted = refl; least = least_usual; most = most_usual }

allowed : (said allows : Bool) → fault_if (said || not allows) BadLine ≡ None → allows ≡ true
allowed true allows is = absurd (cc)
allowed false false is = absurd (cc)
allowed false true is = refl

line_bounds : (said : Said) (number : ℕ) (saying : OpeningLine) → line_fault said saying ≡ None → IsSet said.policy → IsSet (joined said number saying).policy
line_bounds said number (says.Budget budget) free h = h
line_bounds said number (says.From height) free h = h
line_bounds said number (says.Times count first step) free h = h
line_bounds said number (says.Coin coin) free h = h
line_bounds said number (says.Verdict row) free h = h
line_bounds said number (says.OtherVerdicts verdict) free h = h
line_bounds said number (says.Whitelist entry) free h = h
line_bounds said number (says.RpcWhitelist text) free h = h
line_bounds said number (says.Defaults release) free h = beside_is_policy release said.said said.policy choices h
line_bounds said number (says.Number setting value) free h = is_policy said.policy setting value h (allowed (is_said said setting) (allows setting value) free)

each_line : (lines : List (List ℕ)) → EachLine (λ line. Unit {0}) lines
each_line [] = tt
each_line (line ∷ lines) = λ open'. (tt, each_line lines)

pub openings_are_good : OpeningsAreGood
openings_are_good text w is =
    opened_by IsGoodWorld (λ (said : Said). IsSet said.policy)
    (λ said bounds. opened_good (opening_of said) (bounds_of said.policy bounds)) text w
    (λ said says. all_kept (λ line. Unit {0}) (λ (s : Said). IsSet s.policy) (λ s number line saying so bounds told free. line_bounds s number saying free bounds)
    0 nothing_said said (lines_of text) (each_line (lines_of text)) usual_bounds says)
    is

-- ---- defaults

-- nothing was said of the policy on transactions
abbrev IsUnsaid : Said → Type 0
IsUnsaid said = policy_of said.policy ≡ usual_policy

-- a setting that is none of that policy leaves it
kept : (set : List ℕ) (setting : Setting) (n : ℕ) → is_asked setting ≡ false → policy_of (with_number set setting n) ≡ policy_of set
kept set setting n clean = λ i. record {
  ancestors = same AncestorCount refl i;
  ancestors_size = same AncestorSize refl i * 1000;
  descendants = same DescendantCount refl i;
  descendants_size = same DescendantSize refl i * 1000;
  full_rbf = same FullRbf refl i == 1;
  relay_rate = same RelayRate refl i;
  incremental_rate = same IncrementalRate refl i;
  rounding = rounding_by (same FeesRoundUp refl i == 1);
  relay_fee_first = same RelayFeeFirst refl i == 1;
  parents = parents_by (same ReplacedParents refl i == 1);
  keep_invalid = same KeepInvalid refl i == 1;
  stay = same ExpiryHours refl i * 3600;
  sigop_size = same SigopSize refl i;
  anchors = same Anchors refl i == 1;
  legacy_sigops = limit_at LegacySigops (same LegacySigops refl i);
  standards = record {
    dust_rate = record { rate = same DustRate refl i; rounding = rounding_by (same FeesRoundUp refl i == 1) };
    data_size = same DataSize refl i;
    data_outputs = same DataOutputs refl i;
    bare_multisig = same BareMultisig refl i == 1;
    least_size = same LeastSize refl i;
    data_total = limit_at DataTotal (same DataTotal refl i);
    truc = same Truc refl i == 1;
    ephemeral_dust = same EphemeralDust refl i == 1;
  };
  packages = same Packages refl i == 1;
  all_parents = same PackageAllParents refl i == 1;
}
  where
    limit_at : Setting → ℕ → Option ℕ
    limit_at other number = if nat_le number (most_of other) then Some number else None

    same : (other : Setting) → is_asked other ≡ true → number_of (with_number set setting n) other ≡ number_of set other
    same other asked = others_kept set setting other n (λ is. true≢false (sym asked ∙ (ap is_asked is ∙ clean)))

line_unsaid : (said : Said) (number : ℕ) (saying : OpeningLine) → sets_policy saying ≡ false → IsUnsaid said → IsUnsaid (joined said number saying)
line_unsaid said number (says.Budget budget) clean h = h
line_unsaid said number (says.From height) clean h = h
line_unsaid said number (says.Times count first step) clean h = h
line_unsaid said number (says.Coin coin) clean h = h
line_unsaid said number (says.Verdict row) clean h = h
line_unsaid said number (says.OtherVerdicts verdict) clean h = h
line_unsaid said number (says.Whitelist entry) clean h = h
line_unsaid said number (says.RpcWhitelist text) clean h = h
line_unsaid said number (says.Defaults release) clean h = absurd (cc)
line_unsaid said number (says.Number setting value) clean h = kept said.policy setting value clean ∙ h

neither : (a b : Bool) → (a || b) ≡ false → (a ≡ false) × (b ≡ false)
neither false b is = (refl, is)
neither true b is = absurd (cc)

none_set : (lines : List (List ℕ)) → some_set lines ≡ false → EachLine (λ line. is_set_by (said_by line) ≡ false) lines
none_set [] clean = tt
none_set (line ∷ lines) clean = λ open'.
    let here = neither (is_set_by (said_by line)) (some_set lines) (subst (λ (ends : Bool). (if ends then false else is_set_by (said_by line) || some_set lines) ≡ false) open' clean) in
    (here.0, none_set lines here.1)

pub openings_have_defaults : OpeningsHaveDefaults
openings_have_defaults text w is clean =
    opened_by (λ (v : World). v.policy ≡ usual_policy) IsUnsaid (λ said h. h) text w
    (λ said says. all_kept (λ line. is_set_by (said_by line) ≡ false) IsUnsaid
    (λ s number line saying so h told free. line_unsaid s number saying (ap is_set_by (sym told) ∙ so) h)
    0 nothing_said said (lines_of text) (none_set (lines_of text) clean) refl says)
    is
