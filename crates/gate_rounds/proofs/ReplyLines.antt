-- Each reply is a line, and none that a journal has.
use Rattle.std.proofs.Common.{◌≡◌, ◌≢◌, ℕ, ℤ, pos, negsuc, zero, suc, ◌+◌, ◌<◌, ◌/◌, ◌%◌, ◌==◌, ◌&&◌, ◌||◌, not, nat_lt, Bool, true, false, if◌then◌else◌, cond, List, [], ◌∷◌, ◌++◌, length, get_or, codes, flat_map, refl, sym, subst, ◌∙◌, ap, arith}
use Rattle.std.specs.Char.{digit_char}
use Rattle.std.specs.Fmt.{decimal, digit_glyph, digits, digits_onto, signed_decimal}
use Rattle.std.specs.List.{list_all}
use Rattle.std.proofs.lemmas.Bool.{and_parts, cond_both, false≢true}
use Rattle.std.proofs.lemmas.Bool.Decides.{nat_tests}
use Rattle.std.proofs.lemmas.List.Folds.{list_all-append}
use Rattle.gate_lines.proofs.NumberParts.{and_both}
use Rattle.gate_lines.specs.Lines.{LacksNewline}
use Rattle.hex.specs.Hex.{encode_lower, encode_with, lower_digits}
use Rattle.json.specs.Print.{escape, escape_byte, escape_letter, quoted}
use Rattle.serde_json.specs.Data.{Num, unsigned, negative, float, Data, null, boolean, number, string, array, object, Items, no_items, item, Members, no_members, member}
use Rattle.serde_json.specs.Written.{comma_if, compact_text, items_text, members_text, number_text}
use Rattle.gate_rules.specs.Chain.{name_of as chain_name, token_of as chain_token}
use Rattle.gate_rules.specs.declared.ChainDenial.{ChainDenial}
use Rattle.gate_rules.specs.declared.ChainDenial.TheVariants.{BlockDecode}
use Rattle.gate_message.specs.Following.{then_text}
use Rattle.gate_rules.specs.Peers.{name_of, token_of}
use Rattle.gate_message.specs.Texts.{admitted_text, fate_text, member_text, members_text as told_text, reply_text, verdict_text}
use Rattle.gate_rules.specs.declared.PeerDenial.{PeerDenial}
use Rattle.gate_rules.specs.declared.PeerDenial.TheVariants.{Admission, Package}
use Rattle.gate_message.specs.declared.denial.Then.{Then}
use Rattle.gate_message.specs.declared.denial.Then.TheVariants.{Keep, Close, Relay}
use Rattle.gate_message.specs.declared.reply.Reply.{Reply}
use Rattle.gate_message.specs.declared.reply.Reply.TheVariants.{Entered, Left, Admitted, Packaged, Listing, Block, Headers, Filter, Rpc, Denied, Set, Moved, Forgotten, Refused}
use Rattle.gate_net.specs.Permissions.{Permissions, joined, named, names_of, permissions_text}
use Rattle.gate_rpc.specs.Replies.{answer_json, error_json, id_json, result_json, reply_status, reply_text as answer_text}
use Rattle.gate_rpc.specs.declared.reply.RpcReply.{RpcReply}
use Rattle.gate_rpc.specs.declared.reply.RpcReply.TheVariants.{NotAllowed, Answer, Failure}
use Rattle.gate_rules.specs.Denials.{name_of as admission_name, token_of as admission_token}
use Rattle.gate_rules.specs.declared.Denial.{Denial}
use Rattle.gate_rules.specs.declared.Denial.TheVariants.{Decode}
use Rattle.gate_rules.specs.Packages.{name_of as package_name, token_of as package_token}
use Rattle.gate_rules.specs.declared.PackageDenial.{PackageDenial}
use Rattle.gate_rules.specs.declared.PackageDenial.TheVariants.{BurntAmount}
use Rattle.gate_submission.specs.declared.Fate.{Fate}
use Rattle.gate_submission.specs.declared.Fate.TheVariants as fates
use Rattle.gate_submission.specs.declared.Member.{Member}
use Rattle.gate_submission.specs.declared.PackageVerdict.{PackageVerdict}
use Rattle.gate_submission.specs.declared.PackageVerdict.TheVariants as verdicts
use Rattle.gate_tx.specs.Ids.{id_text}

-- ---- texts without a newline

abbrev pub is_plain : ℕ → Bool
is_plain b = not (b == 10)

abbrev pub plain : List ℕ → Bool
plain text = list_all is_plain text

both : (a b : List ℕ) → plain a ≡ true → plain b ≡ true → plain (a ++ b) ≡ true
both a b first second = list_all-append is_plain a b ∙ rw first second

no_newline : (b : ℕ) → is_plain b ≡ true → b ≢ 10
no_newline b h is = let k : not (10 == 10) ≡ true = subst (λ (x : ℕ). not (x == 10) ≡ true) is h in false≢true k

pub lacks : (text : List ℕ) → plain text ≡ true → LacksNewline text
lacks [] h = tt
lacks (b ∷ text) h = let parts = and_parts (is_plain b) (plain text) h in (no_newline b parts.0, lacks text parts.1)

above : (b : ℕ) → 10 < b → is_plain b ≡ true
above b h = grind (arith, nat_tests)

-- ---- numbers

glyph_plain : (d : ℕ) → is_plain (digit_glyph false d) ≡ true
glyph_plain d = cond_both (nat_lt d 10) (48 + d) (87 + d) (λ (b : ℕ). is_plain b ≡ true) (λ _. above (48 + d) (omega arith)) (λ _. above (87 + d) (omega arith))

digits_plain : (k n : ℕ) (after : List ℕ) → plain after ≡ true → plain (digits_onto k 10 false n after) ≡ true
digits_plain zero n after h = h
digits_plain (suc k) n after h =
    let here : plain (digit_glyph false (n % 10) ∷ after) ≡ true = and_both _ _ (glyph_plain (n % 10)) h in
    cond_both (n / 10 == 0) (digit_glyph false (n % 10) ∷ after) (digits_onto k 10 false (n / 10) (digit_glyph false (n % 10) ∷ after)) (λ (l : List ℕ). plain l ≡ true)
    (λ _. here) (λ _. digits_plain k (n / 10) (digit_glyph false (n % 10) ∷ after) here)

pub number_plain : (n : ℕ) → plain (decimal n) ≡ true
unfolding digits
number_plain n = digits_plain 64 n [] refl

-- ---- hexadecimal

at_plain : (table : List ℕ) (k : ℕ) → plain table ≡ true → is_plain (get_or table k 0) ≡ true
at_plain [] k h = refl
at_plain (c ∷ table) zero h = (and_parts (is_plain c) (plain table) h).0
at_plain (c ∷ table) (suc k) h = at_plain table k (and_parts (is_plain c) (plain table) h).1

hex_plain : (bytes : List ℕ) → plain (encode_lower bytes) ≡ true
unfolding encode_with
hex_plain [] = refl
hex_plain (b ∷ bytes) = and_both _ _ (at_plain lower_digits (b / 16) refl) (and_both _ _ (at_plain lower_digits (b % 16) refl) (hex_plain bytes))

id_plain : (id : List ℕ) → plain (id_text id) ≡ true
id_plain id = hex_plain _

-- ---- strings of JSON

char_plain : (d : ℕ) → is_plain (digit_char d) ≡ true
char_plain d = cond_both (nat_lt d 10) (48 + d) (87 + d) (λ (b : ℕ). is_plain b ≡ true) (λ _. above (48 + d) (omega arith)) (λ _. above (87 + d) (omega arith))

abbrev Plain : ℕ → Type 0
Plain b = is_plain b ≡ true

letter_plain : (x : ℕ) → is_plain x ≡ true → is_plain (escape_letter x) ≡ true
letter_plain x h =
    cond_both ((x == 34) || (x == 92)) x (cond (x == 8) 98 (cond (x == 12) 102 (cond (x == 10) 110 (cond (x == 13) 114 (cond (x == 9) 116 0))))) Plain (λ _. h)
    (λ _. cond_both (x == 8) 98 (cond (x == 12) 102 (cond (x == 10) 110 (cond (x == 13) 114 (cond (x == 9) 116 0)))) Plain (λ _. refl)
    (λ _. cond_both (x == 12) 102 (cond (x == 10) 110 (cond (x == 13) 114 (cond (x == 9) 116 0))) Plain (λ _. refl)
    (λ _. cond_both (x == 10) 110 (cond (x == 13) 114 (cond (x == 9) 116 0)) Plain (λ _. refl)
    (λ _. cond_both (x == 13) 114 (cond (x == 9) 116 0) Plain (λ _. refl)
    (λ _. cond_both (x == 9) 116 0 Plain (λ _. refl) (λ _. refl))))))

other_byte_plain : (x : ℕ) → is_plain x ≡ true → plain (escape_byte x) ≡ true
unfolding escape_byte
other_byte_plain x h =
    cond_both (nat_lt 0 (escape_letter x)) (92 ∷ escape_letter x ∷ [])
    (cond (nat_lt x 32) (92 ∷ 117 ∷ 48 ∷ 48 ∷ digit_char (x / 16) ∷ digit_char (x % 16) ∷ []) (x ∷ [])) (λ (l : List ℕ). plain l ≡ true)
    (λ _. and_both _ _ (letter_plain x h) refl)
    (λ _. cond_both (nat_lt x 32) (92 ∷ 117 ∷ 48 ∷ 48 ∷ digit_char (x / 16) ∷ digit_char (x % 16) ∷ []) (x ∷ []) (λ (l : List ℕ). plain l ≡ true)
    (λ _. and_both _ _ (char_plain (x / 16)) (and_both _ _ (char_plain (x % 16)) refl)) (λ _. and_both _ _ h refl))

newline_plain : plain (escape_byte 10) ≡ true
unfolding escape_byte
newline_plain = refl

escape_byte_plain : (x : ℕ) → plain (escape_byte x) ≡ true
escape_byte_plain x = by (x == 10) refl
  where
    by : (b : Bool) → (x == 10) ≡ b → plain (escape_byte x) ≡ true
    by true is = let same : x ≡ 10 = grind (arith, nat_tests) in subst (λ (y : ℕ). plain (escape_byte y) ≡ true) (sym same) newline_plain
    by false is = other_byte_plain x (ap not is)

escape_plain : (s : List ℕ) → plain (escape s) ≡ true
escape_plain [] = refl
escape_plain (x ∷ s) = both (escape_byte x) (escape s) (escape_byte_plain x) (escape_plain s)

quoted_plain : (s : List ℕ) → plain (quoted s) ≡ true
quoted_plain s = both (escape s) (34 ∷ []) (escape_plain s) refl

-- ---- values of JSON

comma_plain : (later : Bool) → plain (comma_if later) ≡ true
comma_plain true = refl
comma_plain false = refl

signed_plain : (z : ℤ) → plain (signed_decimal z) ≡ true
signed_plain (pos n) = number_plain n
signed_plain (negsuc n) = number_plain (suc n)

number_text_plain : (n : Num) → plain (number_text n) ≡ true
number_text_plain (unsigned n) = number_plain n
number_text_plain (negative z) = signed_plain z
number_text_plain (float x) = refl

mutual
  data_plain : (d : Data) → plain (compact_text d) ≡ true
  data_plain null = refl
  data_plain (boolean true) = refl
  data_plain (boolean false) = refl
  data_plain (number n) = number_text_plain n
  data_plain (string s) = quoted_plain s
  data_plain (array ds) = items_plain false ds
  data_plain (object ms) = members_plain false ms

  items_plain : (later : Bool) (ds : Items) → plain (items_text later ds) ≡ true
  items_plain later no_items = refl
  items_plain later (item d ds) = both (comma_if later) (compact_text d ++ items_text true ds) (comma_plain later) (both (compact_text d) (items_text true ds) (data_plain d) (items_plain true ds))

  members_plain : (later : Bool) (ms : Members) → plain (members_text later ms) ≡ true
  members_plain later no_members = refl
  members_plain later (member k d ms) =
      both (comma_if later) (quoted k ++ 58 ∷ (compact_text d ++ members_text true ms)) (comma_plain later)
      (both (quoted k) (58 ∷ (compact_text d ++ members_text true ms)) (quoted_plain k) (both (compact_text d) (members_text true ms) (data_plain d) (members_plain true ms)))

answer_plain : (answer : RpcReply) → plain (answer_text answer) ≡ true
answer_plain NotAllowed = refl
answer_plain (Answer id result) = data_plain (answer_json null (id_json id) (result_json result))
answer_plain (Failure id error) = data_plain (answer_json (error_json error) (id_json id) null)

-- ---- words

admission_name_plain : (denial : Denial) → plain (admission_name denial) ≡ true
admission_name_plain Decode = refl
admission_name_plain denial = refl

admission_token_plain : (denial : Denial) → plain (admission_token denial) ≡ true
admission_token_plain Decode = refl
admission_token_plain denial = refl

package_name_plain : (denial : PackageDenial) → plain (package_name denial) ≡ true
package_name_plain BurntAmount = refl
package_name_plain denial = refl

package_token_plain : (denial : PackageDenial) → plain (package_token denial) ≡ true
package_token_plain BurntAmount = refl
package_token_plain denial = refl

name_plain : (denial : PeerDenial) → plain (name_of denial) ≡ true
name_plain (Admission denial) = admission_name_plain denial
name_plain (Package denial) = package_name_plain denial
name_plain denial = refl

token_plain : (denial : PeerDenial) → plain (token_of denial) ≡ true
token_plain (Admission denial) = admission_token_plain denial
token_plain (Package denial) = package_token_plain denial
token_plain denial = refl

chain_name_plain : (denial : ChainDenial) → plain (chain_name denial) ≡ true
chain_name_plain BlockDecode = refl
chain_name_plain denial = refl

chain_token_plain : (denial : ChainDenial) → plain (chain_token denial) ≡ true
chain_token_plain BlockDecode = refl
chain_token_plain denial = refl

then_plain : (what : Then) → plain (then_text what) ≡ true
then_plain Keep = refl
then_plain Close = refl
then_plain Relay = refl

-- names with commas
abbrev all_plain : List (List ℕ) → Bool
all_plain names = list_all plain names

named_plain : (is_set : Bool) (name : List ℕ) → plain name ≡ true → all_plain (named is_set name) ≡ true
named_plain true name h = and_both _ _ h refl
named_plain false name h = refl

more_plain : (names others : List (List ℕ)) → all_plain names ≡ true → all_plain others ≡ true → all_plain (names ++ others) ≡ true
more_plain names others first second = list_all-append plain names others ∙ rw first second

commas_plain : (names : List (List ℕ)) → all_plain names ≡ true → plain (flat_map (λ n. codes "," ++ n) names) ≡ true
commas_plain [] h = refl
commas_plain (name ∷ names) h =
    let parts = and_parts (plain name) (all_plain names) h in
    both (codes "," ++ name) (flat_map (λ n. codes "," ++ n) names) parts.0 (commas_plain names parts.1)

joined_plain : (names : List (List ℕ)) → all_plain names ≡ true → plain (joined names) ≡ true
joined_plain [] h = refl
joined_plain (name ∷ names) h =
    let parts = and_parts (plain name) (all_plain names) h in
    both name (flat_map (λ n. codes "," ++ n) names) parts.0 (commas_plain names parts.1)

names_plain : (flags : Permissions) → all_plain (names_of flags) ≡ true
names_plain flags =
    let a = named flags.bloomfilter (codes "bloomfilter") in
    let b = named flags.noban (codes "noban") in
    let c = named flags.forcerelay (codes "forcerelay") in
    let d = named flags.relay (codes "relay") in
    let e = named flags.mempool (codes "mempool") in
    let f = named flags.download (codes "download") in
    let g = named flags.addr (codes "addr") in
    more_plain (((((a ++ b) ++ c) ++ d) ++ e) ++ f) g
    (more_plain ((((a ++ b) ++ c) ++ d) ++ e) f
    (more_plain (((a ++ b) ++ c) ++ d) e
    (more_plain ((a ++ b) ++ c) d
    (more_plain (a ++ b) c
    (more_plain a b (named_plain flags.bloomfilter (codes "bloomfilter") refl) (named_plain flags.noban (codes "noban") refl))
    (named_plain flags.forcerelay (codes "forcerelay") refl))
    (named_plain flags.relay (codes "relay") refl))
    (named_plain flags.mempool (codes "mempool") refl))
    (named_plain flags.download (codes "download") refl))
    (named_plain flags.addr (codes "addr") refl)

-- ---- replies

listed_plain : (txids : List (List ℕ)) → plain (flat_map (λ txid. codes " " ++ id_text txid) txids) ≡ true
listed_plain [] = refl
listed_plain (txid ∷ txids) = both (codes " " ++ id_text txid) (flat_map (λ id. codes " " ++ id_text id) txids) (id_plain txid) (listed_plain txids)

granted_plain : (txid : List ℕ) (fee vsize replaced : ℕ) → plain (admitted_text txid fee vsize replaced) ≡ true
granted_plain txid fee vsize replaced =
    both (id_text txid) (codes " fee " ++ (decimal fee ++ (codes " vsize " ++ (decimal vsize ++ (codes " replaced " ++ decimal replaced))))) (id_plain txid)
    (both (decimal fee) (codes " vsize " ++ (decimal vsize ++ (codes " replaced " ++ decimal replaced))) (number_plain fee)
    (both (decimal vsize) (codes " replaced " ++ decimal replaced) (number_plain vsize) (number_plain replaced)))

fate_plain : (txid : List ℕ) (fate : Fate) → plain (fate_text txid fate) ≡ true
fate_plain txid (fates.Taken fee vsize together replaced) = granted_plain txid fee vsize (length replaced)
fate_plain txid (fates.Known fee vsize) = id_plain txid
fate_plain txid (fates.OtherWitness wtxid) = id_plain txid
fate_plain txid (fates.Denied denial) = both (admission_name denial) (codes " " ++ admission_token denial) (admission_name_plain denial) (admission_token_plain denial)

told_plain : (members : List Member) → plain (told_text members) ≡ true
told_plain [] = refl
told_plain (m ∷ members) = both (codes " | " ++ member_text m) (told_text members) (fate_plain m.txid m.fate) (told_plain members)

verdict_plain : (verdict : PackageVerdict) → plain (verdict_text verdict) ≡ true
verdict_plain verdicts.Success = refl
verdict_plain verdicts.Failed = refl
verdict_plain (verdicts.Denied denial) = both (package_name denial) (codes " " ++ package_token denial) (package_name_plain denial) (package_token_plain denial)

reply_plain : (reply : Reply) → plain (reply_text reply) ≡ true
reply_plain (Entered flags) = joined_plain (names_of flags) (names_plain flags)
reply_plain Left = refl
reply_plain (Admitted txid fee vsize replaced) = granted_plain txid fee vsize replaced
reply_plain (Packaged followed verdict members) =
    both (then_text followed) (codes " " ++ (verdict_text verdict ++ told_text members)) (then_plain followed)
    (both (verdict_text verdict) (told_text members) (verdict_plain verdict) (told_plain members))
reply_plain (Listing txids) = both (decimal (length txids)) (flat_map (λ txid. codes " " ++ id_text txid) txids) (number_plain (length txids)) (listed_plain txids)
reply_plain (Block height time) = both (decimal height) (codes " " ++ decimal time) (number_plain height) (number_plain time)
reply_plain (Headers first count) = both (decimal first) (codes " " ++ decimal count) (number_plain first) (number_plain count)
reply_plain (Filter rate) = number_plain rate
reply_plain (Rpc answer) =
    both (decimal (reply_status answer) ++ codes " ") (answer_text answer) (both (decimal (reply_status answer)) (codes " ") (number_plain (reply_status answer)) refl) (answer_plain answer)
reply_plain (Denied denial what) =
    both (name_of denial) (codes " " ++ (then_text what ++ (codes " " ++ token_of denial))) (name_plain denial)
    (both (then_text what) (codes " " ++ token_of denial) (then_plain what) (token_plain denial))
reply_plain Set = refl
reply_plain (Moved moved) =
    both (decimal moved.tip) (codes " removed " ++ (decimal moved.removed ++ (codes " entered " ++ decimal moved.entered))) (number_plain moved.tip)
    (both (decimal moved.removed) (codes " entered " ++ decimal moved.entered) (number_plain moved.removed) (number_plain moved.entered))
reply_plain (Forgotten blocks coins rows) =
    both (decimal blocks) (codes " " ++ (decimal coins ++ (codes " " ++ decimal rows))) (number_plain blocks)
    (both (decimal coins) (codes " " ++ decimal rows) (number_plain coins) (number_plain rows))
reply_plain (Refused denial) = both (chain_name denial) (codes " " ++ chain_token denial) (chain_name_plain denial) (chain_token_plain denial)

pub replies_lack_newlines : (reply : Reply) → LacksNewline (reply_text reply)
replies_lack_newlines reply = lacks (reply_text reply) (reply_plain reply)
