-- Objects of packages as they are printed are the compact texts of their values.
use Rattle.std.proofs.Common.{◌≡◌, ℕ, List, refl}
use Rattle.std.specs.Prelude.{codes}
use Rattle.std.specs.List.{flat_map}
use Rattle.json.specs.Print.{quoted}
use Rattle.serde_json.specs.Data.{Data, string, object, no_members, member}
use Rattle.serde_json.specs.Written.{compact_text}
use Rattle.serde_json.proofs.OnLiterals.{serde_json_on_literals}
use Rattle.gate_tx.specs.Ids.{id_text}
use Rattle.gate_rules.specs.declared.denial.Denial.{Denial}
use Rattle.gate_rules.specs.Denials.{name_of, token_of}
use Rattle.gate_submission.specs.declared.package_outcome.PackageVerdict.{PackageVerdict}
use Rattle.gate_submission.specs.declared.package_outcome.PackageVerdict.TheVariants.{Success, Failed, Denied}
use Rattle.gate_submission.specs.declared.package_outcome.PackageOutcome.{PackageOutcome}
use Rattle.gate_rpc.specs.Packages.{base_json, base_text, denied_json, denied_text, fees_json, fees_text, members_json, other_json, other_text, package_end, package_json, package_message, package_text, replaced_by, rule_members, sized_json, sized_text, told_rate}
use Rattle.gate_rpc.specs.Values.{txids_json}

fees_is : (base fee vsize : ℕ) (wtxids : List (List ℕ)) → fees_text base (told_rate fee vsize) (compact_text (txids_json wtxids)) ≡ compact_text (fees_json base fee vsize wtxids)
unfolding serde_json_on_literals
fees_is base fee vsize wtxids = refl

pub fees_whole : (base fee vsize rate : ℕ) (wtxids : List (List ℕ)) (text : List ℕ) → rate ≡ told_rate fee vsize → text ≡ compact_text (txids_json wtxids)
    → fees_text base rate text ≡ compact_text (fees_json base fee vsize wtxids)
fees_whole base fee vsize rate wtxids text a b = rw (a, b) (fees_is base fee vsize wtxids)

sized_is : (fees : Data) (txid : List ℕ) (vsize : ℕ) → sized_text (compact_text fees) (quoted (id_text txid)) vsize ≡ compact_text (sized_json fees txid vsize)
unfolding serde_json_on_literals
sized_is fees txid vsize = refl

pub sized_whole : (fees : Data) (txid : List ℕ) (vsize : ℕ) (text : List ℕ) → text ≡ compact_text fees → sized_text text (quoted (id_text txid)) vsize ≡ compact_text (sized_json fees txid vsize)
sized_whole fees txid vsize text a = rw a (sized_is fees txid vsize)

pub base_is : (fee : ℕ) → base_text fee ≡ compact_text (base_json fee)
unfolding serde_json_on_literals
base_is fee = refl

other_is : (other txid : List ℕ) → other_text (quoted (id_text other)) (quoted (id_text txid)) ≡ compact_text (other_json other txid)
unfolding serde_json_on_literals
other_is other txid = refl

pub other_whole : (a b other txid : List ℕ) → a ≡ quoted (id_text other) → b ≡ quoted (id_text txid) → other_text a b ≡ compact_text (other_json other txid)
other_whole a b other txid p q = rw (p, q) (other_is other txid)

denied_is : (txid : List ℕ) (denial : Denial) → denied_text (quoted (token_of denial)) (quoted (name_of denial)) (quoted (id_text txid)) ≡ compact_text (denied_json txid denial)
unfolding serde_json_on_literals
denied_is txid denial = refl

pub denied_whole : (reason rule id txid : List ℕ) (denial : Denial) → reason ≡ quoted (token_of denial) → rule ≡ quoted (name_of denial) → id ≡ quoted (id_text txid)
    → denied_text reason rule id ≡ compact_text (denied_json txid denial)
denied_whole reason rule id txid denial a b d = rw (a, b, d) (denied_is txid denial)

package_is : (verdict : PackageVerdict) (ids : List (List ℕ)) (results : Data)
    → package_text (quoted (package_message verdict)) (compact_text (txids_json ids)) (package_end verdict (compact_text results))
    ≡ compact_text (object (member (codes "package_msg") (string (package_message verdict)) (member (codes "replaced-transactions") (txids_json ids) (rule_members verdict (member (codes "tx-results") results no_members)))))
unfolding serde_json_on_literals
package_is Success ids results = refl
package_is Failed ids results = refl
package_is (Denied denial) ids results = refl

pub package_whole : (o : PackageOutcome) (message replaced rest results : List ℕ) → message ≡ quoted (package_message o.verdict) → replaced ≡ compact_text (txids_json (flat_map replaced_by o.members))
    → rest ≡ package_end o.verdict results → results ≡ compact_text (members_json o.together o.members) → package_text message replaced rest ≡ compact_text (package_json o)
package_whole o message replaced rest results a b d e = rw (a, b, d, e) (package_is o.verdict (flat_map replaced_by o.members) (members_json o.together o.members))
