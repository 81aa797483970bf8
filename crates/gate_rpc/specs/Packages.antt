-- What became of a package, as a value of JSON.
use Rattle.std.specs.Prelude.{ℕ, ◌==◌, if◌then◌else◌, true, false, Bool, List, [], ◌∷◌, ◌++◌, codes, flat_map, Option, Some, None}
use Rattle.std.specs.Fmt.{decimal}
use Rattle.json.specs.Print.{quoted}
use Rattle.serde_json.specs.Data.{Data, string, object, Members, no_members, member}
use Rattle.gate_tx.specs.Ids.{id_text}
use Rattle.gate_rules.specs.declared.denial.Denial.{Denial}
use Rattle.gate_standard.specs.Amounts.{feerate}
use Rattle.gate_rules.specs.Denials.{token_of}
use Rattle.gate_rules.specs.declared.package.PackageDenial.{PackageDenial}
use Rattle.gate_rules.specs.Packages.{name_of as package_name, token_of as package_token}
use Rattle.gate_submission.specs.declared.package_outcome.Fate.{Fate}
use Rattle.gate_submission.specs.declared.package_outcome.Fate.TheVariants.{Taken, Known, OtherWitness, Denied}
use Rattle.gate_submission.specs.declared.package_outcome.Member.{Member}
use Rattle.gate_submission.specs.declared.package_outcome.Together.{Together}
use Rattle.gate_submission.specs.declared.package_outcome.PackageVerdict.{PackageVerdict}
use Rattle.gate_submission.specs.declared.package_outcome.PackageVerdict.TheVariants as verdicts
use Rattle.gate_submission.specs.declared.package_outcome.PackageOutcome.{PackageOutcome}
use Rattle.gate_rpc.specs.Values.{integer, rule_json, txid_json, txids_json}

-- what is said of the package as a whole
abbrev pub package_message : PackageVerdict → List ℕ
package_message verdicts.Success = codes "success"
package_message verdicts.Failed = codes "transaction failed"
package_message (verdicts.Denied denial) = package_token denial

-- the name of the rule on packages that denies, such as `J7`
abbrev pub package_rule_json : PackageDenial → Data
package_rule_json denial = string (package_name denial)

abbrev pub rule_members : PackageVerdict → Members → Members
rule_members verdicts.Success others = others
rule_members verdicts.Failed others = others
rule_members (verdicts.Denied denial) others = member (codes "rule") (package_rule_json denial) others

abbrev pub replaced_of : Fate → List (List ℕ)
replaced_of (Taken fee vsize together replaced) = replaced
replaced_of (Known fee vsize) = []
replaced_of (OtherWitness wtxid) = []
replaced_of (Denied denial) = []

-- the entries that a member has replaced
abbrev pub replaced_by : Member → List (List ℕ)
replaced_by m = replaced_of m.fate

-- a feerate as it is told: there is none without a size
abbrev pub told_rate : ℕ → ℕ → ℕ
told_rate fee vsize = if vsize == 0 then 0 else feerate fee vsize

-- what a member pays, in satoshi, and the feerate of this fee and this size, with the wtxids of those whose they are
abbrev pub fees_json : ℕ → ℕ → ℕ → List (List ℕ) → Data
fees_json base fee vsize wtxids =
    object (member (codes "base") (integer base)
    (member (codes "effective-feerate") (integer (told_rate fee vsize))
    (member (codes "effective-includes") (txids_json wtxids)
    no_members)))

-- the feerate that counted: that of all that were judged together, or the member's own
abbrev pub taken_fees : Option Together → Bool → List ℕ → ℕ → ℕ → Data
taken_fees (Some all) true wtxid fee vsize = fees_json fee all.fee all.vsize all.wtxids
taken_fees (Some all) false wtxid fee vsize = fees_json fee fee vsize (wtxid ∷ [])
taken_fees None together wtxid fee vsize = fees_json fee fee vsize (wtxid ∷ [])

abbrev pub sized_json : Data → List ℕ → ℕ → Data
sized_json fees txid vsize =
    object (member (codes "fees") fees
    (member (codes "txid") (txid_json txid)
    (member (codes "vsize") (integer vsize)
    no_members)))

-- what a member pays that was known
abbrev pub base_json : ℕ → Data
base_json fee = object (member (codes "base") (integer fee) no_members)

abbrev pub other_json : List ℕ → List ℕ → Data
other_json other txid = object (member (codes "other-wtxid") (txid_json other) (member (codes "txid") (txid_json txid) no_members))

abbrev pub denied_json : List ℕ → Denial → Data
denied_json txid denial =
    object (member (codes "error") (string (token_of denial))
    (member (codes "rule") (rule_json denial)
    (member (codes "txid") (txid_json txid)
    no_members)))

-- what became of a member with these ids
abbrev pub fate_json : Option Together → List ℕ → List ℕ → Fate → Data
fate_json all txid wtxid (Taken fee vsize together replaced) = sized_json (taken_fees all together wtxid fee vsize) txid vsize
fate_json all txid wtxid (Known fee vsize) = sized_json (base_json fee) txid vsize
fate_json all txid wtxid (OtherWitness other) = other_json other txid
fate_json all txid wtxid (Denied denial) = denied_json txid denial

-- each member under its wtxid, in the order of the package
abbrev pub member_members : Option Together → List Member → Members
member_members all [] = no_members
member_members all (m ∷ ms) = member (id_text m.wtxid) (fate_json all m.txid m.wtxid m.fate) (member_members all ms)

abbrev pub members_json : Option Together → List Member → Data
members_json all members = object (member_members all members)

abbrev pub package_json : PackageOutcome → Data
package_json o =
    object (member (codes "package_msg") (string (package_message o.verdict))
    (member (codes "replaced-transactions") (txids_json (flat_map replaced_by o.members))
    (rule_members o.verdict
    (member (codes "tx-results") (members_json o.together o.members)
    no_members))))

-- ---- the texts of these objects, given those of their parts

abbrev pub fees_text : ℕ → ℕ → List ℕ → List ℕ
fees_text base rate wtxids =
    codes "{\"base\":" ++ (decimal base ++ (
    codes ",\"effective-feerate\":" ++ (decimal rate ++ (
    codes ",\"effective-includes\":" ++ (wtxids ++ codes "}")))))

abbrev pub base_text : ℕ → List ℕ
base_text fee = codes "{\"base\":" ++ (decimal fee ++ codes "}")

abbrev pub sized_text : List ℕ → List ℕ → ℕ → List ℕ
sized_text fees txid vsize =
    codes "{\"fees\":" ++ (fees ++ (
    codes ",\"txid\":" ++ (txid ++ (
    codes ",\"vsize\":" ++ (decimal vsize ++ codes "}")))))

abbrev pub denied_text : List ℕ → List ℕ → List ℕ → List ℕ
denied_text reason rule txid =
    codes "{\"error\":" ++ (reason ++ (
    codes ",\"rule\":" ++ (rule ++ (
    codes ",\"txid\":" ++ (txid ++ codes "}")))))

abbrev pub other_text : List ℕ → List ℕ → List ℕ
other_text other txid = codes "{\"other-wtxid\":" ++ (other ++ (codes ",\"txid\":" ++ (txid ++ codes "}")))

-- the end of a package's object: the rule that denies, if one does, and what became of the members
abbrev pub package_end : PackageVerdict → List ℕ → List ℕ
package_end verdicts.Success results = codes "\"tx-results\":" ++ (results ++ codes "}")
package_end verdicts.Failed results = codes "\"tx-results\":" ++ (results ++ codes "}")
package_end (verdicts.Denied denial) results =
    codes "\"rule\":" ++ (quoted (package_name denial) ++ (
    codes ",\"tx-results\":" ++ (results ++ codes "}")))

abbrev pub package_text : List ℕ → List ℕ → List ℕ → List ℕ
package_text message replaced rest = codes "{\"package_msg\":" ++ (message ++ (codes ",\"replaced-transactions\":" ++ (replaced ++ (codes "," ++ rest))))
