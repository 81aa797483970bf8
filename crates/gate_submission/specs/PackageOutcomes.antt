-- What became of a package, and what is left of that once entries have left the pool again.
use Rattle.std.specs.Prelude.{ℕ, Bool, true, false, ◌&&◌, if◌then◌else◌, List, [], map, None}
use Rattle.std.specs.List.{list_any}
use Rattle.std.specs.Str.{bytes_eq}
use Rattle.gate_rules.specs.declared.Denial.TheVariants.{MempoolFull}
use Rattle.gate_rules.specs.declared.package.PackageDenial.{PackageDenial}
use Rattle.gate_submission.specs.declared.package_outcome.Fate.{Fate}
use Rattle.gate_submission.specs.declared.package_outcome.Fate.TheVariants.{Taken, Known, OtherWitness, Denied}
use Rattle.gate_submission.specs.declared.package_outcome.Member.{Member}
use Rattle.gate_submission.specs.declared.package_outcome.PackageVerdict.{PackageVerdict}
use Rattle.gate_submission.specs.declared.package_outcome.PackageVerdict.TheVariants as verdicts
use Rattle.gate_submission.specs.declared.package_outcome.PackageOutcome.{PackageOutcome}

-- a package that is denied before a member is judged
abbrev pub unjudged : PackageDenial → PackageOutcome
unjudged denial = record { verdict = verdicts.Denied denial; members = []; together = None }

abbrev pub is_of_pool : Fate → Bool
is_of_pool (Taken fee vsize together replaced) = true
is_of_pool (Known fee vsize) = true
is_of_pool (OtherWitness wtxid) = true
is_of_pool (Denied denial) = false

-- a member came into the pool, or was there
abbrev pub is_held : Member → Bool
is_held m = is_of_pool m.fate

-- a member was in the pool, and is one of those that left
abbrev pub has_left : List (List ℕ) → Member → Bool
has_left gone m = is_held m && list_any (λ txid. bytes_eq txid m.txid) gone

-- the member as A46 denies it, if it has left the pool again
abbrev pub left : List (List ℕ) → Member → Member
left gone m = if has_left gone m then record m { fate = Denied MempoolFull } else m

abbrev pub one_left : List (List ℕ) → List Member → Bool
one_left gone members = list_any (has_left gone) members

-- the outcome once these entries have left the pool again: with a member among them the package has failed
abbrev pub settled : List (List ℕ) → PackageOutcome → PackageOutcome
settled gone o = record {
  verdict = if one_left gone o.members then verdicts.Failed else o.verdict;
  members = map (left gone) o.members;
  together = o.together;
}
