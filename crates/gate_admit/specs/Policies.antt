-- What an operator asks of transactions: the limits of families, feerates, how long an entry stays, how large a signature operation
-- counts, what is standard, the rules on replacements, and whether sessions are closed.
use Rattle.std.specs.Prelude.{◌≤◌, ◌+◌, ◌*◌, ℕ, max, Bool, true, false, List, Option, None}
use Rattle.gate_standard.specs.declared.Feerate.{Feerate}
use Rattle.gate_standard.specs.declared.Rounding.{Rounding}
use Rattle.gate_standard.specs.declared.Rounding.TheVariants.{Down, Up}
use Rattle.gate_standard.specs.declared.Standards.{Standards}
use Rattle.gate_standard.specs.Standards.{usual_standards}
use Rattle.gate_rbf.specs.declared.ParentsOf.{ParentsOf}
use Rattle.gate_rbf.specs.declared.ParentsOf.TheVariants.{Conflicts, Replaced}
use Rattle.gate_register.specs.declared.Setting.TheVariants.{AncestorCount, AncestorSize, DescendantCount, DescendantSize, RelayRate, IncrementalRate, ExpiryHours, SigopSize, DustRate, DataSize, DataOutputs, LeastSize, FullRbf, BareMultisig, FeesRoundUp, RelayFeeFirst, ReplacedParents, KeepInvalid, Anchors, LegacySigops, DataTotal, Truc, Packages, PackageAllParents, EphemeralDust}
use Rattle.gate_register.specs.Policies.{is_on, limit_of, number_of}

-- how many ancestors and descendants a transaction may have at its first try, itself among each, and how many virtual bytes of
-- each; whether it may replace an entry that doesn't signal; the feerates that every transaction pays, and a replacement for its
-- own relay, in satoshi per 1,000 virtual bytes; whose parents a replacement may have; whether no rule of admission closes a
-- session; how many seconds an entry stays; how many bytes a signature operation counts for;
-- whether it may spend anchors, and how many legacy signature operations it may have; what is standard; whether packages are taken,
-- and whether their child may have no other unconfirmed parent
pub record Policy : Type 0 where
  pub ancestors : ℕ
  pub ancestors_size : ℕ
  pub descendants : ℕ
  pub descendants_size : ℕ
  pub full_rbf : Bool
  pub relay_rate : ℕ
  pub incremental_rate : ℕ
  pub rounding : Rounding
  pub relay_fee_first : Bool
  pub parents : ParentsOf
  pub keep_invalid : Bool
  pub stay : ℕ
  pub sigop_size : ℕ
  pub anchors : Bool
  pub legacy_sigops : Option ℕ
  pub standards : Standards
  pub packages : Bool
  pub all_parents : Bool

abbrev pub rounding_by : Bool → Rounding
rounding_by false = Down
rounding_by true = Up

abbrev pub parents_by : Bool → ParentsOf
parents_by false = Conflicts
parents_by true = Replaced

-- what an operator set, in the units in which admission counts: sizes of families are set in thousands of virtual bytes, and the stay
-- of an entry in hours
abbrev pub policy_of : List ℕ → Policy
policy_of set = record {
  ancestors = number_of set AncestorCount;
  ancestors_size = number_of set AncestorSize * 1000;
  descendants = number_of set DescendantCount;
  descendants_size = number_of set DescendantSize * 1000;
  full_rbf = is_on set FullRbf;
  relay_rate = number_of set RelayRate;
  incremental_rate = number_of set IncrementalRate;
  rounding = rounding_by (is_on set FeesRoundUp);
  relay_fee_first = is_on set RelayFeeFirst;
  parents = parents_by (is_on set ReplacedParents);
  keep_invalid = is_on set KeepInvalid;
  stay = number_of set ExpiryHours * 3600;
  sigop_size = number_of set SigopSize;
  anchors = is_on set Anchors;
  legacy_sigops = limit_of set LegacySigops;
  standards = record {
    dust_rate = record { rate = number_of set DustRate; rounding = rounding_by (is_on set FeesRoundUp) };
    data_size = number_of set DataSize;
    data_outputs = number_of set DataOutputs;
    bare_multisig = is_on set BareMultisig;
    least_size = number_of set LeastSize;
    data_total = limit_of set DataTotal;
    truc = is_on set Truc;
    ephemeral_dust = is_on set EphemeralDust;
  };
  packages = is_on set Packages;
  all_parents = is_on set PackageAllParents;
}

abbrev pub with_full_rbf : Policy → Bool → Policy
with_full_rbf policy on = record policy { full_rbf = on }

-- ---- feerates

-- this many satoshi per 1,000 virtual bytes, rounded as the policy says
abbrev pub feerate_by : Policy → ℕ → Feerate
feerate_by policy rate = record { rate = rate; rounding = policy.rounding }

-- what every transaction pays
abbrev pub relay_feerate : Policy → Feerate
relay_feerate policy = feerate_by policy policy.relay_rate

-- what a replacement pays for its own relay
abbrev pub incremental_feerate : Policy → Feerate
incremental_feerate policy = feerate_by policy policy.incremental_rate

-- ---- bounds

-- the bounds of what an operator takes for standard
pub record AreStandards (standards : Standards) : Type 0 where
  pub dust_rate : standards.dust_rate.rate ≤ 100000000
  pub data_size : standards.data_size ≤ 100000
  pub data_outputs : standards.data_outputs ≤ 10000
  pub least_size : 60 ≤ standards.least_size
  pub least_size_most : standards.least_size ≤ 82

-- the bounds of the numbers
pub record IsPolicy (policy : Policy) : Type 0 where
  pub ancestors : 1 ≤ policy.ancestors
  pub ancestors_most : policy.ancestors ≤ 1000
  pub ancestors_size : 101000 ≤ policy.ancestors_size
  pub ancestors_size_most : policy.ancestors_size ≤ 10000000
  pub descendants : 1 ≤ policy.descendants
  pub descendants_most : policy.descendants ≤ 1000
  pub descendants_size : 101000 ≤ policy.descendants_size
  pub descendants_size_most : policy.descendants_size ≤ 10000000
  pub relay_rate : policy.relay_rate ≤ 100000000
  pub incremental_rate : policy.incremental_rate ≤ 100000000
  pub stay : 3600 ≤ policy.stay
  pub stay_most : policy.stay ≤ 360000000
  pub sigop_size : 1 ≤ policy.sigop_size
  pub sigop_size_most : policy.sigop_size ≤ 25
  pub standards : AreStandards policy.standards

-- ---- the policy of an operator who sets nothing

abbrev pub usual_policy : Policy
usual_policy = record {
  ancestors = 25;
  ancestors_size = 101000;
  descendants = 25;
  descendants_size = 101000;
  full_rbf = false;
  relay_rate = 1000;
  incremental_rate = 1000;
  rounding = Down;
  relay_fee_first = false;
  parents = Conflicts;
  keep_invalid = false;
  stay = 1209600;
  sigop_size = 20;
  anchors = false;
  legacy_sigops = None;
  standards = usual_standards;
  packages = false;
  all_parents = false;
}

-- ---- the most that an entry may have, itself among each: a second try lets in a transaction with one parent, as one descendant
-- more of at most 10,000 virtual bytes

abbrev pub most_ancestors : Policy → ℕ
most_ancestors policy = max policy.ancestors 2

abbrev pub most_descendants : Policy → ℕ
most_descendants policy = policy.descendants + 1

-- the most virtual bytes of a transaction that the second try admits (EXTRA_DESCENDANT_TX_SIZE_LIMIT)
abbrev pub carve_out_size : ℕ
carve_out_size = 10000

abbrev pub most_descendants_size : Policy → ℕ
most_descendants_size policy = policy.descendants_size + carve_out_size
