-- The releases: their words, and what each has by default in place of the usual numbers.
use Rattle.std.specs.Prelude.{ℕ, nat_le, Bool, false, not, ◌&&◌, if◌then◌else◌, List, [], ◌∷◌, codes, slice_index_or, Option}
use Rattle.std.specs.List.{find}
use Rattle.std.specs.Option.{unwrap_or}
use Rattle.std.specs.Str.{bytes_eq}
use Rattle.gate_register.specs.declared.Setting.{Setting}
use Rattle.gate_register.specs.declared.Setting.TheVariants.{RelayRate, IncrementalRate, DataSize, DataOutputs, LeastSize, FullRbf, BareMultisig, FeesRoundUp, RelayFeeFirst, ReplacedParents, KeepInvalid, Anchors, LegacySigops, DataTotal, Truc, Packages, PackageAllParents, EphemeralDust}
use Rattle.gate_register.specs.Settings.{place_of as place_of_setting}
use Rattle.gate_register.specs.Policies.{policy_with}
use Rattle.gate_release.specs.declared.release.Choice.{Choice}
use Rattle.gate_release.specs.declared.release.Release.{Release}
use Rattle.gate_release.specs.declared.release.Release.TheVariants.{Core22, Core25, Core26, Core27, Core28, Core29, Core30, Knots29}

abbrev pub releases : List Release
releases = Core22 ∷ Core25 ∷ Core26 ∷ Core27 ∷ Core28 ∷ Core29 ∷ Core30 ∷ Knots29 ∷ []

-- a release's place in their order, and its word
abbrev pub row_of : Release → ℕ × List ℕ
row_of Core22 = (0, codes "core-22")
row_of Core25 = (1, codes "core-25")
row_of Core26 = (2, codes "core-26")
row_of Core27 = (3, codes "core-27")
row_of Core28 = (4, codes "core-28")
row_of Core29 = (5, codes "core-29")
row_of Core30 = (6, codes "core-30")
row_of Knots29 = (7, codes "knots-29")

abbrev pub place_of : Release → ℕ
place_of release = (row_of release).0

abbrev pub word_of : Release → List ℕ
word_of release = (row_of release).1

abbrev pub release_named : List ℕ → Option Release
release_named word = find (λ (release : Release). bytes_eq (word_of release) word) releases

-- the number that the releases from one to another have of a setting
abbrev pub choice : Setting → ℕ → Release → Release → Choice
choice setting number first last = record { setting = setting; number = number; first = first; last = last }

abbrev pub choices : List Choice
choices =
    choice LeastSize 65 Core25 Knots29
    ∷ choice FeesRoundUp 1 Core25 Knots29
    ∷ choice RelayFeeFirst 1 Core26 Knots29
    ∷ choice FullRbf 1 Core28 Knots29
    ∷ choice Anchors 1 Core28 Knots29
    ∷ choice Truc 1 Core28 Core30
    ∷ choice Packages 1 Core28 Knots29
    ∷ choice PackageAllParents 1 Core28 Core29
    ∷ choice PackageAllParents 1 Knots29 Knots29
    ∷ choice ReplacedParents 1 Core28 Knots29
    ∷ choice RelayRate 100 Core29 Core30
    ∷ choice IncrementalRate 100 Core29 Core30
    ∷ choice EphemeralDust 1 Core29 Core30
    ∷ choice LegacySigops 2500 Core29 Knots29
    ∷ choice DataSize 100000 Core30 Core30
    ∷ choice DataOutputs 10000 Core30 Core30
    ∷ choice DataTotal 100000 Core30 Core30
    ∷ choice KeepInvalid 1 Core30 Core30
    ∷ choice BareMultisig 0 Knots29 Knots29
    ∷ []

abbrev pub is_of : Release → Choice → Bool
is_of release c = nat_le (place_of c.first) (place_of release) && nat_le (place_of release) (place_of c.last)

-- a setting was said, by what tells it of each setting in their order
abbrev pub was_said : List Bool → Setting → Bool
was_said said setting = slice_index_or said (place_of_setting setting) false

-- the policy with a number set, if an operator may set it
abbrev pub with_choice : List ℕ → Choice → List ℕ
with_choice policy c = unwrap_or (policy_with policy c.setting c.number) policy

-- the policy with those of these numbers that a release has, but for settings that were said
abbrev pub policy_beside : Release → List Bool → List ℕ → List Choice → List ℕ
policy_beside release said policy [] = policy
policy_beside release said policy (c ∷ cs) =
    policy_beside release said (if is_of release c && not (was_said said c.setting) then with_choice policy c else policy) cs
