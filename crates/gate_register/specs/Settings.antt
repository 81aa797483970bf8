-- The settings: the table, a row each, and what is read from it.
use Rattle.std.specs.Prelude.{ℕ, nat_le, Bool, ◌&&◌, List, [], ◌∷◌, codes, max, Option}
use Rattle.std.specs.List.{find}
use Rattle.std.specs.Str.{bytes_eq}
use Rattle.gate_register.specs.declared.setting.Setting.{Setting}
use Rattle.gate_register.specs.declared.setting.Setting.TheVariants.{AncestorCount, AncestorSize, DescendantCount, DescendantSize, RelayRate, IncrementalRate, ExpiryHours, SigopSize, DustRate, DataSize, DataOutputs, LeastSize, FullRbf, BareMultisig, Bloom, BlocksOnly, WhitelistRelay, WhitelistForceRelay, RpcWhitelistDefault, FeesRoundUp, RelayFeeFirst, ReplacedParents, KeepInvalid, Anchors, LegacySigops, DataTotal, Truc, Packages, PackageAllParents, EphemeralDust}

-- a setting's place in their order, the first word of its line, the least and the greatest number, and the number if no line says
-- one: past the greatest if there is no limit then
pub record Row : Type 0 where
  pub place : ℕ
  pub word : List ℕ
  pub least : ℕ
  pub most : ℕ
  pub usual : ℕ

abbrev pub row : ℕ → List ℕ → ℕ → ℕ → ℕ → Row
row place word least most usual = record { place = place; word = word; least = least; most = most; usual = usual }

abbrev pub row_of : Setting → Row
row_of AncestorCount = row 0 (codes "limitancestorcount") 1 1000 25
row_of AncestorSize = row 1 (codes "limitancestorsize") 101 10000 101
row_of DescendantCount = row 2 (codes "limitdescendantcount") 1 1000 25
row_of DescendantSize = row 3 (codes "limitdescendantsize") 101 10000 101
row_of RelayRate = row 4 (codes "minrelaytxfee") 0 100000000 1000
row_of IncrementalRate = row 5 (codes "incrementalrelayfee") 0 100000000 1000
row_of ExpiryHours = row 6 (codes "mempoolexpiry") 1 100000 336
row_of SigopSize = row 7 (codes "bytespersigop") 1 25 20
row_of DustRate = row 8 (codes "dustrelayfee") 0 100000000 3000
row_of DataSize = row 9 (codes "datacarriersize") 0 100000 83
row_of DataOutputs = row 10 (codes "datacarrieroutputs") 0 10000 1
row_of LeastSize = row 11 (codes "mintxsize") 60 82 82
row_of FullRbf = row 12 (codes "mempoolfullrbf") 0 1 0
row_of BareMultisig = row 13 (codes "permitbaremultisig") 0 1 1
row_of Bloom = row 14 (codes "bloom") 0 1 0
row_of BlocksOnly = row 15 (codes "blocksonly") 0 1 0
row_of WhitelistRelay = row 16 (codes "whitelistrelay") 0 1 1
row_of WhitelistForceRelay = row 17 (codes "whitelistforcerelay") 0 1 0
row_of RpcWhitelistDefault = row 18 (codes "rpcwhitelistdefault") 0 1 0
row_of FeesRoundUp = row 19 (codes "feesroundup") 0 1 0
row_of RelayFeeFirst = row 20 (codes "relayfeefirst") 0 1 0
row_of ReplacedParents = row 21 (codes "replacedparents") 0 1 0
row_of KeepInvalid = row 22 (codes "keepinvalid") 0 1 0
row_of Anchors = row 23 (codes "anchors") 0 1 0
row_of LegacySigops = row 24 (codes "maxtxlegacysigops") 0 1000000000 1000000001
row_of DataTotal = row 25 (codes "datacarriertotal") 0 100000 100001
row_of Truc = row 26 (codes "truc") 0 1 0
row_of Packages = row 27 (codes "packages") 0 1 0
row_of PackageAllParents = row 28 (codes "packageallparents") 0 1 0
row_of EphemeralDust = row 29 (codes "ephemeraldust") 0 1 0

abbrev pub count : ℕ
count = 30

-- all settings, in their order
abbrev pub settings : List Setting
settings =
    AncestorCount ∷ AncestorSize ∷ DescendantCount ∷ DescendantSize ∷ RelayRate ∷ IncrementalRate ∷ ExpiryHours ∷ SigopSize ∷ DustRate ∷ DataSize ∷ DataOutputs ∷ LeastSize ∷ FullRbf ∷ BareMultisig ∷ Bloom ∷ BlocksOnly ∷ WhitelistRelay ∷ WhitelistForceRelay ∷ RpcWhitelistDefault ∷ FeesRoundUp ∷ RelayFeeFirst ∷ ReplacedParents ∷ KeepInvalid ∷ Anchors ∷ LegacySigops ∷ DataTotal ∷ Truc ∷ Packages ∷ PackageAllParents ∷ EphemeralDust ∷ []

abbrev pub place_of : Setting → ℕ
place_of setting = (row_of setting).place

abbrev pub word_of : Setting → List ℕ
word_of setting = (row_of setting).word

abbrev pub least_of : Setting → ℕ
least_of setting = (row_of setting).least

abbrev pub most_of : Setting → ℕ
most_of setting = (row_of setting).most

abbrev pub usual_of : Setting → ℕ
usual_of setting = (row_of setting).usual

-- the greatest number that it has, said or not
abbrev pub greatest_of : Setting → ℕ
greatest_of setting = max (most_of setting) (usual_of setting)

-- an operator may set this number
abbrev pub allows : Setting → ℕ → Bool
allows setting number = nat_le (least_of setting) number && nat_le number (most_of setting)

-- the setting whose line begins with this word
abbrev pub setting_named : List ℕ → Option Setting
setting_named word = find (λ (setting : Setting). bytes_eq (word_of setting) word) settings
