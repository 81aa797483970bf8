-- The rules on packages, a row each.
use Rattle.std.specs.Prelude.{ℕ, List, [], ◌∷◌, codes}
use Rattle.gate_rules.specs.declared.package.PackageDenial.{PackageDenial}
use Rattle.gate_rules.specs.declared.package.PackageDenial.TheVariants.{BurntAmount, NotChildWithParents, TooLarge, Duplicates, NotSorted, Conflicting, LacksParents, TrucViolation, FamilyLimits, ReplacesAsOthers, HasAncestors, TooManyReplacements, LowerFee, LowerRateThanFirst, ConflictTopology, LowerDiagram, UnspentDust}
use Rattle.gate_rules.specs.declared.rule.Consequence.{Consequence}
use Rattle.gate_rules.specs.declared.rule.Consequence.TheVariants.{Keep}
use Rattle.gate_rules.specs.Key.{Key, key}

abbrev pub row_of : PackageDenial → Key
row_of BurntAmount = key (codes "J1") (codes "max-burn-exceeded") Keep
row_of NotChildWithParents = key (codes "J2") (codes "package-not-child-with-parents") Keep
row_of TooLarge = key (codes "J3") (codes "package-too-large") Keep
row_of Duplicates = key (codes "J4") (codes "package-contains-duplicates") Keep
row_of NotSorted = key (codes "J5") (codes "package-not-sorted") Keep
row_of Conflicting = key (codes "J6") (codes "conflict-in-package") Keep
row_of LacksParents = key (codes "J7") (codes "package-not-child-with-unconfirmed-parents") Keep
row_of TrucViolation = key (codes "J8") (codes "TRUC-violation") Keep
row_of FamilyLimits = key (codes "J9") (codes "package-mempool-limits") Keep
row_of ReplacesAsOthers = key (codes "J10") (codes "package RBF failed: package must be 1-parent-1-child") Keep
row_of HasAncestors = key (codes "J11") (codes "package RBF failed: new transaction cannot have mempool ancestors") Keep
row_of TooManyReplacements = key (codes "J12") (codes "package RBF failed: too many potential replacements") Keep
row_of LowerFee = key (codes "J13") (codes "package RBF failed: insufficient anti-DoS fees") Keep
row_of LowerRateThanFirst = key (codes "J14") (codes "package RBF failed: package feerate is less than or equal to parent feerate") Keep
row_of ConflictTopology = key (codes "J15") (codes "package RBF failed: conflict topology") Keep
row_of LowerDiagram = key (codes "J16") (codes "package RBF failed: insufficient feerate: does not improve feerate diagram") Keep
row_of UnspentDust = key (codes "J17") (codes "unspent-dust") Keep

-- all of them, in the order of their numbers
abbrev pub packages : List PackageDenial
packages =
    BurntAmount ∷ NotChildWithParents ∷ TooLarge ∷ Duplicates ∷ NotSorted ∷ Conflicting ∷ LacksParents ∷ TrucViolation ∷ FamilyLimits ∷ ReplacesAsOthers ∷ HasAncestors ∷ TooManyReplacements ∷ LowerFee ∷ LowerRateThanFirst ∷ ConflictTopology ∷ LowerDiagram ∷ UnspentDust
    ∷ []

-- the letter of the layer, and the number
abbrev pub name_of : PackageDenial → List ℕ
name_of denial = (row_of denial).name

abbrev pub token_of : PackageDenial → List ℕ
token_of denial = (row_of denial).token

abbrev pub then_of : PackageDenial → Consequence
then_of denial = (row_of denial).follows
