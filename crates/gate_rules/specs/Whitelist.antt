-- The rules on entries of the whitelist, a row each.
use Rattle.std.specs.Prelude.{ℕ, List, [], ◌∷◌, codes}
use Rattle.gate_rules.specs.declared.whitelist.NetDenial.{NetDenial}
use Rattle.gate_rules.specs.declared.whitelist.NetDenial.TheVariants.{UnknownPermission, BadSubnet, MappedSubnet}
use Rattle.gate_rules.specs.declared.rule.Consequence.{Consequence}
use Rattle.gate_rules.specs.declared.rule.Consequence.TheVariants.{EndsProgram}
use Rattle.gate_rules.specs.Key.{Key, key}

abbrev pub row_of : NetDenial → Key
row_of UnknownPermission = key (codes "N1") (codes "unknown-permission") EndsProgram
row_of BadSubnet = key (codes "N2") (codes "bad-subnet") EndsProgram
row_of MappedSubnet = key (codes "N3") (codes "mapped-subnet") EndsProgram

-- all of them, in the order of their numbers
abbrev pub whitelist : List NetDenial
whitelist =
    UnknownPermission ∷ BadSubnet ∷ MappedSubnet ∷ []

-- the letter of the layer, and the number
abbrev pub name_of : NetDenial → List ℕ
name_of denial = (row_of denial).name

abbrev pub token_of : NetDenial → List ℕ
token_of denial = (row_of denial).token

abbrev pub then_of : NetDenial → Consequence
then_of denial = (row_of denial).follows
