-- Numbers, ids and rules as values of JSON.
use Rattle.std.specs.Prelude.{ℕ, List, [], ◌∷◌}
use Rattle.serde_json.specs.Data.{unsigned, Data, number, string, array, Items, no_items, item}
use Rattle.gate_tx.specs.Ids.{id_text}
use Rattle.gate_rules.specs.declared.denial.Denial.{Denial}
use Rattle.gate_rules.specs.Denials.{name_of}

abbrev pub integer : ℕ → Data
integer n = number (unsigned n)

-- the name of the rule that denies, such as `A17`
abbrev pub rule_json : Denial → Data
rule_json denial = string (name_of denial)

abbrev pub txid_json : List ℕ → Data
txid_json id = string (id_text id)

abbrev pub txid_items : List (List ℕ) → Items
txid_items [] = no_items
txid_items (id ∷ ids) = item (txid_json id) (txid_items ids)

abbrev pub txids_json : List (List ℕ) → Data
txids_json ids = array (txid_items ids)
