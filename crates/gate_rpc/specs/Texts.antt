-- Objects of JSON as they are printed, given the texts of their parts.
use Rattle.std.specs.Prelude.{Bool, if◌then◌else◌, List, ℕ, ◌++◌, codes, Option, Some, None}
use Rattle.std.specs.Fmt.{decimal}
use Rattle.gate_rpc.specs.declared.result.EntryInfo.{EntryInfo}

abbrev pub rejected_text : List ℕ → List ℕ → List ℕ → List ℕ → List ℕ
rejected_text reason rule txid wtxid =
    codes "{\"allowed\":false,\"reject-reason\":" ++ (reason ++ (
    codes ",\"rule\":" ++ (rule ++ (
    codes ",\"txid\":" ++ (txid ++ (
    codes ",\"wtxid\":" ++ (wtxid ++ (codes "}"))))))))

-- the end of an outpoint's object
abbrev pub spending_end : List ℕ → ℕ → List ℕ
spending_end txid index = codes "\"txid\":" ++ (txid ++ (codes ",\"vout\":" ++ (decimal index ++ codes "}")))

-- the start of an outpoint's object, with the text of the id of its spender, if there is one, and the text that follows
abbrev pub spending_start : Option (List ℕ) → List ℕ → List ℕ
spending_start None rest = codes "{" ++ rest
spending_start (Some spender) rest = codes "{\"spendingtxid\":" ++ (spender ++ (codes "," ++ rest))

abbrev pub bool_text : Bool → List ℕ
bool_text b = if b then codes "true" else codes "false"

-- the end of an entry's object
abbrev pub entry_end : EntryInfo → List ℕ → List ℕ
entry_end entry wtxid =
    codes ",\"time\":" ++ (decimal entry.time ++ (
    codes ",\"vsize\":" ++ (decimal entry.vsize ++ (
    codes ",\"weight\":" ++ (decimal entry.weight ++ (
    codes ",\"wtxid\":" ++ (wtxid ++ codes "}")))))))

-- the middle of an entry's object, and the text that follows
abbrev pub entry_middle : EntryInfo → List ℕ → List ℕ → List ℕ
entry_middle entry spent_by rest =
    codes ",\"descendantcount\":" ++ (decimal entry.descendant_count ++ (
    codes ",\"descendantfees\":" ++ (decimal entry.descendant_fees ++ (
    codes ",\"descendantsize\":" ++ (decimal entry.descendant_size ++ (
    codes ",\"fee\":" ++ (decimal entry.fee ++ (
    codes ",\"spentby\":" ++ (spent_by ++ rest)))))))))

-- the start of an entry's object, and the text that follows
abbrev pub entry_start : EntryInfo → List ℕ → List ℕ → List ℕ
entry_start entry depends rest =
    codes "{\"ancestorcount\":" ++ (decimal entry.ancestor_count ++ (
    codes ",\"ancestorfees\":" ++ (decimal entry.ancestor_fees ++ (
    codes ",\"ancestorsize\":" ++ (decimal entry.ancestor_size ++ (
    codes ",\"bip125-replaceable\":" ++ (bool_text entry.is_replaceable ++ (
    codes ",\"depends\":" ++ (depends ++ rest)))))))))

abbrev pub entry_text : EntryInfo → List ℕ → List ℕ → List ℕ → List ℕ
entry_text entry depends spent_by wtxid = entry_start entry depends (entry_middle entry spent_by (entry_end entry wtxid))
