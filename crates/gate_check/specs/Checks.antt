-- What the check of a transaction by itself prints, and the status that follows.
use Rattle.std.specs.Prelude.{ℕ, ◌-◌, ◌++◌, if◌then◌else◌, nat_le, List, [], ◌∷◌, codes, drop, length, take, Option, Some, None}
use Rattle.std.specs.Char.{is_ascii_whitespace}
use Rattle.std.specs.List.{prefix_len, suffix_len}
use Rattle.std.specs.Fmt.{decimal}
use Rattle.gate_tx.specs.Tx.{Tx}
use Rattle.gate_tx.specs.Ids.{txid_of, wtxid_of, id_text}
use Rattle.gate_tx.specs.Sizes.{weight_of}
use Rattle.gate_standard.specs.Standards.{usual_standards}
use Rattle.gate_rules.specs.Denials.{name_of, token_of}
use Rattle.gate_bytes.specs.Order.{first_failing}
use Rattle.gate_submission.specs.Alone.{alone_rules}
use Rattle.gate_events.specs.EventLines.{prepared_of}
use Rattle.gate_lines.specs.Lines.{if_text}
use Rattle.gate_check.specs.Inputs.{input_limit}
use Rattle.gate_rules.specs.declared.Denial.{Denial}
use Rattle.gate_rules.specs.declared.Denial.TheVariants.{Decode}

-- `TXID WTXID WEIGHT`
abbrev pub ids_line : List ℕ → List ℕ → ℕ → List ℕ
ids_line txid wtxid weight = id_text txid ++ (codes " " ++ (id_text wtxid ++ (codes " " ++ decimal weight)))

abbrev pub id_line : Tx → List ℕ
id_line tx = ids_line (txid_of tx) (wtxid_of tx) (weight_of tx)

-- `denied RULE TOKEN`
abbrev pub denied_line : Denial → List ℕ
denied_line denial = codes "denied " ++ (name_of denial ++ (codes " " ++ token_of denial))

abbrev pub verdict_line : Option Denial → List ℕ
verdict_line None = codes "standard"
verdict_line (Some denial) = denied_line denial

abbrev pub verdict_status : Option Denial → ℕ
verdict_status None = 0
verdict_status (Some denial) = 1

-- the lines of a check: for a text that spells no transaction, and for a transaction
abbrev pub check_lines : Option Tx → List (List ℕ)
check_lines None = denied_line Decode ∷ []
check_lines (Some tx) = id_line tx ∷ verdict_line (first_failing (alone_rules usual_standards tx)) ∷ []

abbrev pub check_status : Option Tx → ℕ
check_status None = 1
check_status (Some tx) = verdict_status (first_failing (alone_rules usual_standards tx))

-- ---- a check of what an input holds

abbrev pub without_leading : List ℕ → List ℕ
without_leading text = drop (prefix_len is_ascii_whitespace text) text

abbrev pub without_trailing : List ℕ → List ℕ
without_trailing text = take (length text - suffix_len is_ascii_whitespace text) text

-- a text without the white space at both ends: spaces, tabs, newlines, form feeds and carriage returns
abbrev pub trimmed : List ℕ → List ℕ
trimmed text = without_trailing (without_leading text)

-- the transaction that an input spells; an input past the limit spells none
abbrev pub input_spells : List ℕ → Option Tx
input_spells input = if nat_le (length input) input_limit then if_text prepared_of (trimmed input) else None
