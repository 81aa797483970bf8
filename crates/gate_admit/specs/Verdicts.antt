-- Verdicts on scripts, by transaction and input, and one for every other pair.
use Rattle.std.specs.Prelude.{ℕ, ◌==◌, ◌&&◌, ◌||◌, Bool, find, filter, List, [], ◌∷◌, ◌++◌, Option, is_some}
use Rattle.std.specs.List.{list_any}
use Rattle.std.specs.Option.{option_map, option_or}
use Rattle.std.specs.Str.{bytes_eq}
use Rattle.gate_bytes.specs.Order.{Rule}
use Rattle.gate_tx.specs.Ids.{wtxid_of}
use Rattle.gate_tx.specs.Tx.{Tx}
use Rattle.gate_chain.specs.Blocks.{Block}
use Rattle.gate_rules.specs.declared.ChainDenial.{ChainDenial}
use Rattle.gate_rules.specs.declared.ChainDenial.TheVariants.{VerdictKnown}
use Rattle.gate_pool.specs.Pool.{Admitted, entry_by_wtxid}
use Rattle.gate_submission.specs.declared.verdict.Verdict.{Verdict}
use Rattle.gate_submission.specs.declared.verdict.VerdictRow.{VerdictRow}

pub record VerdictTable : Type 0 where
  pub rows : List VerdictRow
  pub other : Option Verdict

-- whether a row is on this input of the transaction with this wtxid
abbrev pub is_row_on : List ℕ → ℕ → VerdictRow → Bool
is_row_on wtxid input row = bytes_eq wtxid row.wtxid && (input == row.input)

-- the first row on an input
abbrev pub row_on : List VerdictRow → List ℕ → ℕ → Option VerdictRow
row_on rows wtxid input = find (is_row_on wtxid input) rows

abbrev pub has_row_on : List VerdictRow → List ℕ → ℕ → Bool
has_row_on rows wtxid input = is_some (row_on rows wtxid input)

-- the verdict on an input: that of its first row, else the one for all others
abbrev pub verdict_of : VerdictTable → List ℕ → ℕ → Option Verdict
verdict_of verdicts wtxid input = option_or (option_map (λ (row : VerdictRow). row.verdict) (row_on verdicts.rows wtxid input)) verdicts.other

-- ---- rows that are learnt

-- what is asked of a row that is learnt: none stands on its input
unfoldable pub row_rules : VerdictTable → VerdictRow → List (Rule ChainDenial)
row_rules verdicts row = (VerdictKnown, has_row_on verdicts.rows row.wtxid row.input) ∷ []

-- verdicts with one more row
abbrev pub with_row : VerdictTable → VerdictRow → VerdictTable
with_row verdicts row = record verdicts { rows = verdicts.rows ++ row ∷ [] }

-- ---- rows that are forgotten

-- some of these transactions has a wtxid
abbrev pub has_wtxid_among : List ℕ → List Tx → Bool
has_wtxid_among wtxid txs = list_any (λ (tx : Tx). bytes_eq wtxid (wtxid_of tx)) txs

-- a block has a transaction of this wtxid
abbrev pub confirms : List ℕ → Block → Bool
confirms wtxid block = has_wtxid_among wtxid block.transactions

-- a wtxid is one of these
abbrev pub is_among : List (List ℕ) → List ℕ → Bool
is_among wtxids wtxid = list_any (bytes_eq wtxid) wtxids

-- the rows of a transaction are needed if it is an entry of the pool, or if its wtxid passes a test
abbrev pub is_needed : List Admitted → (List ℕ → Bool) → List ℕ → Bool
is_needed pool confirmed wtxid = is_some (entry_by_wtxid pool wtxid) || confirmed wtxid

abbrev pub rows_for : List Admitted → (List ℕ → Bool) → List VerdictRow → List VerdictRow
rows_for pool confirmed rows = filter (λ (row : VerdictRow). is_needed pool confirmed row.wtxid) rows

-- the rows that are needed over some connected blocks
abbrev pub rows_over : List Admitted → List Block → List VerdictRow → List VerdictRow
rows_over pool blocks rows = rows_for pool (λ wtxid. list_any (confirms wtxid) blocks) rows
