-- The words of a verdict on an input: `WTXID INPUT ok|soft|hard`.
use Rattle.std.specs.Prelude.{ℕ, if◌then◌else◌, List, ◌++◌, codes, Option, Some, None, option_and_then}
use Rattle.std.specs.Fmt.{decimal}
use Rattle.std.specs.Str.{bytes_eq}
use Rattle.gate_lines.specs.Numbers.{small_number_of}
use Rattle.gate_lines.specs.Words.{part_of}
use Rattle.gate_tx.specs.Ids.{id_text, read_id}
use Rattle.gate_submission.specs.declared.verdict.Verdict.{Verdict}
use Rattle.gate_submission.specs.declared.verdict.Verdict.TheVariants.{Good, Soft, Hard}
use Rattle.gate_submission.specs.declared.verdict.VerdictRow.{VerdictRow}

infixl 10 ◌>>=◌
abbrev pub ◌>>=◌ : {A B : Type 0} → Option A → (A → Option B) → Option B
x >>= f = option_and_then f x

abbrev pub verdict_of : List ℕ → Option Verdict
verdict_of text =
    if bytes_eq text (codes "ok") then Some Good
    else if bytes_eq text (codes "soft") then Some Soft
    else if bytes_eq text (codes "hard") then Some Hard
    else None

-- the verdict on an input that a text says
abbrev pub row_of : List ℕ → Option VerdictRow
row_of text = do
  p ← part_of text
  q ← part_of p.1
  wtxid ← read_id p.0
  input ← small_number_of q.0
  verdict ← verdict_of q.1
  Some (record { wtxid = wtxid; input = input; verdict = verdict })

-- ---- printed

abbrev pub verdict_word : Verdict → List ℕ
verdict_word Good = codes "ok"
verdict_word Soft = codes "soft"
verdict_word Hard = codes "hard"

-- the one text of a verdict on an input
abbrev pub row_text : VerdictRow → List ℕ
row_text row = id_text row.wtxid ++ (codes " " ++ (decimal row.input ++ (codes " " ++ verdict_word row.verdict)))
