-- The rows of verdicts, searched as the entries of a map are.
use Rattle.std.proofs.Common.{◌≡◌, ℕ, Bool, true, false, cond, List, [], ◌∷◌, ◌++◌, find, Option, Some, None, is_some, if◌then◌else◌, refl, ap, ◌∙◌, true≢false}
use Rattle.std.proofs.lemmas.List.{map-append}
use Rattle.std.specs.Map.{lookup}
use Rattle.std.specs.Option.{option_map, option_or}
use Rattle.indexmap.specs.IndexMap.{insert_entry}
use Rattle.gate_admit.specs.declared.verdicts.Subject.{Subject}
use Rattle.gate_submission.specs.declared.verdict.Verdict.{Verdict}
use Rattle.gate_submission.specs.declared.verdict.VerdictRow.{VerdictRow}
use Rattle.gate_admit.specs.Verdicts.{is_row_on, row_on, has_row_on, VerdictTable, verdict_of}
use Rattle.gate_admit.specs.VerdictMap.{row_of, rows_of, subject, subject_eq}

-- what the map has at an input is the verdict of its row
pub row_on-entries : (wtxid : List ℕ) (input : ℕ) (es : List (Subject × Verdict)) → lookup (subject_eq (subject wtxid input)) es ≡ option_map (λ (r : VerdictRow). r.verdict) (row_on (rows_of es) wtxid input)
row_on-entries wtxid input [] = refl
row_on-entries wtxid input (e ∷ es) = by (subject_eq (subject wtxid input) e.0) (row_on-entries wtxid input es)
  where
    by : (b : Bool) → lookup (subject_eq (subject wtxid input)) es ≡ option_map (λ (r : VerdictRow). r.verdict) (row_on (rows_of es) wtxid input)
        → cond b (Some e.1) (lookup (subject_eq (subject wtxid input)) es) ≡ option_map (λ (r : VerdictRow). r.verdict) (cond b (Some (row_of e)) (find (is_row_on wtxid input) (rows_of es)))
    by true rest = refl
    by false rest = rest

is_some-option_map : {X Y : Type 0} (f : X → Y) (o : Option X) → is_some (option_map f o) ≡ is_some o
is_some-option_map f None = refl
is_some-option_map f (Some x) = refl

pub has_row_on-entries : (wtxid : List ℕ) (input : ℕ) (es : List (Subject × Verdict)) → is_some (lookup (subject_eq (subject wtxid input)) es) ≡ has_row_on (rows_of es) wtxid input
has_row_on-entries wtxid input es = ap is_some (row_on-entries wtxid input es) ∙ is_some-option_map (λ (r : VerdictRow). r.verdict) (row_on (rows_of es) wtxid input)

-- an input without a row goes last
insert_entry-new : (s : Subject) (v : Verdict) (es : List (Subject × Verdict)) → is_some (lookup (subject_eq s) es) ≡ false → insert_entry subject_eq es s v ≡ es ++ (s, v) ∷ []
insert_entry-new s v [] new = refl
insert_entry-new s v (e ∷ es) new = by (subject_eq s e.0) new (insert_entry-new s v es)
  where
    by : (b : Bool) → is_some (cond b (Some e.1) (lookup (subject_eq s) es)) ≡ false
        → (is_some (lookup (subject_eq s) es) ≡ false → insert_entry subject_eq es s v ≡ es ++ (s, v) ∷ [])
        → (if b then (e.0, v) ∷ es else e ∷ insert_entry subject_eq es s v) ≡ e ∷ (es ++ (s, v) ∷ [])
    by true h ih = absurd (true≢false h)
    by false h ih = ap (λ l. e ∷ l) (ih h)

-- the rows after one more is put into the map
pub rows_of-pushed : (old new : List (Subject × Verdict)) (row : VerdictRow) → is_some (lookup (subject_eq (subject row.wtxid row.input)) old) ≡ false
    → new ≡ insert_entry subject_eq old (subject row.wtxid row.input) row.verdict → rows_of new ≡ rows_of old ++ row ∷ []
rows_of-pushed old new row fresh is =
    ap rows_of (is ∙ insert_entry-new (subject row.wtxid row.input) row.verdict old fresh) ∙ map-append row_of old ((subject row.wtxid row.input, row.verdict) ∷ [])

pub verdict_by_entry : (verdicts : VerdictTable) (wtxid : List ℕ) (input : ℕ) (es : List (Subject × Verdict)) (found : Option Verdict) → rows_of es ≡ verdicts.rows
    → found ≡ lookup (subject_eq (subject wtxid input)) es → option_or found verdicts.other ≡ verdict_of verdicts wtxid input
verdict_by_entry verdicts wtxid input es found rows is =
    ap (λ o. option_or o verdicts.other) (is ∙ row_on-entries wtxid input es ∙ ap (λ rs. option_map (λ (r : VerdictRow). r.verdict) (row_on rs wtxid input)) rows)
