-- What a map from inputs to verdicts stands for.
use Rattle.std.specs.Prelude.{◌≡◌, ℕ, ◌+◌, ◌==◌, ◌&&◌, Bool, List, filter, map, take}
use Rattle.std.specs.List.{IsDistinct}
use Rattle.std.specs.Map.{keys_of}
use Rattle.std.specs.Str.{bytes_eq}
use Rattle.gate_pool.specs.Pool.{Admitted}
use Rattle.gate_admit.specs.declared.verdicts.Subject.{Subject}
use Rattle.gate_submission.specs.declared.verdict.Verdict.{Verdict}
use Rattle.gate_submission.specs.declared.verdict.VerdictRow.{VerdictRow}
use Rattle.gate_admit.specs.Verdicts.{is_needed}

abbrev pub subject : List ℕ → ℕ → Subject
subject wtxid input = record { wtxid = wtxid; input = input }

-- the `==` of subjects
abbrev pub subject_eq : Subject → Subject → Bool
subject_eq a b = bytes_eq a.wtxid b.wtxid && (a.input == b.input)

-- an entry of the map as a row
abbrev pub row_of : Subject × Verdict → VerdictRow
row_of entry = record { wtxid = entry.0.wtxid; input = entry.0.input; verdict = entry.1 }

abbrev pub rows_of : List (Subject × Verdict) → List VerdictRow
rows_of entries = map row_of entries

-- the entries whose rows are needed
abbrev pub entries_for : List Admitted → (List ℕ → Bool) → List (Subject × Verdict) → List (Subject × Verdict)
entries_for pool confirmed entries = filter (λ (e : Subject × Verdict). is_needed pool confirmed e.0.wtxid) entries

-- copies of the entries before a place get the entry at that place
abbrev pub CopiesRow : ℕ → List (Subject × Verdict) → List (Subject × Verdict) → List (Subject × Verdict) → Type 0
CopiesRow place entries old new = IsDistinct subject_eq (keys_of entries) → old ≡ take place entries → new ≡ take (place + 1) entries
