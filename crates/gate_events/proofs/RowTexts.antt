-- The words of verdicts on inputs: what is printed for one is read as the same.
use Rattle.std.proofs.Common.{◌≡◌, ℕ, ◌≤◌, ◌⊎◌, true, false, if◌then◌else◌, List, ◌∷◌, ◌++◌, length, codes, Option, Some, None, refl, ap, subst, ◌∙◌, inl, inr, arith, length-append}
use Rattle.std.specs.Fmt.{decimal}
use Rattle.std.specs.Option.{option_and_then}
use Rattle.std.specs.Str.{bytes_eq}
use Rattle.std.proofs.lemmas.Option.{option_and_then_some}
use Rattle.gate_lines.specs.Numbers.{small_number_of}
use Rattle.gate_lines.specs.Words.{part_of}
use Rattle.gate_tx.specs.Ids.{id_text, read_id}
use Rattle.gate_submission.specs.declared.verdict.Verdict.{Verdict}
use Rattle.gate_submission.specs.declared.verdict.Verdict.TheVariants.{Good, Soft, Hard}
use Rattle.gate_submission.specs.declared.verdict.VerdictRow.{VerdictRow}
use Rattle.gate_words.specs.VerdictWords.{row_of, row_text, verdict_of, verdict_word}
use Rattle.gate_events.proofs.Again.{either, same_word, some_is}
use Rattle.gate_events.proofs.IdWords.{IsIdRead, IsSmall, id_again, small_again}
use Rattle.gate_events.proofs.Letters.{all_letters, letters_joined, number_letters, number_no_space}
use Rattle.gate_events.proofs.Numbered.{small_decimal}
use Rattle.gate_events.proofs.Spaces.{part_at, part_joined}

-- ---- the verdict

verdict_again : (word : List ℕ) (verdict : Verdict) → verdict_of word ≡ Some verdict → word ≡ verdict_word verdict
verdict_again word verdict h = first (either (bytes_eq word (codes "ok")) (Some Good) behind_ok verdict h)
  where
    behind_soft : Option Verdict
    behind_soft = if bytes_eq word (codes "hard") then Some Hard else None

    behind_ok : Option Verdict
    behind_ok = if bytes_eq word (codes "soft") then Some Soft else behind_soft

    third : ((bytes_eq word (codes "hard") ≡ true) × (◌≡◌ {A = Option Verdict} (Some Hard) (Some verdict))) ⊎ ((bytes_eq word (codes "hard") ≡ false) × (◌≡◌ {A = Option Verdict} None (Some verdict))) → word ≡ verdict_word verdict
    third (inl is) = same_word word (codes "hard") is.0 ∙ ap verdict_word (some_is Hard verdict is.1)
    third (inr other) = absurd (let none = other.1 in cc)

    second : ((bytes_eq word (codes "soft") ≡ true) × (◌≡◌ {A = Option Verdict} (Some Soft) (Some verdict))) ⊎ ((bytes_eq word (codes "soft") ≡ false) × (behind_soft ≡ Some verdict)) → word ≡ verdict_word verdict
    second (inl is) = same_word word (codes "soft") is.0 ∙ ap verdict_word (some_is Soft verdict is.1)
    second (inr other) = third (either (bytes_eq word (codes "hard")) (Some Hard) None verdict other.1)

    first : ((bytes_eq word (codes "ok") ≡ true) × (◌≡◌ {A = Option Verdict} (Some Good) (Some verdict))) ⊎ ((bytes_eq word (codes "ok") ≡ false) × (behind_ok ≡ Some verdict)) → word ≡ verdict_word verdict
    first (inl is) = same_word word (codes "ok") is.0 ∙ ap verdict_word (some_is Good verdict is.1)
    first (inr other) = second (either (bytes_eq word (codes "soft")) (Some Soft) behind_soft verdict other.1)

verdict_read : (verdict : Verdict) → verdict_of (verdict_word verdict) ≡ Some verdict
verdict_read Good = refl
verdict_read Soft = refl
verdict_read Hard = refl

verdict_letters : (verdict : Verdict) → all_letters (verdict_word verdict) ≡ true
verdict_letters Good = refl
verdict_letters Soft = refl
verdict_letters Hard = refl

-- ---- the verdict on an input

-- what is printed for it is read as the same, and no longer than the text that it was read from
pub record IsRowRead (text : List ℕ) (row : VerdictRow) : Type 0 where
  pub read : row_of (row_text row) ≡ Some row
  pub letters : all_letters (row_text row) ≡ true
  pub short : length (row_text row) ≤ length text

abbrev row_by : List ℕ → ℕ → Verdict → Option VerdictRow
row_by wtxid input verdict = Some (record { wtxid = wtxid; input = input; verdict = verdict })

abbrev row_verdict : List ℕ → List ℕ → ℕ → Option VerdictRow
row_verdict word wtxid input = option_and_then (row_by wtxid input) (verdict_of word)

abbrev row_input : List ℕ × List ℕ → List ℕ → Option VerdictRow
row_input q wtxid = option_and_then (row_verdict q.1 wtxid) (small_number_of q.0)

abbrev row_words : List ℕ → List ℕ × List ℕ → Option VerdictRow
row_words word q = option_and_then (row_input q) (read_id word)

abbrev row_parts : List ℕ × List ℕ → Option VerdictRow
row_parts p = option_and_then (row_words p.0) (part_of p.1)

row_printed : (text word number last after : List ℕ) (row : VerdictRow) → text ≡ word ++ 32 ∷ after → after ≡ number ++ 32 ∷ last
    → number ≡ decimal row.input → last ≡ verdict_word row.verdict → IsIdRead word row.wtxid → IsSmall row.input → IsRowRead text row
row_printed text word number last after row one two three four id input =
    let tail : List ℕ = decimal row.input ++ 32 ∷ verdict_word row.verdict in
    let same : text ≡ word ++ 32 ∷ tail =
    one ∙ ap (λ t. word ++ 32 ∷ t) (two ∙ ap (λ t. t ++ 32 ∷ last) three ∙ ap (λ t. decimal row.input ++ 32 ∷ t) four) in
    let long : length text ≡ length (word ++ 32 ∷ tail) = ap length same in
    let fewer : length (id_text row.wtxid) ≤ length word = id.short in
    let short : length (id_text row.wtxid ++ 32 ∷ tail) ≤ length text =
    omega (arith, long, fewer, length-append (id_text row.wtxid) (32 ∷ tail), length-append word (32 ∷ tail)) in
    record {
      read = rw (part_at (id_text row.wtxid) tail id.whole, part_at (decimal row.input) (verdict_word row.verdict) (number_no_space row.input input.fits), id.read, input.read, verdict_read row.verdict) refl;
      letters = letters_joined (id_text row.wtxid) (32 ∷ tail) id.letters
          (letters_joined (decimal row.input) (32 ∷ verdict_word row.verdict) (number_letters row.input input.fits) (verdict_letters row.verdict));
      short = short;
    }

pub row_again : (text : List ℕ) (row : VerdictRow) → row_of text ≡ Some row → IsRowRead text row
row_again text row h =
    option_and_then_some row_parts (part_of text) row h (λ p one more.
    option_and_then_some (row_words p.0) (part_of p.1) row more (λ q two ids.
    option_and_then_some (row_input q) (read_id p.0) row ids (λ wtxid id inputs.
    option_and_then_some (row_verdict q.1 wtxid) (small_number_of q.0) row inputs (λ input at verdicts.
    option_and_then_some (row_by wtxid input) (verdict_of q.1) row verdicts (λ verdict is same.
    subst (IsRowRead text) (some_is (record { wtxid = wtxid; input = input; verdict = verdict }) row same)
    (row_printed text p.0 q.0 q.1 p.1 (record { wtxid = wtxid; input = input; verdict = verdict }) (part_joined text p.0 p.1 one) (part_joined p.1 q.0 q.1 two)
    (small_decimal q.0 input at) (verdict_again q.1 verdict is) (id_again p.0 wtxid id) (small_again q.0 input at)))))))
