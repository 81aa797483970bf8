-- What all lines say, from what the first of them says.
use Rattle.std.proofs.Common.{◌≡◌, ℕ, ◌+◌, ◌<◌, ◌≤◌, nat_lt, nat_le, Bool, true, false, if◌then◌else◌, List, ◌∷◌, length, Ok, Err, Result, ap, ◌∙◌}
use Rattle.std.proofs.lemmas.Bool.{lt-ltb, le-leb}
use Rattle.gate_opening.specs.declared.opening_fault.OpeningFault.{OpeningFault}
use Rattle.gate_opening.specs.declared.opening_fault.OpeningFault.TheVariants.{Line}
use Rattle.gate_opening.specs.declared.opening_fault.OpeningToken.TheVariants.{BadLine}
use Rattle.gate_lines.specs.Lines.{line_limit, count_limit}
use Rattle.gate_opening.specs.Said.{Said, all_said, on_said, with_text, is_end}
use Rattle.gate_lines.proofs.Limits.{not-lt, not-le}

on_limits : (a b c : Bool) (ended went : Result Said OpeningFault) (fault : Result Said OpeningFault) → a ≡ true → b ≡ true
    → (if a then (if b then (if c then ended else went) else fault) else fault) ≡ (if c then ended else went)
on_limits a b c ended went fault p q =
    ap (λ t. if t then (if b then (if c then ended else went) else fault) else fault) p
    ∙ ap (λ t. if t then (if c then ended else went) else fault) q

at_line : (number : ℕ) (said : Said) (line : List ℕ) (lines : List (List ℕ)) → number < count_limit → length line ≤ line_limit
    → all_said number said (line ∷ lines) ≡ (if is_end line then Ok said else on_said (with_text said (number + 1) line) (λ next. all_said (number + 1) next lines))
at_line number said line lines few short =
    on_limits (nat_lt number count_limit) (nat_le (length line) line_limit) (is_end line) (Ok said)
    (on_said (with_text said (number + 1) line) (λ next. all_said (number + 1) next lines)) (Err (Line (number + 1) BadLine)) (lt-ltb _ _ few) (le-leb _ _ short)

pub all_said-ended : (number : ℕ) (said : Said) (line : List ℕ) (lines : List (List ℕ)) → number < count_limit → length line ≤ line_limit
    → is_end line ≡ true → all_said number said (line ∷ lines) ≡ Ok said
all_said-ended number said line lines few short ends =
    at_line number said line lines few short
    ∙ ap (λ b. if b then Ok said else on_said (with_text said (number + 1) line) (λ next. all_said (number + 1) next lines)) ends

open_line : (number : ℕ) (said : Said) (line : List ℕ) (lines : List (List ℕ)) → number < count_limit → length line ≤ line_limit
    → is_end line ≡ false → all_said number said (line ∷ lines) ≡ on_said (with_text said (number + 1) line) (λ next. all_said (number + 1) next lines)
open_line number said line lines few short open' =
    at_line number said line lines few short
    ∙ ap (λ b. if b then Ok said else on_said (with_text said (number + 1) line) (λ next. all_said (number + 1) next lines)) open'

pub all_said-went : (number : ℕ) (said next : Said) (line : List ℕ) (lines : List (List ℕ)) → number < count_limit → length line ≤ line_limit
    → is_end line ≡ false → with_text said (number + 1) line ≡ Ok next → all_said number said (line ∷ lines) ≡ all_said (number + 1) next lines
all_said-went number said next line lines few short open' h =
    open_line number said line lines few short open' ∙ ap (λ r. on_said r (λ n. all_said (number + 1) n lines)) h

pub all_said-fault : (number : ℕ) (said : Said) (fault : OpeningFault) (line : List ℕ) (lines : List (List ℕ)) → number < count_limit → length line ≤ line_limit
    → is_end line ≡ false → with_text said (number + 1) line ≡ Err fault → all_said number said (line ∷ lines) ≡ Err fault
all_said-fault number said fault line lines few short open' h =
    open_line number said line lines few short open' ∙ ap (λ r. on_said r (λ n. all_said (number + 1) n lines)) h

pub all_said-long : (number : ℕ) (said : Said) (line : List ℕ) (lines : List (List ℕ)) → number < count_limit → line_limit < length line
    → all_said number said (line ∷ lines) ≡ Err (Line (number + 1) BadLine)
all_said-long number said line lines few long =
    let went : Result Said OpeningFault = if is_end line then Ok said else on_said (with_text said (number + 1) line) (λ next. all_said (number + 1) next lines) in
    let fault : Result Said OpeningFault = Err (Line (number + 1) BadLine) in
    ap (λ b. if b then (if nat_le (length line) line_limit then went else fault) else fault) (lt-ltb _ _ few)
    ∙ ap (λ b. if b then went else fault) (not-le _ _ long)

pub all_said-full : (number : ℕ) (said : Said) (line : List ℕ) (lines : List (List ℕ)) → count_limit ≤ number
    → all_said number said (line ∷ lines) ≡ Err (Line (number + 1) BadLine)
all_said-full number said line lines full =
    let went : Result Said OpeningFault = if is_end line then Ok said else on_said (with_text said (number + 1) line) (λ next. all_said (number + 1) next lines) in
    let fault : Result Said OpeningFault = Err (Line (number + 1) BadLine) in
    ap (λ b. if b then (if nat_le (length line) line_limit then went else fault) else fault) (not-lt _ _ full)
