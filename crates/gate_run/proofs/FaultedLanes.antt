-- A lane is a lane over the lines that were answered, without a fault of memory.
use Rattle.std.proofs.Common.{◌≡◌, ◌≢◌, ℕ, ◌+◌, nat_lt, nat_le, Bool, true, false, if◌then◌else◌, List, [], ◌∷◌, ◌++◌, length, get_or, Option, Some, None, MatchBool, inl, inr, refl, sym, ap, subst, ◌∙◌, arith, true≢false}
use Rattle.std.proofs.lemmas.Slice.Eq.{bytes_eq-Decides}
use Rattle.gate_message.specs.Texts.{reply_text}
use Rattle.gate_core.specs.World.{World}
use Rattle.gate_message.specs.declared.event.Event.{Event}
use Rattle.gate_message.specs.declared.reply.Reply.{Reply}
use Rattle.gate_message.specs.declared.reply.Reply.TheVariants.{Entered, Left, Admitted, Packaged, Listing, Block, Headers, Filter, Rpc, Denied, Set, Moved, Forgotten, Refused}
use Rattle.gate_lines.specs.Lines.{count_limit, line_limit, is_skipped}
use Rattle.gate_events.specs.EventLines.{line_event}
use Rattle.gate_lines.specs.Refused.{line_too_long, too_many_lines}
use Rattle.gate_lane.specs.Lanes.{LineAnswered, EventAnswered}
use Rattle.gate_run.specs.Lanes.{Run, Steps, fault_memory}
use Rattle.gate_run.specs.LaneRuns.{LacksFault, LanesAreRuns}
use Rattle.gate_run.specs.FaultedRuns.{is_fault, answers_among, answered_lines, FaultedLanesAreRuns}
use Rattle.gate_lane.proofs.Runs.{at_true, at_false}

fault_is : (reply : List ℕ) → is_fault reply ≡ true → reply ≡ fault_memory
fault_is reply h = (bytes_eq-Decides reply fault_memory).0 h

no_fault : (reply : List ℕ) → is_fault reply ≡ false → reply ≢ fault_memory
no_fault reply h = λ e. true≢false (sym ((bytes_eq-Decides reply fault_memory).1 e) ∙ h)

first_byte : (a b : List ℕ) → a ≡ b → get_or a 0 0 ≡ get_or b 0 0
first_byte a b e = ap (λ l. get_or l 0 0) e

second_byte : (a b : List ℕ) → a ≡ b → get_or a 1 0 ≡ get_or b 1 0
second_byte a b e = ap (λ l. get_or l 1 0) e

-- no answer of a step reads `fault memory`
text_is_no_fault : (answer : Reply) → reply_text answer ≡ fault_memory → ⊥
text_is_no_fault (Entered flags) e = let h : 101 ≡ 102 = first_byte (reply_text (Entered flags)) fault_memory e in omega (arith, h)
text_is_no_fault Left e = let h : 108 ≡ 102 = first_byte (reply_text Left) fault_memory e in omega (arith, h)
text_is_no_fault (Admitted txid fee vsize replaced) e = let h : 97 ≡ 102 = first_byte (reply_text (Admitted txid fee vsize replaced)) fault_memory e in omega (arith, h)
text_is_no_fault (Listing txids) e = let h : 108 ≡ 102 = first_byte (reply_text (Listing txids)) fault_memory e in omega (arith, h)
text_is_no_fault (Block height time) e = let h : 98 ≡ 102 = first_byte (reply_text (Block height time)) fault_memory e in omega (arith, h)
text_is_no_fault (Headers first count) e = let h : 104 ≡ 102 = first_byte (reply_text (Headers first count)) fault_memory e in omega (arith, h)
text_is_no_fault (Filter rate) e = let h : 105 ≡ 97 = second_byte (reply_text (Filter rate)) fault_memory e in omega (arith, h)
text_is_no_fault (Rpc answer) e = let h : 114 ≡ 102 = first_byte (reply_text (Rpc answer)) fault_memory e in omega (arith, h)
text_is_no_fault (Denied refusal followed) e = let h : 100 ≡ 102 = first_byte (reply_text (Denied refusal followed)) fault_memory e in omega (arith, h)
text_is_no_fault (Moved moved) e = let h : 99 ≡ 102 = first_byte (reply_text (Moved moved)) fault_memory e in omega (arith, h)
text_is_no_fault (Packaged followed verdict members) e = let h : 112 ≡ 102 = first_byte (reply_text (Packaged followed verdict members)) fault_memory e in omega (arith, h)
text_is_no_fault (Forgotten blocks coins rows) e = let h : 111 ≡ 97 = second_byte (reply_text (Forgotten blocks coins rows)) fault_memory e in omega (arith, h)
text_is_no_fault (Refused denial) e = let h : 114 ≡ 102 = first_byte (reply_text (Refused denial)) fault_memory e in omega (arith, h)
text_is_no_fault Set e = let h : 115 ≡ 102 = first_byte (reply_text Set) fault_memory e in omega (arith, h)

-- a step that is answered so leaves the state
stays : (old mid : World) (event : Option Event) (reply : List ℕ) → EventAnswered Steps old event reply mid → reply ≡ fault_memory → mid ≡ old
stays old mid None reply (is, same) fault = same
stays old mid (Some event) reply (inl (answer, is, exact, gives)) fault = absurd (text_is_no_fault answer (sym is ∙ fault))
stays old mid (Some event) reply (inr (is, same)) fault = same

lacks_one : (fault : Bool) (reply : List ℕ) (replies : List (List ℕ)) → is_fault reply ≡ fault → LacksFault replies → LacksFault (if fault then replies else reply ∷ replies)
lacks_one true reply replies is rest = rest
lacks_one false reply replies is rest = (no_fault reply is, rest)

lacks : (replies : List (List ℕ)) → LacksFault (answers_among replies)
lacks [] = tt
lacks (reply ∷ replies) = lacks_one (is_fault reply) reply (answers_among replies) refl (lacks replies)

-- ---- one line

one_reply : (skipped fault : Bool) (number : ℕ) (old mid new : World) (line reply : List ℕ) (others lines replies : List (List ℕ))
    → is_skipped line ≡ skipped → is_fault reply ≡ fault → nat_lt number count_limit ≡ true → nat_le (length line) line_limit ≡ true
    → MatchBool (is_skipped line) ⊥ (EventAnswered Steps old (line_event line) reply mid) → Run (number + 1) mid lines replies new
    → Run number old (if skipped then others else (if fault then [] else line) ∷ lines) (if fault then replies else reply ∷ replies) new
one_reply true fault number old mid new line reply others lines replies is told few short answered goes =
    absurd (subst (λ (b : Bool). MatchBool b ⊥ (EventAnswered Steps old (line_event line) reply mid)) is answered)
one_reply false true number old mid new line reply others lines replies is told few short answered goes =
    let event = subst (λ (b : Bool). MatchBool b ⊥ (EventAnswered Steps old (line_event line) reply mid)) is answered in
    at_true _ _ _ few ([], replies, mid, refl, (refl, stays old mid (line_event line) reply event (fault_is reply told)), goes)
one_reply false false number old mid new line reply others lines replies is told few short answered goes =
    at_true _ _ _ few (at_true _ _ _ short (reply ∷ [], replies, mid, refl, answered, goes))

one_line : (number : ℕ) (old mid new : World) (line : List ℕ) (lines first rest : List (List ℕ))
    → nat_lt number count_limit ≡ true → nat_le (length line) line_limit ≡ true
    → LineAnswered Steps old line first mid → Run (number + 1) mid (answered_lines lines rest) (answers_among rest) new
    → Run number old (answered_lines (line ∷ lines) (first ++ rest)) (answers_among (first ++ rest)) new
one_line number old mid new line lines [] [] few short answered goes =
    subst (λ (b : Bool). Run number old (if b then line ∷ answered_lines lines [] else line ∷ answered_lines lines []) [] new) (sym answered.0)
    (at_true _ _ _ few (at_true _ _ _ short ([], [], mid, refl, answered, goes)))
one_line number old mid new line lines [] (reply ∷ rest) few short answered goes =
    subst (λ (b : Bool). Run number old (if b then line ∷ answered_lines lines (reply ∷ rest) else (if is_fault reply then [] else line) ∷ answered_lines lines rest) (answers_among (reply ∷ rest)) new) (sym answered.0)
    (at_true _ _ _ few (at_true _ _ _ short ([], answers_among (reply ∷ rest), mid, refl, answered, goes)))
one_line number old mid new line lines (reply ∷ []) rest few short answered goes =
    one_reply (is_skipped line) (is_fault reply) number old mid new line reply (line ∷ answered_lines lines (reply ∷ rest)) (answered_lines lines rest) (answers_among rest) refl refl few short answered goes
one_line number old mid new line lines (reply ∷ other ∷ replies) rest few short answered goes = absurd answered

-- a line whose reply is no fault stays
shape : (skipped fault : Bool) (line : List ℕ) (xs ys : List (List ℕ)) → fault ≡ false
    → (more : List (List ℕ)) × ((if skipped then line ∷ xs else (if fault then [] else line) ∷ ys) ≡ line ∷ more)
shape true fault line xs ys h = (xs, refl)
shape false fault line xs ys h = (ys, ap (λ (b : Bool). (if b then [] else line) ∷ ys) h)

too_long : (number : ℕ) (old : World) (line : List ℕ) (lines : List (List ℕ)) → nat_lt number count_limit ≡ true → nat_le (length line) line_limit ≡ false
    → Run number old (answered_lines (line ∷ lines) (line_too_long ∷ [])) (line_too_long ∷ []) old
too_long number old line lines few long =
    let s = shape (is_skipped line) (is_fault line_too_long) line (answered_lines lines (line_too_long ∷ [])) (answered_lines lines []) refl in
    subst (λ (ls : List (List ℕ)). Run number old ls (line_too_long ∷ []) old) (sym s.1) (at_true _ _ _ few (at_false _ _ _ long (refl, refl)))

too_many : (number : ℕ) (old : World) (line : List ℕ) (lines : List (List ℕ)) → nat_lt number count_limit ≡ false
    → Run number old (answered_lines (line ∷ lines) (too_many_lines ∷ [])) (too_many_lines ∷ []) old
too_many number old line lines full =
    let s = shape (is_skipped line) (is_fault too_many_lines) line (answered_lines lines (too_many_lines ∷ [])) (answered_lines lines []) refl in
    subst (λ (ls : List (List ℕ)). Run number old ls (too_many_lines ∷ []) old) (sym s.1) (at_false _ _ _ full (refl, refl))

-- ---- all lines

-- what is to be shown of a run
abbrev Spared : ℕ → World → List (List ℕ) → List (List ℕ) → World → Type 0
Spared number old lines replies new = Run number old (answered_lines lines replies) (answers_among replies) new

limited : (number : ℕ) (old new : World) (lines replies : List (List ℕ)) (refused : List ℕ) → (replies ≡ refused ∷ []) × (new ≡ old)
    → Spared number old lines (refused ∷ []) old → Spared number old lines replies new
limited number old new lines replies refused (is, same) h =
    subst (λ (w : World). Spared number old lines replies w) (sym same) (subst (λ (rs : List (List ℕ)). Spared number old lines rs old) (sym is) h)

within : (b c : Bool) → b ≡ c → (P Q R : Type 0) → MatchBool b P Q → (c ≡ true → P → R) → (c ≡ false → Q → R) → R
within true true e P Q R h p q = p refl h
within true false e P Q R h p q = absurd (true≢false e)
within false true e P Q R h p q = absurd (true≢false (sym e))
within false false e P Q R h p q = q refl h

spared : (number : ℕ) (old : World) (lines replies : List (List ℕ)) (new : World) → Run number old lines replies new → Spared number old lines replies new
spared number old [] replies new (is, same) = subst (λ (rs : List (List ℕ)). Spared number old [] rs new) (sym is) (refl, same)
spared number old (line ∷ lines) replies new h =
    within (nat_lt number count_limit) (nat_lt number count_limit) refl _ _ (Spared number old (line ∷ lines) replies new) h
    (λ few inside. within (nat_le (length line) line_limit) (nat_le (length line) line_limit) refl _ _ (Spared number old (line ∷ lines) replies new) inside
    (λ short (first, rest, mid, parts, answered, goes).
    subst (λ (rs : List (List ℕ)). Spared number old (line ∷ lines) rs new) (sym parts)
    (one_line number old mid new line lines first rest few short answered (spared (number + 1) mid lines rest new goes)))
    (λ long refused. limited number old new (line ∷ lines) replies line_too_long refused (too_long number old line lines few long)))
    (λ full refused. limited number old new (line ∷ lines) replies too_many_lines refused (too_many number old line lines full))

pub faulted_lanes_are_runs : LanesAreRuns → FaultedLanesAreRuns
faulted_lanes_are_runs run old lines replies new h =
    run old (answered_lines lines replies) (answers_among replies) new (spared 0 old lines replies new h) (lacks replies)
