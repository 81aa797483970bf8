-- The answer of an audit by reading line after line, and that it is the only one.
use Rattle.std.proofs.Common.{◌≡◌, ℕ, ◌+◌, ◌<◌, ◌≤◌, ◌&&◌, nat_lt, nat_le, if◌then◌else◌, cond, not, Bool, true, false, List, [], ◌∷◌, ◌++◌, length, Option, Some, None, refl, sym, ap, subst, ◌∙◌, arith, append_assoc}
use Rattle.std.proofs.lemmas.Bool.{lt-ltb, le-leb}
use Rattle.std.proofs.lemmas.List.Elements.{All-cons, All-head, All-nil, All-tail}
use Rattle.std.specs.Str.{bytes_eq}
use Rattle.gate_message.specs.declared.event.Event.{Event}
use Rattle.gate_core.specs.Steps.{step_of}
use Rattle.gate_core.specs.World.{World}
use Rattle.gate_lines.specs.Lines.{count_limit, is_skipped, line_limit}
use Rattle.gate_audit.specs.declared.answer.Audit.{Audit}
use Rattle.gate_audit.specs.declared.answer.Audit.TheVariants.{Legal, Illegal}
use Rattle.gate_audit.specs.Journals.{asking, base_line, counted, reply_line}
use Rattle.gate_journal.specs.Legal.{entry_limit}
use Rattle.gate_audit.specs.Laws.{marked_event}
use Rattle.gate_audit.specs.Reading.{AreTaken}

-- at the end of the input, behind so many entries, where a line of a reply is awaited or none
abbrev pub at_end : ℕ → Option (List ℕ) → Option Audit
at_end count None = Some (Legal count)
at_end count (Some reply) = Some (Illegal (count + 1))

-- what is found behind so many entries, of which so many are of the last round, in this state, where this line is awaited or none
abbrev pub Next : Type 0
Next = ℕ → ℕ → World → Option (List ℕ) → Option Audit

-- the event of a line, or none
abbrev pub at_event : ℕ → ℕ → World → Option Event → Next → Option Audit
at_event count size w None next = Some (Illegal (count + 1))
at_event count size w (Some event) next = next count size (step_of w event).1 (Some (reply_line (step_of w event).0))

-- a line that asks for something
abbrev pub at_line : ℕ → ℕ → World → Option (List ℕ) → List ℕ → Next → Option Audit
at_line count size w None line next =
    if bytes_eq line (base_line count) then next count 0 w None
    else if nat_lt size entry_limit then at_event count size w (marked_event line) next else Some (Illegal (count + 1))
at_line count size w (Some reply) line next = if bytes_eq line reply then next (count + 1) (size + 1) w None else Some (Illegal (count + 1))

-- behind so many lines and entries, of which so many are of the last round
abbrev pub find : ℕ → ℕ → ℕ → World → Option (List ℕ) → List (List ℕ) → Option Audit
find number count size w awaited [] = at_end count awaited
find number count size w awaited (line ∷ lines) =
    if nat_lt number count_limit && nat_le (counted line) line_limit
    then if is_skipped line then find (number + 1) count size w awaited lines else at_line count size w awaited line (λ n m v a. find (number + 1) n m v a lines)
    else None

-- ---- one line

tests_pass : (a b : Bool) → a ≡ true → b ≡ true → (a && b) ≡ true
tests_pass a b p q = ap (λ x. x && b) p ∙ q

within_limits : (number : ℕ) (line : List ℕ) → number < count_limit → counted line ≤ line_limit → (nat_lt number count_limit && nat_le (counted line) line_limit) ≡ true
within_limits number line few short = tests_pass (nat_lt number count_limit) (nat_le (counted line) line_limit) (lt-ltb _ _ few) (le-leb _ _ short)

find-skip : (number count size : ℕ) (w : World) (awaited : Option (List ℕ)) (line : List ℕ) (lines : List (List ℕ)) → number < count_limit → counted line ≤ line_limit → is_skipped line ≡ true
    → find number count size w awaited (line ∷ lines) ≡ find (number + 1) count size w awaited lines
find-skip number count size w awaited line lines few short skipped =
    let next = find (number + 1) count size w awaited lines in
    let asks = at_line count size w awaited line (λ n m v a. find (number + 1) n m v a lines) in
    let past : Option Audit = None in
    ap (λ (b : Bool). if b then if is_skipped line then next else asks else past) (within_limits number line few short) ∙ ap (λ (b : Bool). if b then next else asks) skipped

find-asks : (number count size : ℕ) (w : World) (awaited : Option (List ℕ)) (line : List ℕ) (lines : List (List ℕ)) → number < count_limit → counted line ≤ line_limit → is_skipped line ≡ false
    → find number count size w awaited (line ∷ lines) ≡ at_line count size w awaited line (λ n m v a. find (number + 1) n m v a lines)
find-asks number count size w awaited line lines few short asking =
    let next = find (number + 1) count size w awaited lines in
    let asks = at_line count size w awaited line (λ n m v a. find (number + 1) n m v a lines) in
    let past : Option Audit = None in
    ap (λ (b : Bool). if b then if is_skipped line then next else asks else past) (within_limits number line few short) ∙ ap (λ (b : Bool). if b then next else asks) asking

-- ---- the lines up to one that asks

-- the lines before the first that asks, and those behind it
pub record Parted (number : ℕ) (front : List (List ℕ)) (line : List ℕ) (asked : List (List ℕ)) : Type 0 where
  pub quiet : List (List ℕ)
  pub rest : List (List ℕ)
  pub parted : front ≡ quiet ++ (line ∷ rest)
  pub before : AreTaken number quiet []
  pub short : counted line ≤ line_limit
  pub asks : is_skipped line ≡ false
  pub few : number + length quiet < count_limit
  pub behind : AreTaken (number + length quiet + 1) rest asked

tail_taken : (number : ℕ) (line : List ℕ) (lines asked others : List (List ℕ)) → AreTaken number (line ∷ lines) asked → asking lines ≡ others → AreTaken (number + 1) lines others
tail_taken number line lines asked others taken asks = record {
  few = omega (arith, taken.few);
  short = All-tail (λ l. counted l ≤ line_limit) line lines taken.short;
  asks = asks;
}

head_short : (number : ℕ) (line : List ℕ) (lines asked : List (List ℕ)) → AreTaken number (line ∷ lines) asked → (number < count_limit) × (counted line ≤ line_limit)
head_short number line lines asked taken = (omega (arith, taken.few), All-head (λ l. counted l ≤ line_limit) line lines taken.short)

asks_if : (b : Bool) (line : List ℕ) (lines asked : List (List ℕ)) → is_skipped line ≡ b → asking (line ∷ lines) ≡ asked → cond (not b) (line ∷ asking lines) (asking lines) ≡ asked
asks_if b line lines asked is asks = ap (λ c. cond (not c) (line ∷ asking lines) (asking lines)) (sym is) ∙ asks

quiet_step : (b : Bool) (line : List ℕ) (front : List (List ℕ)) (number count size : ℕ) (w : World) (awaited : Option (List ℕ)) (more : List (List ℕ)) → is_skipped line ≡ b → AreTaken number (line ∷ front) []
    → (AreTaken (number + 1) front [] → find (number + 1) count size w awaited (front ++ more) ≡ find (number + 1 + length front) count size w awaited more)
    → find number count size w awaited ((line ∷ front) ++ more) ≡ find (number + length (line ∷ front)) count size w awaited more
quiet_step true line front number count size w awaited more is taken next =
    let head = head_short number line front [] taken in
    find-skip number count size w awaited line (front ++ more) head.0 head.1 is
    ∙ next (tail_taken number line front [] [] taken (asks_if true line front [] is taken.asks))
    ∙ ap (λ n. find n count size w awaited more) (omega arith)
quiet_step false line front number count size w awaited more is taken next = absurd (cons_nil line (asking front) (asks_if false line front [] is taken.asks))
  where
    cons_nil : (x : List ℕ) (xs : List (List ℕ)) → x ∷ xs ≡ [] → ⊥
    cons_nil x xs h = cc

pub find-quiet : (front : List (List ℕ)) (number count size : ℕ) (w : World) (awaited : Option (List ℕ)) (more : List (List ℕ)) → AreTaken number front []
    → find number count size w awaited (front ++ more) ≡ find (number + length front) count size w awaited more
find-quiet [] number count size w awaited more taken = ap (λ n. find n count size w awaited more) (omega arith)
find-quiet (line ∷ front) number count size w awaited more taken =
    quiet_step (is_skipped line) line front number count size w awaited more refl taken (λ rest. find-quiet front (number + 1) count size w awaited more rest)

-- ---- the first line that asks

nil_cons : (x : List ℕ) (xs : List (List ℕ)) → [] ≡ x ∷ xs → ⊥
nil_cons x xs h = cc

same_head : (x y : List ℕ) (xs ys : List (List ℕ)) → x ∷ xs ≡ y ∷ ys → (x ≡ y) × (xs ≡ ys)
same_head x y xs ys h = (cc, cc)

parted_step : (b : Bool) (head : List ℕ) (front : List (List ℕ)) (number : ℕ) (line : List ℕ) (asked : List (List ℕ)) → is_skipped head ≡ b → AreTaken number (head ∷ front) (line ∷ asked)
    → (AreTaken (number + 1) front (line ∷ asked) → Parted (number + 1) front line asked) → Parted number (head ∷ front) line asked
parted_step true head front number line asked is taken next =
    let first = head_short number head front (line ∷ asked) taken in
    let p = next (tail_taken number head front (line ∷ asked) (line ∷ asked) taken (asks_if true head front (line ∷ asked) is taken.asks)) in
    record {
      quiet = head ∷ p.quiet;
      rest = p.rest;
      parted = ap (λ ls. head ∷ ls) p.parted;
      before = record {
        few = omega (arith, p.before.few);
        short = All-cons (λ l. counted l ≤ line_limit) head p.quiet first.1 p.before.short;
        asks = ap (λ b. cond (not b) (head ∷ asking p.quiet) (asking p.quiet)) is ∙ p.before.asks;
      };
      short = p.short;
      asks = p.asks;
      few = omega (arith, p.few);
      behind = subst (λ n. AreTaken n p.rest asked) (omega arith) p.behind;
    }
parted_step false head front number line asked is taken next =
    let first = head_short number head front (line ∷ asked) taken in
    let same = same_head head line (asking front) asked (asks_if false head front (line ∷ asked) is taken.asks) in
    record {
      quiet = [];
      rest = front;
      parted = ap (λ l. l ∷ front) same.0;
      before = record { few = omega (arith, first.0); short = All-nil (λ l. counted l ≤ line_limit); asks = refl };
      short = subst (λ (l : List ℕ). counted l ≤ line_limit) same.0 first.1;
      asks = ap is_skipped (sym same.0) ∙ is;
      few = omega (arith, first.0);
      behind = subst (λ n. AreTaken n front asked) (omega arith) (tail_taken number head front (line ∷ asked) asked taken same.1);
    }

pub parted_of : (front : List (List ℕ)) (number : ℕ) (line : List ℕ) (asked : List (List ℕ)) → AreTaken number front (line ∷ asked) → Parted number front line asked
parted_of [] number line asked taken = absurd (nil_cons line asked taken.asks)
parted_of (head ∷ front) number line asked taken =
    parted_step (is_skipped head) head front number line asked refl taken (λ rest. parted_of front (number + 1) line asked rest)

pub find-parted : (front : List (List ℕ)) (number count size : ℕ) (w : World) (awaited : Option (List ℕ)) (line : List ℕ) (asked more : List (List ℕ)) (p : Parted number front line asked)
    → find number count size w awaited (front ++ more) ≡ at_line count size w awaited line (λ n m v a. find (number + length p.quiet + 1) n m v a (p.rest ++ more))
find-parted front number count size w awaited line asked more p =
    ap (λ ls. find number count size w awaited (ls ++ more)) p.parted
    ∙ ap (find number count size w awaited) (append_assoc p.quiet (line ∷ p.rest) more)
    ∙ find-quiet p.quiet number count size w awaited (line ∷ (p.rest ++ more)) p.before
    ∙ find-asks (number + length p.quiet) count size w awaited line (p.rest ++ more) p.few p.short p.asks
