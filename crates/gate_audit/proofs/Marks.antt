-- Lines with the mark of an event or of a reply.
use Rattle.std.proofs.Common.{◌≡◌, ◌≢◌, ℕ, ◌==◌, ◌&&◌, if◌then◌else◌, cond, not, Bool, true, false, List, [], ◌∷◌, ◌++◌, drop, length, map, Option, Some, None, refl, sym, ap, ◌∙◌, arith, append_assoc}
use Rattle.std.proofs.lemmas.Bool.{true≢false}
use Rattle.std.proofs.lemmas.Bool.Decides.{nat_tests}
use Rattle.std.specs.Option.{option_to_list}
use Rattle.gate_message.specs.declared.event.Event.{Event}
use Rattle.gate_message.specs.declared.reply.Reply.{Reply}
use Rattle.gate_message.specs.Texts.{reply_text}
use Rattle.gate_events.specs.EventLines.{line_event}
use Rattle.gate_lines.specs.Lines.{is_skipped}
use Rattle.gate_audit.specs.Audits.{Spells}
use Rattle.gate_audit.specs.Journals.{asking, base_line, bears, entry_lines, event_line, reply_line}
use Rattle.gate_audit.specs.Laws.{events_among, marked_event, replies_among}

-- ---- the event that a line spells

abbrev head_of : List ℕ → ℕ
head_of [] = 0
head_of (x ∷ xs) = x

-- no event's line is that of a base
pub event_no_base : (text : List ℕ) (count : ℕ) → event_line text ≢ base_line count
event_no_base text count = λ same. other (ap head_of same)
  where
    other : ◌≡◌ {A = ℕ} 62 98 → ⊥
    other h = omega (arith, h)

pub marked_spells : (line : List ℕ) (event : Event) → Spells line event → marked_event line ≡ Some event
marked_spells line event (text, is, spells) = ap marked_event is ∙ spells

both : (a b : Bool) → (a && b) ≡ true → (a ≡ true) × (b ≡ true)
both true true h = (refl, refl)
both true false h = absurd (true≢false (sym h))
both false b h = absurd (true≢false (sym h))

is_code : (x n : ℕ) → (x == n) ≡ true → x ≡ n
is_code x n h = grind (arith, nat_tests)

spelled_if : (x y : ℕ) (text : List ℕ) (event : Event) (b : Bool) → ((x == 62) && (y == 32)) ≡ b → (if b then line_event text else None) ≡ Some event → Spells (x ∷ y ∷ text) event
spelled_if x y text event true marks is =
    let tests = both (x == 62) (y == 32) marks in
    (text, ap (λ n. n ∷ y ∷ text) (is_code x 62 tests.0) ∙ ap (λ n. 62 ∷ n ∷ text) (is_code y 32 tests.1), is)
spelled_if x y text event false marks is = cc

pub spells_marked : (line : List ℕ) (event : Event) → marked_event line ≡ Some event → Spells line event
spells_marked [] event is = cc
spells_marked (x ∷ []) event is = cc
spells_marked (x ∷ y ∷ text) event is = spelled_if x y text event ((x == 62) && (y == 32)) refl is

-- ---- lines that ask for nothing

pub skipped_bears : (mark : ℕ) (line : List ℕ) → (35 == mark) ≡ false → is_skipped line ≡ true → bears mark line ≡ false
skipped_bears mark [] other skipped = refl
skipped_bears mark (x ∷ []) other skipped = refl
skipped_bears mark (x ∷ y ∷ text) other skipped = ap (λ n. (n == mark) && (y == 32)) (is_code x 35 skipped) ∙ ap (λ b. b && (y == 32)) other

events_step : (b : Bool) (line : List ℕ) (lines : List (List ℕ)) → is_skipped line ≡ b → events_among lines ≡ events_among (asking lines)
    → events_among (line ∷ lines) ≡ events_among (cond (not b) (line ∷ asking lines) (asking lines))
events_step true line lines skipped rest = ap (λ (b : Bool). option_to_list (if b then line_event (drop 2 line) else None) ++ events_among lines) (skipped_bears 62 line refl skipped) ∙ rest
events_step false line lines asks rest = ap (λ es. option_to_list (marked_event line) ++ es) rest

pub events-asking : (lines : List (List ℕ)) → events_among lines ≡ events_among (asking lines)
events-asking [] = refl
events-asking (line ∷ lines) = events_step (is_skipped line) line lines refl (events-asking lines)

replies_step : (b : Bool) (line : List ℕ) (lines : List (List ℕ)) → is_skipped line ≡ b → replies_among lines ≡ replies_among (asking lines)
    → replies_among (line ∷ lines) ≡ replies_among (cond (not b) (line ∷ asking lines) (asking lines))
replies_step true line lines skipped rest = ap (λ (b : Bool). if b then drop 2 line ∷ replies_among lines else replies_among lines) (skipped_bears 60 line refl skipped) ∙ rest
replies_step false line lines asks rest = ap (λ rs. if bears 60 line then drop 2 line ∷ rs else rs) rest

pub replies-asking : (lines : List (List ℕ)) → replies_among lines ≡ replies_among (asking lines)
replies-asking [] = refl
replies-asking (line ∷ lines) = replies_step (is_skipped line) line lines refl (replies-asking lines)

-- ---- the lines of entries

pub asking-entry_lines : (texts : List (List ℕ)) (replies : List Reply) → asking (entry_lines texts replies) ≡ entry_lines texts replies
asking-entry_lines [] replies = refl
asking-entry_lines (t ∷ ts) [] = refl
asking-entry_lines (t ∷ ts) (r ∷ rs) = ap (λ ls. event_line t ∷ reply_line r ∷ ls) (asking-entry_lines ts rs)

pub some_head : (a : Option Event) (e : Event) (others : List (Option Event)) (es : List Event) → a ∷ others ≡ map Some (e ∷ es) → (a ≡ Some e) × (others ≡ map Some es)
some_head a e others es h = (cc, cc)

pub events-entry_lines : (texts : List (List ℕ)) (events : List Event) (replies : List Reply) → map line_event texts ≡ map Some events → length texts ≡ length replies
    → events_among (entry_lines texts replies) ≡ events
events-entry_lines [] [] replies spelled same = refl
events-entry_lines [] (e ∷ es) replies spelled same = cc
events-entry_lines (t ∷ ts) [] replies spelled same = cc
events-entry_lines (t ∷ ts) (e ∷ es) [] spelled same = absurd (omega (arith, same))
events-entry_lines (t ∷ ts) (e ∷ es) (r ∷ rs) spelled same =
    let heads = some_head (line_event t) e (map line_event ts) es spelled in
    ap (λ a. option_to_list a ++ events_among (entry_lines ts rs)) heads.0 ∙ ap (λ l. e ∷ l) (events-entry_lines ts es rs heads.1 (omega (arith, same)))

pub replies-entry_lines : (texts : List (List ℕ)) (replies : List Reply) → length texts ≡ length replies → replies_among (entry_lines texts replies) ≡ map reply_text replies
replies-entry_lines [] [] same = refl
replies-entry_lines [] (r ∷ rs) same = absurd (omega (arith, same))
replies-entry_lines (t ∷ ts) [] same = absurd (omega (arith, same))
replies-entry_lines (t ∷ ts) (r ∷ rs) same = ap (λ ls. reply_text r ∷ ls) (replies-entry_lines ts rs (omega (arith, same)))

-- ---- lines behind lines

pub events-append : (xs ys : List (List ℕ)) → events_among (xs ++ ys) ≡ events_among xs ++ events_among ys
events-append [] ys = refl
events-append (line ∷ xs) ys =
    ap (λ es. option_to_list (marked_event line) ++ es) (events-append xs ys) ∙ sym (append_assoc (option_to_list (marked_event line)) (events_among xs) (events_among ys))

either_reply : (b : Bool) (line : List ℕ) (xs ys : List (List ℕ)) → (if b then line ∷ (xs ++ ys) else xs ++ ys) ≡ (if b then line ∷ xs else xs) ++ ys
either_reply true line xs ys = refl
either_reply false line xs ys = refl

pub replies-append : (xs ys : List (List ℕ)) → replies_among (xs ++ ys) ≡ replies_among xs ++ replies_among ys
replies-append [] ys = refl
replies-append (line ∷ xs) ys =
    ap (λ rs. if bears 60 line then drop 2 line ∷ rs else rs) (replies-append xs ys) ∙ either_reply (bears 60 line) (drop 2 line) (replies_among xs) (replies_among ys)
