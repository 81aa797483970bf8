-- What a line that is text is read as, and one that isn't.
use Rattle.std.proofs.Common.{◌≡◌, ℕ, Bool, true, false, List, Option, None, Result, Ok, Err, IfOk, ◌∙◌, ap, sym, refl, if◌then◌else◌}
use Rattle.std.proofs.lemmas.Str.{is_utf8-from_IsUtf8, IsUtf8-from_is_utf8}
use Rattle.std.specs.Str.{IsUtf8, is_utf8}
use Rattle.gate_lines.specs.Lines.{if_text}

if_text-text : {X : Type 0} (form : List ℕ → Option X) (line : List ℕ) → IsUtf8 line → if_text form line ≡ form line
if_text-text form line h = ap (λ b. if b then form line else None) (is_utf8-from_IsUtf8 line h)

-- what reading a line that is text gives
pub if_text-read : {X E : Type 0} (form : List ℕ → Option X) (r : Result (Option X) E) (line text : List ℕ) → text ≡ line → IsUtf8 line
    → IfOk r (λ found. found ≡ form text) → IfOk r (λ found. found ≡ if_text form line)
if_text-read form (Ok found) line text same h e = e ∙ ap form same ∙ sym (if_text-text form line h)
if_text-read form (Err fault) line text same h e = tt

none_unless : {X : Type 0} (b : Bool) (found : Option X) → (b ≡ true → ⊥) → (if b then found else None) ≡ None
none_unless true found h = absurd (h refl)
none_unless false found h = refl

pub if_text-no_text : {X : Type 0} (form : List ℕ → Option X) (line : List ℕ) → (IsUtf8 line → ⊥) → if_text form line ≡ None
if_text-no_text form line h = none_unless (is_utf8 line) (form line) (λ e. h (IsUtf8-from_is_utf8 line e))
