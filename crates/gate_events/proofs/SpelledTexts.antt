-- The text of each event that a line spells spells it.
use Rattle.std.proofs.Common.{◌≡◌, ℕ, ◌⊎◌, true, false, if◌then◌else◌, List, ◌∷◌, ◌++◌, codes, Option, Some, None, refl, ap, sym, subst, ◌∙◌, inl, inr}
use Rattle.std.specs.Option.{option_and_then}
use Rattle.std.specs.Str.{bytes_eq, is_utf8}
use Rattle.std.proofs.lemmas.Option.{option_and_then_some}
use Rattle.std.proofs.lemmas.Str.{IsUtf8-from_ascii, is_utf8-from_IsUtf8}
use Rattle.gate_lines.specs.Words.{part_of}
use Rattle.gate_message.specs.declared.chain_event.ChainEvent.{ChainEvent}
use Rattle.gate_message.specs.declared.event.Event.{Event}
use Rattle.gate_message.specs.declared.event.Event.TheVariants.{Chain}
use Rattle.gate_events.specs.EventLines.{peer_event_of, user_event_of, chain_event_of, operator_event_of, called_event, event_of, line_event}
use Rattle.gate_events.specs.EventTexts.{text_of}
use Rattle.gate_events.specs.TextLaws.{TextsSpell}
use Rattle.gate_events.proofs.Again.{IsAgain, IsAgainIn, again_behind, either, option_map_is, same_word}
use Rattle.gate_events.proofs.ChainTexts.{chain_again, told}
use Rattle.gate_events.proofs.Letters.{letters_ascii}
use Rattle.gate_events.proofs.OtherTexts.{user_again, operator_again}
use Rattle.gate_events.proofs.PeerTexts.{peer_again}
use Rattle.gate_events.proofs.Spaces.{part_at, part_joined}

-- behind the word of its caller
abbrev Called : List ℕ → List ℕ → Event → Type 0
Called caller rest event = IsAgain event_of event (caller ++ 32 ∷ rest) (text_of event)

as_caller : (caller literal rest : List ℕ) (event : Event) → bytes_eq caller literal ≡ true → Called literal rest event → Called caller rest event
as_caller caller literal rest event is again = subst (λ c. Called c rest event) (sym (same_word caller literal is)) again

peer_called : (rest : List ℕ) (event : Event) → peer_event_of rest ≡ Some event → Called (codes "peer") rest event
peer_called rest event h =
    let again = peer_again rest event h in
    subst (IsAgain event_of event (codes "peer" ++ 32 ∷ rest)) (sym again.1)
    (again_behind (codes "peer") peer_event_of event_of event rest again.0 refl (λ x. ap (option_and_then called_event) (part_at (codes "peer") x refl)) again.2)

chain_called : (rest : List ℕ) (event : Event) → told chain_event_of rest ≡ Some event → Called (codes "chain") rest event
chain_called rest event h =
    let found = option_map_is Chain (chain_event_of rest) event h in
    subst (Called (codes "chain") rest) found.2 (by found.0 (chain_again rest found.0 found.1))
  where
    by : (asked : ChainEvent) → IsAgainIn (λ x. codes "chain " ++ x) (told chain_event_of) (Chain asked) rest → Called (codes "chain") rest (Chain asked)
    by asked again =
        subst (IsAgain event_of (Chain asked) (codes "chain" ++ 32 ∷ rest)) (sym again.1)
        (again_behind (codes "chain") (told chain_event_of) event_of (Chain asked) rest again.0 refl (λ x. ap (option_and_then called_event) (part_at (codes "chain") x refl)) again.2)

called_again : (caller rest : List ℕ) (event : Event) → called_event (caller, rest) ≡ Some event → Called caller rest event
called_again caller rest event h = first (either (bytes_eq caller (codes "peer")) (peer_event_of rest) behind_peer event h)
  where
    behind_chain : Option Event
    behind_chain = if bytes_eq caller (codes "operator") then operator_event_of rest else None

    behind_user : Option Event
    behind_user = if bytes_eq caller (codes "chain") then told chain_event_of rest else behind_chain

    behind_peer : Option Event
    behind_peer = if bytes_eq caller (codes "user") then user_event_of rest else behind_user

    fourth : ((bytes_eq caller (codes "operator") ≡ true) × (operator_event_of rest ≡ Some event)) ⊎ ((bytes_eq caller (codes "operator") ≡ false) × (◌≡◌ {A = Option Event} None (Some event))) → Called caller rest event
    fourth (inl is) = as_caller caller (codes "operator") rest event is.0 (inl (operator_again rest event is.1))
    fourth (inr other) = absurd (let none = other.1 in cc)

    third : ((bytes_eq caller (codes "chain") ≡ true) × (told chain_event_of rest ≡ Some event)) ⊎ ((bytes_eq caller (codes "chain") ≡ false) × (behind_chain ≡ Some event)) → Called caller rest event
    third (inl is) = as_caller caller (codes "chain") rest event is.0 (chain_called rest event is.1)
    third (inr other) = fourth (either (bytes_eq caller (codes "operator")) (operator_event_of rest) None event other.1)

    second : ((bytes_eq caller (codes "user") ≡ true) × (user_event_of rest ≡ Some event)) ⊎ ((bytes_eq caller (codes "user") ≡ false) × (behind_user ≡ Some event)) → Called caller rest event
    second (inl is) = as_caller caller (codes "user") rest event is.0 (inl (user_again rest event is.1))
    second (inr other) = third (either (bytes_eq caller (codes "chain")) (told chain_event_of rest) behind_chain event other.1)

    first : ((bytes_eq caller (codes "peer") ≡ true) × (peer_event_of rest ≡ Some event)) ⊎ ((bytes_eq caller (codes "peer") ≡ false) × (behind_peer ≡ Some event)) → Called caller rest event
    first (inl is) = as_caller caller (codes "peer") rest event is.0 (peer_called rest event is.1)
    first (inr other) = second (either (bytes_eq caller (codes "user")) (user_event_of rest) behind_user event other.1)

event_again : (line : List ℕ) (event : Event) → event_of line ≡ Some event → IsAgain event_of event line (text_of event)
event_again line event h = option_and_then_some called_event (part_of line) event h by
  where
    by : (p : List ℕ × List ℕ) → part_of line ≡ Some p → called_event p ≡ Some event → IsAgain event_of event line (text_of event)
    by p is read = subst (λ t. IsAgain event_of event t (text_of event)) (sym (part_joined line p.0 p.1 is)) (called_again p.0 p.1 event read)

-- a line is text, and its text an event
pub line_is : (line : List ℕ) (event : Event) → line_event line ≡ Some event → event_of line ≡ Some event
line_is line event h = by (either (is_utf8 line) (event_of line) None event h)
  where
    by : ((is_utf8 line ≡ true) × (event_of line ≡ Some event)) ⊎ ((is_utf8 line ≡ false) × (◌≡◌ {A = Option Event} None (Some event))) → event_of line ≡ Some event
    by (inl is) = is.1
    by (inr other) = absurd (let none = other.1 in cc)

pub line_again : (line : List ℕ) (event : Event) → line_event line ≡ Some event → IsAgain event_of event line (text_of event)
line_again line event h = event_again line event (line_is line event h)

pub texts_spell : TextsSpell
texts_spell line event h = by (line_again line event h)
  where
    by : IsAgain event_of event line (text_of event) → line_event (text_of event) ≡ Some event
    by (inl same) = ap line_event same ∙ h
    by (inr is) =
        let text : is_utf8 (text_of event) ≡ true = is_utf8-from_IsUtf8 (text_of event) (IsUtf8-from_ascii (text_of event) (letters_ascii (text_of event) is.letters)) in
        ap (λ b. if b then event_of (text_of event) else None) text ∙ is.read
