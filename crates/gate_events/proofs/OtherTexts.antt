-- The events of users and of the operator: what is printed for them is what was read.
use Rattle.std.proofs.Common.{◌≡◌, ℕ, ◌==◌, ◌⊎◌, Bool, true, false, if◌then◌else◌, List, ◌∷◌, ◌++◌, length, codes, Option, Some, None, refl, ap, ap₂, sym, ◌∙◌, inl, inr}
use Rattle.std.specs.Fmt.{decimal}
use Rattle.std.specs.Option.{option_map, option_and_then}
use Rattle.std.specs.Str.{bytes_eq}
use Rattle.std.proofs.lemmas.Option.{option_and_then_some}
use Rattle.gate_lines.specs.Numbers.{number_of}
use Rattle.gate_lines.specs.Words.{part_of}
use Rattle.gate_lines.proofs.Decimals.{number_decimal}
use Rattle.gate_message.specs.UserCalls.{called}
use Rattle.gate_message.specs.declared.event.Event.{Event}
use Rattle.gate_message.specs.declared.event.Event.TheVariants.{Rpc, SetFloor, Set}
use Rattle.gate_message.specs.declared.switch.Switch.{Switch}
use Rattle.gate_message.specs.declared.switch.Switch.TheVariants.{Bloom, Upload, Historic, Download}
use Rattle.gate_events.specs.EventLines.{numbered_of, call_event_of, user_event, user_event_of, switch_of, is_on_of, switch_event_of, setting_event, operator_event_of}
use Rattle.gate_events.specs.EventTexts.{switch_word, on_word, text_of}
use Rattle.gate_events.proofs.Again.{either, option_map_is, some_is, same_word}
use Rattle.gate_events.proofs.Numbered.{numbered_joined}
use Rattle.gate_events.proofs.Spaces.{part_joined}

-- ---- users

abbrev user_line : List ℕ → List ℕ → List ℕ
user_line user rest = codes "user " ++ (user ++ 32 ∷ (codes "rpc " ++ rest))

call_again : (user text : List ℕ) (event : Event) → call_event_of user text ≡ Some event → text_of event ≡ user_line user text
call_again user text event h = option_and_then_some answered (numbered_of text) event h by
  where
    answered : ℕ × List ℕ → Option Event
    answered p = if length p.1 == 0 then None else Some (Rpc (called user p.0 p.1))

    found : (p : ℕ × List ℕ) → text ≡ decimal p.0 ++ 32 ∷ p.1
        → ((((length p.1 == 0) ≡ true)) × (◌≡◌ {A = Option Event} None (Some event))) ⊎ (((length p.1 == 0) ≡ false) × (◌≡◌ {A = Option Event} (Some (Rpc (called user p.0 p.1))) (Some event)))
        → text_of event ≡ user_line user text
    found p joined (inl other) = absurd (let none = other.1 in cc)
    found p joined (inr is) = sym (ap text_of (some_is (Rpc (called user p.0 p.1)) event is.1)) ∙ ap (user_line user) (sym joined)

    by : (p : ℕ × List ℕ) → numbered_of text ≡ Some p → answered p ≡ Some event → text_of event ≡ user_line user text
    by p is at = found p (numbered_joined text p is).joined (either (length p.1 == 0) None (Some (Rpc (called user p.0 p.1))) event at)

rpc_again : (user word rest : List ℕ) (event : Event) → user_event user (word, rest) ≡ Some event → text_of event ≡ codes "user " ++ (user ++ 32 ∷ (word ++ 32 ∷ rest))
rpc_again user word rest event h = by (either (bytes_eq word (codes "rpc")) (call_event_of user rest) None event h)
  where
    by : ((bytes_eq word (codes "rpc") ≡ true) × (call_event_of user rest ≡ Some event)) ⊎ ((bytes_eq word (codes "rpc") ≡ false) × (◌≡◌ {A = Option Event} None (Some event)))
        → text_of event ≡ codes "user " ++ (user ++ 32 ∷ (word ++ 32 ∷ rest))
    by (inl is) = call_again user rest event is.1 ∙ ap (λ w. codes "user " ++ (user ++ 32 ∷ (w ++ 32 ∷ rest))) (sym (same_word word (codes "rpc") is.0))
    by (inr other) = absurd (let none = other.1 in cc)

pub user_again : (text : List ℕ) (event : Event) → user_event_of text ≡ Some event → text_of event ≡ codes "user " ++ text
user_again text event h = option_and_then_some named (part_of text) event h by
  where
    asked : List ℕ × List ℕ → Option Event
    asked p = option_and_then (user_event p.0) (part_of p.1)

    named : List ℕ × List ℕ → Option Event
    named p = if length p.0 == 0 then None else asked p

    worded : (p : List ℕ × List ℕ) → part_of text ≡ Some p → asked p ≡ Some event → text_of event ≡ codes "user " ++ text
    worded p is at =
        option_and_then_some (user_event p.0) (part_of p.1) event at (λ q second read.
        rpc_again p.0 q.0 q.1 event read
        ∙ ap (λ r. codes "user " ++ (p.0 ++ 32 ∷ r)) (sym (part_joined p.1 q.0 q.1 second))
        ∙ ap (λ t. codes "user " ++ t) (sym (part_joined text p.0 p.1 is)))

    found : (p : List ℕ × List ℕ) → part_of text ≡ Some p → (((length p.0 == 0) ≡ true) × (◌≡◌ {A = Option Event} None (Some event))) ⊎ (((length p.0 == 0) ≡ false) × (asked p ≡ Some event)) → text_of event ≡ codes "user " ++ text
    found p is (inl other) = absurd (let none = other.1 in cc)
    found p is (inr at) = worded p is at.1

    by : (p : List ℕ × List ℕ) → part_of text ≡ Some p → named p ≡ Some event → text_of event ≡ codes "user " ++ text
    by p is at = found p is (either (length p.0 == 0) None (asked p) event at)

-- ---- the operator

-- of a list of words, the one that was read
switch_again : (word : List ℕ) (switch : Switch) → switch_of word ≡ Some switch → word ≡ switch_word switch
switch_again word switch h = first (either (bytes_eq word (codes "bloom")) (Some Bloom) behind_bloom switch h)
  where
    behind_historic : Option Switch
    behind_historic = if bytes_eq word (codes "ibd") then Some Download else None

    behind_upload : Option Switch
    behind_upload = if bytes_eq word (codes "historic") then Some Historic else behind_historic

    behind_bloom : Option Switch
    behind_bloom = if bytes_eq word (codes "upload") then Some Upload else behind_upload

    named : (literal : List ℕ) (one : Switch) → literal ≡ switch_word one → bytes_eq word literal ≡ true → ◌≡◌ {A = Option Switch} (Some one) (Some switch) → word ≡ switch_word switch
    named literal one is same at = same_word word literal same ∙ is ∙ ap switch_word (some_is one switch at)

    fourth : ((bytes_eq word (codes "ibd") ≡ true) × (◌≡◌ {A = Option Switch} (Some Download) (Some switch))) ⊎ ((bytes_eq word (codes "ibd") ≡ false) × (◌≡◌ {A = Option Switch} None (Some switch))) → word ≡ switch_word switch
    fourth (inl is) = named (codes "ibd") Download refl is.0 is.1
    fourth (inr other) = absurd (let none = other.1 in cc)

    third : ((bytes_eq word (codes "historic") ≡ true) × (◌≡◌ {A = Option Switch} (Some Historic) (Some switch))) ⊎ ((bytes_eq word (codes "historic") ≡ false) × (behind_historic ≡ Some switch)) → word ≡ switch_word switch
    third (inl is) = named (codes "historic") Historic refl is.0 is.1
    third (inr other) = fourth (either (bytes_eq word (codes "ibd")) (Some Download) None switch other.1)

    second : ((bytes_eq word (codes "upload") ≡ true) × (◌≡◌ {A = Option Switch} (Some Upload) (Some switch))) ⊎ ((bytes_eq word (codes "upload") ≡ false) × (behind_upload ≡ Some switch)) → word ≡ switch_word switch
    second (inl is) = named (codes "upload") Upload refl is.0 is.1
    second (inr other) = third (either (bytes_eq word (codes "historic")) (Some Historic) behind_historic switch other.1)

    first : ((bytes_eq word (codes "bloom") ≡ true) × (◌≡◌ {A = Option Switch} (Some Bloom) (Some switch))) ⊎ ((bytes_eq word (codes "bloom") ≡ false) × (behind_bloom ≡ Some switch)) → word ≡ switch_word switch
    first (inl is) = named (codes "bloom") Bloom refl is.0 is.1
    first (inr other) = second (either (bytes_eq word (codes "upload")) (Some Upload) behind_upload switch other.1)

on_again : (text : List ℕ) (on : Bool) → is_on_of text ≡ Some on → text ≡ on_word on
on_again text on h = first (either (bytes_eq text (codes "on")) (Some true) behind_on on h)
  where
    behind_on : Option Bool
    behind_on = if bytes_eq text (codes "off") then Some false else None

    second : ((bytes_eq text (codes "off") ≡ true) × (◌≡◌ {A = Option Bool} (Some false) (Some on))) ⊎ ((bytes_eq text (codes "off") ≡ false) × (◌≡◌ {A = Option Bool} None (Some on))) → text ≡ on_word on
    second (inl is) = same_word text (codes "off") is.0 ∙ ap on_word (some_is false on is.1)
    second (inr other) = absurd (let none = other.1 in cc)

    first : ((bytes_eq text (codes "on") ≡ true) × (◌≡◌ {A = Option Bool} (Some true) (Some on))) ⊎ ((bytes_eq text (codes "on") ≡ false) × (behind_on ≡ Some on)) → text ≡ on_word on
    first (inl is) = same_word text (codes "on") is.0 ∙ ap on_word (some_is true on is.1)
    first (inr other) = second (either (bytes_eq text (codes "off")) (Some false) None on other.1)

abbrev operator_line : List ℕ → List ℕ → List ℕ
operator_line word rest = codes "operator " ++ (word ++ 32 ∷ rest)

abbrev set_event : Switch → Bool → Option Event
set_event switch on = Some (Set switch on)

switched_again : (word rest : List ℕ) (event : Event) → switch_event_of word rest ≡ Some event → text_of event ≡ operator_line word rest
switched_again word rest event h =
    option_and_then_some (λ switch. option_and_then (set_event switch) (is_on_of rest)) (switch_of word) event h (λ switch named more.
    option_and_then_some (set_event switch) (is_on_of rest) event more (λ on is at.
    sym (ap text_of (some_is (Set switch on) event at)) ∙ ap₂ operator_line (sym (switch_again word switch named)) (sym (on_again rest on is))))

floor_again : (rest : List ℕ) (event : Event) → option_map SetFloor (number_of rest) ≡ Some event → text_of event ≡ operator_line (codes "floor") rest
floor_again rest event h =
    let found = option_map_is SetFloor (number_of rest) event h in
    sym (ap text_of found.2) ∙ ap (operator_line (codes "floor")) (sym (number_decimal rest found.0 found.1).0)

setting_again : (word rest : List ℕ) (event : Event) → setting_event (word, rest) ≡ Some event → text_of event ≡ operator_line word rest
setting_again word rest event h = by (either (bytes_eq word (codes "floor")) (option_map SetFloor (number_of rest)) (switch_event_of word rest) event h)
  where
    by : ((bytes_eq word (codes "floor") ≡ true) × (option_map SetFloor (number_of rest) ≡ Some event)) ⊎ ((bytes_eq word (codes "floor") ≡ false) × (switch_event_of word rest ≡ Some event)) → text_of event ≡ operator_line word rest
    by (inl is) = floor_again rest event is.1 ∙ ap (λ w. operator_line w rest) (sym (same_word word (codes "floor") is.0))
    by (inr other) = switched_again word rest event other.1

pub operator_again : (text : List ℕ) (event : Event) → operator_event_of text ≡ Some event → text_of event ≡ codes "operator " ++ text
operator_again text event h =
    option_and_then_some setting_event (part_of text) event h (λ p is read.
    setting_again p.0 p.1 event read ∙ ap (λ t. codes "operator " ++ t) (sym (part_joined text p.0 p.1 is)))
