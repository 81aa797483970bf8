-- The text of each event is a line within the limits, as the line that spells it.
use Rattle.std.proofs.Common.{◌≡◌, ℕ, zero, suc, ◌+◌, ◌*◌, ◌/◌, ◌%◌, ◌<◌, ◌≤◌, ◌==◌, ◌⊎◌, nat_lt, true, false, List, [], ◌∷◌, ◌++◌, length, map, get_or, codes, refl, sym, subst, inl, inr, arith, length-append}
use Rattle.std.specs.Fmt.{decimal, digits, digits_onto, digit_glyph}
use Rattle.std.specs.List.{AllByRecursion, join_with_byte}
use Rattle.std.proofs.lemmas.Bool.{and_parts, cond_both, ltb-true}
use Rattle.std.proofs.lemmas.Fmt.{length-decimal-le}
use Rattle.gate_lines.specs.Lines.{LacksNewline, is_skipped, line_limit}
use Rattle.gate_lines.specs.Numbers.{max_number}
use Rattle.gate_net.specs.Addresses.{Address, V4, V6, address_text}
use Rattle.gate_net.specs.Spelling.{IsAddress}
use Rattle.gate_message.specs.declared.chain_event.ChainEvent.{ChainEvent}
use Rattle.gate_message.specs.declared.chain_event.ChainEvent.TheVariants.{MoveTip, LearnCoin, LearnVerdict, Forget}
use Rattle.gate_message.specs.declared.event.Event.{Event}
use Rattle.gate_message.specs.declared.event.Event.TheVariants.{Enter, Leave, Tx as Submit, Package, Mempool, GetBlock, Headers, FeeFilter, Rpc, SetFloor, Set, Chain}
use Rattle.gate_events.specs.EventLines.{event_of}
use Rattle.gate_events.specs.EventTexts.{chain_event_text, text_of}
use Rattle.gate_events.specs.TextLaws.{TextsAreLines}
use Rattle.gate_events.proofs.Again.{IsEntering, IsAgain}
use Rattle.gate_events.proofs.Letters.{is_letter, all_letters}
use Rattle.gate_events.proofs.SpelledTexts.{line_again}

-- ---- no newline

letters_newline : (text : List ℕ) → all_letters text ≡ true → LacksNewline text
letters_newline [] h = tt
letters_newline (b ∷ text) h =
    let parts = and_parts (is_letter b) (all_letters text) h in
    let above : 31 < b = ltb-true _ _ (and_parts (nat_lt 31 b) (nat_lt b 127) parts.0).0 in
    (omega arith, letters_newline text parts.1)

-- ---- the line of a peer that enters is short

digits_few : (k n : ℕ) (after : List ℕ) → length (digits_onto k 16 false n after) ≤ k + length after
digits_few zero n after = omega arith
digits_few (suc k) n after =
    let more = digits_few k (n / 16) (digit_glyph false (n % 16) ∷ after) in
    cond_both (n / 16 == 0) (digit_glyph false (n % 16) ∷ after) (digits_onto k 16 false (n / 16) (digit_glyph false (n % 16) ∷ after)) (λ (l : List ℕ). length l ≤ suc k + length after) (λ _. omega arith) (λ _. omega arith)

group_few : (n : ℕ) → length (digits 16 false n) ≤ 64
unfolding digits
group_few n = let few = digits_few 64 n [] in omega arith

groups_few : (groups : List ℕ) → length (join_with_byte 58 (map (digits 16 false) groups)) ≤ 65 * length groups
groups_few [] = omega arith
groups_few (n ∷ []) = let few = group_few n in omega arith
groups_few (n ∷ m ∷ groups) =
    let few = group_few n in
    let more = groups_few (m ∷ groups) in
    omega (arith, length-append (digits 16 false n) (58 ∷ join_with_byte 58 (map (digits 16 false) (m ∷ groups))))

octet_few : (octets : List ℕ) (k : ℕ) → AllByRecursion (λ n. n < 256) octets → length (decimal (get_or octets k 0)) ≤ 3
octet_few octets k h = let small = below octets k h in length-decimal-le 3 (get_or octets k 0) (omega arith) (omega arith) (omega arith)
  where
    below : (octets : List ℕ) (k : ℕ) → AllByRecursion (λ n. n < 256) octets → get_or octets k 0 < 256
    below [] k h = omega arith
    below (n ∷ octets) zero h = h.0
    below (n ∷ octets) (suc k) h = below octets k h.1

dotted_few : (a b c d : List ℕ) → length a ≤ 3 → length b ≤ 3 → length c ≤ 3 → length d ≤ 3 → length (a ++ codes "." ++ b ++ codes "." ++ c ++ codes "." ++ d) ≤ 600
dotted_few a b c d p q r s = simp (length-append {A = ℕ}) (omega arith)

address_few : (address : Address) → IsAddress address → length (address_text address) ≤ 600
address_few (V4 octets) is =
    let printed : ℕ → List ℕ = λ k. decimal (get_or octets k 0) in
    let few : (k : ℕ) → length (printed k) ≤ 3 = λ k. octet_few octets k is.1 in
    dotted_few (printed 0) (printed 1) (printed 2) (printed 3) (few 0) (few 1) (few 2) (few 3)
address_few (V6 groups) is = let few = groups_few groups in let eight : length groups ≡ 8 = is.0 in omega arith

entering_few : (event : Event) → IsEntering event → length (text_of event) ≤ line_limit
entering_few (Enter peer address) is =
    let small : peer ≤ max_number = is.0 in
    let number : length (decimal peer) ≤ 16 = length-decimal-le 16 peer (omega arith) (omega arith) (omega arith) in
    let few = address_few address is.1 in
    omega (arith, length-append (decimal peer) (codes " enter " ++ address_text address))
entering_few (Leave peer) is = absurd is
entering_few (Submit peer now transaction) is = absurd is
entering_few (Package peer now parent child) is = absurd is
entering_few (Mempool peer) is = absurd is
entering_few (GetBlock peer height) is = absurd is
entering_few (Headers peer height) is = absurd is
entering_few (FeeFilter peer rate) is = absurd is
entering_few (Rpc call) is = absurd is
entering_few (SetFloor rate) is = absurd is
entering_few (Set switch on) is = absurd is
entering_few (Chain event) is = absurd is

-- ---- a text begins with the word of its caller

chain_skipped : (event : ChainEvent) → is_skipped (chain_event_text event) ≡ false
chain_skipped (MoveTip disconnect now blocks) = refl
chain_skipped (LearnCoin coin) = refl
chain_skipped (LearnVerdict row) = refl
chain_skipped (Forget blocks) = refl

never_skipped : (event : Event) → is_skipped (text_of event) ≡ false
never_skipped (Enter peer address) = refl
never_skipped (Leave peer) = refl
never_skipped (Submit peer now transaction) = refl
never_skipped (Package peer now parent child) = refl
never_skipped (Mempool peer) = refl
never_skipped (GetBlock peer height) = refl
never_skipped (Headers peer height) = refl
never_skipped (FeeFilter peer rate) = refl
never_skipped (Rpc call) = refl
never_skipped (SetFloor rate) = refl
never_skipped (Set switch on) = refl
never_skipped (Chain event) = chain_skipped event

short : (line : List ℕ) (event : Event) → length line ≤ line_limit → (length (text_of event) ≤ length line) ⊎ IsEntering event → length (text_of event) ≤ line_limit
short line event limit (inl few) = omega arith
short line event limit (inr entering) = entering_few event entering

pub texts_are_lines : TextsAreLines
texts_are_lines line event h whole limit = by (line_again line event h)
  where
    by : IsAgain event_of event line (text_of event) → LacksNewline (text_of event) × (length (text_of event) ≤ line_limit) × (is_skipped (text_of event) ≡ false)
    by (inl same) = (subst LacksNewline (sym same) whole, subst (λ t. length t ≤ line_limit) (sym same) limit, never_skipped event)
    by (inr is) = (letters_newline (text_of event) is.letters, short line event limit is.short, never_skipped event)
