-- The events of peers: what is printed for them is what was read, or is read as the same.
use Rattle.std.proofs.Common.{◌≡◌, ℕ, ◌<◌, ◌≤◌, ◌⊎◌, true, false, if◌then◌else◌, List, [], ◌∷◌, ◌++◌, length, codes, Option, Some, None, refl, ap, sym, subst, ◌∙◌, ◌==◌, inl, inr, arith, length-append}
use Rattle.std.specs.Fmt.{decimal}
use Rattle.std.specs.Option.{option_map, option_and_then}
use Rattle.std.specs.Str.{bytes_eq}
use Rattle.std.proofs.lemmas.Bool.Decides.{nat_tests}
use Rattle.std.proofs.lemmas.Option.{option_and_then_some}
use Rattle.gate_tx.specs.Tx.{Tx}
use Rattle.gate_lines.proofs.Decimals.{number_decimal}
use Rattle.gate_lines.specs.Numbers.{max_number, number_of, small_number_of}
use Rattle.gate_lines.specs.Words.{part_of, is_word}
use Rattle.gate_net.specs.Addresses.{Address, address_of, address_text}
use Rattle.gate_net.proofs.Printed.{read_back}
use Rattle.gate_message.specs.declared.event.Event.{Event}
use Rattle.gate_message.specs.declared.event.Event.TheVariants.{Enter, Leave, Tx as Submit, Package, Mempool, GetBlock, Headers, FeeFilter}
use Rattle.gate_events.specs.EventLines.{numbered_of, prepared_of, enter_event_of, package_event_of, package_with, tx_event_of, worded_event, peer_event, peer_event_of}
use Rattle.gate_events.specs.EventTexts.{transaction_word}
use Rattle.gate_events.proofs.Again.{IsAgainIn, again_behind, either, option_map_is, some_is, same_word}
use Rattle.gate_events.proofs.Hexes.{IsReread, transaction_again}
use Rattle.gate_events.proofs.Letters.{all_letters, letters_joined}
use Rattle.gate_events.proofs.Numbered.{IsNumbered, numbered_joined, numbered_at, decimal_letters, small_decimal}
use Rattle.gate_events.proofs.ReadAddresses.{address_is, address_letters}
use Rattle.gate_events.proofs.Spaces.{part_at, part_joined, word_is}

-- the line of a peer round what it asks
abbrev peer_line : ℕ → List ℕ → List ℕ
peer_line peer asked = codes "peer " ++ (decimal peer ++ 32 ∷ asked)

abbrev asking : ℕ → List ℕ → Option Event
asking peer asked = peer_event (peer, asked)

-- what a peer asks is spelled again
abbrev Asked : ℕ → List ℕ → Event → Type 0
Asked peer asked event = IsAgainIn (peer_line peer) (asking peer) event asked

-- a word and what stands behind it
abbrev Worded : ℕ → List ℕ → List ℕ → Event → Type 0
Worded peer word rest event = Asked peer (word ++ 32 ∷ rest) event

enter_again : (peer : ℕ) (rest : List ℕ) (event : Event) → peer ≤ max_number → enter_event_of peer rest ≡ Some event → Worded peer (codes "enter") rest event
enter_again peer rest event small h =
    let found = option_map_is (Enter peer) (address_of rest) event h in
    subst (Worded peer (codes "enter") rest) found.2 (by found.0 found.1)
  where
    by : (address : Address) → address_of rest ≡ Some address → Worded peer (codes "enter") rest (Enter peer address)
    by address is =
        let valid = address_is rest address is in
        let back : address_of (address_text address) ≡ Some address = read_back address valid in (
          codes "enter " ++ address_text address,
          refl,
          inr (record {
            read = rw (part_at (codes "enter") (address_text address) refl, back) refl;
            letters = address_letters address valid;
            short = inr (small, valid);
          }),
        )

filled : (text : List ℕ) → is_word text ≡ true → 0 < length text
filled [] h = absurd cc
filled (c ∷ text) h = omega arith

filled_at : (text : List ℕ) → (length text == 0) ≡ false → 0 < length text
filled_at [] h = absurd cc
filled_at (c ∷ text) h = omega arith

unfilled : (text : List ℕ) → 0 < length text → (length text == 0) ≡ false
unfilled [] h = absurd (omega arith)
unfilled (c ∷ text) h = grind (arith, nat_tests)

tx_printed : (peer now : ℕ) (hex : List ℕ) (transaction : Option Tx) → now ≤ max_number → IsReread prepared_of transaction hex (transaction_word transaction)
    → Worded peer (codes "tx") (decimal now ++ 32 ∷ hex) (Submit peer now transaction)
tx_printed peer now hex transaction small is =
    let word : List ℕ = transaction_word transaction in
    let printed : List ℕ = decimal now ++ 32 ∷ word in
    let one : is_word word ≡ true = word_is word is.filled is.whole in
    let again : prepared_of word ≡ transaction = is.read in
    let all : all_letters printed ≡ true = letters_joined (decimal now) (32 ∷ word) (decimal_letters now small) is.letters in
    let short : length word ≤ length hex = is.short in (
      codes "tx " ++ printed,
      refl,
      inr (record {
        read = rw (part_at (codes "tx") printed refl, numbered_at now word small, one, again) refl;
        letters = all;
        short = inl (omega (arith, length-append (decimal now) (32 ∷ word), length-append (decimal now) (32 ∷ hex)));
      }),
    )

tx_again : (peer : ℕ) (rest : List ℕ) (event : Event) → tx_event_of peer rest ≡ Some event → Worded peer (codes "tx") rest event
tx_again peer rest event h = option_and_then_some (submitted) (numbered_of rest) event h by
  where
    submitted : ℕ × List ℕ → Option Event
    submitted p = if is_word p.1 then Some (Submit peer p.0 (prepared_of p.1)) else None

    found : (p : ℕ × List ℕ) → IsNumbered rest p
        → ((is_word p.1 ≡ true) × (◌≡◌ {A = Option Event} (Some (Submit peer p.0 (prepared_of p.1))) (Some event))) ⊎ ((is_word p.1 ≡ false) × (◌≡◌ {A = Option Event} None (Some event)))
        → Worded peer (codes "tx") rest event
    found p is (inl one) =
        subst (λ r. Worded peer (codes "tx") r event) (sym is.joined)
        (subst (Worded peer (codes "tx") (decimal p.0 ++ 32 ∷ p.1)) (some_is (Submit peer p.0 (prepared_of p.1)) event one.1)
        (tx_printed peer p.0 p.1 (prepared_of p.1) is.small (transaction_again p.1 (filled p.1 one.0))))
    found p is (inr other) = absurd (let none = other.1 in cc)

    by : (p : ℕ × List ℕ) → numbered_of rest ≡ Some p → submitted p ≡ Some event → Worded peer (codes "tx") rest event
    by p is at = found p (numbered_joined rest p is) (either (is_word p.1) (Some (Submit peer p.0 (prepared_of p.1))) None event at)

-- a package: two words behind a second
package_printed : (peer now : ℕ) (first second : List ℕ) (parent child : Option Tx) → now ≤ max_number → IsReread prepared_of parent first (transaction_word parent)
    → IsReread prepared_of child second (transaction_word child) → Worded peer (codes "package") (decimal now ++ 32 ∷ (first ++ 32 ∷ second)) (Package peer now parent child)
package_printed peer now first second parent child small is of =
    let word : List ℕ = transaction_word parent in
    let behind : List ℕ = transaction_word child in
    let both : List ℕ = word ++ 32 ∷ behind in
    let printed : List ℕ = decimal now ++ 32 ∷ both in
    let some : (length word == 0) ≡ false = unfilled word is.filled in
    let one : is_word behind ≡ true = word_is behind of.filled of.whole in
    let again : prepared_of word ≡ parent = is.read in
    let more : prepared_of behind ≡ child = of.read in
    let parts : part_of both ≡ Some (word, behind) = part_at word behind is.whole in
    let letters : all_letters both ≡ true = letters_joined word (32 ∷ behind) is.letters of.letters in
    let all : all_letters printed ≡ true = letters_joined (decimal now) (32 ∷ both) (decimal_letters now small) letters in
    let short : length word ≤ length first = is.short in
    let shorter : length behind ≤ length second = of.short in (
      codes "package " ++ printed,
      refl,
      inr (record {
        read = rw (part_at (codes "package") printed refl, numbered_at now both small, parts, some, one, again, more) refl;
        letters = all;
        short = inl (omega (arith, length-append (decimal now) (32 ∷ both), length-append (decimal now) (32 ∷ (first ++ 32 ∷ second)), length-append word (32 ∷ behind), length-append first (32 ∷ second)));
      }),
    )

package_again : (peer : ℕ) (rest : List ℕ) (event : Event) → package_event_of peer rest ≡ Some event → Worded peer (codes "package") rest event
package_again peer rest event h = option_and_then_some offered (numbered_of rest) event h by
  where
    offered : ℕ × List ℕ → Option Event
    offered p = option_and_then (package_with peer p.0) (part_of p.1)

    words_of_two : (now : ℕ) (q : List ℕ × List ℕ) → Option Event
    words_of_two now q = if is_word q.1 then Some (Package peer now (prepared_of q.0) (prepared_of q.1)) else None

    worded : (now : ℕ) (q : List ℕ × List ℕ) → now ≤ max_number → (length q.0 == 0) ≡ false
        → ((is_word q.1 ≡ true) × (◌≡◌ {A = Option Event} (Some (Package peer now (prepared_of q.0) (prepared_of q.1))) (Some event))) ⊎ ((is_word q.1 ≡ false) × (◌≡◌ {A = Option Event} None (Some event)))
        → Worded peer (codes "package") (decimal now ++ 32 ∷ (q.0 ++ 32 ∷ q.1)) event
    worded now q small some (inl one) =
        subst (Worded peer (codes "package") (decimal now ++ 32 ∷ (q.0 ++ 32 ∷ q.1))) (some_is (Package peer now (prepared_of q.0) (prepared_of q.1)) event one.1)
        (package_printed peer now q.0 q.1 (prepared_of q.0) (prepared_of q.1) small (transaction_again q.0 (filled_at q.0 some)) (transaction_again q.1 (filled q.1 one.0)))
    worded now q small some (inr other) = absurd (let none = other.1 in cc)

    parted : (now : ℕ) (q : List ℕ × List ℕ) → now ≤ max_number
        → (((length q.0 == 0) ≡ true) × (◌≡◌ {A = Option Event} None (Some event))) ⊎ (((length q.0 == 0) ≡ false) × (words_of_two now q ≡ Some event))
        → Worded peer (codes "package") (decimal now ++ 32 ∷ (q.0 ++ 32 ∷ q.1)) event
    parted now q small (inl other) = absurd (let none = other.1 in cc)
    parted now q small (inr is) = worded now q small is.0 (either (is_word q.1) (Some (Package peer now (prepared_of q.0) (prepared_of q.1))) None event is.1)

    by : (p : ℕ × List ℕ) → numbered_of rest ≡ Some p → offered p ≡ Some event → Worded peer (codes "package") rest event
    by p is at =
        let number = numbered_joined rest p is in
        option_and_then_some (package_with peer p.0) (part_of p.1) event at (λ q parts read.
        subst (λ r. Worded peer (codes "package") r event) (sym (number.joined ∙ ap (λ t. decimal p.0 ++ 32 ∷ t) (part_joined p.1 q.0 q.1 parts)))
        (parted p.0 q number.small (either (length q.0 == 0) None (words_of_two p.0 q) event read)))

getblock_again : (peer : ℕ) (rest : List ℕ) (event : Event) → option_map (GetBlock peer) (small_number_of rest) ≡ Some event → Worded peer (codes "getblock") rest event
getblock_again peer rest event h =
    let found = option_map_is (GetBlock peer) (small_number_of rest) event h in
    let number : rest ≡ decimal found.0 = small_decimal rest found.0 found.1 in
    subst (Worded peer (codes "getblock") rest) found.2 (codes "getblock " ++ decimal found.0, refl, inl (ap (λ r. codes "getblock " ++ r) (sym number)))

headers_again : (peer : ℕ) (rest : List ℕ) (event : Event) → option_map (Headers peer) (small_number_of rest) ≡ Some event → Worded peer (codes "headers") rest event
headers_again peer rest event h =
    let found = option_map_is (Headers peer) (small_number_of rest) event h in
    let number : rest ≡ decimal found.0 = small_decimal rest found.0 found.1 in
    subst (Worded peer (codes "headers") rest) found.2 (codes "headers " ++ decimal found.0, refl, inl (ap (λ r. codes "headers " ++ r) (sym number)))

feefilter_again : (peer : ℕ) (rest : List ℕ) (event : Event) → option_map (FeeFilter peer) (number_of rest) ≡ Some event → Worded peer (codes "feefilter") rest event
feefilter_again peer rest event h =
    let found = option_map_is (FeeFilter peer) (number_of rest) event h in
    let number : rest ≡ decimal found.0 = (number_decimal rest found.0 found.1).0 in
    subst (Worded peer (codes "feefilter") rest) found.2 (codes "feefilter " ++ decimal found.0, refl, inl (ap (λ r. codes "feefilter " ++ r) (sym number)))

-- the word is one of the six
as_word : (peer : ℕ) (word literal rest : List ℕ) (event : Event) → bytes_eq word literal ≡ true → Worded peer literal rest event → Worded peer word rest event
as_word peer word literal rest event is again = subst (λ w. Worded peer w rest event) (sym (same_word word literal is)) again

worded_again : (peer : ℕ) (word rest : List ℕ) (event : Event) → peer ≤ max_number → worded_event peer (word, rest) ≡ Some event → Worded peer word rest event
worded_again peer word rest event small h = first (either (bytes_eq word (codes "enter")) (enter_event_of peer rest) behind_enter event h)
  where
    behind_headers : Option Event
    behind_headers = if bytes_eq word (codes "feefilter") then option_map (FeeFilter peer) (number_of rest) else None

    behind_getblock : Option Event
    behind_getblock = if bytes_eq word (codes "headers") then option_map (Headers peer) (small_number_of rest) else behind_headers

    behind_package : Option Event
    behind_package = if bytes_eq word (codes "getblock") then option_map (GetBlock peer) (small_number_of rest) else behind_getblock

    behind_tx : Option Event
    behind_tx = if bytes_eq word (codes "package") then package_event_of peer rest else behind_package

    behind_enter : Option Event
    behind_enter = if bytes_eq word (codes "tx") then tx_event_of peer rest else behind_tx

    sixth : ((bytes_eq word (codes "feefilter") ≡ true) × (option_map (FeeFilter peer) (number_of rest) ≡ Some event)) ⊎ ((bytes_eq word (codes "feefilter") ≡ false) × (◌≡◌ {A = Option Event} None (Some event))) → Worded peer word rest event
    sixth (inl is) = as_word peer word (codes "feefilter") rest event is.0 (feefilter_again peer rest event is.1)
    sixth (inr other) = absurd (let none = other.1 in cc)

    fifth : ((bytes_eq word (codes "headers") ≡ true) × (option_map (Headers peer) (small_number_of rest) ≡ Some event)) ⊎ ((bytes_eq word (codes "headers") ≡ false) × (behind_headers ≡ Some event)) → Worded peer word rest event
    fifth (inl is) = as_word peer word (codes "headers") rest event is.0 (headers_again peer rest event is.1)
    fifth (inr other) = sixth (either (bytes_eq word (codes "feefilter")) (option_map (FeeFilter peer) (number_of rest)) None event other.1)

    fourth : ((bytes_eq word (codes "getblock") ≡ true) × (option_map (GetBlock peer) (small_number_of rest) ≡ Some event)) ⊎ ((bytes_eq word (codes "getblock") ≡ false) × (behind_getblock ≡ Some event)) → Worded peer word rest event
    fourth (inl is) = as_word peer word (codes "getblock") rest event is.0 (getblock_again peer rest event is.1)
    fourth (inr other) = fifth (either (bytes_eq word (codes "headers")) (option_map (Headers peer) (small_number_of rest)) behind_headers event other.1)

    third : ((bytes_eq word (codes "package") ≡ true) × (package_event_of peer rest ≡ Some event)) ⊎ ((bytes_eq word (codes "package") ≡ false) × (behind_package ≡ Some event)) → Worded peer word rest event
    third (inl is) = as_word peer word (codes "package") rest event is.0 (package_again peer rest event is.1)
    third (inr other) = fourth (either (bytes_eq word (codes "getblock")) (option_map (GetBlock peer) (small_number_of rest)) behind_getblock event other.1)

    second : ((bytes_eq word (codes "tx") ≡ true) × (tx_event_of peer rest ≡ Some event)) ⊎ ((bytes_eq word (codes "tx") ≡ false) × (behind_tx ≡ Some event)) → Worded peer word rest event
    second (inl is) = as_word peer word (codes "tx") rest event is.0 (tx_again peer rest event is.1)
    second (inr other) = third (either (bytes_eq word (codes "package")) (package_event_of peer rest) behind_package event other.1)

    first : ((bytes_eq word (codes "enter") ≡ true) × (enter_event_of peer rest ≡ Some event)) ⊎ ((bytes_eq word (codes "enter") ≡ false) × (behind_enter ≡ Some event)) → Worded peer word rest event
    first (inl is) = as_word peer word (codes "enter") rest event is.0 (enter_again peer rest event small is.1)
    first (inr other) = second (either (bytes_eq word (codes "tx")) (tx_event_of peer rest) behind_tx event other.1)

asked_again : (peer : ℕ) (asked : List ℕ) (event : Event) → peer ≤ max_number → asking peer asked ≡ Some event → Asked peer asked event
asked_again peer asked event small h = first (either (bytes_eq asked (codes "leave")) (Some (Leave peer)) behind_leave event h)
  where
    behind_mempool : Option Event
    behind_mempool = option_and_then (worded_event peer) (part_of asked)

    behind_leave : Option Event
    behind_leave = if bytes_eq asked (codes "mempool") then Some (Mempool peer) else behind_mempool

    words : (p : List ℕ × List ℕ) → part_of asked ≡ Some p → worded_event peer p ≡ Some event → Asked peer asked event
    words p is read = subst (λ a. Asked peer a event) (sym (part_joined asked p.0 p.1 is)) (worded_again peer p.0 p.1 event small read)

    second : ((bytes_eq asked (codes "mempool") ≡ true) × (◌≡◌ {A = Option Event} (Some (Mempool peer)) (Some event))) ⊎ ((bytes_eq asked (codes "mempool") ≡ false) × (behind_mempool ≡ Some event)) → Asked peer asked event
    second (inl is) = subst (λ e. Asked peer asked e) (some_is (Mempool peer) event is.1) (codes "mempool", refl, inl (sym (same_word asked (codes "mempool") is.0)))
    second (inr other) = option_and_then_some (worded_event peer) (part_of asked) event other.1 words

    first : ((bytes_eq asked (codes "leave") ≡ true) × (◌≡◌ {A = Option Event} (Some (Leave peer)) (Some event))) ⊎ ((bytes_eq asked (codes "leave") ≡ false) × (behind_leave ≡ Some event)) → Asked peer asked event
    first (inl is) = subst (λ e. Asked peer asked e) (some_is (Leave peer) event is.1) (codes "leave", refl, inl (sym (same_word asked (codes "leave") is.0)))
    first (inr other) = second (either (bytes_eq asked (codes "mempool")) (Some (Mempool peer)) behind_mempool event other.1)

-- a peer's number, and what it asks
numbered_again : (peer : ℕ) (asked : List ℕ) (event : Event) → peer ≤ max_number → Asked peer asked event → IsAgainIn (λ x. codes "peer " ++ x) peer_event_of event (decimal peer ++ 32 ∷ asked)
numbered_again peer asked event small again = (
  decimal peer ++ 32 ∷ again.0,
  again.1,
  again_behind (decimal peer) (asking peer) peer_event_of event asked again.0 (decimal_letters peer small) (λ x. ap (option_and_then peer_event) (numbered_at peer x small)) again.2,
)

pub peer_again : (text : List ℕ) (event : Event) → peer_event_of text ≡ Some event → IsAgainIn (λ x. codes "peer " ++ x) peer_event_of event text
peer_again text event h = option_and_then_some peer_event (numbered_of text) event h by
  where
    by : (p : ℕ × List ℕ) → numbered_of text ≡ Some p → peer_event p ≡ Some event → IsAgainIn (λ x. codes "peer " ++ x) peer_event_of event text
    by p is read =
        let number = numbered_joined text p is in
        subst (λ t. IsAgainIn (λ x. codes "peer " ++ x) peer_event_of event t) (sym number.joined) (numbered_again p.0 p.1 event number.small (asked_again p.0 p.1 event number.small read))
