-- What is printed for an event, against the text that it was read from.
use Rattle.std.proofs.Common.{◌≡◌, ℕ, ◌≤◌, ◌⊎◌, Bool, true, false, if◌then◌else◌, List, ◌∷◌, ◌++◌, length, Option, Some, None, refl, ap, ◌∙◌, inl, inr, arith, length-append}
use Rattle.std.specs.Option.{option_map}
use Rattle.std.specs.Str.{bytes_eq}
use Rattle.std.proofs.lemmas.Slice.Eq.{bytes_eq-Decides}
use Rattle.gate_lines.specs.Numbers.{max_number}
use Rattle.gate_net.specs.Spelling.{IsAddress}
use Rattle.gate_message.specs.declared.event.Event.{Event}
use Rattle.gate_message.specs.declared.event.Event.TheVariants.{Enter}
use Rattle.gate_events.specs.EventTexts.{text_of}
use Rattle.gate_events.proofs.Letters.{all_letters, letters_joined}

-- a peer enters, with a number and from an address that are read
abbrev pub IsEntering : Event → Type 0
IsEntering (Enter peer address) = (peer ≤ max_number) × IsAddress address
IsEntering event = ⊥

-- what is printed is read as the event, is of letters, and is no longer than the text, but for an address
pub record IsRead (form : List ℕ → Option Event) (event : Event) (text printed : List ℕ) : Type 0 where
  pub read : form printed ≡ Some event
  pub letters : all_letters printed ≡ true
  pub short : (length printed ≤ length text) ⊎ IsEntering event

-- what is printed is the text itself, or is read as the same
abbrev pub IsAgain : (List ℕ → Option Event) → Event → List ℕ → List ℕ → Type 0
IsAgain form event text printed = (printed ≡ text) ⊎ IsRead form event text printed

-- the same of a text of which only a part is looked at, with `around` round it
abbrev pub IsAgainIn : (List ℕ → List ℕ) → (List ℕ → Option Event) → Event → List ℕ → Type 0
IsAgainIn around form event text = (printed : List ℕ) × (text_of event ≡ around printed) × IsAgain form event text printed

-- ---- a word in front of the text

again_short : (word text printed : List ℕ) (event : Event) → (length printed ≤ length text) ⊎ IsEntering event → (length (word ++ 32 ∷ printed) ≤ length (word ++ 32 ∷ text)) ⊎ IsEntering event
again_short word text printed event (inl short) = inl (omega (arith, length-append word (32 ∷ printed), length-append word (32 ∷ text)))
again_short word text printed event (inr entering) = inr entering

pub again_behind : (word : List ℕ) (form outer : List ℕ → Option Event) (event : Event) (text printed : List ℕ) → all_letters word ≡ true → ((x : List ℕ) → outer (word ++ 32 ∷ x) ≡ form x)
    → IsAgain form event text printed → IsAgain outer event (word ++ 32 ∷ text) (word ++ 32 ∷ printed)
again_behind word form outer event text printed letters read (inl same) = inl (ap (λ x. word ++ 32 ∷ x) same)
again_behind word form outer event text printed letters read (inr is) = inr (record {
  read = read printed ∙ is.read;
  letters = letters_joined word (32 ∷ printed) letters is.letters;
  short = again_short word text printed event is.short;
})

-- ---- which way was taken

pub some_is : {X : Type 0} (x y : X) → ◌≡◌ {A = Option X} (Some x) (Some y) → x ≡ y
some_is x y h = cc

pub either : {X : Type 0} (b : Bool) (first second : Option X) (y : X) → (if b then first else second) ≡ Some y
    → ((b ≡ true) × (first ≡ Some y)) ⊎ ((b ≡ false) × (second ≡ Some y))
either true first second y h = inl (refl, h)
either false first second y h = inr (refl, h)

pub option_map_is : {X Y : Type 0} (f : X → Y) (o : Option X) (y : Y) → option_map f o ≡ Some y → (x : X) × (o ≡ Some x) × (f x ≡ y)
option_map_is f None y h = absurd cc
option_map_is f (Some x) y h = (x, refl, some_is (f x) y h)

pub same_word : (word literal : List ℕ) → bytes_eq word literal ≡ true → word ≡ literal
same_word word literal h = (bytes_eq-Decides word literal).0 h
