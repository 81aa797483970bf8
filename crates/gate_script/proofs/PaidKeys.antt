-- A script that pays a key is the key pushed, and OP_CHECKSIG.
use Rattle.std.proofs.Common.{◌≡◌, ◌⊎◌, inl, inr, ℕ, ◌+◌, ◌-◌, Bool, true, false, ◌&&◌, ◌||◌, List, [], ◌∷◌, ◌++◌, length, take, refl, sym, ap, ◌∙◌, arith}
use Rattle.std.specs.Prelude.{slice_range, IsTrue}
use Rattle.std.proofs.Math.Seq.{take-append_seam}
use Rattle.std.proofs.lemmas.Bool.Decides.{nat_tests}
use Rattle.gate_script.specs.Patterns.{KeysArePatterns}
use Rattle.gate_script.specs.Templates.{frames, is_public_key, pays_key}
use Rattle.gate_script.proofs.Patterns.{frames_are_patterns}

abbrev PaysKey : List ℕ → Type 0
PaysKey script = (key : List ℕ) × IsTrue (is_public_key key) × (script ≡ length key ∷ (key ++ (0xac ∷ [])))

or_cases : (a b : Bool) → (a || b) ≡ true → (a ≡ true) ⊎ (b ≡ true)
or_cases true b e = inl refl
or_cases false b e = inr e

or_second : (a b : Bool) → b ≡ true → (a || b) ≡ true
or_second true b e = refl
or_second false b e = e

both : (a b : Bool) → (a && b) ≡ true → (a ≡ true) × (b ≡ true)
both true b e = (refl, e)
both false b e = absurd (cc)

-- the key between its size and OP_CHECKSIG
middle : (size : ℕ) (key : List ℕ) → length key ≡ size → slice_range (size ∷ (key ++ (0xac ∷ []))) 1 (1 + size) ≡ key
middle size key sized =
    let count : 1 + size - 1 ≡ length key = omega arith in
    ap (λ n. take n (key ++ (0xac ∷ []))) count ∙ take-append_seam key (0xac ∷ [])

found : (size : ℕ) (script : List ℕ) → (frames (size ∷ []) size (0xac ∷ []) script && is_public_key (slice_range script 1 (1 + size))) ≡ true → PaysKey script
found size script e =
    let two = both (frames (size ∷ []) size (0xac ∷ []) script) (is_public_key (slice_range script 1 (1 + size))) e in
    let is = (frames_are_patterns (size ∷ []) size (0xac ∷ []) script).0 two.0 in
    let key = is.0 in
    let at : slice_range script 1 (1 + size) ≡ key = ap (λ s. slice_range s 1 (1 + size)) is.2 ∙ middle size key is.1 in
    (key, sym (ap is_public_key at) ∙ two.1, is.2 ∙ ap (λ n. n ∷ (key ++ (0xac ∷ []))) (sym is.1))

held : (size : ℕ) (key script : List ℕ) → length key ≡ size → is_public_key key ≡ true → script ≡ size ∷ (key ++ (0xac ∷ [])) → (frames (size ∷ []) size (0xac ∷ []) script && is_public_key (slice_range script 1 (1 + size))) ≡ true
held size key script sized public is =
    let framed = (frames_are_patterns (size ∷ []) size (0xac ∷ []) script).1 (key, sized, is) in
    let at : slice_range script 1 (1 + size) ≡ key = ap (λ s. slice_range s 1 (1 + size)) is ∙ middle size key sized in
    ap (λ b. b && is_public_key (slice_range script 1 (1 + size))) framed ∙ ap is_public_key at ∙ public

sizes : (key : List ℕ) → is_public_key key ≡ true → (length key ≡ 33) ⊎ (length key ≡ 65)
sizes key public = grind (arith, nat_tests)

forward : (script : List ℕ) → pays_key script ≡ true → PaysKey script
forward script e =
    elim (or_cases (frames (33 ∷ []) 33 (0xac ∷ []) script && is_public_key (slice_range script 1 34)) (frames (65 ∷ []) 65 (0xac ∷ []) script && is_public_key (slice_range script 1 66)) e) [
      | inl short ↦ found 33 script short
      | inr long ↦ found 65 script long
    ]

backward : (script : List ℕ) → PaysKey script → pays_key script ≡ true
backward script is =
    elim (sizes is.0 is.1) [
      | inl short ↦ ap (λ b. b || (frames (65 ∷ []) 65 (0xac ∷ []) script && is_public_key (slice_range script 1 66))) (held 33 is.0 script short is.1 (is.2 ∙ ap (λ n. n ∷ (is.0 ++ (0xac ∷ []))) short))
      | inr long ↦ or_second _ _ (held 65 is.0 script long is.1 (is.2 ∙ ap (λ n. n ∷ (is.0 ++ (0xac ∷ []))) long))
    ]

pub keys_are_patterns : KeysArePatterns
keys_are_patterns script = (forward script, backward script)
