-- The form with flag 1 without marker, flag and witnesses is the form without witnesses.
use Rattle.std.proofs.Common.{◌≡◌, ℕ, ◌+◌, ◌-◌, ◌*◌, ◌≤◌, Bool, cond, List, ◌∷◌, ◌++◌, length, take, drop, refl, sym, ap, ◌∙◌, append_assoc, length-append, arith}
use Rattle.std.specs.Prelude.{slice_range}
use Rattle.std.specs.List.{flat_map}
use Rattle.std.specs.Int.{w32, cast_unsigned}
use Rattle.std.proofs.Math.Seq.{take-append_seam, drop-append_seam, drop-append-add}
use Rattle.byteorder.specs.Endian.{little_bytes}
use Rattle.byteorder.specs.Numbers.{length-bytes_low_first}
use Rattle.gate_tx.specs.Tx.{Tx}
use Rattle.gate_tx.specs.Text.{vector, input, output, witness, has_witness, stripped, extended, text, longest, Spells}
use Rattle.gate_tx.specs.Sizes.{stripped_size_of, weight_of}
use Rattle.gate_tx.proofs.Bounds.{length-stripped, length-extended, length-text}

abbrev whole : List ℕ → List ℕ → List ℕ → List ℕ → List ℕ
whole a b w d = a ++ (0 ∷ 1 ∷ (b ++ (w ++ d)))

abbrev pub cut : ℕ → ℕ → List ℕ → List ℕ
cut lists_end locktime bytes = take 4 bytes ++ (slice_range bytes 6 lists_end ++ drop locktime bytes)

lists_of : (a b w d : List ℕ) → length a ≡ 4 → slice_range (whole a b w d) 6 (6 + length b) ≡ b
lists_of a b w d four =
    let six : length a + 2 ≡ 6 = omega arith in
    let rest : drop 6 (whole a b w d) ≡ b ++ (w ++ d) = ap (λ n. drop n (whole a b w d)) (sym six) ∙ drop-append-add a (0 ∷ 1 ∷ (b ++ (w ++ d))) 2 in
    let count : 6 + length b - 6 ≡ length b = omega arith in
    ap (λ n. take n (drop 6 (whole a b w d))) count ∙ ap (take (length b)) rest ∙ take-append_seam b (w ++ d)

end_of : (a b w d : List ℕ) → drop (length (whole a b w d) - length d) (whole a b w d) ≡ d
end_of a b w d =
    let front = a ++ (0 ∷ 1 ∷ (b ++ w)) in
    let parts : whole a b w d ≡ front ++ d = simp append_assoc in
    let count : length (front ++ d) - length d ≡ length front = omega (arith, length-append front d) in
    ap (λ x. drop (length x - length d) x) parts ∙ ap (λ n. drop n (front ++ d)) count ∙ drop-append_seam front d

cut_of : (a b w d : List ℕ) → length a ≡ 4 → length d ≡ 4 → cut (6 + length b) (length (whole a b w d) - 4) (whole a b w d) ≡ a ++ (b ++ d)
cut_of a b w d four last =
    let first : take 4 (whole a b w d) ≡ a = ap (λ n. take n (whole a b w d)) (sym four) ∙ take-append_seam a (0 ∷ 1 ∷ (b ++ (w ++ d))) in
    let end : drop (length (whole a b w d) - 4) (whole a b w d) ≡ d = ap (λ n. drop (length (whole a b w d) - n) (whole a b w d)) (sym last) ∙ end_of a b w d in
    rw (first, lists_of a b w d four, end) refl

abbrev version_of : Tx → List ℕ
version_of t = little_bytes 4 (cast_unsigned w32 t.version)

abbrev lists : Tx → List ℕ
lists t = vector input t.inputs ++ vector output t.outputs

extended-whole : (t : Tx) → extended t ≡ whole (version_of t) (lists t) (flat_map witness t.inputs) (little_bytes 4 t.locktime)
extended-whole t = ap (λ x. version_of t ++ (0 ∷ 1 ∷ x)) (sym (append_assoc (vector input t.inputs) (vector output t.outputs) (flat_map witness t.inputs ++ little_bytes 4 t.locktime)))

stripped-parts : (t : Tx) → version_of t ++ (lists t ++ little_bytes 4 t.locktime) ≡ stripped t
stripped-parts t = ap (λ x. version_of t ++ x) (append_assoc (vector input t.inputs) (vector output t.outputs) (little_bytes 4 t.locktime))

-- where the lists end, by the stripped size
lists_end : (t : Tx) → stripped_size_of t - 2 ≡ 6 + length (lists t)
unfolding stripped_size_of
lists_end t = omega (arith, length-stripped t, length-append (vector input t.inputs) (vector output t.outputs))

pub cut_is_stripped : (t : Tx) (bytes : List ℕ) → bytes ≡ extended t → cut (stripped_size_of t - 2) (length bytes - 4) bytes ≡ stripped t
cut_is_stripped t bytes is =
    let parts = is ∙ extended-whole t in
    let w = whole (version_of t) (lists t) (flat_map witness t.inputs) (little_bytes 4 t.locktime) in
    ap (λ n. cut n (length bytes - 4) bytes) (lists_end t)
    ∙ ap (λ x. cut (6 + length (lists t)) (length x - 4) x) parts
    ∙ cut_of (version_of t) (lists t) (flat_map witness t.inputs) (little_bytes 4 t.locktime) (length-bytes_low_first 0 4 (cast_unsigned w32 t.version)) (length-bytes_low_first 0 4 t.locktime)
    ∙ stripped-parts t

-- the places in order
pub record ArePlaces (size whole : ℕ) : Type 0 where
  pub lists : 8 ≤ size
  pub witnesses : size + 2 ≤ whole

pub places : (t : Tx) (bytes : List ℕ) → bytes ≡ extended t → ArePlaces (stripped_size_of t) (length bytes)
unfolding stripped_size_of
places t bytes is = record { lists = omega (arith, length-stripped t); witnesses = omega (arith, length-stripped t, length-extended t, ap length is) }

-- ---- by the text

pub text-extended : (t : Tx) (bytes : List ℕ) (b : Bool) → b ≡ has_witness t → bytes ≡ text t → bytes ≡ cond b (extended t) (stripped t)
text-extended t bytes b is spelled = spelled ∙ ap (λ w. cond w (extended t) (stripped t)) (sym is)

pub is_weighed : (t : Tx) (bytes : List ℕ) (size : ℕ) → Spells t bytes → size ≡ stripped_size_of t → (3 * size + length bytes ≡ weight_of t) × (size ≤ length bytes) × (length bytes ≤ longest)
unfolding stripped_size_of weight_of
is_weighed t bytes size s e = let long = ap length s.parts in (omega arith, omega (arith, length-stripped t, length-text t), omega (arith, s.is.size))
