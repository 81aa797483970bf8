-- The instructions of a multisig, there and back.
use Rattle.std.proofs.Common.{◌≡◌, ℕ, suc, ◌+◌, ◌-◌, ◌<◌, ◌≤◌, Bool, true, false, ◌&&◌, leb, cond, List, [], ◌∷◌, ◌++◌, length, take, drop, Option, Some, None, refl, sym, ap, ◌∙◌, arith}
use Rattle.std.specs.List.{prefix_len, list_all}
use Rattle.std.proofs.Math.Seq.{drop-append_seam}
use Rattle.std.proofs.lemmas.Bool.{cond-true}
use Rattle.std.proofs.lemmas.Bool.Decides.{nat_tests}
use Rattle.std.proofs.lemmas.List.{take-append-drop}
use Rattle.std.proofs.lemmas.List.Folds.{length-prefix_len}
use Rattle.gate_script.specs.Instructions.{Instruction, Push, Truncated, Plain}
use Rattle.gate_script.specs.Patterns.{MultisigsArePatterns}
use Rattle.gate_script.specs.Templates.{pushes_key, small_number, ends_multisig, multisig_with, multisig_after, multisig_of}

and_true : (a b : Bool) → (a && b) ≡ true → (a ≡ true) × (b ≡ true)
and_true true b e = (refl, e)
and_true false b e = absurd (cc)

chosen : (b : Bool) (x y : ℕ × ℕ) → cond b (Some x) None ≡ Some y → (b ≡ true) × (x ≡ y)
chosen true x y e = let same : x ≡ y = cc in (refl, same)
chosen false x y e = absurd (cc)

-- ---- the keys in front

passing-by : (x : Instruction) (xs : List Instruction) (b : Bool) → pushes_key x ≡ b → list_all pushes_key (take (prefix_len pushes_key xs) xs) ≡ true
    → list_all pushes_key (take (cond b (1 + prefix_len pushes_key xs) 0) (x ∷ xs)) ≡ true
passing-by x xs false e h = refl
passing-by x xs true e h =
    let n = prefix_len pushes_key xs in
    let next : 1 + n ≡ suc n = omega arith in
    ap (λ k. list_all pushes_key (take k (x ∷ xs))) next ∙ ap (λ b. b && list_all pushes_key (take n xs)) e ∙ h

passing : (xs : List Instruction) → list_all pushes_key (take (prefix_len pushes_key xs) xs) ≡ true
passing [] = refl
passing (x ∷ xs) = passing-by x xs (pushes_key x) refl (passing xs)

prefix-keys : (keys rest : List Instruction) → list_all pushes_key keys ≡ true → prefix_len pushes_key rest ≡ 0 → prefix_len pushes_key (keys ++ rest) ≡ length keys
prefix-keys [] rest all none = none
prefix-keys (x ∷ keys) rest all none =
    let both = and_true (pushes_key x) (list_all pushes_key keys) all in
    cond-true (pushes_key x) (1 + prefix_len pushes_key (keys ++ rest)) 0 both.0 ∙ omega (arith, prefix-keys keys rest both.1 none)

-- ---- the number in front, and the end

small-by : (opcode required : ℕ) (b : Bool) → (leb 0x51 opcode && leb opcode 0x60) ≡ b → cond b (Some (opcode - 0x50)) None ≡ Some required → (Plain opcode ≡ Plain (0x50 + required)) × (1 ≤ required)
small-by opcode required true is e =
    let same : opcode - 0x50 ≡ required = cc in
    let low : 0x51 ≤ opcode = grind (arith, nat_tests) in
    let whole : opcode ≡ 0x50 + required = omega arith in
    (ap Plain whole, omega arith)
small-by opcode required false is e = absurd (cc)

small : (first : Instruction) (required : ℕ) → small_number first ≡ Some required → (first ≡ Plain (0x50 + required)) × (1 ≤ required)
small (Push opcode bytes) required e = absurd (cc)
small (Truncated opcode) required e = absurd (cc)
small (Plain opcode) required e = small-by opcode required (leb 0x51 opcode && leb opcode 0x60) refl e

small-of : (m : ℕ) → 1 ≤ m → m ≤ 16 → small_number (Plain (0x50 + m)) ≡ Some m
small-of m some few =
    let yes : (leb 0x51 (0x50 + m) && leb (0x50 + m) 0x60) ≡ true = grind (arith, nat_tests) in
    let same : 0x50 + m - 0x50 ≡ m = omega arith in
    cond-true _ (Some (0x50 + m - 0x50)) None yes ∙ ap Some same

abbrev ending : ℕ → List Instruction
ending n = Plain (0x50 + n) ∷ Plain 0xae ∷ []

pub record IsEnding (keys : ℕ) (left : List Instruction) : Type 0 where
  pub some : 0 < keys
  pub few : keys ≤ 16
  pub parts : left ≡ ending keys

ends : (keys : ℕ) (left : List Instruction) → ends_multisig keys left ≡ true → IsEnding keys left
ends keys [] e = absurd (cc)
ends keys (Plain count ∷ []) e = absurd (cc)
ends keys (Plain count ∷ (Plain check ∷ [])) e =
    let counted : count ≡ 0x50 + keys = grind (arith, nat_tests) in
    let checked : check ≡ 0xae = grind (arith, nat_tests) in
    record { some = grind (arith, nat_tests); few = grind (arith, nat_tests); parts = cc }
ends keys _ e = absurd (cc)

-- ---- there and back

abbrev IsMultisig : ℕ → ℕ → List Instruction → Type 0
IsMultisig m n ops = (keys : List Instruction) × (list_all pushes_key keys ≡ true) × (length keys ≡ n) × (1 ≤ m) × (m ≤ n) × (n ≤ 16) × (ops ≡ Plain (0x50 + m) ∷ (keys ++ ending n))

by_first : (m n : ℕ) (first : Instruction) (rest : List Instruction) (found : Option ℕ) → small_number first ≡ found → multisig_after found rest ≡ Some (m, n) → IsMultisig m n (first ∷ rest)
by_first m n first rest None is e = absurd (cc)
by_first m n first rest (Some required) is e =
    let p = prefix_len pushes_key rest in
    let found = chosen (ends_multisig p (drop p rest) && leb required p) (required, p) (m, n) e in
    let both = and_true (ends_multisig p (drop p rest)) (leb required p) found.0 in
    let end = ends p (drop p rest) both.0 in
    let enough : required ≤ p = (let h = both.1 in grind (arith, nat_tests)) in
    let of_m : required ≡ m = ap (λ (x : ℕ × ℕ). x.0) found.1 in
    let of_n : p ≡ n = ap (λ (x : ℕ × ℕ). x.1) found.1 in
    let number = small first required is in
    let parts : first ∷ rest ≡ Plain (0x50 + m) ∷ (take p rest ++ ending n) =
    ap (λ f. f ∷ rest) (number.0 ∙ ap (λ r. Plain (0x50 + r)) of_m)
    ∙ ap (λ r. Plain (0x50 + m) ∷ r) (sym (take-append-drop p rest) ∙ ap (λ r. take p rest ++ r) (end.parts ∙ ap ending of_n)) in
    (take p rest, passing rest, length-prefix_len pushes_key rest ∙ of_n, omega (arith, number.1), omega arith, omega (arith, end.few), parts)

forward : (m n : ℕ) (ops : List Instruction) → multisig_of ops ≡ Some (m, n) → IsMultisig m n ops
forward m n [] e = absurd (cc)
forward m n (first ∷ rest) e = by_first m n first rest (small_number first) refl e

backward : (m n : ℕ) (ops : List Instruction) → IsMultisig m n ops → multisig_of ops ≡ Some (m, n)
backward m n ops is =
    let keys = is.0 in
    let some : 1 ≤ m = is.3 in
    let enough : m ≤ n = is.4 in
    let few : n ≤ 16 = is.5 in
    let counted : prefix_len pushes_key (keys ++ ending n) ≡ n = prefix-keys keys (ending n) is.1 refl ∙ is.2 in
    let behind : drop n (keys ++ ending n) ≡ ending n = ap (λ k. drop k (keys ++ ending n)) (sym is.2) ∙ drop-append_seam keys (ending n) in
    let yes : (ends_multisig n (ending n) && leb m n) ≡ true = grind (arith, nat_tests) in
    ap multisig_of is.6
    ∙ ap (λ o. multisig_after o (keys ++ ending n)) (small-of m some (omega arith))
    ∙ ap (λ k. multisig_with m k (drop k (keys ++ ending n))) counted
    ∙ ap (multisig_with m n) behind
    ∙ cond-true _ (Some (m, n)) None yes

pub multisigs_are_patterns : MultisigsArePatterns
multisigs_are_patterns m n ops = (forward m n ops, backward m n ops)
