-- Counting the keys of a multisig script from the left.
use Rattle.std.proofs.Common.{◌≡◌, ℕ, suc, ◌+◌, ◌<◌, true, false, ◌&&◌, leb, cond, List, [], ◌∷◌, drop, Option, Some, None, refl, sym, ap, ◌∙◌, arith, zero-add, add-zero}
use Rattle.std.specs.List.{prefix_len}
use Rattle.std.proofs.lemmas.Bool.{cond-true, cond-false}
use Rattle.std.proofs.lemmas.Bool.Decides.{nat_tests}
use Rattle.gate_script.specs.Instructions.{Instruction, Plain}
use Rattle.gate_script.specs.Templates.{pushes_key, small_number, ends_multisig, multisig_with, multisig_after, multisig_of}

-- what a multisig script with so many keys before its instructions `left` is
abbrev pub finish : ℕ → ℕ → List Instruction → Option (ℕ × ℕ)
finish required before left = multisig_with required (before + prefix_len pushes_key left) (drop (prefix_len pushes_key left) left)

pub finish-none : (required : ℕ) (first : Instruction) (rest : List Instruction) → small_number first ≡ Some required → multisig_of (first ∷ rest) ≡ finish required 0 rest
finish-none required first rest small =
    ap (λ n. multisig_after n rest) small
    ∙ ap (λ keys. multisig_with required keys (drop (prefix_len pushes_key rest) rest)) (sym (zero-add (prefix_len pushes_key rest)))

pub finish-more : (required keys : ℕ) (op : Instruction) (left : List Instruction) → pushes_key op ≡ true → finish required keys (op ∷ left) ≡ finish required (keys + 1) left
finish-more required keys op left key =
    let more = prefix_len pushes_key left in
    let one : prefix_len pushes_key (op ∷ left) ≡ suc more = cond-true (pushes_key op) (1 + more) 0 key ∙ omega arith in
    let sum : keys + suc more ≡ keys + 1 + more = omega arith in
    ap (λ n. multisig_with required (keys + n) (drop n (op ∷ left))) one ∙ ap (λ n. multisig_with required n (drop more left)) sum

pub finish-stop : (required keys : ℕ) (op : Instruction) (left : List Instruction) → pushes_key op ≡ false → finish required keys (op ∷ left) ≡ multisig_with required keys (op ∷ left)
finish-stop required keys op left key =
    let none : prefix_len pushes_key (op ∷ left) ≡ 0 = cond-false (pushes_key op) (1 + prefix_len pushes_key left) 0 key in
    ap (λ n. multisig_with required (keys + n) (drop n (op ∷ left))) none ∙ ap (λ n. multisig_with required n (op ∷ left)) (add-zero keys)

ends_multisig-past : (keys : ℕ) (left : List Instruction) → 16 < keys → ends_multisig keys left ≡ false
ends_multisig-past keys [] past = refl
ends_multisig-past keys (Plain count ∷ []) past = refl
ends_multisig-past keys (Plain count ∷ (Plain check ∷ [])) past = grind (arith, nat_tests)
ends_multisig-past keys _ past = refl

pub finish-past : (required : ℕ) (op : Instruction) (left : List Instruction) → pushes_key op ≡ true → finish required 16 (op ∷ left) ≡ None
finish-past required op left key =
    let more = prefix_len pushes_key left in
    let none : ends_multisig (16 + 1 + more) (drop more left) ≡ false = ends_multisig-past (16 + 1 + more) (drop more left) (omega arith) in
    finish-more required 16 op left key ∙ ap (λ b. cond (b && leb required (16 + 1 + more)) (Some (required, 16 + 1 + more)) None) none

pub finish-end : (required keys : ℕ) → finish required keys [] ≡ None
finish-end required keys = refl
