-- Reading a script one instruction at a time.
use Rattle.std.proofs.Common.{◌≡◌, ℕ, zero, suc, ◌<◌, ◌≤◌, Bool, true, false, ltb, cond, List, [], ◌∷◌, length, drop, Ok, Err, Some, subst, refl, sym, ap, ◌∙◌, arith}
use Rattle.std.proofs.Math.ListN.{drop_of_length-le}
use Rattle.std.specs.Iterator.{MakesProgress, item_count}
use Rattle.std.proofs.lemmas.Bool.Decides.{nat_tests}
use Rattle.gate_bytes.specs.Reading.{number_at}
use Rattle.gate_bytes.specs.declared.fault.ByteFault.{ByteFault}
use Rattle.gate_script.specs.Instructions.{Instruction, Push, Truncated, Plain, instructions, instructions_after, instruction_at, operand_size, is_push, PushesWhole}

-- skipping bytes is reading what follows them
pub instructions_after-drop : (skip : ℕ) (script : List ℕ) → instructions_after skip script ≡ instructions (drop skip script)
unfolding instructions_after
instructions_after-drop zero [] = refl
instructions_after-drop (suc skip) [] = refl
instructions_after-drop zero (b ∷ rest) = refl
instructions_after-drop (suc skip) (b ∷ rest) = instructions_after-drop skip rest

pub instructions-cons : (opcode : ℕ) (rest : List ℕ) → instructions (opcode ∷ rest) ≡ instruction_at opcode rest ∷ instructions (drop (operand_size opcode rest) rest)
unfolding instructions_after
instructions-cons opcode rest = ap (λ left. instruction_at opcode rest ∷ left) (instructions_after-drop (operand_size opcode rest) rest)

pub instructions-nil : instructions [] ≡ []
unfolding instructions_after
instructions-nil = refl

-- one byte that was read
number_at-one : (script : List ℕ) (opcode : ℕ) (rest : List ℕ) → number_at 1 script ≡ Ok (opcode, rest) → script ≡ opcode ∷ rest
number_at-one [] opcode rest read = cc
number_at-one (b ∷ bytes) opcode rest read = grind (arith, nat_tests)

-- none was left
number_at-none : (script : List ℕ) (e : ByteFault) → number_at 1 script ≡ Err e → script ≡ []
number_at-none [] e read = refl
number_at-none (b ∷ bytes) e read = grind (arith, nat_tests)

pub read-none : (script : List ℕ) (e : ByteFault) → number_at 1 script ≡ Err e → instructions script ≡ []
read-none script e read = ap instructions (number_at-none script e read) ∙ instructions-nil

yes : {A : Type 0} (b : Bool) (x y : A) → b ≡ true → cond b x y ≡ x
yes b x y e = ap (λ t. cond t x y) e

no : {A : Type 0} (b : Bool) (x y : A) → b ≡ false → cond b x y ≡ y
no b x y e = ap (λ t. cond t x y) e

-- what an opcode of each kind is
pub instruction_at-plain : (opcode : ℕ) (rest : List ℕ) → is_push opcode ≡ false → instruction_at opcode rest ≡ Plain opcode
instruction_at-plain opcode rest plain = no (is_push opcode) _ _ plain

pub operand_size-plain : (opcode : ℕ) (rest : List ℕ) → is_push opcode ≡ false → operand_size opcode rest ≡ 0
operand_size-plain opcode rest plain = no (is_push opcode) _ _ plain

pub instruction_at-push : (opcode : ℕ) (rest bytes left : List ℕ) → is_push opcode ≡ true → PushesWhole opcode rest bytes left → instruction_at opcode rest ≡ Push opcode bytes
instruction_at-push opcode rest bytes left push whole =
    let fits : ltb (length rest) (operand_size opcode rest) ≡ false = grind (arith, nat_tests, whole.fits) in
    yes (is_push opcode) _ _ push ∙ no (ltb (length rest) (operand_size opcode rest)) _ _ fits ∙ ap (λ pushed. Push opcode pushed) (sym whole.pushed)

pub instruction_at-truncated : (opcode : ℕ) (rest : List ℕ) → is_push opcode ≡ true → length rest < operand_size opcode rest → instruction_at opcode rest ≡ Truncated opcode
instruction_at-truncated opcode rest push short =
    let past : ltb (length rest) (operand_size opcode rest) ≡ true = grind (arith, nat_tests) in
    yes (is_push opcode) _ _ push ∙ yes (ltb (length rest) (operand_size opcode rest)) _ _ past

pub plain-first : (opcode : ℕ) (rest : List ℕ) → is_push opcode ≡ false → instructions (opcode ∷ rest) ≡ Plain opcode ∷ instructions rest
plain-first opcode rest plain =
    instructions-cons opcode rest
    ∙ ap (λ first. first ∷ instructions (drop (operand_size opcode rest) rest)) (instruction_at-plain opcode rest plain)
    ∙ ap (λ n. Plain opcode ∷ instructions (drop n rest)) (operand_size-plain opcode rest plain)

pub push-first : (opcode : ℕ) (rest bytes left : List ℕ) → is_push opcode ≡ true → PushesWhole opcode rest bytes left → instructions (opcode ∷ rest) ≡ Push opcode bytes ∷ instructions left
push-first opcode rest bytes left push whole =
    instructions-cons opcode rest
    ∙ ap (λ first. first ∷ instructions (drop (operand_size opcode rest) rest)) (instruction_at-push opcode rest bytes left push whole)
    ∙ ap (λ after. Push opcode bytes ∷ instructions after) (sym whole.follows)

pub read-plain : (script : List ℕ) (opcode : ℕ) (rest : List ℕ) → number_at 1 script ≡ Ok (opcode, rest) → is_push opcode ≡ false → instructions script ≡ Plain opcode ∷ instructions rest
read-plain script opcode rest read plain = ap instructions (number_at-one script opcode rest read) ∙ plain-first opcode rest plain

pub read-push : (script : List ℕ) (opcode : ℕ) (rest bytes left : List ℕ) → number_at 1 script ≡ Ok (opcode, rest) → is_push opcode ≡ true → PushesWhole opcode rest bytes left → instructions script ≡ Push opcode bytes ∷ instructions left
read-push script opcode rest bytes left read push whole = ap instructions (number_at-one script opcode rest read) ∙ push-first opcode rest bytes left push whole

pub read-truncated : (script : List ℕ) (opcode : ℕ) (rest : List ℕ) → number_at 1 script ≡ Ok (opcode, rest) → is_push opcode ≡ true → length rest < operand_size opcode rest → instructions script ≡ Truncated opcode ∷ instructions []
read-truncated script opcode rest read push short =
    let past : length rest ≤ operand_size opcode rest = omega arith in
    ap instructions (number_at-one script opcode rest read) ∙ instructions-cons opcode rest ∙ ap (λ first. first ∷ instructions (drop (operand_size opcode rest) rest)) (instruction_at-truncated opcode rest push short) ∙ ap (λ after. Truncated opcode ∷ instructions after) (drop_of_length-le rest past)

-- a call that gave the first instruction left
pub goes-first : {A : Type 0} (can : List Instruction → Type 0) → ((left : List Instruction) → can left) → (s t : List Instruction) (op : A) (first : Instruction) → s ≡ first ∷ t → MakesProgress can (item_count (λ left. left)) s (Some op) t
goes-first can always s t op first e = record {
  on = λ _. (always t, tt, subst (λ left. length t < length left) (sym e) (omega arith));
  keeps = always t;
  rests = λ _. tt;
}
