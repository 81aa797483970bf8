-- Instructions spelled one after another are read as they are.
use Rattle.std.proofs.Common.{◌≡◌, ℕ, zero, suc, ◌≤◌, Bool, eqb, ltb, length-take, length-drop, Ok, ltb-true, ltb-false, ◌+◌, ◌-◌, ◌^◌, ◌<◌, true, false, leb, List, [], ◌∷◌, ◌++◌, length, take, drop, refl, sym, ap, ◌∙◌, subst, inl, inr, arith, append_assoc, length-append}
use Rattle.std.specs.Prelude.{slice_range}
use Rattle.std.specs.List.{flat_map, AllByRecursion}
use Rattle.std.proofs.Math.Seq.{drop-append_seam, take-append_seam, drop-nil}
use Rattle.std.proofs.lemmas.List.{drop-drop, take-append-drop}
use Rattle.std.proofs.lemmas.Bool.{cond-true, cond-false}
use Rattle.std.proofs.lemmas.Bool.Decides.{nat_tests}
use Rattle.byteorder.specs.Endian.{little_bytes, little_number}
use Rattle.byteorder.specs.Numbers.{length-bytes_low_first, little_number-reads_back}
use Rattle.gate_bytes.specs.Reading.{IsBytes, number_at}
use Rattle.gate_bytes.proofs.Numbers.{IsWide, wide1, wide2, wide4, number_takes}
use Rattle.gate_script.specs.Instructions.{Instruction, Push, Truncated, Plain, instructions, instructions_after, instruction_at, is_push, length_size, pushed_count, operand_size, PushesWhole}
use Rattle.gate_script.specs.Laws.{spelled, PushesThatMany, IsSpellable, IsUncut, SpellingsAreRead, ScriptsAreSpelled}
use Rattle.gate_script.proofs.Steps.{instructions-nil, plain-first, push-first, instruction_at-plain, instruction_at-push, instruction_at-truncated, operand_size-plain}

-- what a push opcode reads of the bytes that spell it
pub record IsPush (opcode count : ℕ) : Type 0 where
  pub push : is_push opcode ≡ true
  pub counted : (rest : List ℕ) → pushed_count opcode (little_bytes (length_size opcode) count ++ rest) ≡ count

by_number : (opcode n count : ℕ) (rest : List ℕ) → leb opcode 0x4b ≡ false → length_size opcode ≡ n → count < 256 ^ n → pushed_count opcode (little_bytes (length_size opcode) count ++ rest) ≡ count
by_number opcode n count rest long size few =
    cond-false (leb opcode 0x4b) _ _ long
    ∙ ap (λ m. little_number m (little_bytes m count ++ rest)) size
    ∙ little_number-reads_back n count rest few

long_push : (opcode n count : ℕ) → leb opcode 0x4b ≡ false → is_push opcode ≡ true → length_size opcode ≡ n → count < 256 ^ n → IsPush opcode count
long_push opcode n count long push size few = record { push = push; counted = λ rest. by_number opcode n count rest long size few }

is_that_push : (opcode count : ℕ) → PushesThatMany opcode count → IsPush opcode count
is_that_push opcode count (inl short) = record {
  push = let p = short.0 in let q = short.1 in grind (arith, nat_tests);
  counted = λ rest. let few : leb opcode 0x4b ≡ true = (let q = short.1 in grind (arith, nat_tests)) in cond-true (leb opcode 0x4b) _ _ few ∙ sym short.2;
}
is_that_push opcode count (inr (inl one)) = subst (λ o. IsPush o count) (sym one.0) (long_push 0x4c 1 count refl refl refl one.1)
is_that_push opcode count (inr (inr (inl two))) = subst (λ o. IsPush o count) (sym two.0) (long_push 0x4d 2 count refl refl refl two.1)
is_that_push opcode count (inr (inr (inr four))) = subst (λ o. IsPush o count) (sym four.0) (long_push 0x4e 4 count refl refl refl four.1)

pushes_whole : (opcode : ℕ) (bytes rest : List ℕ) → IsPush opcode (length bytes) → PushesWhole opcode ((little_bytes (length_size opcode) (length bytes) ++ bytes) ++ rest) bytes rest
pushes_whole opcode bytes rest is =
    let size = little_bytes (length_size opcode) (length bytes) in
    let tail = (size ++ bytes) ++ rest in
    let wide : length size ≡ length_size opcode = length-bytes_low_first 0 (length_size opcode) (length bytes) in
    let split : tail ≡ size ++ (bytes ++ rest) = append_assoc size bytes rest in
    let counted : pushed_count opcode tail ≡ length bytes = ap (pushed_count opcode) split ∙ is.counted (bytes ++ rest) in
    let whole : operand_size opcode tail ≡ length size + length bytes = cond-true (is_push opcode) (length_size opcode + pushed_count opcode tail) 0 is.push ∙ omega arith in
    let after : drop (length_size opcode) tail ≡ bytes ++ rest = ap (λ n. drop n tail) (sym wide) ∙ ap (drop (length size)) split ∙ drop-append_seam size (bytes ++ rest) in
    let long : length tail ≡ length size + length bytes + length rest = length-append (size ++ bytes) rest ∙ ap (λ n. n + length rest) (length-append size bytes) in
    let less : operand_size opcode tail - length_size opcode ≡ length bytes = omega arith in
    record {
      fits = omega arith;
      pushed = sym (ap (λ n. take n (drop (length_size opcode) tail)) less ∙ ap (take (length bytes)) after ∙ take-append_seam bytes rest);
      follows = sym (ap (λ n. drop n tail) (whole ∙ sym (length-append size bytes)) ∙ drop-append_seam (size ++ bytes) rest);
    }

spelled-first : (op : Instruction) (rest : List ℕ) → IsSpellable op → instructions (spelled op ++ rest) ≡ op ∷ instructions rest
spelled-first (Push opcode bytes) rest whole =
    let is = is_that_push opcode (length bytes) whole in
    push-first opcode ((little_bytes (length_size opcode) (length bytes) ++ bytes) ++ rest) bytes rest is.push (pushes_whole opcode bytes rest is)
spelled-first (Plain opcode) rest whole = plain-first opcode rest whole
spelled-first (Truncated opcode) rest whole = absurd whole

pub spellings_are_read : SpellingsAreRead
spellings_are_read [] all = instructions-nil
spellings_are_read (op ∷ ops) all = spelled-first op (flat_map spelled ops) all.0 ∙ ap (λ left. op ∷ left) (spellings_are_read ops all.1)

-- ---- and a script's instructions are what spells it

-- the bytes that say how many a push pushes are those behind its opcode
NumberStands : ℕ → List ℕ → Type 0
NumberStands opcode rest = little_bytes (length_size opcode) (pushed_count opcode rest) ++ drop (length_size opcode) rest ≡ rest

number_stands-by : (opcode n : ℕ) (rest : List ℕ) → IsWide n → IsBytes rest → n ≤ length rest → leb opcode 0x4b ≡ false → length_size opcode ≡ n → NumberStands opcode rest
unfolding NumberStands
number_stands-by opcode n rest wide bytes fits long size =
    let past : ltb (length rest) n ≡ false = grind (arith, nat_tests) in
    let read : number_at n rest ≡ Ok (little_number n rest, drop n rest) = cond-false (ltb (length rest) n) _ _ past in
    let counted : pushed_count opcode rest ≡ little_number n rest = cond-false (leb opcode 0x4b) _ _ long ∙ ap (λ m. little_number m rest) size in
    ap (λ m. little_bytes m (pushed_count opcode rest) ++ drop m rest) size
    ∙ ap (λ c. little_bytes n c ++ drop n rest) counted
    ∙ sym (number_takes n wide rest (little_number n rest, drop n rest) bytes read).0.parts

number_stands-of : (opcode : ℕ) (rest : List ℕ) (a b c : Bool) → leb opcode 0x4b ≡ a → eqb opcode 0x4c ≡ b → eqb opcode 0x4d ≡ c → is_push opcode ≡ true → IsBytes rest → length_size opcode ≤ length rest → NumberStands opcode rest
unfolding NumberStands
number_stands-of opcode rest true b c short one two push bytes fits =
    let none : length_size opcode ≡ 0 = grind (arith, nat_tests) in
    ap (λ m. little_bytes m (pushed_count opcode rest) ++ drop m rest) none
number_stands-of opcode rest false true c long one two push bytes fits =
    let size : length_size opcode ≡ 1 = cond-true (eqb opcode 0x4c) _ _ one in
    number_stands-by opcode 1 rest wide1 bytes (omega arith) long size
number_stands-of opcode rest false false true long one two push bytes fits =
    let size : length_size opcode ≡ 2 = cond-false (eqb opcode 0x4c) _ _ one ∙ cond-true (eqb opcode 0x4d) _ _ two in
    number_stands-by opcode 2 rest wide2 bytes (omega arith) long size
number_stands-of opcode rest false false false long one two push bytes fits =
    let four : eqb opcode 0x4e ≡ true = grind (arith, nat_tests) in
    let size : length_size opcode ≡ 4 = cond-false (eqb opcode 0x4c) _ _ one ∙ cond-false (eqb opcode 0x4d) _ _ two ∙ cond-true (eqb opcode 0x4e) _ _ four in
    number_stands-by opcode 4 rest wide4 bytes (omega arith) long size

-- a whole push and what follows it
push-spelled : (opcode : ℕ) (rest : List ℕ) → is_push opcode ≡ true → IsBytes rest → operand_size opcode rest ≤ length rest
    → spelled (Push opcode (slice_range rest (length_size opcode) (operand_size opcode rest))) ++ drop (operand_size opcode rest) rest ≡ opcode ∷ rest
unfolding NumberStands
push-spelled opcode rest push bytes fits =
    let n = length_size opcode in
    let count = pushed_count opcode rest in
    let pushed = slice_range rest n (operand_size opcode rest) in
    let whole : operand_size opcode rest ≡ n + count = cond-true (is_push opcode) (n + count) 0 push in
    let stands = number_stands-of opcode rest (leb opcode 0x4b) (eqb opcode 0x4c) (eqb opcode 0x4d) refl refl refl push bytes (omega arith) in
    let less : operand_size opcode rest - n ≡ count = omega arith in
    let is : pushed ≡ take count (drop n rest) = ap (λ m. take m (drop n rest)) less in
    let long : length pushed ≡ count = ap length is ∙ omega (arith, length-take count (drop n rest), length-drop n rest) in
    let after : pushed ++ drop (operand_size opcode rest) rest ≡ drop n rest =
    ap (λ xs. xs ++ drop (operand_size opcode rest) rest) is ∙ ap (λ m. take count (drop n rest) ++ drop m rest) whole
    ∙ ap (λ xs. take count (drop n rest) ++ xs) (sym (drop-drop count n rest)) ∙ take-append-drop count (drop n rest) in
    ap (λ xs. opcode ∷ xs)
    (append_assoc (little_bytes n (length pushed)) pushed (drop (operand_size opcode rest) rest)
    ∙ ap (λ xs. little_bytes n (length pushed) ++ xs) after
    ∙ ap (λ m. little_bytes n m ++ drop n rest) long
    ∙ stands)

IsBytes-rest : (b : ℕ) (rest : List ℕ) → IsBytes (b ∷ rest) → IsBytes rest
IsBytes-rest b rest bytes = λ i. bytes (suc i)

first-spelled : (opcode : ℕ) (rest : List ℕ) (push past : Bool) → is_push opcode ≡ push → ltb (length rest) (operand_size opcode rest) ≡ past → IsBytes rest → IsUncut (instruction_at opcode rest)
    → spelled (instruction_at opcode rest) ++ drop (operand_size opcode rest) rest ≡ opcode ∷ rest
first-spelled opcode rest false past is far bytes entire =
    ap (λ op. spelled op ++ drop (operand_size opcode rest) rest) (instruction_at-plain opcode rest is) ∙ ap (λ n. opcode ∷ drop n rest) (operand_size-plain opcode rest is)
first-spelled opcode rest true true is far bytes entire =
    absurd (subst IsUncut (instruction_at-truncated opcode rest is (ltb-true (length rest) (operand_size opcode rest) far)) entire)
first-spelled opcode rest true false is far bytes entire =
    let fits = ltb-false (length rest) (operand_size opcode rest) far in
    let whole : PushesWhole opcode rest (slice_range rest (length_size opcode) (operand_size opcode rest)) (drop (operand_size opcode rest) rest) = record { fits = fits; pushed = refl; follows = refl } in
    ap (λ op. spelled op ++ drop (operand_size opcode rest) rest) (instruction_at-push opcode rest _ _ is whole) ∙ push-spelled opcode rest is bytes fits

spelled-after : (skip : ℕ) (script : List ℕ) → IsBytes script → AllByRecursion IsUncut (instructions_after skip script) → flat_map spelled (instructions_after skip script) ≡ drop skip script
unfolding instructions_after
spelled-after skip [] bytes all = sym (drop-nil skip)
spelled-after zero (opcode ∷ rest) bytes all =
    let fits = IsBytes-rest opcode rest bytes in
    ap (λ xs. spelled (instruction_at opcode rest) ++ xs) (spelled-after (operand_size opcode rest) rest fits all.1)
    ∙ first-spelled opcode rest (is_push opcode) (ltb (length rest) (operand_size opcode rest)) refl refl fits all.0
spelled-after (suc skip) (b ∷ rest) bytes all = spelled-after skip rest (IsBytes-rest b rest bytes) all

pub scripts_are_spelled : ScriptsAreSpelled
scripts_are_spelled script bytes all = spelled-after 0 script bytes all
