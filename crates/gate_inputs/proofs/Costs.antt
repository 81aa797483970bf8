-- What an input's signature operations cost is bounded by the bytes of its script and witness.
use Rattle.std.proofs.Common.{◌≡◌, ℕ, zero, suc, ◌+◌, ◌*◌, ◌-◌, ◌≤◌, ◌<◌, ◌^◌, Bool, true, false, ◌&&◌, leb, eqb, cond, min, List, [], ◌∷◌, length, Option, Some, None, refl, arith}
use Rattle.std.specs.Prelude.{option_and_then, slice_get}
use Rattle.std.specs.List.{AllByRecursion}
use Rattle.std.specs.Option.{option_map_or}
use Rattle.std.proofs.lemmas.Bool.Decides.{nat_tests}
use Rattle.gate_tx.specs.declared.transaction.TxIn.{TxIn}
use Rattle.gate_tx.specs.Text.{IsInput, IsWitness}
use Rattle.gate_script.specs.Instructions.{Instruction, Push, Truncated, Plain, instructions}
use Rattle.gate_script.specs.Pushes.{item_of, items_of, is_push_only, push_stack_of}
use Rattle.gate_script.specs.Sigops.{sigops_of}
use Rattle.gate_script.specs.Templates.{template_of}
use Rattle.gate_script.proofs.Operations.{sigops_of-most}
use Rattle.gate_inputs.specs.Answers.{answers_of}
use Rattle.gate_inputs.specs.Laws.{CostsAreExact, LegacySigopsAreExact}
use Rattle.gate_inputs.specs.Reports.{is_pay_to_script_hash, last_of, redeem_of, counted_redeem, program_by, script_cost, witness_cost, cost_by, sigop_cost_of, legacy_sigops_by, legacy_sigops_of}

-- ---- a last item is one of the items

abbrev AreWithin : ℕ → List (List ℕ) → Type 0
AreWithin most items = AllByRecursion (λ (item : List ℕ). length item ≤ most) items

abbrev IsWithin : ℕ → Option (List ℕ) → Type 0
IsWithin most None = Unit {0}
IsWithin most (Some item) = length item ≤ most

get-within : (most : ℕ) (items : List (List ℕ)) (k : ℕ) → AreWithin most items → IsWithin most (slice_get items k)
get-within most [] k all = tt
get-within most (item ∷ items) zero all = all.0
get-within most (item ∷ items) (suc k) all = get-within most items k all.1

last-within : (most : ℕ) (items : List (List ℕ)) → AreWithin most items → IsWithin most (last_of items)
last-within most items all = get-within most items (length items - 1) all

-- ---- what is pushed has at most 520 bytes

item-short-by : (bytes : List ℕ) (b : Bool) → leb (length bytes) 520 ≡ b → IsWithin 520 (cond b (Some bytes) None)
item-short-by bytes true is = grind (arith, nat_tests)
item-short-by bytes false is = tt

plain-short-by : (opcode : ℕ) (a b c : Bool) → IsWithin 520 (cond a (Some []) (cond b (Some (0x81 ∷ [])) (cond c (Some ((opcode - 0x50) ∷ [])) None)))
plain-short-by opcode true b c = omega arith
plain-short-by opcode false true c = omega arith
plain-short-by opcode false false true = omega arith
plain-short-by opcode false false false = tt

item-short : (op : Instruction) → IsWithin 520 (item_of op)
item-short (Push opcode bytes) = item-short-by bytes (leb (length bytes) 520) refl
item-short (Truncated opcode) = tt
item-short (Plain opcode) = plain-short-by opcode (eqb opcode 0) (eqb opcode 0x4f) (leb 0x51 opcode && leb opcode 0x60)

abbrev AreShort : Option (List (List ℕ)) → Type 0
AreShort None = Unit {0}
AreShort (Some items) = AreWithin 520 items

both-short : (first : Option (List ℕ)) (rest : Option (List (List ℕ))) → IsWithin 520 first → AreShort rest → AreShort (option_and_then (λ x. option_and_then (λ xs. Some (x ∷ xs)) rest) first)
both-short None rest p q = tt
both-short (Some x) None p q = tt
both-short (Some x) (Some xs) p q = (p, q)

items-short : (ops : List Instruction) → AreShort (items_of ops)
unfolding items_of
items-short [] = tt
items-short (op ∷ ops) = both-short (item_of op) (items_of ops) (item-short op) (items-short ops)

few-short : (b : Bool) (items : List (List ℕ)) → AreWithin 520 items → AreShort (cond b (Some items) None)
few-short true items all = all
few-short false items all = tt

stack-short-by : (found : Option (List (List ℕ))) → AreShort found → AreShort (option_and_then (λ items. cond (leb (length items) 1000) (Some items) None) found)
stack-short-by None all = tt
stack-short-by (Some items) all = few-short (leb (length items) 1000) items all

redeem-short-by : (stack : Option (List (List ℕ))) → AreShort stack → IsWithin 520 (option_and_then last_of stack)
redeem-short-by None all = tt
redeem-short-by (Some items) all = last-within 520 items all

redeem-short : (script : List ℕ) → IsWithin 520 (redeem_of script)
unfolding redeem_of
redeem-short script = redeem-short-by (push_stack_of script) (stack-short-by (items_of (instructions script)) (items-short (instructions script)))

counted-short-by : (b : Bool) (redeem : Option (List ℕ)) → IsWithin 520 redeem → IsWithin 520 (cond b redeem None)
counted-short-by true redeem short = short
counted-short-by false redeem short = tt

-- ---- the three parts

found-cost : (accurate : Bool) (most : ℕ) (found : Option (List ℕ)) → IsWithin most found → option_map_or (sigops_of accurate) found 0 ≤ 20 * most
found-cost accurate most None within = omega arith
found-cost accurate most (Some script) within = omega (arith, sigops_of-most accurate script)

program-cost-by : (a b : Bool) (cost : ℕ) → cond a 1 (cond b cost 0) ≤ 1 + cost
program-cost-by true b cost = omega arith
program-cost-by false true cost = omega arith
program-cost-by false false cost = omega arith

witness-cost : (witness : List (List ℕ)) (program : Option (ℕ × List ℕ)) → witness_cost witness program ≤ 1 + script_cost witness
witness-cost witness None = omega arith
witness-cost witness (Some p) = program-cost-by (eqb p.0 0 && eqb (length p.1) 20) (eqb p.0 0 && eqb (length p.1) 32) (script_cost witness)

cost-most : (input : TxIn) (redeem : Option (List ℕ)) (program : Option (ℕ × List ℕ)) → IsInput input → IsWitness input → IsWithin 520 redeem → cost_by input redeem program < 2 ^ 64
cost-most input redeem program is witness short =
    let own = sigops_of-most false input.script in
    let behind = found-cost true 520 redeem short in
    let last = found-cost true 0x2000000 (last_of input.witness) (last-within 0x2000000 input.witness witness.items) in
    let script = is.script in
    omega (arith, witness-cost input.witness program)

exact : (cost kept : ℕ) → kept ≡ min cost (2 ^ 64 - 1) → cost < 2 ^ 64 → kept ≡ cost
exact cost kept e few = omega arith

pub costs_are_exact : CostsAreExact
unfolding answers_of sigop_cost_of
costs_are_exact input script is witness =
    let form = template_of script in
    let redeem = counted_redeem form input.script in
    let short = counted-short-by (is_pay_to_script_hash form && is_push_only input.script) (redeem_of input.script) (redeem-short input.script) in
    exact (cost_by input redeem (program_by form redeem script)) _ refl (cost-most input redeem (program_by form redeem script) is witness short)

-- ---- legacy operations

locking-count : (b : Bool) (redeem : Option (List ℕ)) (script : List ℕ) → IsWithin 520 redeem → length script ≤ 0x2000000
    → option_map_or (sigops_of true) (cond b redeem (Some script)) 0 ≤ 20 * 0x2000000
locking-count true redeem script short sized = omega (arith, found-cost true 520 redeem short)
locking-count false redeem script short sized = omega (arith, sigops_of-most true script)

pub legacy_sigops_are_exact : LegacySigopsAreExact
unfolding answers_of legacy_sigops_of
legacy_sigops_are_exact input script is sized =
    let form = template_of script in
    let redeem = redeem_of input.script in
    let own = sigops_of-most true input.script in
    let locking = locking-count (is_pay_to_script_hash form) redeem script (redeem-short input.script) sized in
    let unlocking = is.script in
    exact (legacy_sigops_by form input.script redeem script) _ refl (omega arith)
