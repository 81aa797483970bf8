-- A text that is short enough has counts that are read: what has ranges, a shape and such a text is a transaction.
use Rattle.std.proofs.Common.{◌≡◌, ℕ, ◌+◌, ◌*◌, ◌<◌, ◌≤◌, Bool, true, false, cond, ltb, List, [], ◌∷◌, ◌++◌, length, refl, arith}
use Rattle.std.specs.Int.{w32, cast_unsigned}
use Rattle.std.specs.List.{flat_map, list_any, AllByRecursion}
use Rattle.std.proofs.lemmas.List.{length-append}
use Rattle.std.proofs.lemmas.List.Concat.{flat_map-cons}
use Rattle.byteorder.specs.Endian.{little_bytes}
use Rattle.byteorder.specs.Numbers.{length-bytes_low_first}
use Rattle.gate_bytes.specs.Compact.{compact, IsCount}
use Rattle.gate_tx.specs.declared.transaction.TxIn.{TxIn}
use Rattle.gate_tx.specs.declared.transaction.TxOut.{TxOut}
use Rattle.gate_tx.specs.Tx.{Tx}
use Rattle.gate_tx.specs.Text.{var_bytes, vector, input, output, witness, is_nonempty, has_witness, stripped, extended, text, longest, IsInput, IsOutput, IsWitness, IsTx, IsTransaction}
use Rattle.gate_tx.specs.Sizes.{stripped_size_of, full_size_of, weight_of}
use Rattle.gate_tx.specs.Internal.{capped, stripped_lists, witness_lists, IsRangedInput, IsRangedOutput, IsRanged}
use Rattle.gate_tx.proofs.Whole.{or_false, is_empty}

-- ---- how long the texts of lists are

module _ {X : Type 0} (text : X → List ℕ) where
  flat-cons : (x : X) (xs : List X) → length (flat_map text (x ∷ xs)) ≡ length (text x) + length (flat_map text xs)
  flat-cons x xs = rw flat_map-cons (length-append (text x) (flat_map text xs))

  -- each item has at least one byte
  pub items-le : ((x : X) → 0 < length (text x)) → (xs : List X) → length xs ≤ length (flat_map text xs)
  items-le some [] = omega arith
  items-le some (x ∷ xs) = omega (arith, some x, items-le some xs, flat-cons x xs)

  -- what follows of each item from the length of its text
  pub each_within : {P Q : X → Type 0} (m : ℕ) → ((x : X) → length (text x) ≤ m → P x → Q x) → (xs : List X) → length (flat_map text xs) ≤ m → AllByRecursion P xs → AllByRecursion Q xs
  each_within m step [] le all = tt
  each_within m step (x ∷ xs) le all = (step x (omega (arith, flat-cons x xs)) all.0, each_within m step xs (omega (arith, flat-cons x xs)) all.1)

some_of : (b : Bool) (x y : List ℕ) → 0 < length x → 0 < length y → 0 < length (cond b x y)
some_of true x y p q = p
some_of false x y p q = q

compact-some : (n : ℕ) → 0 < length (compact n)
compact-some n =
    let eight : List ℕ = 255 ∷ little_bytes 8 n in
    let four : List ℕ = cond (ltb n 4294967296) (254 ∷ little_bytes 4 n) eight in
    let two : List ℕ = cond (ltb n 65536) (253 ∷ little_bytes 2 n) four in
    let some_four : 0 < length four = some_of (ltb n 4294967296) (254 ∷ little_bytes 4 n) eight (omega arith) (omega arith) in
    let some_two : 0 < length two = some_of (ltb n 65536) (253 ∷ little_bytes 2 n) four (omega arith) some_four in
    some_of (ltb n 253) (n ∷ []) two (omega arith) some_two

pub var_bytes-le : (s : List ℕ) → length s < length (var_bytes s)
var_bytes-le s = omega (arith, length-append (compact (length s)) s, compact-some (length s))

vector-le : {X : Type 0} (text : X → List ℕ) (xs : List X) → length (flat_map text xs) ≤ length (vector text xs)
vector-le text xs = omega (arith, length-append (compact (length xs)) (flat_map text xs))

-- ---- the parts

input-le : (i : TxIn) → length i.script < length (input i)
input-le i = simp length-append (omega (arith, var_bytes-le i.script))

output-le : (o : TxOut) → length o.script < length (output o)
output-le o = simp length-append (omega (arith, var_bytes-le o.script))

inputs_within : (xs : List TxIn) → length (flat_map input xs) ≤ longest → AllByRecursion IsRangedInput xs → AllByRecursion IsInput xs
inputs_within xs le all =
    each_within input longest (λ i small is. record { txid = is.txid; index = is.index; script = omega (arith, input-le i); sequence = is.sequence }) xs le all

outputs_within : (xs : List TxOut) → length (flat_map output xs) ≤ longest → AllByRecursion IsRangedOutput xs → AllByRecursion IsOutput xs
outputs_within xs le all =
    each_within output longest (λ o small is. record { value = is; script = omega (arith, output-le o) }) xs le all

-- what needs no premise
trivially : {X : Type 0} (xs : List X) → AllByRecursion (λ _. Unit {0}) xs
trivially [] = tt
trivially (x ∷ xs) = (tt, trivially xs)

witness_within : (i : TxIn) → length (witness i) ≤ longest → IsWitness i
witness_within i small =
    let le = vector-le var_bytes i.witness in record {
      count = omega (arith, items-le var_bytes (λ s. omega (arith, var_bytes-le s)) i.witness);
      items = each_within var_bytes longest (λ s short _. omega (arith, var_bytes-le s)) i.witness (omega arith) (trivially i.witness);
    }

witnesses_within : (xs : List TxIn) → length (flat_map witness xs) ≤ longest → AllByRecursion IsWitness xs
witnesses_within xs le = each_within witness longest (λ i small _. witness_within i small) xs le (trivially xs)

-- empty witnesses
none_full : (xs : List TxIn) → list_any (λ i. is_nonempty i.witness) xs ≡ false → AllByRecursion IsWitness xs
none_full [] e = tt
none_full (i ∷ xs) e =
    let p = or_false (is_nonempty i.witness) (list_any (λ i. is_nonempty i.witness) xs) e in
    let bare = is_empty i.witness p.0 in
    (record { count = rw bare (omega arith); items = rw bare tt }, none_full xs p.1)

-- ---- the whole

lengths3 : (a b c d : List ℕ) → length (a ++ (b ++ (c ++ d))) ≡ length a + (length b + (length c + length d))
lengths3 a b c d = simp length-append refl

lengths5 : (a b c d e : List ℕ) → length (a ++ (0 ∷ 1 ∷ (b ++ (c ++ (d ++ e))))) ≡ length a + (2 + (length b + (length c + (length d + length e))))
lengths5 a b c d e = simp length-append (omega arith)

pub length-stripped : (t : Tx) → length (stripped t) ≡ stripped_lists t.inputs t.outputs
length-stripped t =
    let whole = lengths3 (little_bytes 4 (cast_unsigned w32 t.version)) (vector input t.inputs) (vector output t.outputs) (little_bytes 4 t.locktime) in
    omega (arith, whole, length-bytes_low_first 0 4 (cast_unsigned w32 t.version), length-bytes_low_first 0 4 t.locktime)

pub length-extended : (t : Tx) → length (extended t) ≡ stripped_lists t.inputs t.outputs + (2 + length (flat_map witness t.inputs))
length-extended t =
    let whole = lengths5 (little_bytes 4 (cast_unsigned w32 t.version)) (vector input t.inputs) (vector output t.outputs) (flat_map witness t.inputs) (little_bytes 4 t.locktime) in
    omega (arith, whole, length-bytes_low_first 0 4 (cast_unsigned w32 t.version), length-bytes_low_first 0 4 t.locktime)

by_witness : (t : Tx) (b : Bool) → length (cond b (extended t) (stripped t)) ≡ stripped_lists t.inputs t.outputs + cond b (2 + length (flat_map witness t.inputs)) 0
by_witness t true = length-extended t
by_witness t false = omega (arith, length-stripped t)

pub length-text : (t : Tx) → length (text t) ≡ stripped_lists t.inputs t.outputs + witness_lists t.inputs
length-text t = by_witness t (has_witness t)

witnesses_fit : (t : Tx) (b : Bool) → has_witness t ≡ b → length (text t) ≤ longest → AllByRecursion IsWitness t.inputs
witnesses_fit t true has le =
    let whole : length (extended t) ≤ longest = rw has at le in
    witnesses_within t.inputs (omega (arith, length-extended t))
witnesses_fit t false has le = none_full t.inputs has

pub is_transaction : (t : Tx) → IsRanged t → (t.inputs ≡ [] → t.outputs ≡ []) → length (text t) ≤ longest → IsTransaction t
is_transaction t ranged shape le =
    let all = length-text t in
    let ins = vector-le input t.inputs in
    let outs = vector-le output t.outputs in
    let few_ins : IsCount (length t.inputs) = omega (arith, items-le input (λ i. omega (arith, input-le i)) t.inputs) in
    let few_outs : IsCount (length t.outputs) = omega (arith, items-le output (λ o. omega (arith, output-le o)) t.outputs) in
    let is : IsTx t = record {
      version = ranged.version;
      input_count = few_ins;
      inputs = inputs_within t.inputs (omega arith) ranged.inputs;
      witnesses = witnesses_fit t (has_witness t) refl le;
      output_count = few_outs;
      outputs = outputs_within t.outputs (omega arith) ranged.outputs;
      locktime = ranged.locktime;
      shape = shape;
    } in
    record { is_tx = is; size = le }

-- ---- the sizes, as the calls answer them

pub is_stripped_size : (t : Tx) (n : ℕ) → length (text t) ≤ longest → n ≡ capped (stripped_lists t.inputs t.outputs) → n ≡ stripped_size_of t
unfolding stripped_size_of
is_stripped_size t n le e = omega (arith, length-text t, length-stripped t)

pub is_full_size : (t : Tx) (m n : ℕ) → length (text t) ≤ longest → m ≡ capped (stripped_lists t.inputs t.outputs) → n ≡ capped (witness_lists t.inputs) → m + n ≡ full_size_of t
unfolding full_size_of
is_full_size t m n le p q = omega (arith, length-text t)

pub is_weight : (t : Tx) (m n : ℕ) → length (text t) ≤ longest → m ≡ capped (stripped_lists t.inputs t.outputs) → n ≡ capped (witness_lists t.inputs) → 3 * m + (m + n) ≡ weight_of t
unfolding weight_of
is_weight t m n le p q = omega (arith, length-text t, length-stripped t)
