-- Reading a block gives what its bytes spell.
use Rattle.std.proofs.Common.{◌≡◌, ℕ, ◌+◌, ◌<◌, ◌≤◌, Bool, true, false, cond, List, [], ◌∷◌, ◌++◌, length, take, drop, Option, Some, None, nat_lt, Result, Ok, Err, refl, sym, ap, subst, ◌∙◌, arith}
use Rattle.std.proofs.lemmas.Bool.{le-ltb, ltb-false}
use Rattle.std.proofs.lemmas.Bool.Decides.{nat_tests}
use Rattle.std.proofs.lemmas.List.{append-nil, take_at, drop_at, take-append-drop, length-append, length-take}
use Rattle.gate_bytes.specs.Reading.{IsBytes}
use Rattle.gate_bytes.proofs.Numbers.{IsBytes-drop}
use Rattle.gate_tx.specs.Tx.{Tx}
use Rattle.gate_tx.specs.Text.{text, vector, longest, IsTx}
use Rattle.gate_tx.specs.Reading.{Fails, vector_at, tx_at}
use Rattle.gate_tx.specs.declared.TxFault.{TxFault}
use Rattle.gate_tx.specs.declared.TxFault.TheVariants as tx
use Rattle.gate_tx.proofs.Steps.{IsRead, list_takes, list_again}
use Rattle.gate_tx.proofs.Whole.{tx_takes}
use Rattle.gate_tx.proofs.Again.{tx_again}
use Rattle.gate_chain.specs.Blocks.{Block}
use Rattle.gate_chain.specs.declared.ChainFault.{ChainFault}
use Rattle.gate_chain.specs.declared.ChainFault.TheVariants.{Memory, Denied}
use Rattle.gate_block.specs.Text.{SpellsBlock}
use Rattle.gate_block.specs.Reading.{ended, all_transactions, with_header, decoded_block, block_fault, GivesAll, GivesBlock}

tx_law : IsRead tx_at text IsTx
tx_law = record { takes = tx_takes; again = tx_again }

abbrev some_of : {X : Type 0} → X → Option X
some_of x = Some x

some_is : {X : Type 0} (x y : X) → some_of x ≡ some_of y → x ≡ y
some_is x y e = cc

ended_is : (r : Result (List Tx × List ℕ) TxFault) (txs : List Tx) → ended r ≡ Some txs → r ≡ Ok (txs, [])
ended_is (Ok (x, [])) txs e = ap (λ (y : List Tx). as_read y) (some_is x txs e)
  where
    as_read : List Tx → Result (List Tx × List ℕ) TxFault
    as_read y = Ok (y, [])
ended_is (Ok (x, b ∷ rest)) txs e = absurd cc
ended_is (Err f) txs e = absurd cc

guarded : {X : Type 0} (b : Bool) (r : Option X) (x : X) → cond b None r ≡ Some x → (b ≡ false) × (r ≡ Some x)
guarded true r x e = absurd cc
guarded false r x e = (refl, e)

headed : (header : List ℕ) (o : Option (List Tx)) (b : Block) → with_header header o ≡ Some b → (header ≡ b.header) × (o ≡ Some b.transactions)
headed header None b e = absurd cc
headed header (Some txs) b e =
    let same : record { header = header; transactions = txs } ≡ b = some_is (record { header = header; transactions = txs }) b e in
    (ap (λ (x : Block). x.header) same, ap (λ (x : Block). some_of x.transactions) same)

pub block_takes : (bytes : List ℕ) (b : Block) → IsBytes bytes → decoded_block bytes ≡ Some b → SpellsBlock b bytes
unfolding decoded_block
block_takes bytes b fits e =
    let size = guarded (nat_lt longest (length bytes)) (cond (nat_lt (length bytes) 80) None (with_header (take 80 bytes) (all_transactions (drop 80 bytes)))) b e in
    let long = guarded (nat_lt (length bytes) 80) (with_header (take 80 bytes) (all_transactions (drop 80 bytes))) b size.1 in
    let h = headed (take 80 bytes) (all_transactions (drop 80 bytes)) b long.1 in
    let law = list_takes tx_at text IsTx tx_law (drop 80 bytes) (b.transactions, []) (IsBytes-drop 80 bytes fits) (ended_is (vector_at tx_at (drop 80 bytes)) b.transactions h.1) in
    let enough : 80 ≤ length bytes = ltb-false _ _ long.0 in
    record {
      header = ap length (sym h.0) ∙ let n = length-take 80 bytes in omega arith;
      count = law.1;
      transactions = law.2;
      size = ltb-false _ _ size.0;
      parts = sym (take-append-drop 80 bytes) ∙ (λ j. h.0 j ++ (law.0.parts ∙ append-nil (vector text b.transactions)) j);
    }

pub block_again : (bytes : List ℕ) (b : Block) → SpellsBlock b bytes → decoded_block bytes ≡ Some b
unfolding decoded_block
block_again bytes b s =
    let few : nat_lt longest (length bytes) ≡ false = le-ltb _ _ s.size in
    let len : length bytes ≡ length b.header + length (vector text b.transactions) = ap length s.parts ∙ length-append b.header (vector text b.transactions) in
    let full : nat_lt (length bytes) 80 ≡ false = le-ltb _ _ (let n = s.header in omega arith) in
    let front : take 80 bytes ≡ b.header = ap (take 80) s.parts ∙ take_at b.header (vector text b.transactions) 80 s.header in
    let back : drop 80 bytes ≡ vector text b.transactions = ap (drop 80) s.parts ∙ drop_at b.header (vector text b.transactions) 80 s.header in
    let read : vector_at tx_at (drop 80 bytes) ≡ Ok (b.transactions, []) = ap (vector_at tx_at) (back ∙ sym (append-nil (vector text b.transactions))) ∙ list_again tx_at text IsTx tx_law b.transactions [] s.count s.transactions in
    rw (few, full, front, read) refl

-- a fault in the transactions is one of the block
pub fails : (e : TxFault) (read : Result (List Tx × List ℕ) TxFault) → Fails e read → GivesAll (Err (block_fault e)) (ended read)
fails tx.Memory read h = tt
fails e read h = (refl, ap ended h)

pub gives_found : (r : Result Block ChainFault) (bytes : List ℕ) (b : Block) → SpellsBlock b bytes → GivesBlock r (decoded_block bytes) → GivesBlock r (Some b)
gives_found r bytes b s given = subst (GivesBlock r) (block_again bytes b s) given

pub short_none : (bytes : List ℕ) → length bytes < 80 → decoded_block bytes ≡ None
unfolding decoded_block
short_none bytes lt = by (nat_lt longest (length bytes)) (nat_lt (length bytes) 80) (grind (arith, nat_tests))
  where
    by : (a b : Bool) → b ≡ true → cond a None (cond b None (with_header (take 80 bytes) (all_transactions (drop 80 bytes)))) ≡ None
    by true b e = refl
    by false true e = refl
    by false false e = absurd cc

pub long_none : (bytes : List ℕ) → longest < length bytes → decoded_block bytes ≡ None
unfolding decoded_block
long_none bytes lt = by (nat_lt longest (length bytes)) (grind (arith, nat_tests))
  where
    by : (a : Bool) → a ≡ true → cond a None (cond (nat_lt (length bytes) 80) None (with_header (take 80 bytes) (all_transactions (drop 80 bytes)))) ≡ None
    by true e = refl
    by false e = absurd cc

pub whole : (bytes : List ℕ) → length bytes ≤ longest → 80 ≤ length bytes → decoded_block bytes ≡ with_header (take 80 bytes) (all_transactions (drop 80 bytes))
unfolding decoded_block
whole bytes few full =
    let a : nat_lt longest (length bytes) ≡ false = le-ltb _ _ few in
    let b : nat_lt (length bytes) 80 ≡ false = le-ltb _ _ full in
    rw (a, b) refl

-- what stands behind is no longer
pub behind_short : (bytes a rest : List ℕ) (k : ℕ) → bytes ≡ a ++ rest → length bytes ≤ k → length rest ≤ k
behind_short bytes a rest k e le = let n = ap length e ∙ length-append a rest in omega arith

pub drop_short : (bytes : List ℕ) → length bytes ≤ longest → length (drop 80 bytes) ≤ longest
drop_short bytes few = behind_short bytes (take 80 bytes) (drop 80 bytes) longest (sym (take-append-drop 80 bytes)) few

pub fails_with : (fault : ChainFault) (header : List ℕ) (o : Option (List Tx)) → GivesAll (Err fault) o → GivesBlock (Err fault) (with_header header o)
fails_with Memory header o h = tt
fails_with (Denied d) header o h = (h.0, ap (with_header header) h.1)
