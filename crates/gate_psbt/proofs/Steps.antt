-- Reading one part behind the other, as loops do.
use Rattle.std.proofs.Common.{◌≡◌, ℕ, suc, ◌-◌, ◌+◌, ◌≤◌, ◌<◌, true, false, List, [], ◌∷◌, ◌++◌, length, Option, Some, None, Result, Ok, Err, refl, sym, ap, ◌∙◌, arith}
use Rattle.std.proofs.Common.{drop, get_or}
use Rattle.std.proofs.Math.Seq.{drop-cons}
use Rattle.std.proofs.lemmas.List.{drop_all}
use Rattle.gate_tx.specs.declared.transaction.TxIn.{TxIn}
use Rattle.gate_psbt.specs.declared.fault.PartFault.{PartFault}
use Rattle.gate_psbt.specs.declared.fault.PartFault.TheVariants as faults
use Rattle.gate_psbt.specs.declared.fault.Place.{Place}
use Rattle.gate_psbt.specs.declared.fault.Place.TheVariants as places
use Rattle.gate_psbt.specs.declared.fault.PsbtFault.{PsbtFault}
use Rattle.gate_psbt.specs.declared.fault.PsbtFault.TheVariants as whole
use Rattle.gate_psbt.specs.declared.input.PsbtInput.{PsbtInput}
use Rattle.gate_psbt.specs.declared.map.Owner.{Owner}
use Rattle.gate_psbt.specs.declared.map.Owner.TheVariants as owners
use Rattle.gate_psbt.specs.Faults.{Fails, FailsWhole, fault_at}
use Rattle.gate_psbt.specs.Fields.{counted_at, items_at}
use Rattle.gate_psbt.specs.Finished.{finish, finished_at}
use Rattle.gate_psbt.specs.Inputs.{is_final}
use Rattle.gate_psbt.specs.Maps.{KeyValue, has_key, is_key, map_at, pair_at, pairs_at, value_of}
use Rattle.gate_psbt.specs.Psbts.{input_at, inputs_at, outputs_at}

pub Fails-from : {Y : Type 0} (e : PartFault) (read : Result Y PartFault) → read ≡ Err e → Fails e read
Fails-from faults.Memory read h = tt
Fails-from e read h = h

-- a fault of one reading is that of another which fails where the first does
pub Fails-at : {Y Z : Type 0} (e : PartFault) (read : Result Y PartFault) (whole : Result Z PartFault) → ((f : PartFault) → read ≡ Err f → whole ≡ Err f) → Fails e read → Fails e whole
Fails-at faults.Memory read whole so h = tt
Fails-at e read whole so h = so e h

-- ---- items

abbrev Items : Type 0
Items = Result (List (List ℕ) × List ℕ) PartFault

pub item_next : (n i : ℕ) (before : List (List ℕ)) (bytes x rest : List ℕ) (total : Items) → i < n → counted_at bytes ≡ Ok (x, rest)
    → items_at (n - i) before bytes ≡ total → items_at (n - (i + 1)) (before ++ x ∷ []) rest ≡ total
unfolding items_at
item_next n i before bytes x rest total lt h so_far =
    let k : n - i ≡ suc (n - (i + 1)) = omega arith in
    let one : items_at (n - i) before bytes ≡ items_at (n - (i + 1)) (before ++ x ∷ []) rest = rw (k, h) refl in
    sym one ∙ so_far

pub item_fails : (e : PartFault) (n i : ℕ) (before : List (List ℕ)) (bytes : List ℕ) (total : Items) → i < n → counted_at bytes ≡ Err e
    → items_at (n - i) before bytes ≡ total → Fails e total
unfolding items_at
item_fails e n i before bytes total lt h so_far =
    let k : n - i ≡ suc (n - (i + 1)) = omega arith in
    let one : items_at (n - i) before bytes ≡ Err e = rw (k, h) refl in
    Fails-from e total (sym so_far ∙ one)

pub items_end : (n i : ℕ) (before : List (List ℕ)) (bytes : List ℕ) (total : Items) → n ≤ i → items_at (n - i) before bytes ≡ total → total ≡ Ok (before, bytes)
unfolding items_at
items_end n i before bytes total le so_far =
    let k : n - i ≡ 0 = omega arith in
    let one : items_at (n - i) before bytes ≡ Ok (before, bytes) = rw k refl in
    sym so_far ∙ one

-- ---- pairs

abbrev Pairs : Type 0
Pairs = Result (List KeyValue × List ℕ) PartFault

module _ (owner : Owner) (n i : ℕ) (before : List KeyValue) (bytes : List ℕ) (total : Pairs) where
  pub pair_next : (pair : KeyValue) (rest : List ℕ) → i < n → pair_at owner bytes ≡ Ok (Some pair, rest) → has_key before pair.0 ≡ false
      → pairs_at owner (n - i) before bytes ≡ total → pairs_at owner (n - (i + 1)) (before ++ pair ∷ []) rest ≡ total
  unfolding pairs_at
  pair_next pair rest lt h new so_far =
      let k : n - i ≡ suc (n - (i + 1)) = omega arith in
      let one : pairs_at owner (n - i) before bytes ≡ pairs_at owner (n - (i + 1)) (before ++ pair ∷ []) rest = rw (k, h, new) refl in
      sym one ∙ so_far

  pub pair_twice : (pair : KeyValue) (rest : List ℕ) → i < n → pair_at owner bytes ≡ Ok (Some pair, rest) → has_key before pair.0 ≡ true
      → pairs_at owner (n - i) before bytes ≡ total → total ≡ Err faults.DuplicateKey
  unfolding pairs_at
  pair_twice pair rest lt h old so_far =
      let k : n - i ≡ suc (n - (i + 1)) = omega arith in
      let one : pairs_at owner (n - i) before bytes ≡ Err faults.DuplicateKey = rw (k, h, old) refl in
      sym so_far ∙ one

  pub pair_ends : (rest : List ℕ) → i < n → pair_at owner bytes ≡ Ok (None, rest) → pairs_at owner (n - i) before bytes ≡ total → total ≡ Ok (before, rest)
  unfolding pairs_at
  pair_ends rest lt h so_far =
      let k : n - i ≡ suc (n - (i + 1)) = omega arith in
      let one : pairs_at owner (n - i) before bytes ≡ Ok (before, rest) = rw (k, h) refl in
      sym so_far ∙ one

  pub pair_fails : (e : PartFault) → i < n → Fails e (pair_at owner bytes) → pairs_at owner (n - i) before bytes ≡ total → Fails e total
  unfolding pairs_at
  pair_fails e lt h so_far =
      let k : n - i ≡ suc (n - (i + 1)) = omega arith in
      let so : (f : PartFault) → pair_at owner bytes ≡ Err f → pairs_at owner (n - i) before bytes ≡ Err f = λ f g. rw (k, g) refl in
      Fails-at e (pair_at owner bytes) total (λ f g. sym so_far ∙ so f g) h

  pub pairs_run_out : n ≤ i → pairs_at owner (n - i) before bytes ≡ total → total ≡ Err faults.Short
  unfolding pairs_at
  pairs_run_out le so_far =
      let k : n - i ≡ 0 = omega arith in
      let one : pairs_at owner (n - i) before bytes ≡ Err faults.Short = rw k refl in
      sym so_far ∙ one

pub pairs_start : (owner : Owner) (bytes : List ℕ) → pairs_at owner (length bytes - 0) [] bytes ≡ map_at owner bytes
unfolding map_at
pairs_start owner bytes =
    let k : length bytes - 0 ≡ length bytes = omega arith in
    rw k refl

-- ---- the value of a key

module _ (kind : ℕ) (pairs : List KeyValue) (i : ℕ) (total : Option (List ℕ)) where
  pub value_here : (pair : KeyValue) → i < length pairs → pair ≡ get_or pairs i pair → is_key kind pair.0 ≡ true → value_of kind (drop i pairs) ≡ total → total ≡ Some pair.1
  unfolding value_of
  value_here pair lt e is so_far =
      let one : value_of kind (drop i pairs) ≡ Some pair.1 = rw (drop-cons pairs i pair lt, ← e, is) refl in
      sym so_far ∙ one

  pub value_past : (pair : KeyValue) → i < length pairs → pair ≡ get_or pairs i pair → is_key kind pair.0 ≡ false → value_of kind (drop i pairs) ≡ total → value_of kind (drop (i + 1) pairs) ≡ total
  unfolding value_of
  value_past pair lt e is so_far =
      let more : i + 1 ≡ suc i = omega arith in
      let one : value_of kind (drop i pairs) ≡ value_of kind (drop (suc i) pairs) = rw (drop-cons pairs i pair lt, ← e, is) refl in
      rw more (sym one ∙ so_far)

  pub value_lacks : length pairs ≤ i → value_of kind (drop i pairs) ≡ total → total ≡ None
  unfolding value_of
  value_lacks le so_far =
      let one : value_of kind (drop i pairs) ≡ None = rw (drop_all i pairs le) refl in
      sym so_far ∙ one

-- ---- the maps of inputs and outputs

pub placed-fails : {A B : Type 0} (place : Place) (fault : PartFault) (read : Result A PartFault) (total : Result B PsbtFault)
    → ((f : PartFault) → read ≡ Err f → total ≡ Err (fault_at place f)) → Fails fault read → FailsWhole (fault_at place fault) total
placed-fails place faults.Memory read total so h = tt
placed-fails place e read total so h = so e h

module _ (place : ℕ) (before : List PsbtInput) (inputs : List TxIn) (i : ℕ) (bytes : List ℕ) (total : Result (List PsbtInput × List ℕ) PsbtFault) where
  pub input_next : (input : TxIn) (taken : PsbtInput) (rest : List ℕ) → i < length inputs → input ≡ get_or inputs i input → input_at input.prevout bytes ≡ Ok (taken, rest)
      → inputs_at place before (drop i inputs) bytes ≡ total → inputs_at (place + 1) (before ++ taken ∷ []) (drop (i + 1) inputs) rest ≡ total
  unfolding inputs_at
  input_next input taken rest lt e h so_far =
      let more : i + 1 ≡ suc i = omega arith in
      let next : place + 1 ≡ suc place = omega arith in
      let one : inputs_at place before (drop i inputs) bytes ≡ inputs_at (suc place) (before ++ taken ∷ []) (drop (suc i) inputs) rest = rw (drop-cons inputs i input lt, ← e, h) refl in
      rw (more, next) (sym one ∙ so_far)

  pub input_fails : (input : TxIn) (fault : PartFault) → i < length inputs → input ≡ get_or inputs i input → Fails fault (input_at input.prevout bytes)
      → inputs_at place before (drop i inputs) bytes ≡ total → FailsWhole (fault_at (places.Input place) fault) total
  unfolding inputs_at
  input_fails input fault lt e h so_far =
      let so : (f : PartFault) → input_at input.prevout bytes ≡ Err f → inputs_at place before (drop i inputs) bytes ≡ Err (fault_at (places.Input place) f) =
      λ f g. rw (drop-cons inputs i input lt, ← e, g) refl in
      placed-fails (places.Input place) fault (input_at input.prevout bytes) total (λ f g. sym so_far ∙ so f g) h

  pub inputs_end : length inputs ≤ i → inputs_at place before (drop i inputs) bytes ≡ total → total ≡ Ok (before, bytes)
  unfolding inputs_at
  inputs_end le so_far =
      let one : inputs_at place before (drop i inputs) bytes ≡ Ok (before, bytes) = rw (drop_all i inputs le) refl in
      sym so_far ∙ one

module _ (count place : ℕ) (bytes : List ℕ) (total : Result (List ℕ) PsbtFault) where
  pub output_next : (pairs : List KeyValue) (rest : List ℕ) → place < count → map_at owners.Output bytes ≡ Ok (pairs, rest)
      → outputs_at place (count - place) bytes ≡ total → outputs_at (place + 1) (count - (place + 1)) rest ≡ total
  unfolding outputs_at
  output_next pairs rest lt h so_far =
      let k : count - place ≡ suc (count - (place + 1)) = omega arith in
      let next : place + 1 ≡ suc place = omega arith in
      let one : outputs_at place (count - place) bytes ≡ outputs_at (suc place) (count - (place + 1)) rest = rw (k, h) refl in
      let more : outputs_at (place + 1) (count - (place + 1)) rest ≡ outputs_at (suc place) (count - (place + 1)) rest = ap (λ (n : ℕ). outputs_at n (count - (place + 1)) rest) next in
      more ∙ (sym one ∙ so_far)

  pub output_fails : (fault : PartFault) → place < count → Fails fault (map_at owners.Output bytes) → outputs_at place (count - place) bytes ≡ total
      → FailsWhole (fault_at (places.Output place) fault) total
  unfolding outputs_at
  output_fails fault lt h so_far =
      let k : count - place ≡ suc (count - (place + 1)) = omega arith in
      let so : (f : PartFault) → map_at owners.Output bytes ≡ Err f → outputs_at place (count - place) bytes ≡ Err (fault_at (places.Output place) f) = λ f g. rw (k, g) refl in
      placed-fails (places.Output place) fault (map_at owners.Output bytes) total (λ f g. sym so_far ∙ so f g) h

  pub outputs_end : count ≤ place → outputs_at place (count - place) bytes ≡ total → total ≡ Ok bytes
  unfolding outputs_at
  outputs_end le so_far =
      let k : count - place ≡ 0 = omega arith in
      let one : outputs_at place (count - place) bytes ≡ Ok bytes = rw k refl in
      sym so_far ∙ one

-- ---- final inputs

module _ (place : ℕ) (before inputs : List TxIn) (said : List PsbtInput) (total : Result (List TxIn) PsbtFault) where
  pub finish_next : (input : TxIn) (it : PsbtInput) → place < length inputs → input ≡ get_or inputs place input → place < length said → it ≡ get_or said place it → is_final it ≡ true
      → finished_at place before (drop place inputs) (drop place said) ≡ total
      → finished_at (place + 1) (before ++ finish input it ∷ []) (drop (place + 1) inputs) (drop (place + 1) said) ≡ total
  unfolding finished_at
  finish_next input it lt e within f final so_far =
      let next : place + 1 ≡ suc place = omega arith in
      let one : finished_at place before (drop place inputs) (drop place said) ≡ finished_at (suc place) (before ++ finish input it ∷ []) (drop (suc place) inputs) (drop (suc place) said) =
      rw (drop-cons inputs place input lt, drop-cons said place it within, ← e, ← f, final) refl in
      rw next (sym one ∙ so_far)

  pub finish_lacks : (input : TxIn) → place < length inputs → input ≡ get_or inputs place input → length said ≤ place
      → finished_at place before (drop place inputs) (drop place said) ≡ total → total ≡ Err (whole.At (places.Input place) faults.NotFinal)
  unfolding finished_at
  finish_lacks input lt e none so_far =
      let one : finished_at place before (drop place inputs) (drop place said) ≡ Err (whole.At (places.Input place) faults.NotFinal) =
      rw (drop-cons inputs place input lt, drop_all place said none) refl in
      sym so_far ∙ one

  pub finish_fails : (input : TxIn) (it : PsbtInput) → place < length inputs → input ≡ get_or inputs place input → place < length said → it ≡ get_or said place it → is_final it ≡ false
      → finished_at place before (drop place inputs) (drop place said) ≡ total → total ≡ Err (whole.At (places.Input place) faults.NotFinal)
  unfolding finished_at
  finish_fails input it lt e within f final so_far =
      let one : finished_at place before (drop place inputs) (drop place said) ≡ Err (whole.At (places.Input place) faults.NotFinal) =
      rw (drop-cons inputs place input lt, drop-cons said place it within, ← e, ← f, final) refl in
      sym so_far ∙ one

  pub finish_ends : length inputs ≤ place → finished_at place before (drop place inputs) (drop place said) ≡ total → total ≡ Ok before
  unfolding finished_at
  finish_ends le so_far =
      let one : finished_at place before (drop place inputs) (drop place said) ≡ Ok before = rw (drop_all place inputs le) refl in
      sym so_far ∙ one
