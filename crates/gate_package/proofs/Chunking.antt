-- How many chunks there are, of what is replaced and of what stands in its place.
use Rattle.std.proofs.Common.{◌≤◌, ℕ, ◌+◌, ◌*◌, Bool, true, false, cond, List, [], ◌∷◌, length, arith, length-append}
use Rattle.std.specs.List.{flat_map}
use Rattle.gate_pool.specs.Family.{children_of, is_among, parents_above}
use Rattle.gate_pool.specs.Pool.{Admitted, listing_of}
use Rattle.gate_tx.specs.Ids.{txid_of}
use Rattle.gate_diagram.specs.declared.Price.{Price}
use Rattle.gate_diagram.specs.Diagram.{both_of, is_dearer, pair_chunks}
use Rattle.gate_package.specs.Replacement.{chunks_at, chunks_with, left_at, left_of, new_chunks, old_chunks, price_of}

pair_few : (parent child : Price) → length (pair_chunks parent child) ≤ 2
pair_few parent child = by (is_dearer (both_of parent child) child)
  where
    by : (b : Bool) → length (cond b (both_of parent child ∷ []) (parent ∷ child ∷ [])) ≤ 2
    by true = omega arith
    by false = omega arith

chunks_few : (e : Admitted) (above below : List Admitted) → length (chunks_with e above below) ≤ 2
chunks_few e (parent ∷ others) below = pair_few (price_of parent) (price_of e)
chunks_few e [] (child ∷ others) = omega arith
chunks_few e [] [] = omega arith

left_few : (gone : List (List ℕ)) (above : List Admitted) → length (left_of gone above) ≤ 1
left_few gone [] = omega arith
left_few gone (parent ∷ others) = by (is_among gone parent)
  where
    by : (b : Bool) → length (cond b [] (price_of parent ∷ [])) ≤ 1
    by true = omega arith
    by false = omega arith

pub old_few : (entries replaced : List Admitted) → length (old_chunks entries replaced) ≤ 2 * length replaced
old_few entries [] = omega arith
old_few entries (e ∷ replaced) =
    omega (arith, length-append (chunks_at entries e) (old_chunks entries replaced), chunks_few e (parents_above entries e.tx.inputs) (children_of entries (txid_of e.tx)), old_few entries replaced)

left_all : (entries : List Admitted) (gone : List (List ℕ)) (replaced : List Admitted) → length (flat_map (left_at entries gone) replaced) ≤ length replaced
left_all entries gone [] = omega arith
left_all entries gone (e ∷ replaced) =
    omega (arith, length-append (left_at entries gone e) (flat_map (left_at entries gone) replaced), left_few gone (parents_above entries e.tx.inputs), left_all entries gone replaced)

pub new_few : (entries replaced : List Admitted) (sum : Price) → length (new_chunks entries replaced sum) ≤ 1 + length replaced
new_few entries replaced sum = omega (arith, left_all entries (listing_of replaced) replaced)
