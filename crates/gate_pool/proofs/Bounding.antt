-- What entries within their bounds come to.
use Rattle.std.proofs.Common.{◌*◌, ◌≤◌, ◌<◌, ◌^◌, List, ℕ, [], ◌∷◌, length, arith}
use Rattle.std.specs.Prelude.{Contains}
use Rattle.std.proofs.lemmas.List.Sums.{sum_by-cons}
use Rattle.gate_tx.specs.Ids.{txid_of}
use Rattle.gate_tx.specs.Money.{max_money}
use Rattle.gate_graph.specs.Family.{reaches}
use Rattle.gate_bytes.proofs.Members.{Contains-head, Contains-rest, not_in_none}
use Rattle.gate_graph.proofs.Reaching.{reaches-same}
use Rattle.gate_pool.specs.Pool.{Admitted, IsBounded, largest_vsize, size_of}
use Rattle.gate_pool.specs.Family.{steps, descendants_of, fees_of, sums_of}
use Rattle.gate_pool.specs.Scores.{AreBounded}
use Rattle.gate_pool.proofs.Walking.{Contains-filter, Contains-from_filter, shorter}

abbrev All : List Admitted → Type 0
All entries = (e : Admitted) → Contains entries e → IsBounded e

size_of-le : (entries : List Admitted) → All entries → size_of entries ≤ largest_vsize * length entries
size_of-le [] h = omega arith
size_of-le (e ∷ entries) h =
    omega (arith, size_of-le entries (λ d m. h d (Contains-rest e entries d m)), (h e (Contains-head e entries)).most, sum_by-cons (λ (y : Admitted). y.vsize) e entries)

fees_of-le : (entries : List Admitted) → All entries → fees_of entries ≤ max_money * length entries
fees_of-le [] h = omega arith
fees_of-le (e ∷ entries) h =
    omega (arith, fees_of-le entries (λ d m. h d (Contains-rest e entries d m)), (h e (Contains-head e entries)).fee, sum_by-cons (λ (y : Admitted). y.fee) e entries)

-- no virtual byte pays more than all money
fees_of-rate : (entries : List Admitted) → All entries → fees_of entries ≤ max_money * size_of entries
fees_of-rate [] h = omega arith
fees_of-rate (e ∷ entries) h =
    let own = h e (Contains-head e entries) in
    omega (arith, fees_of-rate entries (λ d m. h d (Contains-rest e entries d m)), own.fee, own.least, sum_by-cons (λ (y : Admitted). y.fee) e entries, sum_by-cons (λ (y : Admitted). y.vsize) e entries)

one_of : (entries : List Admitted) → All entries → (e : Admitted) → Contains entries e → 1 ≤ size_of entries
one_of [] h e m = not_in_none e m
one_of (d ∷ entries) h e m = omega (arith, (h d (Contains-head d entries)).least, sum_by-cons (λ (y : Admitted). y.vsize) d entries)

pub sums_bounded : (entries : List Admitted) → All entries → length entries < 2 ^ 64 → (e : Admitted) → Contains entries e → AreBounded (sums_of entries)
sums_bounded entries h few e m = record {
  least = one_of entries h e m;
  fees = omega (arith, fees_of-le entries h, few);
  rate = fees_of-rate entries h;
}

-- what the entry of an id comes to with all that is below it
pub family_bounded : (entries : List Admitted) → All entries → length entries < 2 ^ 64 → (e : Admitted) → Contains entries e → AreBounded (sums_of (descendants_of entries (txid_of e.tx)))
family_bounded entries h few e m =
    let below = λ (d : Admitted). reaches (steps entries) (txid_of e.tx) (txid_of d.tx) in
    sums_bounded (descendants_of entries (txid_of e.tx)) (λ d c. h d (Contains-from_filter below entries d c)) (omega (arith, shorter below entries, few)) e (Contains-filter below entries e m (reaches-same (steps entries) (txid_of e.tx)))

-- sizes of entries are small
pub size_small : (entries : List Admitted) (x : List ℕ) → All entries → length entries < 2 ^ 64 → size_of (descendants_of entries x) < 2 ^ 100
size_small entries x h few =
    let below = λ (d : Admitted). reaches (steps entries) x (txid_of d.tx) in
    omega (arith, size_of-le (descendants_of entries x) (λ d c. h d (Contains-from_filter below entries d c)), shorter below entries, few)
