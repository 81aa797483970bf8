-- Outpoints that are spent once are distinct.
use Rattle.std.proofs.Common.{◌≡◌, ◌≢◌, zero, suc, Bool, true, false, ◌||◌, List, [], ◌∷◌, refl, sym, ap, ◌∙◌, arith}
use Rattle.std.specs.List.{All, AllPairs, AllByRecursion}
use Rattle.std.proofs.lemmas.List.Kept.{AllPairs-cons}
use Rattle.gate_tx.specs.declared.transaction.TxIn.{TxIn}
use Rattle.gate_tx.specs.Coins.{point_eq, spends}
use Rattle.gate_tx.specs.Equality.{out_point_decides}
use Rattle.gate_standard.specs.Laws.{OutpointsAreSpentOnce}
use Rattle.gate_standard.specs.Rules.{spends_twice}

abbrev Apart : TxIn → TxIn → Type 0
Apart a b = a.prevout ≢ b.prevout

or_false : (a b : Bool) → (a || b) ≡ false → (a ≡ false) × (b ≡ false)
or_false true b e = absurd (cc)
or_false false b e = (refl, e)

is_false : (b : Bool) → (b ≡ true → ⊥) → b ≡ false
is_false true never = absurd (never refl)
is_false false never = refl

-- none of the inputs spends what this one does
unspent : (i : TxIn) (inputs : List TxIn) → spends inputs i.prevout ≡ false → AllByRecursion (Apart i) inputs
unspent i [] e = tt
unspent i (j ∷ inputs) e =
    let both = or_false (point_eq j.prevout i.prevout) (spends inputs i.prevout) e in
    let apart : Apart i j = λ same. (let met : point_eq j.prevout i.prevout ≡ true = (out_point_decides j.prevout i.prevout).1 (sym same) in let not_met = both.0 in cc) in
    (apart, unspent i inputs both.1)

spent_not : (i : TxIn) (inputs : List TxIn) → AllByRecursion (Apart i) inputs → spends inputs i.prevout ≡ false
spent_not i [] all = refl
spent_not i (j ∷ inputs) all =
    let apart : point_eq j.prevout i.prevout ≡ false = is_false (point_eq j.prevout i.prevout) (λ met. all.0 (sym ((out_point_decides j.prevout i.prevout).0 met))) in
    ap (λ b. b || spends inputs i.prevout) apart ∙ spent_not i inputs all.1

-- by place and by recursion
at-place : (i : TxIn) (inputs : List TxIn) → AllByRecursion (Apart i) inputs → All (Apart i) inputs
at-place i [] all k d within = absurd (omega arith)
at-place i (j ∷ inputs) all zero d within = all.0
at-place i (j ∷ inputs) all (suc k) d within = at-place i inputs all.1 k d (omega arith)

by-recursion : (i : TxIn) (inputs : List TxIn) → All (Apart i) inputs → AllByRecursion (Apart i) inputs
by-recursion i [] all = tt
by-recursion i (j ∷ inputs) all = (all 0 j (omega arith), by-recursion i inputs (λ k d within. all (suc k) d (omega arith)))

forward : (inputs : List TxIn) → spends_twice inputs ≡ false → AllPairs Apart inputs
forward [] e = λ i j d below within. absurd (omega arith)
forward (x ∷ inputs) e =
    let both = or_false (spends inputs x.prevout) (spends_twice inputs) e in
    AllPairs-cons Apart x inputs (at-place x inputs (unspent x inputs both.0)) (forward inputs both.1)

backward : (inputs : List TxIn) → AllPairs Apart inputs → spends_twice inputs ≡ false
backward [] all = refl
backward (x ∷ inputs) all =
    let first : AllByRecursion (Apart x) inputs = by-recursion x inputs (λ k d within. all 0 (suc k) d (omega arith) (omega arith)) in
    ap (λ b. b || spends_twice inputs) (spent_not x inputs first) ∙ backward inputs (λ i j d below within. all (suc i) (suc j) d (omega arith) (omega arith))

pub outpoints_are_spent_once : OutpointsAreSpentOnce
outpoints_are_spent_once inputs = (forward inputs, backward inputs)
