-- A set of the outpoints spent so far finds the first that is spent again.
use Rattle.std.proofs.Common.{◌≡◌, ◌||◌, ◌<◌, ◌+◌, ℕ, Bool, true, false, cond, not, suc, arith, List, [], ◌∷◌, length, drop, refl, ap, sym, ◌∙◌, get_or, drop-cons}
use Rattle.std.specs.declared.cmp.Ordering.{Ordering}
use Rattle.std.specs.List.{list_any}
use Rattle.std.specs.BTreeMap.{is_at}
use Rattle.std.specs.BTreeSet.{BTreeSet, contains, Updates}
use Rattle.std.specs.Cmp.{both_tied, unsigned_ties}
use Rattle.std.specs.Cmp.Lexicographic.{texts_ties}
use Rattle.gate_tx.specs.declared.transaction.OutPoint.{OutPoint}
use Rattle.gate_tx.specs.declared.transaction.TxIn.{TxIn}
use Rattle.gate_tx.specs.contracts.transaction.OutPointOrd.TheImpl as outpoint_ord
use Rattle.gate_tx.specs.Coins.{point_eq, spends}
use Rattle.gate_tx.proofs.Points.{spends-by}
use Rattle.gate_standard.specs.Rules.{spends_twice}

-- the order that a set of outpoints keeps
abbrev pub order : OutPoint → OutPoint → Ordering
order = (outpoint_ord.ghosts).cmp

pub order_ties : (a b : OutPoint) → is_at (order a) b ≡ point_eq a b
order_ties a b = sym (both_tied _ _ _ _ (texts_ties a.txid b.txid) (unsigned_ties a.index b.index))

-- of those that were spent, and the one that is new
mixed : (x y a b : Bool) → (cond y true x || (a || b)) ≡ ((x || a) || (y || b))
mixed true true a b = refl
mixed true false a b = refl
mixed false true true b = refl
mixed false true false b = refl
mixed false false a b = refl

-- an input spends the outpoint, asked the other way round
abbrev spends_by : OutPoint → List TxIn → Bool
spends_by point inputs = list_any (λ (i : TxIn). point_eq point i.prevout) inputs

pub met_grows : (had has : OutPoint → Bool) (point : OutPoint) → ((q : OutPoint) → has q ≡ cond (point_eq point q) true (had q))
    → (inputs : List TxIn) → list_any (λ input. has input.prevout) inputs ≡ (list_any (λ input. had input.prevout) inputs || spends_by point inputs)
met_grows had has point h [] = refl
met_grows had has point h (input ∷ inputs) =
    let here = h input.prevout in
    let after = met_grows had has point h inputs in
    let both = mixed (had input.prevout) (point_eq point input.prevout) (list_any (λ i. had i.prevout) inputs) (spends_by point inputs) in cc

-- what is still to be found after these were spent: one of them again, or two alike among the rest
abbrev pub repeats_after : BTreeSet OutPoint → List TxIn → Bool
repeats_after spent inputs = list_any (λ input. contains order spent input.prevout) inputs || spends_twice inputs

none_met : (inputs : List TxIn) → list_any (λ input. false) inputs ≡ false
none_met [] = refl
none_met (input ∷ inputs) = none_met inputs

pub repeats_after_none : (spent : BTreeSet OutPoint) (inputs : List TxIn) → spent.keys ≡ [] → spends_twice inputs ≡ repeats_after spent inputs
repeats_after_none spent inputs h = rw h (sym (ap (λ met. met || spends_twice inputs) (none_met inputs)))

pub repeats_after_met : (spent : BTreeSet OutPoint) (input : TxIn) (inputs : List TxIn) → contains order spent input.prevout ≡ true
    → repeats_after spent (input ∷ inputs) ≡ true
repeats_after_met spent input inputs h = rw h refl

-- of the rest after one that is new
regrouped : (x a b c : Bool) → x ≡ false → ((x || a) || (b || c)) ≡ ((a || b) || c)
regrouped x true b c h = rw h refl
regrouped x false b c h = rw h refl

pub repeats_after_new : (had has : BTreeSet OutPoint) (input : TxIn) (inputs : List TxIn) → contains order had input.prevout ≡ false
    → Updates order had has input.prevout true → repeats_after had (input ∷ inputs) ≡ repeats_after has inputs
repeats_after_new had has input inputs new h =
    regrouped _ (list_any (λ i. contains order had i.prevout) inputs) (spends inputs input.prevout) (spends_twice inputs) new
    ∙ ap (λ met. (list_any (λ i. contains order had i.prevout) inputs || met) || spends_twice inputs) (sym (spends-by input.prevout inputs))
    ∙ ap (λ met. met || spends_twice inputs) (sym (met_grows (contains order had) (contains order has) input.prevout
    (λ q. h.0 q ∙ ap (λ at. cond at true (contains order had q)) (order_ties input.prevout q)) inputs))

-- at a place of the list
pub repeats_from : (spent : BTreeSet OutPoint) (inputs : List TxIn) (i : ℕ) (input : TxIn) → i < length inputs → input ≡ get_or inputs i input
    → repeats_after spent (drop i inputs) ≡ repeats_after spent (input ∷ drop (i + 1) inputs)
repeats_from spent inputs i input h is =
    let next : suc i ≡ i + 1 = omega arith in
    ap (repeats_after spent) (drop-cons inputs i input h ∙ ap (λ x. x ∷ drop (suc i) inputs) (sym is) ∙ ap (λ n. input ∷ drop n inputs) next)

-- what a set says of a key that it takes, or has
pub was_absent : (fresh had : Bool) → fresh ≡ not had → fresh ≡ true → had ≡ false
was_absent fresh true = λ is yes. cc
was_absent fresh false = λ is yes. refl

pub was_present : (fresh had : Bool) → fresh ≡ not had → fresh ≡ false → had ≡ true
was_present fresh true = λ is no. refl
was_present fresh false = λ is no. cc

pub spends_once : (inputs : List TxIn) → length inputs < 2 → false ≡ spends_twice inputs
spends_once [] few = refl
spends_once (input ∷ []) few = refl
spends_once (input ∷ other ∷ inputs) few = absurd (omega arith)
