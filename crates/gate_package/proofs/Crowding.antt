-- Whether those that are judged together pass the limits of families, found step by step.
use Rattle.std.proofs.Common.{◌≡◌, ◌≤◌, ◌<◌, ◌+◌, ◌-◌, ℕ, Bool, true, false, ◌||◌, List, [], ◌∷◌, length, map, filter, refl, sym, ap, ◌∙◌, arith}
use Rattle.std.specs.Prelude.{nat_lt}
use Rattle.std.specs.List.{list_any}
use Rattle.std.proofs.lemmas.Bool.{ltb-false, or_left, or_parts, or_right}
use Rattle.std.proofs.lemmas.Bool.Decides.{nat_tests}
use Rattle.gate_tx.specs.declared.OutPoint.{OutPoint}
use Rattle.gate_tx.specs.declared.TxIn.{TxIn}
use Rattle.gate_tx.specs.Ids.{txid_of}
use Rattle.gate_tx.specs.Tx.{Tx}
use Rattle.gate_graph.specs.Family.{reaches}
use Rattle.gate_pool.specs.Family.{ancestors_above, steps}
use Rattle.gate_pool.specs.Pool.{Admitted, size_of}
use Rattle.gate_admit.specs.declared.limits.FamilyLimits.{FamilyLimits}
use Rattle.gate_admit.specs.Limits.{usual_limits}
use Rattle.gate_admit.specs.Policies.{Policy}
use Rattle.gate_rivals.specs.Rivals.{point_of}
use Rattle.gate_package.specs.Together.{above_all, are_too_many, crowd, passes_limits}

-- ---- one entry

-- its descendants as their totals are stored
pub kept_crowd : (limits : FamilyLimits) (count vsize : ℕ) (family : List Admitted) (below size asked : ℕ) → count ≤ limits.descendants → below ≡ length family → size ≡ size_of family → asked ≡ vsize
    → (nat_lt (limits.descendants - count) below || nat_lt limits.descendants_size (size + asked)) ≡ (nat_lt limits.descendants (length family + count) || nat_lt limits.descendants_size (size_of family + vsize))
kept_crowd limits count vsize family below size asked fits a b d =
    (λ i. nat_lt (limits.descendants - count) (a i) || nat_lt limits.descendants_size (b i + d i))
    ∙ ap (λ x. x || nat_lt limits.descendants_size (size_of family + vsize)) (moved limits.descendants count (length family) fits)
  where
    moved : (most n m : ℕ) → n ≤ most → nat_lt (most - n) m ≡ nat_lt most (m + n)
    moved most n m h = grind (arith, nat_tests)

-- ---- what stands above all of them

-- inputs that spend the same have the same ancestors
pub same_above : (entries : List Admitted) (xs ys : List TxIn) → map point_of xs ≡ map point_of ys → ancestors_above entries xs ≡ ancestors_above entries ys
same_above entries xs ys same =
    each entries (λ (e : Admitted). list_any (λ (i : TxIn). reaches (steps entries) (txid_of e.tx) i.prevout.txid) xs) (λ (e : Admitted). list_any (λ (i : TxIn). reaches (steps entries) (txid_of e.tx) i.prevout.txid) ys)
    (λ e. points (λ (p : OutPoint). reaches (steps entries) (txid_of e.tx) p.txid) xs
    ∙ (ap (list_any (λ (p : OutPoint). reaches (steps entries) (txid_of e.tx) p.txid)) same ∙ sym (points (λ (p : OutPoint). reaches (steps entries) (txid_of e.tx) p.txid) ys)))
  where
    points : (test : OutPoint → Bool) (zs : List TxIn) → list_any (λ (i : TxIn). test i.prevout) zs ≡ list_any test (map point_of zs)
    points test [] = refl
    points test (z ∷ zs) = ap (λ b. test z.prevout || b) (points test zs)

    each : (es : List Admitted) (p q : Admitted → Bool) → ((e : Admitted) → p e ≡ q e) → filter p es ≡ filter q es
    each es p q h = ap (λ (test : Admitted → Bool). filter test es) (λ i e. h e i)

-- ---- the limits, one behind another

-- they are not too many by themselves
pub record RoomFor (limits : FamilyLimits) (count : ℕ) : Type 0 where
  pub ancestors : count ≤ limits.ancestors
  pub descendants : count ≤ limits.descendants

pub room_for : (limits : FamilyLimits) (count vsize : ℕ) → are_too_many limits count vsize ≡ false → RoomFor limits count
room_for limits count vsize h =
    let a = or_parts (nat_lt limits.ancestors count) (nat_lt limits.descendants count || (nat_lt limits.ancestors_size vsize || nat_lt limits.descendants_size vsize)) h in
    let d = or_parts (nat_lt limits.descendants count) (nat_lt limits.ancestors_size vsize || nat_lt limits.descendants_size vsize) a.1 in
    record { ancestors = ltb-false limits.ancestors count a.0; descendants = ltb-false limits.descendants count d.0 }

abbrev passes_with : FamilyLimits → List Admitted → List Tx → ℕ → Bool
passes_with limits entries txs vsize =
    are_too_many limits (length txs) vsize || (nat_lt limits.ancestors (length (above_all entries txs) + length txs) || crowd limits entries (length txs) vsize (above_all entries txs))

passes_as : (policy : Policy) (entries : List Admitted) (txs : List Tx) (vsize : ℕ) (limits : FamilyLimits) → limits ≡ usual_limits policy → passes_with limits entries txs vsize ≡ passes_limits policy entries txs vsize
passes_as policy entries txs vsize limits is = ap (λ l. passes_with l entries txs vsize) is

-- too many by themselves
pub passes_alone : (policy : Policy) (entries : List Admitted) (txs : List Tx) (vsize : ℕ) (limits : FamilyLimits) → limits ≡ usual_limits policy → are_too_many limits (length txs) vsize ≡ true
    → passes_limits policy entries txs vsize ≡ true
passes_alone policy entries txs vsize limits is many =
    sym (passes_as policy entries txs vsize limits is)
    ∙ or_left (are_too_many limits (length txs) vsize) (nat_lt limits.ancestors (length (above_all entries txs) + length txs) || crowd limits entries (length txs) vsize (above_all entries txs)) many

more : (most n m : ℕ) → most - n < m → nat_lt most (m + n) ≡ true
more most n m h = grind (arith, nat_tests)

no_more : (most n m : ℕ) → n ≤ most → m ≤ most - n → nat_lt most (m + n) ≡ false
no_more most n m k h = grind (arith, nat_tests)

-- too many with their ancestors
pub passes_above : (policy : Policy) (entries : List Admitted) (txs : List Tx) (vsize : ℕ) (limits : FamilyLimits) → limits ≡ usual_limits policy → limits.ancestors - length txs < length (above_all entries txs)
    → passes_limits policy entries txs vsize ≡ true
passes_above policy entries txs vsize limits is many =
    sym (passes_as policy entries txs vsize limits is)
    ∙ or_right (are_too_many limits (length txs) vsize) (nat_lt limits.ancestors (length (above_all entries txs) + length txs) || crowd limits entries (length txs) vsize (above_all entries txs))
    (or_left (nat_lt limits.ancestors (length (above_all entries txs) + length txs)) (crowd limits entries (length txs) vsize (above_all entries txs)) (more limits.ancestors (length txs) (length (above_all entries txs)) many))

-- neither, and what is left to ask
pub crowd_asked : (policy : Policy) (entries : List Admitted) (txs : List Tx) (vsize : ℕ) (limits : FamilyLimits) → limits ≡ usual_limits policy → are_too_many limits (length txs) vsize ≡ false
    → (above : List Admitted) → above ≡ above_all entries txs → length above ≤ limits.ancestors - length txs → (asked : Bool) → asked ≡ crowd limits entries (length txs) vsize above → asked ≡ passes_limits policy entries txs vsize
crowd_asked policy entries txs vsize limits is few above same fits asked crowded =
    let room = room_for limits (length txs) vsize few in
    let within : nat_lt limits.ancestors (length above + length txs) ≡ false = no_more limits.ancestors (length txs) (length above) room.ancestors fits in
    crowded
    ∙ (sym (ap (λ b. b || crowd limits entries (length txs) vsize above) within)
    ∙ (ap (λ (l : List Admitted). nat_lt limits.ancestors (length l + length txs) || crowd limits entries (length txs) vsize l) same
    ∙ (sym (ap (λ b. b || (nat_lt limits.ancestors (length (above_all entries txs) + length txs) || crowd limits entries (length txs) vsize (above_all entries txs))) few)
    ∙ passes_as policy entries txs vsize limits is)))
