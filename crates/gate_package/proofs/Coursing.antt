-- A package, member by member, and those of its members that are denied.
use Rattle.std.proofs.Common.{◌≡◌, ◌<◌, ◌≤◌, ◌+◌, ℕ, suc, List, [], ◌∷◌, ◌++◌, length, drop, get_or, refl, sym, ap, ◌∙◌, add-one, append-nil, drop-cons}
use Rattle.std.proofs.lemmas.List.{at_drop_all}
use Rattle.gate_tx.specs.Tx.{Tx}
use Rattle.gate_submission.specs.declared.Member.{Member}
use Rattle.gate_pool.specs.Pool.{Admitted}
use Rattle.gate_admit.specs.Standing.{Standing}
use Rattle.gate_package.specs.Packages.{Course, course_behind, course_of, fate_of, member_with}

-- these members stand before those of a course
abbrev pub behind : List Member → Course → Course
behind members course = record { members = members ++ course.members; entries = course.entries }

-- one more member, and the entries as it leaves them
pub course_next : (max_rate : ℕ) (over : Standing) (now : ℕ) (members : List Member) (tx : Tx) (txs : List Tx)
    → behind members (course_of max_rate over now (tx ∷ txs))
    ≡ behind (members ++ member_with tx (fate_of max_rate over tx) ∷ []) (course_of max_rate (record over { entries = course_behind max_rate over now tx }) now txs)
unfolding course_of
course_next max_rate over now members tx txs =
    ap (λ l. record { members = l; entries = (course_of max_rate (record over { entries = course_behind max_rate over now tx }) now txs).entries })
    (front members (member_with tx (fate_of max_rate over tx)) (course_of max_rate (record over { entries = course_behind max_rate over now tx }) now txs).members)
  where
    front : (some : List Member) (m : Member) (others : List Member) → some ++ m ∷ others ≡ (some ++ m ∷ []) ++ others
    front [] m others = refl
    front (first ∷ some) m others = ap (λ l. first ∷ l) (front some m others)

-- one more member of those that are left from this place on
pub course_step : (max_rate : ℕ) (over : Standing) (now : ℕ) (txs : List Tx) (i : ℕ) (tx : Tx) (members more : List Member) (after : List Admitted) (all : Course)
    → i < length txs → tx ≡ get_or txs i tx → more ≡ members ++ member_with tx (fate_of max_rate over tx) ∷ [] → after ≡ course_behind max_rate over now tx
    → behind members (course_of max_rate over now (drop i txs)) ≡ all → behind more (course_of max_rate (record over { entries = after }) now (drop (i + 1) txs)) ≡ all
course_step max_rate over now txs i tx members more after all within is grown left rest =
    let opens : drop i txs ≡ tx ∷ drop (i + 1) txs = drop-cons txs i tx within ∙ (ap (λ t. t ∷ drop (suc i) txs) (sym is) ∙ ap (λ n. tx ∷ drop n txs) (sym (add-one i))) in
    ap (λ (l : List Member). behind l (course_of max_rate (record over { entries = after }) now (drop (i + 1) txs))) grown
    ∙ (ap (λ (l : List Admitted). behind (members ++ member_with tx (fate_of max_rate over tx) ∷ []) (course_of max_rate (record over { entries = l }) now (drop (i + 1) txs))) left
    ∙ (sym (course_next max_rate over now members tx (drop (i + 1) txs)) ∙ (ap (λ (l : List Tx). behind members (course_of max_rate over now l)) (sym opens) ∙ rest)))

-- none is left
pub course_done : (max_rate : ℕ) (over : Standing) (now : ℕ) (txs : List Tx) (i : ℕ) (members : List Member) (all : Course) → length txs ≤ i
    → behind members (course_of max_rate over now (drop i txs)) ≡ all → (members ≡ all.members) × (over.entries ≡ all.entries)
unfolding course_of
course_done max_rate over now txs i members all past rest =
    let ends : behind members (record { members = []; entries = over.entries }) ≡ all = sym (at_drop_all (λ (l : List Tx). behind members (course_of max_rate over now l)) txs i past) ∙ rest in
    (sym (append-nil members) ∙ ap (λ (c : Course). c.members) ends, ap (λ (c : Course). c.entries) ends)
