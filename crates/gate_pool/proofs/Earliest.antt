-- The earliest of some arrivals, and the arrivals of the first slots.
use Rattle.std.proofs.Common.{◌≡◌, ◌<◌, ◌≤◌, ℕ, false, None, List, [], ◌∷◌, ◌++◌, length, sym, ap, ◌∙◌, subst, inl, inr, arith}
use Rattle.std.specs.Prelude.{Contains, find, nat_lt}
use Rattle.std.specs.List.Sorted.{IsPermutation}
use Rattle.std.proofs.lemmas.Bool.Decides.{nat_tests}
use Rattle.std.proofs.lemmas.List.Elements.{Contains-append_cases}
use Rattle.std.proofs.lemmas.List.Sorted.{Contains-permutation, length_permutation}
use Rattle.gate_tx.specs.Ids.{txid_of}
use Rattle.gate_bytes.proofs.Members.{Contains-cons_cases, Contains-head, Contains-rest, not_in_none}
use Rattle.gate_pool.specs.Pool.{Admitted, is_before}
use Rattle.gate_pool.specs.Arrivals.{arrival_of, HaveArrived, IsTaken}
use Rattle.gate_pool.specs.declared.arrivals.Arrival.{Arrival}
use Rattle.gate_pool.proofs.Conflicts.{find_absent}

not_before : (m n : ℕ) → n ≤ m → nat_lt m n ≡ false
not_before m n h = grind (arith, nat_tests)

-- where no arrival was before a second, no entry was
pub all_late : (entries : List Admitted) (list : List Arrival) (time : ℕ) → HaveArrived entries list → ((a : Arrival) → Contains list a → time ≤ a.time) → find (is_before time) entries ≡ None
all_late entries list time have late = find_absent (is_before time) entries (λ e m. not_before e.time time (late (arrival_of e) (have.all e m)))

-- one entry more has arrived
pub HaveArrived-more : {entries more : List Admitted} {list after : List Arrival} (e : Admitted) → HaveArrived entries list → more ≡ entries ++ e ∷ [] → IsPermutation (arrival_of e ∷ list) after → HaveArrived more after
HaveArrived-more {entries} {more} {list} {after} e have is pushed = record {
  all = λ d m.
      Contains-permutation (arrival_of e ∷ list) after (arrival_of d) pushed
      (elim (Contains-append_cases entries (e ∷ []) d (subst (λ l. Contains l d) is m)) [
        | inl old ↦ Contains-rest (arrival_of e) list (arrival_of d) (have.all d old)
        | inr new ↦
            elim (Contains-cons_cases e [] d new) [
              | inl same ↦ subst (λ (x : Admitted). Contains (arrival_of e ∷ list) (arrival_of x)) same (Contains-head (arrival_of e) list)
              | inr none ↦ not_in_none d none
            ]
      ]);
}

-- what is taken out is an early arrival, and those of the rest stay
pub HaveArrived-taken : {time : ℕ} {list after : List Arrival} {txid : List ℕ} (entries left : List Admitted) → HaveArrived entries list → IsTaken time list txid after
    → ((e : Admitted) → Contains left e → Contains entries e) → ((e : Admitted) → Contains left e → txid_of e.tx ≡ txid → time ≤ e.time) → HaveArrived left after
HaveArrived-taken {time} {list} {after} {txid} entries left have taken stays late = record {
  all = λ e m.
      elim (Contains-cons_cases taken.arrival after (arrival_of e) (Contains-permutation list (taken.arrival ∷ after) (arrival_of e) taken.rest (have.all e (stays e m)))) [
        | inl same ↦
            absurd (omega (arith, taken.early, ap (λ (a : Arrival). a.time) same, late e m (ap (λ (a : Arrival). a.txid) (sym same) ∙ taken.is)))
        | inr rest ↦ rest
      ];
}

pub taken_falls : {time : ℕ} {list after : List Arrival} {txid : List ℕ} → IsTaken time list txid after → length after < length list
taken_falls {list = list} {after = after} taken = omega (arith, length_permutation list (taken.arrival ∷ after) taken.rest)
