-- Who is stale, and who is not.
use Rattle.std.proofs.Common.{◌≡◌, ℕ, ◌+◌, ◌-◌, ◌≤◌, Bool, true, false, not, ◌&&◌, List, sym, ap, ◌∙◌, arith, true≢false}
use Rattle.std.specs.Prelude.{Contains, nat_lt}
use Rattle.std.proofs.lemmas.Bool.{and_parts, and_from, false_from_ne_true, not-true}
use Rattle.std.proofs.lemmas.Bool.Decides.{nat_tests}
use Rattle.std.proofs.lemmas.List.Elements.{filter_agree}
use Rattle.gate_tx.specs.Ids.{txid_of}
use Rattle.gate_graph.specs.Family.{reaches, Leads}
use Rattle.gate_bytes.proofs.Members.{any_is, list_any_of}
use Rattle.gate_graph.proofs.Reaching.{reaches-same, Leads_from_reaches}
use Rattle.gate_graph.proofs.Steps.{same_bool}
use Rattle.gate_pool.specs.Pool.{Admitted, is_before}
use Rattle.gate_pool.specs.Family.{steps, without_below, is_below_some}
use Rattle.gate_pool.proofs.Adding.{passed}
use Rattle.gate_pool.proofs.Walking.{Contains-filter, Contains-from_filter}
use Rattle.gate_trim.specs.Expiry.{is_stale, expired}
use Rattle.gate_trim.specs.Laws.{IsYoung}

-- two tests that agree take out the same
pub without_below-same : (p q : Admitted → Bool) → ((e : Admitted) → p e ≡ q e) → (entries : List Admitted) → without_below p entries ≡ without_below q entries
without_below-same p q same entries = filter_agree (λ e. not (is_below_some p entries e)) (λ e. not (is_below_some q entries e)) (λ e. ap not (same_bool _ _ (to p q same e) (to q p (λ a. sym (same a)) e))) entries
  where
    to : (p q : Admitted → Bool) → ((e : Admitted) → p e ≡ q e) → (e : Admitted) → is_below_some p entries e ≡ true → is_below_some q entries e ≡ true
    to p q same e h =
        let w = any_is (λ a. p a && reaches (steps entries) (txid_of a.tx) (txid_of e.tx)) entries h in
        let k = and_parts _ _ w.2 in
        list_any_of (λ a. q a && reaches (steps entries) (txid_of a.tx) (txid_of e.tx)) entries w.0 w.1 (and_from _ _ (sym (same w.0) ∙ k.0) k.1)

-- the stale ones were admitted before the second that lies so far back
pub stale_is : (stay now time : ℕ) (e : Admitted) → time ≡ now - stay → is_before time e ≡ is_stale stay now e
stale_is stay now time e is = same_bool _ _ (λ h. later (omega (arith, lt e.time time h, is))) (λ h. before (omega (arith, lt (e.time + stay) now h, is)))
  where
    lt : (m n : ℕ) → nat_lt m n ≡ true → m + 1 ≤ n
    lt m n h = grind (arith, nat_tests)

    later : e.time + stay + 1 ≤ now → nat_lt (e.time + stay) now ≡ true
    later h = grind (arith, nat_tests)

    before : e.time + 1 ≤ time → nat_lt e.time time ≡ true
    before h = grind (arith, nat_tests)

young_from : (stay now : ℕ) (e : Admitted) → is_stale stay now e ≡ false → IsYoung stay now e
young_from stay now e h = grind (arith, nat_tests)

young_to : (stay now : ℕ) (e : Admitted) → IsYoung stay now e → is_stale stay now e ≡ false
young_to stay now e h = grind (arith, nat_tests)

pub all_young : (stay now : ℕ) (entries : List Admitted) (e : Admitted) → Contains (expired stay now entries) e → (a : Admitted) → Contains entries a → reaches (steps entries) (txid_of a.tx) (txid_of e.tx) ≡ true → IsYoung stay now a
all_young stay now entries e m a c r =
    young_from stay now a (false_from_ne_true _ (λ t.
    true≢false (sym (list_any_of (λ b. is_stale stay now b && reaches (steps entries) (txid_of b.tx) (txid_of e.tx)) entries a c (and_from _ _ t r))
    ∙ not-true _ (passed (λ e. not (is_below_some (is_stale stay now) entries e)) entries e m))))

pub one_young : (stay now : ℕ) (entries : List Admitted) (e : Admitted) → Contains (expired stay now entries) e → IsYoung stay now e
one_young stay now entries e m = all_young stay now entries e m e (Contains-from_filter (λ e. not (is_below_some (is_stale stay now) entries e)) entries e m) (reaches-same (steps entries) (txid_of e.tx))

pub young_stays : (stay now : ℕ) (entries : List Admitted) (e : Admitted) → Contains entries e → ((a : Admitted) → Contains entries a → Leads (steps entries) (txid_of a.tx) (txid_of e.tx) → IsYoung stay now a) → Contains (expired stay now entries) e
young_stays stay now entries e m young =
    Contains-filter (λ e. not (is_below_some (is_stale stay now) entries e)) entries e m (ap not (false_from_ne_true _ (λ t.
    let w = any_is (λ b. is_stale stay now b && reaches (steps entries) (txid_of b.tx) (txid_of e.tx)) entries t in
    let k = and_parts _ _ w.2 in
    true≢false (sym k.0 ∙ young_to stay now w.0 (young w.0 w.1 (Leads_from_reaches (steps entries) (txid_of w.0.tx) (txid_of e.tx) k.1))))))
