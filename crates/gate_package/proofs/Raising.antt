-- What enters in the place of entries pays more than these.
use Rattle.std.proofs.Common.{◌≡◌, ◌≤◌, ◌+◌, ◌-◌, ℕ, Bool, true, false, cond, not, List, [], ◌∷◌, length, None, Result, Ok, Err, refl, sym, ap, ◌∙◌, arith}
use Rattle.std.specs.Prelude.{IfOk, filter, nat_lt, sum_by, if◌then◌else◌}
use Rattle.std.proofs.lemmas.Bool.{ltb-false, or_parts}
use Rattle.std.proofs.lemmas.List.Sums.{sum_by-append, sum_by-cons}
use Rattle.gate_bytes.specs.Order.{first_failing}
use Rattle.gate_bytes.proofs.OrderLemmas.{none_fails}
use Rattle.gate_tx.specs.Tx.{Tx}
use Rattle.gate_standard.specs.Amounts.{required_fee}
use Rattle.gate_pool.specs.Family.{fees_of, is_below_some}
use Rattle.gate_pool.specs.Pool.{Admitted}
use Rattle.gate_admit.specs.Policies.{Policy, incremental_feerate}
use Rattle.gate_admit.specs.Standing.{Standing}
use Rattle.gate_diagram.specs.declared.Price.{Price}
use Rattle.gate_package.specs.Laws.{ReplacementPays}
use Rattle.gate_package.specs.Packages.{newcomers}
use Rattle.gate_diagram.specs.Prices.{price_sum_fee, price_sum_size}
use Rattle.gate_package.specs.Replacement.{pays_too_little, price_of_all, replacement_rules}
use Rattle.gate_rivals.specs.Rivals.{is_rival, replaced_together, staying_beside}
use Rattle.gate_package.specs.Together.{halves_of, replaces_some, replacing_denial, together_of}
use Rattle.gate_package.proofs.AllOrNone.{together_one_each}
use Rattle.gate_package.proofs.Joining.{all_pass, checked}

both_parts : (p : Admitted → Bool) (entries : List Admitted) → fees_of entries ≡ fees_of (filter (λ e. not (p e)) entries) + fees_of (filter p entries)
both_parts p [] = refl
both_parts p (e ∷ entries) = by (p e) (both_parts p entries)
  where
    by : (b : Bool) → fees_of entries ≡ fees_of (filter (λ x. not (p x)) entries) + fees_of (filter p entries) → fees_of (e ∷ entries) ≡ fees_of (cond (not b) (e ∷ filter (λ x. not (p x)) entries) (filter (λ x. not (p x)) entries)) + fees_of (cond b (e ∷ filter p entries) (filter p entries))
    by true h = omega (arith, h, sum_by-cons (λ (x : Admitted). x.fee) e entries, sum_by-cons (λ (x : Admitted). x.fee) e (filter p entries))
    by false h = omega (arith, h, sum_by-cons (λ (x : Admitted). x.fee) e entries, sum_by-cons (λ (x : Admitted). x.fee) e (filter (λ x. not (p x)) entries))

newcomers_pay : (now : ℕ) (txs : List Tx) (prices : List Price) → length prices ≡ length txs → fees_of (newcomers now txs prices) ≡ sum_by (λ (p : Price). p.fee) prices
newcomers_pay now [] [] h = refl
newcomers_pay now [] (price ∷ prices) h = absurd (omega (arith, h))
newcomers_pay now (tx ∷ txs) [] h = absurd (omega (arith, h))
newcomers_pay now (tx ∷ txs) (price ∷ prices) h =
    let e : Admitted = record { tx = tx; fee = price.fee; vsize = price.vsize; time = now } in
    omega (arith, sum_by-cons (λ (x : Admitted). x.fee) e (newcomers now txs prices), sum_by-cons (λ (p : Price). p.fee) price prices, newcomers_pay now txs prices (omega (arith, h)))

paid_enough : (policy : Policy) (entries : List Admitted) (txs : List Tx) (prices : List Price) → replaces_some entries txs ≡ true → replacing_denial policy entries txs prices ≡ None
    → pays_too_little policy (fees_of (replaced_together entries txs)) (price_of_all prices) ≡ false
unfolding replacement_rules
paid_enough policy entries txs prices some h =
    let asked : first_failing (replacement_rules policy entries txs prices) ≡ None = sym (ap (λ b. if b then first_failing (replacement_rules policy entries txs prices) else None) some) ∙ h in
    (none_fails (replacement_rules policy entries txs prices) asked).1.1.1.0

enough : (fee paid asked : ℕ) → nat_lt fee paid ≡ false → nat_lt (fee - paid) asked ≡ false → paid + asked ≤ fee
enough fee paid asked h k = let a = ltb-false fee paid h in let b = ltb-false (fee - paid) asked k in omega (arith, a, b)

one_each : (max_rate : ℕ) (over : Standing) (txs : List Tx) (prices : List Price) → together_of max_rate over txs ≡ Ok prices → length prices ≡ length txs
one_each max_rate over txs prices h = by (together_of max_rate over txs) h (together_one_each max_rate over txs)
  where
    by : {R : Type 0} (found : Result (List Price) R) → found ≡ Ok prices → IfOk found (λ ps. length ps ≡ length txs) → length prices ≡ length txs
    by (Ok made) is many = let same : made ≡ prices = cc in ap length (sym same) ∙ many
    by (Err refusal) is many = absurd (cc)

pub replacement_raises : ReplacementPays
unfolding together_of
replacement_raises max_rate over now txs prices h some =
    let all = all_pass over txs prices (checked over txs (halves_of max_rate over [] 0 txs) prices h).1 in
    let sum = price_of_all prices in
    let paid = fees_of (replaced_together over.entries txs) in
    let asked = required_fee (incremental_feerate over.policy) (price_sum_size prices) in
    let parts = or_parts (nat_lt sum.fee paid) (nat_lt (sum.fee - paid) asked) (paid_enough over.policy over.entries txs prices some all.rules) in
    let least : paid + asked ≤ price_sum_fee prices = enough (price_sum_fee prices) paid asked parts.0 parts.1 in
    let told : price_sum_fee prices ≤ sum_by (λ (p : Price). p.fee) prices = omega arith in
    let new = newcomers_pay now txs prices (one_each max_rate over txs prices h) in
    let halves = both_parts (is_below_some (is_rival txs) over.entries) over.entries in
    let joined = sum_by-append (λ (x : Admitted). x.fee) (staying_beside over.entries txs) (newcomers now txs prices) in
    omega (arith, least, told, new, halves, joined)
