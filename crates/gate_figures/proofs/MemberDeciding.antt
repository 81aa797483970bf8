-- Where a member of a package is denied, its figures decide.
use Rattle.std.proofs.Common.{◌≡◌, ◌+◌, ◌^◌, ◌-◌, ◌∷◌, [], ℕ, Bool, true, false, List, Option, Some, None, refl, sym, ap, subst}
use Rattle.std.specs.Prelude.{nat_lt, if◌then◌else◌, IfSome, is_some}
use Rattle.std.proofs.lemmas.Bool.{false≢true}
use Rattle.std.proofs.Math.Nat.{le_refl}
use Rattle.gate_bytes.specs.Order.{Rule, first_failing}
use Rattle.gate_tx.specs.Tx.{Tx}
use Rattle.gate_rules.specs.declared.Denial.{Denial}
use Rattle.gate_chain.specs.Times.{tip_of}
use Rattle.gate_diagram.specs.declared.price.Price.{Price}
use Rattle.gate_diagram.specs.Prices.{price_sum_fee, price_sum_size}
use Rattle.gate_pool.specs.Family.{ancestors_above}
use Rattle.gate_admit.specs.Coins.{coins_of}
use Rattle.gate_admit.specs.Policies.{incremental_feerate}
use Rattle.gate_admit.specs.Reports.{reported, report_rules, vsize_of}
use Rattle.gate_admit.specs.Rules.{balance_rules, coin_value_rules, coins_value, fee_rules, final_rules, floor_rule, is_relay_fee_first, lock_rules, outputs_value, relay_rule}
use Rattle.gate_admit.specs.Standing.{Standing}
use Rattle.gate_admit.specs.Sweeping.{sweep_rules}
use Rattle.gate_rbf.specs.Replacing.{replacement_rules}
use Rattle.gate_submission.specs.Alone.{alone_rules}
use Rattle.gate_package.specs.declared.role.Role.{Role}
use Rattle.gate_package.specs.declared.role.Role.TheVariants.{Member, Together, Listed}
use Rattle.gate_package.specs.Coins.{coin_rules_beside}
use Rattle.gate_package.specs.Judging.{family_rules, fee_beside, half_rules, is_version_three, member_grant, member_rules, payment_rules, pool_rules_as, rate_rules, vsize_beside}
use Rattle.gate_figures.specs.Figures.{cost_at, fee_at, figures_of, paying_figures, sibling_in, sized, vsize_at}
use Rattle.gate_figures.specs.Laws.{Decide, FirstTriesDecide, MemberFiguresDecide, PricesDecide, SumsDecide}
use Rattle.gate_figures.specs.Members.{asked_by, cost_beside, paid, paid_together, price_at}
use Rattle.gate_figures.proofs.Deciding.{AllShow, alone_shows, balance_shows, both_show, coin_values_show, coinless_decides, crowded_decides, denied, final_shows, found, lock_shows, lt_from, past_decides, payment_shows, pool_shows, replacement_shows, reports_show, sweep_shows, verdict_shows}

-- ---- a member by itself

coins_show : (over : Standing) (tx : Tx) → AllShow over tx (coin_rules_beside over.chain [] over.entries tx)
unfolding figures_of paying_figures coin_rules_beside
coins_show over tx = (λ _. tt, (λ _. coinless_decides over 0 tx.inputs, tt))

families_show : (over : Standing) (tx : Tx) (vsize : ℕ) → AllShow over tx (family_rules Member over.policy over.entries tx vsize)
unfolding figures_of paying_figures family_rules
families_show over tx vsize = (λ _. crowded_decides over tx (ancestors_above over.entries tx.inputs) (vsize_at over.policy.sigop_size over.chain over.entries tx), (λ _. tt, (λ _. tt, tt)))

rates_show : (max_rate fee vsize : ℕ) (over : Standing) (tx : Tx) → AllShow over tx (rate_rules max_rate fee vsize)
unfolding figures_of paying_figures
rates_show max_rate fee vsize over tx = (λ _. tt, tt)

pools_show : (over : Standing) (tx : Tx) → AllShow over tx (pool_rules_as Member over.policy over.entries tx)
unfolding pool_rules_as
pools_show over tx = pool_shows over tx

payments_show : (over : Standing) (tx : Tx)
    → AllShow over tx (payment_rules Member over.policy tx over.floor (fee_at over.chain over.entries tx) (vsize_of over.policy.sigop_size (cost_at over.chain over.entries tx) tx))
unfolding payment_rules
payments_show over tx = payment_shows over tx

half_shows : (max_rate : ℕ) (over : Standing) (tx : Tx) → AllShow over tx (half_rules Member max_rate [] over tx)
unfolding half_rules
half_shows max_rate over tx =
    let coins = coins_of over.chain over.entries tx.inputs in
    let fee = fee_at over.chain over.entries tx in
    let vsize = vsize_of over.policy.sigop_size (cost_at over.chain over.entries tx) tx in
    both_show over tx (alone_rules over.policy.standards tx) _ (alone_shows over tx)
    (both_show over tx (final_rules over.chain tx) _ (final_shows over tx)
    (both_show over tx (pool_rules_as Member over.policy over.entries tx) _ (pools_show over tx)
    (both_show over tx (coin_rules_beside over.chain [] over.entries tx) _ (coins_show over tx)
    (both_show over tx (lock_rules over.chain coins tx) _ (lock_shows over tx coins)
    (both_show over tx (coin_value_rules (tip_of over.chain + 1) 0 coins) _ (coin_values_show over tx (tip_of over.chain + 1) 0 coins)
    (both_show over tx (balance_rules (coins_value coins) (outputs_value tx)) _ (balance_shows over tx)
    (both_show over tx (report_rules over.policy (reported tx.inputs coins) fee tx) _ (reports_show over tx)
    (both_show over tx (payment_rules Member over.policy tx over.floor fee vsize) _ (payments_show over tx)
    (both_show over tx (family_rules Member over.policy over.entries tx vsize) _ (families_show over tx vsize)
    (rates_show max_rate fee vsize over tx))))))))))

members_show : (max_rate : ℕ) (over : Standing) (tx : Tx) → AllShow over tx (member_rules max_rate over tx)
unfolding member_rules
members_show max_rate over tx =
    both_show over tx (half_rules Member max_rate [] over tx) _ (half_shows max_rate over tx)
    (both_show over tx (sweep_rules over.policy.standards over.entries tx) _ (sweep_shows over tx)
    (both_show over tx (replacement_rules (incremental_feerate over.policy) over.policy.parents over.entries (sibling_in over tx) tx (fee_at over.chain over.entries tx) (vsize_of over.policy.sigop_size (cost_at over.chain over.entries tx) tx)) _ (replacement_shows over tx)
    (verdict_shows over tx 0 tx.inputs)))

pub members_decide : MemberFiguresDecide
members_decide max_rate over tx denial h =
    found over tx denial (member_rules max_rate over tx) (members_show max_rate over tx) (denied (first_failing (member_rules max_rate over tx)) (member_grant over tx) denial h)

pub first_tries_decide : FirstTriesDecide
first_tries_decide over tx vsize = past_decides over over.policy.ancestors (ancestors_above over.entries tx.inputs) vsize (le_refl over.policy.ancestors)

-- ---- what is paid

-- each of these rules that fails leads to this
abbrev AllLead : (Denial → Type 0) → List (Rule Denial) → Type 0
AllLead P [] = Unit {0}
AllLead P (rule ∷ rules) = (rule.1 ≡ true → P rule.0) × AllLead P rules

led_by : (P : Denial → Type 0) (said denial : Denial) (fails : Bool) (rest : Option Denial) → (fails ≡ true → P said) → (rest ≡ Some denial → P denial)
    → (if fails then Some said else rest) ≡ Some denial → P denial
led_by P said denial true rest now later h = subst (λ (o : Option Denial). IfSome o P) h (now refl)
led_by P said denial false rest now later h = later h

led : (P : Denial → Type 0) (denial : Denial) (rules : List (Rule Denial)) → AllLead P rules → first_failing rules ≡ Some denial → P denial
led P denial [] all h = absurd (false≢true (ap is_some h))
led P denial (rule ∷ rules) all h = led_by P rule.0 denial rule.1 (first_failing rules) all.0 (led P denial rules all.1) h

-- a rule on what is paid has figures that decide, or none
abbrev PaidBy : Standing → Price → Denial → Type 0
PaidBy over price denial = IfSome (paid (asked_by over) denial price) (Decide over)

asked_lead : (over : Standing) (tx : Tx) (price : Price) (role : Role) → AllLead (PaidBy over price) (payment_rules role over.policy tx over.floor price.fee price.vsize)
unfolding payment_rules fee_rules
asked_lead over tx price Member = both (is_relay_fee_first over.policy tx)
  where
    both : (b : Bool) → AllLead (PaidBy over price) (if b then relay_rule over.policy price.fee price.vsize ∷ floor_rule over.policy over.floor price.fee price.vsize ∷ [] else floor_rule over.policy over.floor price.fee price.vsize ∷ relay_rule over.policy price.fee price.vsize ∷ [])
    both true = (λ h. lt_from _ _ h, (λ h. lt_from _ _ h, tt))
    both false = (λ h. lt_from _ _ h, (λ h. lt_from _ _ h, tt))
asked_lead over tx price Listed = both (is_relay_fee_first over.policy tx)
  where
    both : (b : Bool) → AllLead (PaidBy over price) (if b then relay_rule over.policy price.fee price.vsize ∷ floor_rule over.policy over.floor price.fee price.vsize ∷ [] else floor_rule over.policy over.floor price.fee price.vsize ∷ relay_rule over.policy price.fee price.vsize ∷ [])
    both true = (λ h. lt_from _ _ h, (λ h. lt_from _ _ h, tt))
    both false = (λ h. lt_from _ _ h, (λ h. lt_from _ _ h, tt))
asked_lead over tx price Together = one (is_version_three over.policy tx)
  where
    one : (b : Bool) → AllLead (PaidBy over price) (if b then [] else relay_rule over.policy price.fee price.vsize ∷ [])
    one true = tt
    one false = (λ h. lt_from _ _ h, tt)

-- a price is of this fee and this size
record IsOf (price : Price) (amount size : ℕ) : Type 0 where
  pub fee : price.fee ≡ amount
  pub vsize : price.vsize ≡ size

price_of : (price : Price) (fee cost : ℕ) (sigop_size : ℕ) (tx : Tx) → price_at fee (sized sigop_size cost tx) ≡ Some price → IsOf price fee (vsize_of sigop_size cost tx)
price_of price fee cost sigop_size tx = at (nat_lt 16000 cost)
  where
    fee_in : Option Price → ℕ
    fee_in None = 0
    fee_in (Some p) = p.fee

    size_in : Option Price → ℕ
    size_in None = 0
    size_in (Some p) = p.vsize

    within : (b : Bool) (vsize : ℕ) → (if b then None else Some (record { fee = fee; vsize = vsize })) ≡ Some price → IsOf price fee vsize
    within true vsize h = absurd (false≢true (ap is_some h))
    within false vsize h = record { fee = sym (ap fee_in h); vsize = sym (ap size_in h) }

    at : (b : Bool) → price_at fee (if b then None else Some (vsize_of sigop_size cost tx)) ≡ Some price → IsOf price fee (vsize_of sigop_size cost tx)
    at true h = absurd (false≢true (ap is_some h))
    at false h = within (nat_lt (2 ^ 64 - 1) fee) (vsize_of sigop_size cost tx) h

pub prices_decide : PricesDecide
prices_decide role over others tx price denial is h =
    let same = price_of price (fee_beside others over tx) (cost_beside over others tx) over.policy.sigop_size tx is in
    led (PaidBy over price) denial (payment_rules role over.policy tx over.floor price.fee price.vsize) (asked_lead over tx price role)
    (subst (λ (vsize : ℕ). first_failing (payment_rules role over.policy tx over.floor price.fee vsize) ≡ Some denial) (sym same.vsize)
    (subst (λ (fee : ℕ). first_failing (payment_rules role over.policy tx over.floor fee (vsize_beside others over tx)) ≡ Some denial) (sym same.fee) h))

pub sums_decide : SumsDecide
sums_decide over prices denial h =
    let fee = price_sum_fee prices in
    let vsize = price_sum_size prices in
    led (λ (d : Denial). IfSome (paid_together (asked_by over) d prices) (Decide over)) denial (floor_rule over.policy over.floor fee vsize ∷ relay_rule over.policy fee vsize ∷ [])
    (λ h. lt_from _ _ h, (λ h. lt_from _ _ h, tt)) h
