-- Those of a package that are denied by themselves, judged together: what each pays, or why they don't enter.
use Rattle.std.specs.Prelude.{ℕ, ◌+◌, ◌-◌, nat_lt, Bool, ◌&&◌, ◌||◌, if◌then◌else◌, List, [], ◌∷◌, ◌++◌, length, Option, Some, None, Result, Ok, Err}
use Rattle.std.specs.List.{list_any}
use Rattle.gate_bytes.specs.Order.{first_failing}
use Rattle.gate_tx.specs.Ids.{txid_of, wtxid_of}
use Rattle.gate_tx.specs.Tx.{Tx}
use Rattle.gate_rules.specs.declared.Denial.{Denial}
use Rattle.gate_standard.specs.declared.Standards.{Standards}
use Rattle.gate_rules.specs.declared.PackageDenial.{PackageDenial}
use Rattle.gate_rules.specs.declared.PackageDenial.TheVariants.{TrucViolation, FamilyLimits, UnspentDust}
use Rattle.gate_submission.specs.declared.PackageVerdict.TheVariants.{Failed, Denied}
use Rattle.gate_pool.specs.Pool.{Admitted, size_of}
use Rattle.gate_pool.specs.Family.{ancestors_above, descendants_of}
use Rattle.gate_admit.specs.declared.limits.FamilyLimits.{FamilyLimits as Limits}
use Rattle.gate_admit.specs.Limits.{usual_limits}
use Rattle.gate_admit.specs.Policies.{Policy}
use Rattle.gate_admit.specs.Reports.{verdict_rules}
use Rattle.gate_admit.specs.Rules.{floor_rule, relay_rule}
use Rattle.gate_admit.specs.Standing.{Standing}
use Rattle.gate_admit.specs.Verdicts.{VerdictTable}
use Rattle.gate_package.specs.declared.role.Role.{Role}
use Rattle.gate_package.specs.declared.role.Role.TheVariants.{Together}
use Rattle.gate_package.specs.declared.together.DeniedOne.{DeniedOne}
use Rattle.gate_diagram.specs.declared.Price.{Price}
use Rattle.gate_package.specs.declared.together.Refusal.{Refusal}
use Rattle.gate_package.specs.Judging.{half_rules, fee_beside, replaces_one, vsize_beside}
use Rattle.gate_package.specs.Kinship.{breaks_together}
use Rattle.gate_diagram.specs.Prices.{price_sum_fee, price_sum_size}
use Rattle.gate_package.specs.Replacement.{replacement_rules}
use Rattle.gate_rivals.specs.Rivals.{all_inputs}
use Rattle.gate_package.specs.Sweeping.{sweep_rules_beside}

-- a member, by its place among those that are judged together, is denied by a rule of admission, and so the package has failed
abbrev pub denied_at : ℕ → Denial → Refusal
denied_at place denial = record { verdict = Failed; member = Some (record { place = place; denial = denial }) }

-- a rule on packages denies all of them
abbrev pub all_denied : PackageDenial → Refusal
all_denied denial = record { verdict = Denied denial; member = None }

-- ---- each by the first half of the order, behind those before it

abbrev pub with_price : Price → Result (List Price) Refusal → Result (List Price) Refusal
with_price price (Ok prices) = Ok (price ∷ prices)
with_price price (Err refusal) = Err refusal

abbrev pub half_or : ℕ → Option Denial → Result (List Price) Refusal → Result (List Price) Refusal
half_or place (Some denial) others = Err (denied_at place denial)
half_or place None others = others

-- what each pays in this role; the first stands at this place, behind these before it
abbrev pub halves_as : Role → ℕ → Standing → List Tx → ℕ → List Tx → Result (List Price) Refusal
halves_as role max_rate over before place [] = Ok []
halves_as role max_rate over before place (tx ∷ txs) =
    half_or place (first_failing (half_rules role max_rate before over tx))
    (with_price (record { fee = fee_beside before over tx; vsize = vsize_beside before over tx }) (halves_as role max_rate over (before ++ tx ∷ []) (place + 1) txs))

-- what each pays that is judged together with the others
abbrev pub halves_of : ℕ → Standing → List Tx → ℕ → List Tx → Result (List Price) Refusal
halves_of max_rate over before place txs = halves_as Together max_rate over before place txs

-- ---- all of them

-- A34 and A35 of what all pay: the floor is asked first, whatever the policy says
abbrev pub unpaid : Policy → ℕ → ℕ → ℕ → Option Denial
unpaid policy floor fee vsize = first_failing (floor_rule policy floor fee vsize ∷ relay_rule policy fee vsize ∷ [])

-- the entries above any of them
abbrev pub above_all : List Admitted → List Tx → List Admitted
above_all entries txs = ancestors_above entries (all_inputs txs)

-- with this many more of this size together the descendants of an entry pass the limits
abbrev pub is_crowded : Limits → List Admitted → ℕ → ℕ → Admitted → Bool
is_crowded limits entries count vsize a =
    nat_lt limits.descendants (length (descendants_of entries (txid_of a.tx)) + count) || nat_lt limits.descendants_size (size_of (descendants_of entries (txid_of a.tx)) + vsize)

-- this many of this size together pass the limits by themselves
abbrev pub are_too_many : Limits → ℕ → ℕ → Bool
are_too_many limits count vsize = nat_lt limits.ancestors count || (nat_lt limits.descendants count || (nat_lt limits.ancestors_size vsize || nat_lt limits.descendants_size vsize))

-- with this many of this size together these ancestors, or the descendants of one of these, pass the limits
abbrev pub crowd : Limits → List Admitted → ℕ → ℕ → List Admitted → Bool
crowd limits entries count vsize above = (nat_lt 0 (length above) && nat_lt limits.ancestors_size (size_of above + vsize)) || list_any (is_crowded limits entries count vsize) above

-- taken for one family, they may pass the limits (J9)
abbrev pub passes_limits : Policy → List Admitted → List Tx → ℕ → Bool
passes_limits policy entries txs vsize =
    let limits = usual_limits policy in
    let count = length txs in
    let above = above_all entries txs in
    are_too_many limits count vsize || (nat_lt limits.ancestors (length above + count) || crowd limits entries count vsize above)

-- one of them spends what an entry spends, and so they replace entries
abbrev pub replaces_some : List Admitted → List Tx → Bool
replaces_some entries txs = list_any (replaces_one entries) txs

abbrev pub one_at : ℕ → Option Denial → Option DeniedOne → Option DeniedOne
one_at place (Some denial) others = Some (record { place = place; denial = denial })
one_at place None others = others

-- the first that fails A49, from this place on, with its parents among all of them and among the entries
abbrev pub unswept_place : Standards → List Tx → List Admitted → ℕ → List Tx → Option DeniedOne
unswept_place standards all entries place [] = None
unswept_place standards all entries place (tx ∷ txs) = one_at place (first_failing (sweep_rules_beside standards all entries tx)) (unswept_place standards all entries (place + 1) txs)

-- the first that fails one of A43 to A45, from this place on
abbrev pub doubted_place : VerdictTable → ℕ → List Tx → Option DeniedOne
doubted_place verdicts place [] = None
doubted_place verdicts place (tx ∷ txs) = one_at place (first_failing (verdict_rules verdicts (wtxid_of tx) 0 tx.inputs)) (doubted_place verdicts (place + 1) txs)

abbrev pub last_place : List Tx → ℕ
last_place txs = length txs - 1

abbrev pub refused_by_dust : Option DeniedOne → Option Refusal → Option Refusal
refused_by_dust (Some one) others = Some (record { verdict = Denied UnspentDust; member = Some one })
refused_by_dust None others = others

abbrev pub refused_by_verdict : Option DeniedOne → Option Refusal
refused_by_verdict (Some one) = Some (denied_at one.place one.denial)
refused_by_verdict None = None

abbrev pub refused_by_price : List Tx → Option Denial → Option Refusal → Option Refusal
refused_by_price txs (Some denial) others = Some (denied_at (last_place txs) denial)
refused_by_price txs None others = others

-- why all of them don't enter, by A49 and A43 to A45 of each
abbrev pub refused_each : Standing → List Tx → Option Refusal
refused_each over txs = refused_by_dust (unswept_place over.policy.standards txs over.entries 0 txs) (refused_by_verdict (doubted_place over.verdicts 0 txs))

-- the first of J10 to J16 that fails, which are asked of those that replace entries alone
abbrev pub replacing_denial : Policy → List Admitted → List Tx → List Price → Option PackageDenial
replacing_denial policy entries txs prices = if replaces_some entries txs then first_failing (replacement_rules policy entries txs prices) else None

abbrev pub refused_by_rule : Option PackageDenial → Option Refusal → Option Refusal
refused_by_rule (Some denial) others = Some (all_denied denial)
refused_by_rule None others = others

-- why all of them don't enter, each at its price, if they make families of version 3 where they have to
unfoldable pub priced_refusal : Standing → List Tx → List Price → Option Refusal
priced_refusal over txs prices =
    refused_by_price txs (unpaid over.policy over.floor (price_sum_fee prices) (price_sum_size prices))
    (if passes_limits over.policy over.entries txs (price_sum_size prices) then Some (all_denied FamilyLimits)
    else refused_by_rule (replacing_denial over.policy over.entries txs prices) (refused_each over txs))

-- why all of them don't enter, each at its price
unfoldable pub refusal_of : Standing → List Tx → List Price → Option Refusal
refusal_of over txs prices =
    if breaks_together over.policy over.entries txs prices then Some (all_denied TrucViolation)
    else priced_refusal over txs prices

abbrev pub unless_refused : Option Refusal → List Price → Result (List Price) Refusal
unless_refused (Some refusal) prices = Err refusal
unless_refused None prices = Ok prices

abbrev pub all_checked : Standing → List Tx → Result (List Price) Refusal → Result (List Price) Refusal
all_checked over txs (Ok prices) = unless_refused (refusal_of over txs prices) prices
all_checked over txs (Err refusal) = Err refusal

-- what each pays if all may enter together, or why they don't
unfoldable pub together_of : ℕ → Standing → List Tx → Result (List Price) Refusal
together_of max_rate over txs = all_checked over txs (halves_of max_rate over [] 0 txs)
