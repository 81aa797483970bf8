-- Several transactions that are tested as one package: what would become of each.
use Rattle.std.specs.Prelude.{ℕ, ◌+◌, ◌==◌, nat_lt, if◌then◌else◌, List, [], ◌∷◌, map, Option, Some, None, Result, Ok, Err}
use Rattle.gate_bytes.specs.Order.{first_failing}
use Rattle.gate_tx.specs.Tx.{Tx}
use Rattle.gate_rules.specs.declared.PackageDenial.{PackageDenial}
use Rattle.gate_rules.specs.declared.PackageDenial.TheVariants.{TrucViolation, FamilyLimits}
use Rattle.gate_admit.specs.Standing.{Standing}
use Rattle.gate_package.specs.declared.listing.ListedFate.{ListedFate}
use Rattle.gate_package.specs.declared.listing.ListedFate.TheVariants.{Allowed, Denied, AllDenied, Unjudged}
use Rattle.gate_diagram.specs.declared.Price.{Price}
use Rattle.gate_package.specs.declared.role.Role.TheVariants.{Listed}
use Rattle.gate_package.specs.declared.together.DeniedOne.{DeniedOne}
use Rattle.gate_package.specs.declared.together.Refusal.{Refusal}
use Rattle.gate_package.specs.Kinship.{breaks_together}
use Rattle.gate_diagram.specs.Prices.{price_sum_size}
use Rattle.gate_package.specs.Shapes.{list_rules}
use Rattle.gate_package.specs.Together.{doubted_place, halves_as, passes_limits, unswept_place}

-- ---- what is said of each

-- a rule on packages denies all of them
abbrev pub each_denied : PackageDenial → List Tx → List ListedFate
each_denied denial txs = map (λ (tx : Tx). AllDenied denial) txs

abbrev pub denied_or_unjudged : Option DeniedOne → ℕ → ListedFate
denied_or_unjudged None place = Unjudged
denied_or_unjudged (Some one) place = if place == one.place then Denied one.denial else Unjudged

-- one of them is denied, and nothing is said of the others; the first stands at this place
abbrev pub one_denied : Option DeniedOne → ℕ → List Tx → List ListedFate
one_denied one place [] = []
one_denied one place (tx ∷ txs) = denied_or_unjudged one place ∷ one_denied one (place + 1) txs

abbrev pub allowed_before : Option DeniedOne → ℕ → Price → ListedFate
allowed_before None place price = Allowed price.fee price.vsize
allowed_before (Some one) place price = if nat_lt place one.place then Allowed price.fee price.vsize else denied_or_unjudged (Some one) place

-- those before the one that is denied are allowed, each at its price, and nothing is said of those behind it; the first stands at
-- this place
abbrev pub allowed_until : Option DeniedOne → ℕ → List Price → List ListedFate
allowed_until one place [] = []
allowed_until one place (price ∷ prices) = allowed_before one place price ∷ allowed_until one (place + 1) prices

-- ---- what would become of each

abbrev pub unless_unswept : Option DeniedOne → List Tx → List ListedFate → List ListedFate
unless_unswept (Some one) txs others = one_denied (Some one) 0 txs
unless_unswept None txs others = others

-- by J8, J9, A49 of each in turn, and then A43 to A45 of each in turn, each at its price
unfoldable pub listed_at : Standing → List Tx → List Price → List ListedFate
listed_at over txs prices =
    if breaks_together over.policy over.entries txs prices then each_denied TrucViolation txs
    else if passes_limits over.policy over.entries txs (price_sum_size prices) then each_denied FamilyLimits txs
    else unless_unswept (unswept_place over.policy.standards txs over.entries 0 txs) txs (allowed_until (doubted_place over.verdicts 0 txs) 0 prices)

abbrev pub listed_from : Standing → List Tx → Result (List Price) Refusal → List ListedFate
listed_from over txs (Ok prices) = listed_at over txs prices
listed_from over txs (Err refusal) = one_denied refusal.member 0 txs

abbrev pub unless_denied : Option PackageDenial → List Tx → List ListedFate → List ListedFate
unless_denied (Some denial) txs others = each_denied denial txs
unless_denied None txs others = others

-- of each, over entries that stay as they are: by J3 to J6, then by the first half of the order of each in turn, without a
-- greatest feerate, and by what follows
unfoldable pub listed_of : Standing → List Tx → List ListedFate
listed_of over txs = unless_denied (first_failing (list_rules txs)) txs (listed_from over txs (halves_as Listed 0 over [] 0 txs))
