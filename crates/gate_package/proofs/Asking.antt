-- J10 to J12 in turn, and then those on what is replaced.
use Rattle.std.proofs.Common.{◌≡◌, true, false, not, List, length, Some, sym}
use Rattle.std.specs.Prelude.{◌==◌, if◌then◌else◌}
use Rattle.gate_bytes.specs.Order.{first_failing}
use Rattle.gate_tx.specs.Tx.{Tx}
use Rattle.gate_rules.specs.declared.PackageDenial.TheVariants.{ReplacesAsOthers, HasAncestors, TooManyReplacements}
use Rattle.gate_pool.specs.Pool.{Admitted}
use Rattle.gate_admit.specs.Policies.{Policy}
use Rattle.gate_diagram.specs.declared.Price.{Price}
use Rattle.gate_package.specs.Replacement.{price_of_all, replacement_rules, rules_on}
use Rattle.gate_rivals.specs.Rivals.{have_ancestors, have_too_many, replaced_together, rivals_of}

pub behind_three : (policy : Policy) (entries : List Admitted) (txs : List Tx) (prices : List Price) → (length txs == 2) ≡ true → have_ancestors entries txs ≡ false → have_too_many entries (rivals_of entries txs) ≡ false
    → first_failing (rules_on policy entries (replaced_together entries txs) prices (price_of_all prices)) ≡ first_failing (replacement_rules policy entries txs prices)
unfolding replacement_rules
behind_three policy entries txs prices two free few =
    sym (λ z.
    if not (two z) then Some ReplacesAsOthers
    else if free z then Some HasAncestors
    else if few z then Some TooManyReplacements
    else first_failing (rules_on policy entries (replaced_together entries txs) prices (price_of_all prices)))
