-- The entries of the pool that a submission has to do with.
use Rattle.std.specs.Prelude.{◌≡◌, List, Option, Some, None}
use Rattle.gate_tx.specs.Tx.{Tx}
use Rattle.gate_pool.specs.Pool.{Admitted}
use Rattle.gate_pool.specs.Family.{AreIdsOf, conflicts_of, parents_above}
use Rattle.gate_pool.specs.Counting.{replaced_beside}
use Rattle.gate_admit.specs.declared.Attempt.TheVariants.{First}
use Rattle.gate_admit.specs.Policies.{Policy}
use Rattle.gate_admit.specs.Standing.{Standing}
use Rattle.gate_admit.specs.Truc.{sibling_of}
use Rattle.gate_figures.specs.declared.relating.Relatives.{Relatives}

-- the ids of the entries that a transaction conflicts with, of those that it would replace, and of those that it spends from
pub record AreRelatives (policy : Policy) (entries : List Admitted) (tx : Tx) (found : Relatives) : Type 0 where
  pub conflicts : AreIdsOf found.conflicts.items (conflicts_of entries tx)
  pub replaced : AreIdsOf found.replaced.items (replaced_beside entries (sibling_of First policy entries tx) tx)
  pub parents : AreIdsOf found.parents.items (parents_above entries tx.inputs)

-- what is found for a submission; none for an event that submits no transaction
abbrev pub RelativesFound : Standing → Option (Option Tx) → Option Relatives → Type 0
RelativesFound over (Some (Some tx)) (Some found) = AreRelatives over.policy over.entries tx found
RelativesFound over (Some (Some tx)) None = ⊥
RelativesFound over (Some None) found = found ≡ None
RelativesFound over None found = found ≡ None
