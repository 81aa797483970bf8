-- A submission: the decision, and what the pool and its floor are after it.
use Rattle.std.specs.Prelude.{◌≡◌, ℕ, Bool, is_some, if◌then◌else◌, List, ◌++◌, Option, Some, None, Result, Ok, Err}
use Rattle.std.specs.Option.{option_to_list}
use Rattle.gate_tx.specs.Tx.{Tx}
use Rattle.gate_tx.specs.Ids.{txid_of}
use Rattle.gate_rules.specs.declared.Denial.{Denial}
use Rattle.gate_rules.specs.declared.Denial.TheVariants.{MempoolFull}
use Rattle.gate_chain.specs.History.{History}
use Rattle.gate_pool.specs.Pool.{Admitted, entry_by_txid}
use Rattle.gate_pool.specs.Counting.{entered_beside}
use Rattle.gate_trim.specs.Expiry.{expired}
use Rattle.gate_trim.specs.Trimming.{Trimmed, trim_of}
use Rattle.gate_admit.specs.declared.attempt.Attempt.TheVariants.{First}
use Rattle.gate_admit.specs.declared.grant.Grant.{Grant}
use Rattle.gate_admit.specs.Policies.{Policy}
use Rattle.gate_admit.specs.Good.{Limits, IsGood, IsSettled, AreApart, connected_transactions}
use Rattle.gate_admit.specs.Rules.{decision_of}
use Rattle.gate_admit.specs.Standing.{Standing}
use Rattle.gate_admit.specs.Truc.{sibling_of}

pub record Submitted : Type 0 where
  pub decision : Result Grant Denial
  pub entries : List Admitted
  pub floor : ℕ

-- the entry of a granted transaction, admitted at this second
abbrev pub admitted : Tx → Grant → ℕ → Admitted
admitted tx grant now = record { tx = tx; fee = grant.fee; vsize = grant.vsize; time = now }

-- An entry enters under this policy with this budget of virtual bytes, over these entries and this floor, in place of its sibling.
-- Then entries expire at its second, and then the pool is trimmed.
unfoldable pub entry_of : Policy → ℕ → List Admitted → Option (List ℕ) → ℕ → Admitted → Trimmed
entry_of policy budget entries sibling floor e = trim_of policy.incremental_rate budget (expired policy.stay e.time (entered_beside entries sibling e)) floor

abbrev pub holds : List Admitted → List ℕ → Bool
holds entries txid = is_some (entry_by_txid entries txid)

-- the outcome for a granted transaction: if it has left the pool again it is denied (A46), and pool and floor stay as its entry
-- left them
abbrev pub entered_by : Grant → List ℕ → Trimmed → Submitted
entered_by grant txid after = record {
  decision = if holds after.entries txid then Ok grant else Err MempoolFull;
  entries = after.entries;
  floor = after.floor;
}

-- the outcome of a decision: a denial changes nothing
abbrev pub submitted_by : Standing → Option Tx → ℕ → ℕ → Result Grant Denial → Submitted
submitted_by over tx now budget (Err denial) = record { decision = Err denial; entries = over.entries; floor = over.floor }
submitted_by over None now budget (Ok grant) = record { decision = Ok grant; entries = over.entries; floor = over.floor }
submitted_by over (Some tx) now budget (Ok grant) = entered_by grant (txid_of tx) (entry_of over.policy budget over.entries (sibling_of First over.policy over.entries tx) over.floor (admitted tx grant now))

-- the submission at this second, with this budget of virtual bytes
unfoldable pub submit_of : Standing → Option Tx → ℕ → ℕ → Submitted
submit_of over tx now budget = submitted_by over tx now budget (decision_of First over tx)

-- what a submission leaves: its decision, the entries and the floor
abbrev pub Leaves : Standing → Option Tx → ℕ → ℕ → List Admitted → ℕ → Result Grant Denial → Type 0
Leaves over tx now budget entries floor decision = submit_of over tx now budget ≡ record { decision = decision; entries = entries; floor = floor }

-- if the transactions are told apart by their ids, a good pool is still good after the submission
abbrev pub StaysGood : Limits → History → Option Tx → List Admitted → List Admitted → Type 0
StaysGood limits chain tx before after =
    IsSettled chain → AreApart (option_to_list tx ++ connected_transactions chain) → IsGood limits chain before → IsGood limits chain after
