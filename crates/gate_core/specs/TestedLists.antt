-- Several transactions that a user tests at once: what would become of each.
use Rattle.std.specs.Prelude.{ℕ, if◌then◌else◌, List, [], ◌∷◌, Option, is_none, Result, Ok, Err}
use Rattle.std.specs.List.{list_any}
use Rattle.gate_tx.specs.Ids.{txid_of, wtxid_of}
use Rattle.gate_tx.specs.Tx.{Tx}
use Rattle.gate_rules.specs.declared.Denial.TheVariants.{Decode}
use Rattle.gate_admit.specs.Standing.{Standing}
use Rattle.gate_package.specs.declared.ListedFate.{ListedFate}
use Rattle.gate_package.specs.declared.ListedFate.TheVariants.{Allowed, Denied, AllDenied, Unjudged}
use Rattle.gate_package.specs.Listed.{listed_of}
use Rattle.gate_package.specs.Shapes.{members_of}
use Rattle.gate_query.specs.Queries.{tested_list}
use Rattle.gate_rpc.specs.declared.items.Outcome.{Outcome}
use Rattle.gate_rpc.specs.declared.items.Outcome.TheVariants as outcomes
use Rattle.gate_rpc.specs.declared.error.RpcError.{RpcError}
use Rattle.gate_rpc.specs.declared.error.RpcError.TheVariants as errors
use Rattle.gate_rpc.specs.declared.result.RpcResult.{RpcResult}
use Rattle.gate_rpc.specs.declared.result.RpcResult.TheVariants.{Outcomes}
use Rattle.gate_core.specs.World.{World, standing_of}

abbrev pub outcome_as : Tx → ListedFate → Outcome
outcome_as tx (Allowed fee vsize) = outcomes.Allowed (txid_of tx) (wtxid_of tx) fee vsize
outcome_as tx (Denied denial) = outcomes.Rejected (txid_of tx) (wtxid_of tx) denial
outcome_as tx (AllDenied denial) = outcomes.AllRejected (txid_of tx) (wtxid_of tx) denial
outcome_as tx Unjudged = outcomes.Unjudged (txid_of tx) (wtxid_of tx)

abbrev pub outcomes_as : List Tx → List ListedFate → List Outcome
outcomes_as [] fates = []
outcomes_as (tx ∷ txs) [] = []
outcomes_as (tx ∷ txs) (fate ∷ fates) = outcome_as tx fate ∷ outcomes_as txs fates

-- what would become of each where they are tested as one package; the answer is an error if one of them is no transaction
abbrev pub tested_together : Standing → List (Option Tx) → Result RpcResult RpcError
tested_together over submissions =
    if list_any is_none submissions then Err (errors.Denied Decode)
    else Ok (Outcomes (outcomes_as (members_of submissions) (listed_of over (members_of submissions))))

-- a list is tested as one package where the operator takes packages, and else one by one
abbrev pub list_tested : World → ℕ → List (Option Tx) → Result RpcResult RpcError
list_tested w now submissions = if w.policy.packages then tested_together (standing_of w) submissions else tested_list (standing_of w) now submissions
