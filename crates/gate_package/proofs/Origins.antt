-- Each entry that a package leaves was there, or is of a member.
use Rattle.std.proofs.Common.{◌≡◌, ℕ, not, List, [], ◌∷◌, ◌++◌, map, Option, subst, ⊎_elim}
use Rattle.std.specs.Prelude.{Contains}
use Rattle.std.proofs.lemmas.List.Elements.{Contains-append_cases, Contains-append_left, Contains-append_right, Contains-push_cases}
use Rattle.gate_bytes.proofs.Members.{Contains-cons_cases, Contains-head, Contains-rest, not_in_none}
use Rattle.gate_graph.specs.Family.{reaches}
use Rattle.gate_tx.specs.Ids.{txid_of}
use Rattle.gate_tx.specs.Tx.{Tx}
use Rattle.gate_pool.specs.Counting.{entered_beside, is_counted}
use Rattle.gate_pool.specs.Family.{steps, without_below}
use Rattle.gate_pool.specs.Pool.{Admitted}
use Rattle.gate_pool.proofs.Entries.{Contains-map}
use Rattle.gate_pool.proofs.Walking.{Contains-from_filter}
use Rattle.gate_admit.specs.declared.Attempt.TheVariants.{First}
use Rattle.gate_admit.specs.Rules.{grant_of}
use Rattle.gate_admit.specs.Standing.{Standing}
use Rattle.gate_admit.specs.Submission.{admitted}
use Rattle.gate_admit.proofs.Staying.{stays_within}
use Rattle.gate_diagram.specs.declared.Price.{Price}
use Rattle.gate_package.specs.Packages.{newcomers, packaged_of, sibling_in}
use Rattle.gate_package.proofs.Keeping.{package_keeps}
use Rattle.gate_package.proofs.Membership.{among, course_keeps}

newcomer_from : (now : ℕ) (txs : List Tx) (prices : List Price) (e : Admitted) → Contains (newcomers now txs prices) e → Contains txs e.tx
newcomer_from now [] prices e c = not_in_none e c
newcomer_from now (tx ∷ txs) [] e c = not_in_none e c
newcomer_from now (tx ∷ txs) (price ∷ prices) e c =
    let first : Admitted = record { tx = tx; fee = price.fee; vsize = price.vsize; time = now } in
    ⊎_elim (λ (same : first ≡ e). subst (λ (x : Admitted). Contains (tx ∷ txs) x.tx) same (Contains-head tx txs)) (λ (k : Contains (newcomers now txs prices) e). Contains-rest tx txs e.tx (newcomer_from now txs prices e k))
    (Contains-cons_cases first (newcomers now txs prices) e c)

-- the entries are of these that were there, or of members
abbrev FromThese : List Admitted → List Tx → List Admitted → Type 0
FromThese before txs entries = (e : Admitted) → Contains entries e → Contains (map (λ (x : Admitted). x.tx) before ++ txs) e.tx

entered_from : (before : List Admitted) (txs : List Tx) (entries : List Admitted) (sibling : Option (List ℕ)) (new : Admitted) → Contains txs new.tx → FromThese before txs entries → FromThese before txs (entered_beside entries sibling new)
entered_from before txs entries sibling new member from e c =
    ⊎_elim (λ (k : Contains (without_below (is_counted sibling new.tx) entries) e). from e (stays_within (is_counted sibling new.tx) entries e k))
    (λ (same : new ≡ e). subst (λ (x : Admitted). Contains (map (λ (y : Admitted). y.tx) before ++ txs) x.tx) same (Contains-append_right (map (λ (y : Admitted). y.tx) before) txs new.tx member))
    (Contains-push_cases (without_below (is_counted sibling new.tx) entries) new e c)

pub package_from : (max_rate : ℕ) (over : Standing) (txs : List Tx) (now budget : ℕ) (e : Admitted) → Contains (packaged_of max_rate over txs now budget).entries e → Contains (map (λ (x : Admitted). x.tx) over.entries ++ txs) e.tx
package_from max_rate over txs now budget =
    package_keeps (FromThese over.entries txs) max_rate over now txs
    (λ entries these prices is distinct apart within from e c.
    ⊎_elim (from e) (λ (k : Contains (newcomers now these prices) e). Contains-append_right (map (λ (x : Admitted). x.tx) over.entries) txs e.tx (within e.tx (newcomer_from now these prices e k)))
    (Contains-append_cases entries (newcomers now these prices) e c))
    (λ test entries from e c. from e (stays_within test entries e c)) budget
    (λ entries txid from e c. from e (Contains-from_filter (λ (x : Admitted). not (reaches (steps entries) txid (txid_of x.tx))) entries e c))
    (course_keeps (FromThese over.entries txs) (Contains txs) max_rate over now
    (λ entries tx member passes from. entered_from over.entries txs entries (sibling_in (among over entries) tx) (admitted tx (grant_of First (among over entries) tx) now) member from)
    over.entries txs (λ tx c. c))
    (λ e c. Contains-append_left (map (λ (x : Admitted). x.tx) over.entries) txs e.tx (Contains-map (λ (x : Admitted). x.tx) over.entries e c))
