-- Those that enter together spend no outpoint that an entry or another of them spends.
use Rattle.std.proofs.Common.{◌≡◌, ℕ, false, List, [], ◌∷◌, ◌++◌, get_or, Ok, sym, subst, append-nil, append_assoc, ⊎_elim}
use Rattle.std.specs.Prelude.{◌+◌, Contains}
use Rattle.std.specs.List.{AllPairs}
use Rattle.std.proofs.lemmas.List.Elements.{Contains-get_or}
use Rattle.gate_bytes.specs.Order.{first_failing}
use Rattle.gate_bytes.proofs.Members.{Contains-cons_cases, Contains-head, Contains-rest, not_in_none}
use Rattle.gate_tx.specs.Tx.{Tx}
use Rattle.gate_pool.specs.Pool.{Admitted, spends_of, spent_by}
use Rattle.gate_admit.specs.Standing.{Standing}
use Rattle.gate_admit.proofs.Entering.{spent_by-push}
use Rattle.gate_admit.proofs.Granted.{Differ, each_once, no_conflicts, spends_once}
use Rattle.gate_admit.proofs.Lists.{AllPairs-append}
use Rattle.gate_diagram.specs.declared.Price.{Price}
use Rattle.gate_package.specs.declared.role.Role.TheVariants.{Together}
use Rattle.gate_package.specs.Judging.{fee_beside, half_rules, vsize_beside}
use Rattle.gate_package.specs.Packages.{AreNewcomers, newcomers}
use Rattle.gate_package.specs.Shapes.{has_conflict, has_duplicates}
use Rattle.gate_package.specs.Together.{halves_of}
use Rattle.gate_package.proofs.Arriving.{conflicts_none, first_alone, others_behind, together_new}
use Rattle.gate_package.proofs.Joining.{StandsFree, priced}
use Rattle.gate_package.proofs.Belonging.{half_passes}

each_single : (max_rate : ℕ) (over : Standing) (before : List Tx) (place : ℕ) (txs : List Tx) (prices : List Price) → halves_of max_rate over before place txs ≡ Ok prices → (tx : Tx) → Contains txs tx
    → AllPairs Differ (spends_of tx)
each_single max_rate over before place [] prices h tx c = not_in_none tx c
each_single max_rate over before place (first ∷ txs) prices h tx c =
    let price : Price = record { fee = fee_beside before over first; vsize = vsize_beside before over first } in
    let found = priced place price (first_failing (half_rules Together max_rate before over first)) (halves_of max_rate over (before ++ first ∷ []) (place + 1) txs) prices h in
    ⊎_elim
    (λ (same : first ≡ tx). subst (λ (t : Tx). AllPairs Differ (spends_of t)) same
    (spends_once first.inputs (each_once over.policy.standards first (half_passes Together max_rate before over first found.passes).alone)))
    (λ (k : Contains txs tx). each_single max_rate over (before ++ first ∷ []) (place + 1) txs found.rest found.behind tx k)
    (Contains-cons_cases first txs tx c)

added_once : (now : ℕ) (entries : List Admitted) (txs : List Tx) (prices : List Price) → AreNewcomers entries txs → ((tx : Tx) → Contains txs tx → AllPairs Differ (spends_of tx)) → AllPairs Differ (spent_by entries)
    → AllPairs Differ (spent_by (entries ++ newcomers now txs prices))
added_once now entries [] prices h single once = subst (λ (l : List Admitted). AllPairs Differ (spent_by l)) (sym (append-nil entries)) once
added_once now entries (tx ∷ txs) [] h single once = subst (λ (l : List Admitted). AllPairs Differ (spent_by l)) (sym (append-nil entries)) once
added_once now entries (tx ∷ txs) (price ∷ prices) h single once =
    let e : Admitted = record { tx = tx; fee = price.fee; vsize = price.vsize; time = now } in
    let alone = first_alone entries tx txs h in
    let more : AllPairs Differ (spent_by (entries ++ e ∷ [])) =
    subst (AllPairs Differ) (sym (spent_by-push entries e))
    (AllPairs-append Differ (spent_by entries) (spends_of tx) once (single tx (Contains-head tx txs))
    (no_conflicts tx entries (λ n d l. conflicts_none entries tx (get_or entries n d) alone (Contains-get_or entries n d l)))) in
    subst (λ (l : List Admitted). AllPairs Differ (spent_by l)) (append_assoc entries (e ∷ []) (newcomers now txs prices))
    (added_once now (entries ++ e ∷ []) txs prices (others_behind entries e txs h) (λ t c. single t (Contains-rest tx txs t c)) more)

pub together_once : (max_rate : ℕ) (over : Standing) (now : ℕ) (txs : List Tx) (prices : List Price) → StandsFree max_rate over txs prices → has_duplicates txs ≡ false → has_conflict txs ≡ false
    → AllPairs Differ (spent_by over.entries) → AllPairs Differ (spent_by (over.entries ++ newcomers now txs prices))
together_once max_rate over now txs prices h distinct apart once =
    added_once now over.entries txs prices (together_new max_rate over txs prices h distinct apart) (each_single max_rate over [] 0 txs prices h.halves) once
