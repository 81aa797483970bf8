-- Where the transactions of chain and pool after a chain event come from, and what becomes of the floor.
use Rattle.std.proofs.Common.{◌≡◌, ◌≤◌, ℕ, Bool, true, false, cond, not, List, [], ◌∷◌, ◌++◌, take, Some, Result, Ok, Err, refl, sym, ap, subst, ◌⊎◌, inl, inr, ⊎_elim, arith}
use Rattle.std.specs.Prelude.{◌==◌, Contains, map}
use Rattle.std.proofs.lemmas.List.{take-append-drop}
use Rattle.std.proofs.lemmas.List.Elements.{Contains-append_left, Contains-append_right, Contains-append_cases, Contains-push_cases}
use Rattle.gate_graph.specs.Family.{reaches}
use Rattle.gate_bytes.proofs.Members.{Contains-head, Contains-rest}
use Rattle.gate_tx.specs.Ids.{txid_of}
use Rattle.gate_tx.specs.Tx.{Tx}
use Rattle.gate_rules.specs.declared.Denial.{Denial}
use Rattle.gate_chain.specs.Blocks.{Block}
use Rattle.gate_chain.specs.History.{History}
use Rattle.gate_block.specs.Switching.{left_of, last_blocks, switched}
use Rattle.gate_pool.specs.Pool.{Admitted, has_txid}
use Rattle.gate_pool.specs.Family.{steps, names, is_below_some, is_conflict, without_below}
use Rattle.gate_pool.proofs.Entries.{Contains-map, Contains-from_map}
use Rattle.gate_pool.proofs.Walking.{Contains-from_filter}
use Rattle.gate_trim.specs.Expiry.{expired, is_stale}
use Rattle.gate_trim.proofs.Trimmings.{trim_keeps, trim_rises}
use Rattle.gate_admit.specs.declared.Attempt.TheVariants.{Again}
use Rattle.gate_admit.specs.declared.Grant.{Grant}
use Rattle.gate_admit.specs.Good.{connected_transactions}
use Rattle.gate_admit.specs.Rules.{decision_of}
use Rattle.gate_admit.specs.Submission.{admitted}
use Rattle.gate_admit.specs.Truc.{TrucHolds}
use Rattle.gate_admit.proofs.Kin.{truc_part}
use Rattle.gate_admit.proofs.Staying.{stays_within}
use Rattle.gate_reorg.specs.Events.{terms_after, event_of}
use Rattle.gate_reorg.specs.Goodness.{BlocksKeepTruc, BlocksOnlyTake, EventsBringNothingElse, FloorsNeverFall, met_by}
use Rattle.gate_reorg.specs.Reorganisation.{Terms, standing_again, confirmed, without_txid, all_confirmed, has_id, unconfirmed, tried, tried_again, all_tried_again, brought_back, is_premature, without_premature, returned, pool_after}
use Rattle.gate_submission.specs.Blocks.{transactions_of}
use Rattle.gate_reorg.proofs.Knowing.{blocks_cases, Contains-first_blocks, Contains-last_blocks}
use Rattle.gate_reorg.proofs.Leaving.{all_confirmed_leaves}

-- ---- entries

-- an entry was there, or is of a transaction that was tried again
abbrev Came : List Admitted → List Tx → Admitted → Type 0
Came entries txs e = Contains entries e ⊎ Contains txs e.tx

tried_came : (entries : List Admitted) (t : Tx) (now : ℕ) (d : Result Grant Denial) (e : Admitted) → Contains (tried entries t now d) e → Contains entries e ⊎ (t ≡ e.tx)
tried_came entries t now (Ok grant) e m =
    ⊎_elim (λ (k : Contains (without_below (is_conflict t) entries) e). inl (stays_within (is_conflict t) entries e k))
    (λ (k : admitted t grant now ≡ e). inr (ap (λ (a : Admitted). a.tx) k))
    (Contains-push_cases (without_below (is_conflict t) entries) (admitted t grant now) e m)
tried_came entries t now (Err denial) e m = inl (stays_within (λ a. names a (txid_of t)) entries e m)

all_tried_came : (under : Terms) (entries : List Admitted) (txs : List Tx) (e : Admitted) → Contains (all_tried_again under entries txs) e → Came entries txs e
unfolding tried_again
all_tried_came under entries [] e m = inl m
all_tried_came under entries (t ∷ txs) e m =
    ⊎_elim
    (λ (k : Contains (tried_again under entries t) e). ⊎_elim (λ (l : Contains entries e). inl l) (λ (same : t ≡ e.tx). inr (subst (λ (u : Tx). Contains (t ∷ txs) u) same (Contains-head t txs)))
    (tried_came entries t under.second (decision_of Again (standing_again under entries) (Some t)) e k))
    (λ (k : Contains txs e.tx). inr (Contains-rest t txs e.tx k))
    (all_tried_came under (tried_again under entries t) txs e m)

returned_came : (under : Terms) (entries : List Admitted) (floor : ℕ) (new old : List Tx) (e : Admitted) → Contains (returned under entries floor new old).entries e → Came entries old e
unfolding returned
returned_came under entries floor new old e m =
    let left = brought_back under entries new old in
    let ripe = without_premature under.chain left in
    let within : Contains left e =
    stays_within (λ (a : Admitted). is_premature under.chain left a.tx) left e
    (stays_within (is_stale under.policy.stay under.second) ripe e
    (trim_keeps (λ (l : List Admitted). (a : Admitted) → Contains l a → Contains (expired under.policy.stay under.second ripe) a)
    (λ l txid h a k. h a (Contains-from_filter (λ (x : Admitted). not (reaches (steps l) txid (txid_of x.tx))) l a k)) under.policy.incremental_rate under.budget (expired under.policy.stay under.second ripe) floor (λ a k. k) e m)) in
    ⊎_elim (λ (k : Contains (all_confirmed entries new) e). inl ((all_confirmed_leaves entries new).within e k))
    (λ (k : Contains (unconfirmed new old) e.tx). inr (Contains-from_filter (λ (u : Tx). not (has_id new (txid_of u))) old e.tx k))
    (all_tried_came under (all_confirmed entries new) (unconfirmed new old) e within)

after_came : (depth : ℕ) (under : Terms) (entries : List Admitted) (floor : ℕ) (new old : List Tx) (e : Admitted) → Contains (pool_after depth under entries floor new old).entries e → Came entries old e
unfolding pool_after
after_came depth under entries floor new old e = go (depth == 0)
  where
    go : (b : Bool) → Contains (cond b (record { entries = all_confirmed entries new; floor = floor }) (returned under entries floor new old)).entries e → Came entries old e
    go true m = inl ((all_confirmed_leaves entries new).within e m)
    go false m = returned_came under entries floor new old e m

-- ---- transactions

front_back : (h : History) (depth : ℕ) → h.blocks ≡ take (left_of h depth) h.blocks ++ last_blocks h depth
front_back h depth = sym (take-append-drop (left_of h depth) h.blocks)

pub events_bring_nothing_else : EventsBringNothingElse
unfolding event_of
events_bring_nothing_else over depth blocks now budget tx m =
    let h = over.chain in
    let entries = map (λ (e : Admitted). e.tx) over.entries in
    let new = transactions_of blocks in
    let front = take (left_of h depth) h.blocks in
    let after = pool_after depth (terms_after over depth blocks now budget) over.entries over.floor new (transactions_of (last_blocks h depth)) in
    let before : Contains (connected_transactions h) tx → Contains (met_by h over.entries blocks) tx =
    λ k. Contains-append_left (connected_transactions h ++ entries) new tx (Contains-append_left (connected_transactions h) entries tx k) in
    ⊎_elim
    (λ (k : Contains (connected_transactions (switched h depth blocks)) tx). ⊎_elim
    (λ (l : Contains (transactions_of front) tx). before (subst (λ (bs : List Block). Contains (transactions_of bs) tx) (sym (front_back h depth)) (Contains-first_blocks front (last_blocks h depth) tx l)))
    (λ (l : Contains new tx). Contains-append_right (connected_transactions h ++ entries) new tx l)
    (blocks_cases front blocks tx k))
    (λ (k : Contains (map (λ (e : Admitted). e.tx) after.entries) tx).
    let w = Contains-from_map (λ (e : Admitted). e.tx) after.entries tx k in
    ⊎_elim
    (λ (l : Contains over.entries w.item).
    Contains-append_left (connected_transactions h ++ entries) new tx
    (Contains-append_right (connected_transactions h) entries tx (subst (λ (t : Tx). Contains entries t) w.is (Contains-map (λ (e : Admitted). e.tx) over.entries w.item l))))
    (λ (l : Contains (transactions_of (last_blocks h depth)) w.item.tx).
    before (subst (λ (t : Tx). Contains (connected_transactions h) t) w.is
    (subst (λ (bs : List Block). Contains (transactions_of bs) w.item.tx) (sym (front_back h depth)) (Contains-last_blocks front (last_blocks h depth) w.item.tx l))))
    (after_came depth (terms_after over depth blocks now budget) over.entries over.floor new (transactions_of (last_blocks h depth)) w.item w.among))
    (Contains-append_cases (connected_transactions (switched h depth blocks)) (map (λ (e : Admitted). e.tx) after.entries) tx m)

-- ---- the floor

returned_floor : (under : Terms) (entries : List Admitted) (floor : ℕ) (new old : List Tx) → floor ≤ (returned under entries floor new old).floor
unfolding returned
returned_floor under entries floor new old = trim_rises under.policy.incremental_rate under.budget (expired under.policy.stay under.second (without_premature under.chain (brought_back under entries new old))) floor

after_floor : (depth : ℕ) (under : Terms) (entries : List Admitted) (floor : ℕ) (new old : List Tx) → floor ≤ (pool_after depth under entries floor new old).floor
unfolding pool_after
after_floor depth under entries floor new old = go (depth == 0)
  where
    go : (b : Bool) → floor ≤ (cond b (record { entries = all_confirmed entries new; floor = floor }) (returned under entries floor new old)).floor
    go true = omega arith
    go false = returned_floor under entries floor new old

pub floors_never_fall : FloorsNeverFall
unfolding event_of
floors_never_fall over depth blocks now budget =
    after_floor depth (terms_after over depth blocks now budget) over.entries over.floor (transactions_of blocks) (transactions_of (last_blocks over.chain depth))

-- ---- where no block goes

pub blocks_only_take : BlocksOnlyTake
unfolding event_of pool_after
blocks_only_take = record {
  floor = λ over blocks now budget. refl;
  entries = λ over blocks now budget e m. (all_confirmed_leaves over.entries (transactions_of blocks)).within e m;
}

-- families of version 3 stay small where a transaction is confirmed, and where transactions are, one after another
confirmed_truc : (entries : List Admitted) (tx : Tx) → TrucHolds entries → TrucHolds (confirmed entries tx)
unfolding confirmed
confirmed_truc entries tx h =
    let rest = without_txid entries (txid_of tx) in
    truc_part (λ (a : Admitted). not (is_below_some (is_conflict tx) rest a)) rest (truc_part (λ (a : Admitted). not (has_txid a (txid_of tx))) entries h)

all_confirmed_truc : (entries : List Admitted) (txs : List Tx) → TrucHolds entries → TrucHolds (all_confirmed entries txs)
all_confirmed_truc entries [] h = h
all_confirmed_truc entries (tx ∷ txs) h = all_confirmed_truc (confirmed entries tx) txs (confirmed_truc entries tx h)

pub blocks_keep_truc : BlocksKeepTruc
unfolding event_of pool_after
blocks_keep_truc over blocks now budget h = all_confirmed_truc over.entries (transactions_of blocks) h
