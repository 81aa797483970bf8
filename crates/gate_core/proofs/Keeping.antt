-- A step keeps the pool good, and brings in no transaction but its event's.
use Rattle.std.proofs.Common.{◌≡◌, ℕ, not, List, [], ◌∷◌, ◌++◌, map, Contains, IfOk, IfSome, ⊎_elim, Option, Some, None, Result, Ok, Err, refl, sym, ap, subst, arith}
use Rattle.std.specs.Option.{option_to_list}
use Rattle.std.specs.Prelude.{Bool, true, false, is_none, if◌then◌else◌}
use Rattle.std.specs.List.{list_any}
use Rattle.std.proofs.lemmas.List.Elements.{Contains-append_left, Contains-append_right, Contains-append_cases}
use Rattle.gate_bytes.specs.Order.{first_failing}
use Rattle.gate_tx.specs.Text.{IsTx}
use Rattle.gate_tx.specs.Tx.{Tx}
use Rattle.gate_rules.specs.declared.Denial.{Denial}
use Rattle.gate_chain.specs.Blocks.{Block}
use Rattle.gate_rules.specs.declared.ChainDenial.TheVariants.{BlockDecode}
use Rattle.gate_chain.specs.History.{History}
use Rattle.gate_bytes.proofs.Members.{Contains-cons_cases, Contains-head, not_in_none}
use Rattle.gate_block.specs.Switching.{switch_rules}
use Rattle.gate_pool.specs.Pool.{Admitted}
use Rattle.gate_pool.specs.Counting.{is_counted, entered_beside}
use Rattle.gate_pool.specs.Family.{is_below_some, without_below}
use Rattle.gate_pool.proofs.Entries.{Contains-map, Contains-from_map}
use Rattle.gate_pool.proofs.Walking.{Contains-from_filter}
use Rattle.gate_admit.specs.declared.Attempt.TheVariants.{First}
use Rattle.gate_admit.specs.declared.Grant.{Grant}
use Rattle.gate_admit.specs.Good.{Limits, IsGood, IsSettled, AreApart, SpendsCoins, connected_transactions}
use Rattle.gate_admit.specs.Rules.{decision_of}
use Rattle.gate_admit.specs.Policies.{IsPolicy}
use Rattle.gate_admit.specs.Standing.{Standing}
use Rattle.gate_admit.specs.Submission.{admitted, entry_of, submitted_by, submit_of}
use Rattle.gate_admit.specs.Truc.{sibling_of}
use Rattle.gate_admit.proofs.Entering.{StaysUnconnected, stays_if_apart}
use Rattle.gate_admit.proofs.Submissions.{empty_good, entry_within, submission_good}
use Rattle.gate_package.specs.Packages.{packaged_of}
use Rattle.gate_package.specs.Shapes.{members_of}
use Rattle.gate_package.proofs.Keeping.{package_sound}
use Rattle.gate_package.proofs.Landing.{package_within}
use Rattle.gate_package.proofs.Newness.{IsNew, new_if_apart}
use Rattle.gate_package.proofs.Origins.{package_from}
use Rattle.gate_reorg.specs.Events.{event_rules, event_of}
use Rattle.gate_submission.specs.Blocks.{present}
use Rattle.gate_submission.specs.Blocks.{transactions_of as block_transactions}
use Rattle.gate_reorg.proofs.Keeping.{events_keep_pools_good}
use Rattle.gate_reorg.proofs.Origins.{events_bring_nothing_else}
use Rattle.gate_reorg.proofs.Spent.{events_spend_coins}
use Rattle.gate_message.specs.declared.chain_event.ChainEvent.{ChainEvent}
use Rattle.gate_message.specs.declared.chain_event.ChainEvent.TheVariants.{MoveTip}
use Rattle.gate_message.specs.declared.event.Event.{Event}
use Rattle.gate_message.specs.declared.event.Event.TheVariants.{Enter, Leave, Tx as Submit, Package, Mempool, GetBlock, Headers, FeeFilter, Rpc, SetFloor, Set as Turn, Chain as OfChain}
use Rattle.gate_core.specs.Opening.{Start}
use Rattle.gate_rules.specs.declared.PeerDenial.{PeerDenial}
use Rattle.gate_message.specs.declared.reply.Reply.{Reply}
use Rattle.gate_core.specs.World.{World, opened_world, standing_of}
use Rattle.gate_core.specs.Access.{entering_rules, session_rules, submission_rules, listing_rules, block_rules, headers_rules}
use Rattle.gate_core.specs.PeerSteps.{decided, answered, entered, left, submitted, listed, block_given, headers_given, filter_set}
use Rattle.gate_core.specs.ChainSteps.{chained_as, with_verdict}
use Rattle.gate_core.specs.Steps.{step_of}
use Rattle.gate_message.specs.Spelled.{IsSpelled, connected_by, of_both, offered, transactions_of}
use Rattle.gate_core.specs.Good.{IsApartFrom, IsGoodWorld, StepGives, limits_of, transactions_in}
use Rattle.gate_rpc.specs.Calls.{request_of}
use Rattle.gate_core.proofs.Calls.{call_gives}
use Rattle.gate_core.proofs.Pairs.{pair_gives}
use Rattle.gate_core.proofs.Following.{chain_gives}
use Rattle.gate_core.proofs.Forgetting.{forgetting_from, forgetting_good}
use Rattle.gate_core.proofs.Learning.{coin_good}

same_good : (w v : World) → v.chain ≡ w.chain → v.pool ≡ w.pool → limits_of v ≡ limits_of w → IsGoodWorld w → IsGoodWorld v
same_good w v c p b good = record {
  chain = subst IsSettled (sym c) good.chain;
  spends = subst SpendsCoins (sym c) good.spends;
  pool = subst (λ (l : Limits). IsGood l v.chain v.pool) (sym b) (subst (λ (h : History). IsGood (limits_of w) h v.pool) (sym c) (subst (IsGood (limits_of w) w.chain) (sym p) good.pool));
  spelled = subst (λ (l : List Admitted). (e : Admitted) → Contains l e → IsTx e.tx) (sym p) good.spelled;
}

-- what enters by an event is in no connected block, and new blocks are told apart from what is at hand
abbrev pub StaysApart : World → Event → Type 0
StaysApart w (Enter peer address) = Unit {0}
StaysApart w (Leave peer) = Unit {0}
StaysApart w (Submit peer now transaction) = StaysUnconnected (standing_of w) transaction
StaysApart w (Package peer now parent child) = (tx : Tx) → Contains (of_both parent child) tx → IsNew (standing_of w) tx
StaysApart w (Mempool peer) = Unit {0}
StaysApart w (GetBlock peer height) = Unit {0}
StaysApart w (Headers peer height) = Unit {0}
StaysApart w (FeeFilter peer rate) = Unit {0}
StaysApart w (Rpc call) = (tx : Tx) → Contains (offered (request_of call.json)) tx → IsNew (standing_of w) tx
StaysApart w (SetFloor rate) = Unit {0}
StaysApart w (Turn switch on) = Unit {0}
StaysApart w (OfChain event) = IsApartFrom w (OfChain event)

-- ---- where transactions come from

entered_from : (entries : List Admitted) (sibling : Option (List ℕ)) (e a : Admitted) → Contains (entered_beside entries sibling e) a → Contains (map (λ (x : Admitted). x.tx) entries ++ e.tx ∷ []) a.tx
entered_from entries sibling e a h =
    let tx_of : Admitted → Tx = λ x. x.tx in
    ⊎_elim (λ k. Contains-append_left (map tx_of entries) (e.tx ∷ []) a.tx (Contains-map tx_of entries a (Contains-from_filter (λ x. not (is_below_some (is_counted sibling e.tx) entries x)) entries a k)))
    (λ k. Contains-append_right (map tx_of entries) (e.tx ∷ []) a.tx (Contains-map tx_of (e ∷ []) a k))
    (Contains-append_cases (without_below (is_counted sibling e.tx) entries) (e ∷ []) a h)

decision_from : (over : Standing) (transaction : Option Tx) (now budget : ℕ) (decision : Result Grant Denial) (tx : Tx)
    → Contains (map (λ (e : Admitted). e.tx) (submitted_by over transaction now budget decision).entries) tx → Contains (map (λ (e : Admitted). e.tx) over.entries ++ option_to_list transaction) tx
decision_from over transaction now budget (Err denial) tx h = Contains-append_left _ _ tx h
decision_from over None now budget (Ok grant) tx h = Contains-append_left _ _ tx h
decision_from over (Some other) now budget (Ok grant) tx h =
    let e = admitted other grant now in
    let sibling = sibling_of First over.policy over.entries other in
    let w = Contains-from_map (λ (a : Admitted). a.tx) (entry_of over.policy budget over.entries sibling over.floor e).entries tx h in
    subst (λ (t : Tx). Contains (map (λ (a : Admitted). a.tx) over.entries ++ other ∷ []) t) w.is (entered_from over.entries sibling e w.item (entry_within over.policy budget over.entries sibling over.floor e w.item w.among))

submission_from : (over : Standing) (transaction : Option Tx) (now budget : ℕ) (tx : Tx)
    → Contains (map (λ (e : Admitted). e.tx) (submit_of over transaction now budget).entries) tx → Contains (map (λ (e : Admitted). e.tx) over.entries ++ option_to_list transaction) tx
unfolding submit_of
submission_from over transaction now budget tx h = decision_from over transaction now budget (decision_of First over transaction) tx h

-- what comes from behind a list that stays
behind : (stays new old more : List Tx) (tx : Tx) → (Contains new tx → Contains (old ++ more) tx) → Contains (stays ++ new) tx → Contains ((stays ++ old) ++ more) tx
behind stays new old more tx from h =
    ⊎_elim (λ k. Contains-append_left (stays ++ old) more tx (Contains-append_left stays old tx k))
    (λ k. ⊎_elim (λ l. Contains-append_left (stays ++ old) more tx (Contains-append_right stays old tx l)) (λ l. Contains-append_right (stays ++ old) more tx l) (Contains-append_cases old more tx (from k)))
    (Contains-append_cases stays new tx h)

decided_from : (w : World) (peer : ℕ) (transaction : Option Tx) (decision : Result Grant Denial) (tx : Tx) → Contains (transactions_in (decided w peer transaction decision).1) tx → Contains (transactions_in w) tx
decided_from w peer None decision tx h = h
decided_from w peer (Some other) (Ok grant) tx h = h
decided_from w peer (Some other) (Err denial) tx h = h

-- whatever a submission is answered
after_from : (w : World) (now : ℕ) (transaction : Option Tx) (tx : Tx)
    → (let s = submit_of (standing_of w) transaction now w.budget in Contains (transactions_in (record w { pool = s.entries; floor = s.floor })) tx)
    → Contains (transactions_in w ++ option_to_list transaction) tx
after_from w now transaction tx h =
    let s = submit_of (standing_of w) transaction now w.budget in
    behind (connected_transactions w.chain) (map (λ (e : Admitted). e.tx) s.entries) (map (λ (e : Admitted). e.tx) w.pool) (option_to_list transaction) tx
    (submission_from (standing_of w) transaction now w.budget tx) h

-- whatever becomes of a package
package_leaves_from : (w : World) (now max_rate : ℕ) (txs : List Tx) (tx : Tx)
    → (let p = packaged_of max_rate (standing_of w) txs now w.budget in Contains (transactions_in (record w { pool = p.entries; floor = p.floor })) tx)
    → Contains (transactions_in w ++ txs) tx
package_leaves_from w now max_rate txs tx h =
    let p = packaged_of max_rate (standing_of w) txs now w.budget in
    let entries = map (λ (e : Admitted). e.tx) w.pool in
    behind (connected_transactions w.chain) (map (λ (e : Admitted). e.tx) p.entries) entries txs tx
    (λ k. let m = Contains-from_map (λ (e : Admitted). e.tx) p.entries tx k in subst (λ (t : Tx). Contains (entries ++ txs) t) m.is (package_from max_rate (standing_of w) txs now w.budget m.item m.among)) h

submitted_from : (w : World) (peer now : ℕ) (transaction : Option Tx) (tx : Tx) → Contains (transactions_in (submitted w peer now transaction).1) tx → Contains (transactions_in w ++ option_to_list transaction) tx
submitted_from w peer now transaction tx h =
    let s = submit_of (standing_of w) transaction now w.budget in
    after_from w now transaction tx (decided_from (record w { pool = s.entries; floor = s.floor }) peer transaction s.decision tx h)

answered_from : (w : World) (peer : ℕ) (served : Reply × World) (denial : Option PeerDenial) (more : List Tx) (tx : Tx)
    → (Contains (transactions_in served.1) tx → Contains (transactions_in w ++ more) tx) → Contains (transactions_in (answered w peer served denial).1) tx → Contains (transactions_in w ++ more) tx
answered_from w peer served (Some denial) more tx from h = Contains-append_left _ _ tx h
answered_from w peer served None more tx from h = from h

-- ---- good states

decided_good : (w : World) (peer : ℕ) (transaction : Option Tx) (decision : Result Grant Denial) → IsGoodWorld w → IsGoodWorld (decided w peer transaction decision).1
decided_good w peer None decision good = same_good w _ refl refl refl good
decided_good w peer (Some tx) (Ok grant) good = good
decided_good w peer (Some tx) (Err denial) good = same_good w _ refl refl refl good

entry_spelled : (entries : List Admitted) → ((e : Admitted) → Contains entries e → IsTx e.tx) → (tx : Tx) → Contains (map (λ (e : Admitted). e.tx) entries) tx → IsTx tx
entry_spelled entries spelled tx m = let w = Contains-from_map (λ (e : Admitted). e.tx) entries tx m in subst IsTx w.is (spelled w.item w.among)

option_spelled : (transaction : Option Tx) → IfSome transaction IsTx → (tx : Tx) → Contains (option_to_list transaction) tx → IsTx tx
option_spelled None told tx m = not_in_none tx m
option_spelled (Some other) told tx m = ⊎_elim (λ (e : other ≡ tx). subst IsTx e told) (λ n. not_in_none tx n) (Contains-cons_cases other [] tx m)

-- whatever a submission is answered
after_good : (w : World) (now : ℕ) (transaction : Option Tx) → IfSome transaction IsTx → StaysUnconnected (standing_of w) transaction → IsGoodWorld w
    → let s = submit_of (standing_of w) transaction now w.budget in IsGoodWorld (record w { pool = s.entries; floor = s.floor })
after_good w now transaction told new good = record {
  chain = good.chain;
  spends = good.spends;
  pool = submission_good (standing_of w) transaction now w.budget new good.pool;
  spelled = λ e m. ⊎_elim (λ k. entry_spelled w.pool good.spelled e.tx k) (λ k. option_spelled transaction told e.tx k)
      (Contains-append_cases (map (λ (a : Admitted). a.tx) w.pool) (option_to_list transaction) e.tx
      (submission_from (standing_of w) transaction now w.budget e.tx (Contains-map (λ (a : Admitted). a.tx) (submit_of (standing_of w) transaction now w.budget).entries e m)));
}

told_of : (transaction : Option Tx) → ((tx : Tx) → Contains (option_to_list transaction) tx → IsTx tx) → IfSome transaction IsTx
told_of None told = tt
told_of (Some tx) told = told tx (Contains-head tx [])

new_of : (w : World) (transaction : Option Tx) → ((tx : Tx) → Contains (option_to_list transaction) tx → IsNew (standing_of w) tx) → StaysUnconnected (standing_of w) transaction
new_of w None new = tt
new_of w (Some tx) new = (new tx (Contains-head tx [])).alone w.pool

-- whatever becomes of a package
package_leaves_good : (w : World) (now max_rate : ℕ) (txs : List Tx) → ((tx : Tx) → Contains txs tx → IsTx tx) → ((tx : Tx) → Contains txs tx → IsNew (standing_of w) tx) → IsGoodWorld w
    → let p = packaged_of max_rate (standing_of w) txs now w.budget in IsGoodWorld (record w { pool = p.entries; floor = p.floor })
package_leaves_good w now max_rate txs told new good = record {
  chain = good.chain;
  spends = good.spends;
  pool = record {
    sound = package_sound max_rate (standing_of w) txs now w.budget new good.pool.sound;
    size = package_within max_rate (standing_of w) txs now w.budget good.pool.size;
  };
  spelled = λ e m. ⊎_elim (λ k. entry_spelled w.pool good.spelled e.tx k) (λ k. told e.tx k)
      (Contains-append_cases (map (λ (a : Admitted). a.tx) w.pool) txs e.tx (package_from max_rate (standing_of w) txs now w.budget e m));
}

submitted_good : (w : World) (peer now : ℕ) (transaction : Option Tx) → IfSome transaction IsTx → StaysUnconnected (standing_of w) transaction → IsGoodWorld w → IsGoodWorld (submitted w peer now transaction).1
submitted_good w peer now transaction told new good =
    let s = submit_of (standing_of w) transaction now w.budget in
    decided_good (record w { pool = s.entries; floor = s.floor }) peer transaction s.decision (after_good w now transaction told new good)

answered_good : (w : World) (peer : ℕ) (served : Reply × World) (denial : Option PeerDenial) → IsGoodWorld w → IsGoodWorld served.1 → IsGoodWorld (answered w peer served denial).1
answered_good w peer served (Some denial) good done = same_good w _ refl refl refl good
answered_good w peer served None good done = done

none : (before after : List Block) (b : Block) → [] ≡ before ++ b ∷ after → ⊥
none [] after b h = cc
none (x ∷ before) after b h = cc

pub opened_good : (o : Start) → IsPolicy o.policy → IsGoodWorld (opened_world o)
opened_good o bounds = record {
  chain = record { coinbases = λ b h. absurd (omega arith); spelled = λ tx h. absurd (omega arith); founded = λ before after b h. absurd (none before after b h) };
  spends = record { made = λ before after b h. absurd (none before after b h); once = λ before after b h. absurd (none before after b h) };
  pool = empty_good (limits_of (opened_world o)) (opened_world o).chain bounds;
  spelled = λ e m. not_in_none e m;
}

pub all_opened_good : {E : Type 0} (o : Start) → IsPolicy o.policy → (r : Result World E) → IfOk r (λ w. w ≡ opened_world o) → IfOk r IsGoodWorld
all_opened_good o bounds (Ok w) h = subst IsGoodWorld (sym h) (opened_good o bounds)
all_opened_good o bounds (Err e) h = tt

-- where no rule fails of an event, none fails of the switch
rest_passes : {X : Type 0} (b : Bool) (d : X) (o : Option X) → (if b then Some d else o) ≡ None → o ≡ None
rest_passes true d o h = cc
rest_passes false d o h = h

switch_passes : (h : History) (disconnect : ℕ) (blocks : List (Option Block)) → first_failing (event_rules h disconnect blocks) ≡ None → first_failing (switch_rules h disconnect (present blocks)) ≡ None
unfolding event_rules
switch_passes h disconnect blocks passes = rest_passes (list_any is_none blocks) BlockDecode _ passes

moved_good : (w : World) (disconnect now : ℕ) (blocks : List (Option Block)) → IsSpelled (OfChain (MoveTip disconnect now blocks)) → IsApartFrom w (OfChain (MoveTip disconnect now blocks)) → IsGoodWorld w
    → first_failing (event_rules w.chain disconnect blocks) ≡ None → IsGoodWorld (chained_as w (event_of (standing_of w) disconnect (present blocks) now w.budget) None).1
moved_good w disconnect now blocks told apart good is =
    let after = event_of (standing_of w) disconnect (present blocks) now w.budget in
    let stays = events_keep_pools_good (standing_of w) disconnect (present blocks) now w.budget (switch_passes w.chain disconnect blocks is)
    (record { settled = good.chain; entries_spelled = good.spelled; blocks_spelled = told; apart = apart; good = good.pool }) in
    record {
      chain = stays.settled;
      spends = events_spend_coins (standing_of w) disconnect (present blocks) now w.budget (switch_passes w.chain disconnect blocks is) good.spends;
      pool = stays.good;
      spelled = λ e m. ⊎_elim
          (λ k. ⊎_elim (λ l. good.chain.spelled e.tx l) (λ l. entry_spelled w.pool good.spelled e.tx l) (Contains-append_cases (connected_transactions w.chain) (map (λ (a : Admitted). a.tx) w.pool) e.tx k))
          (λ k. told e.tx k)
          (Contains-append_cases (transactions_in w) (block_transactions (present blocks)) e.tx
          (events_bring_nothing_else (standing_of w) disconnect (present blocks) now w.budget e.tx
          (Contains-append_right (connected_transactions after.chain) (map (λ (a : Admitted). a.tx) after.entries) e.tx (Contains-map (λ (a : Admitted). a.tx) after.entries e m))));
    }

pub step_good : (w : World) (event : Event) → IsSpelled event → StaysApart w event → IsGoodWorld w → IsGoodWorld (step_of w event).1
unfolding step_of
step_good w (Enter peer address) told new good = answered_good w peer (entered w peer address) (first_failing (entering_rules w.sessions peer)) good (same_good w _ refl refl refl good)
step_good w (Leave peer) told new good = answered_good w peer (left w peer) (first_failing (session_rules w.sessions peer)) good (same_good w _ refl refl refl good)
step_good w (Submit peer now transaction) told new good =
    answered_good w peer (submitted w peer now transaction) (first_failing (submission_rules w peer transaction)) good (submitted_good w peer now transaction told new good)
step_good w (Package peer now parent child) told new good =
    pair_gives (λ p. IsGoodWorld p.1) w peer now parent child (λ denial. same_good w _ refl refl refl good) (λ denial. good)
    (λ txs is.
    let p = packaged_of 0 (standing_of w) txs now w.budget in
    same_good (record w { pool = p.entries; floor = p.floor }) _ refl refl refl
    (package_leaves_good w now 0 txs (subst (λ (l : List Tx). (tx : Tx) → Contains l tx → IsTx tx) (sym is) told)
    (subst (λ (l : List Tx). (tx : Tx) → Contains l tx → IsNew (standing_of w) tx) (sym is) new) good))
step_good w (Mempool peer) told new good = answered_good w peer (listed w peer) (first_failing (listing_rules w peer)) good good
step_good w (GetBlock peer height) told new good = answered_good w peer (block_given w height) (first_failing (block_rules w peer height)) good good
step_good w (Headers peer height) told new good = answered_good w peer (headers_given w height) (first_failing (headers_rules w peer height)) good good
step_good w (FeeFilter peer rate) told new good = answered_good w peer (filter_set w peer rate) (first_failing (session_rules w.sessions peer)) good (same_good w _ refl refl refl good)
step_good w (Rpc call) told new good =
    call_gives (λ p. IsGoodWorld p.1) w call.time call.user (request_of call.json) (λ answer. good)
    (λ id transaction is.
    after_good w call.time transaction (told_of transaction (subst (λ (txs : List Tx). (tx : Tx) → Contains txs tx → IsTx tx) (sym is) told))
    (new_of w transaction (subst (λ (txs : List Tx). (tx : Tx) → Contains txs tx → IsNew (standing_of w) tx) (sym is) new)) good)
    (λ id given is.
    package_leaves_good w call.time given.max_rate (members_of given.members) (subst (λ (txs : List Tx). (tx : Tx) → Contains txs tx → IsTx tx) (sym is) told)
    (subst (λ (txs : List Tx). (tx : Tx) → Contains txs tx → IsNew (standing_of w) tx) (sym is) new) good)
step_good w (SetFloor rate) told new good = same_good w _ refl refl refl good
step_good w (Turn switch on) told new good = same_good w _ refl refl refl good
step_good w (OfChain event) told new good =
    chain_gives (λ p. IsGoodWorld p.1) w event (λ denial. good)
    (λ disconnect now blocks is passes. moved_good w disconnect now blocks (subst (λ (e : ChainEvent). IsSpelled (OfChain e)) is told) (subst (λ (e : ChainEvent). IsApartFrom w (OfChain e)) is new) good passes)
    (λ coin passes. coin_good w coin passes good) (λ row. same_good w (with_verdict w row) refl refl refl good) (λ blocks. forgetting_good w blocks good)

-- a part of what is apart is
pub apart_part : (part whole : List Tx) → ((tx : Tx) → Contains part tx → Contains whole tx) → AreApart whole → AreApart part
apart_part part whole within apart = λ a b here there. apart a b (within a here) (within b there)

-- a transaction that is told apart from those at hand is in no connected block
offered_stays : (w : World) (transaction : Option Tx) → IsSettled w.chain → IfSome transaction IsTx → AreApart (transactions_in w ++ option_to_list transaction) → StaysUnconnected (standing_of w) transaction
offered_stays w transaction settled spelled apart =
    let blocks = connected_transactions w.chain in
    let entries = map (λ (e : Admitted). e.tx) w.pool in
    let more = option_to_list transaction in
    stays_if_apart (standing_of w) transaction settled spelled
    (apart_part (more ++ blocks) ((blocks ++ entries) ++ more)
    (λ tx h. ⊎_elim (λ k. Contains-append_right (blocks ++ entries) more tx k) (λ k. Contains-append_left (blocks ++ entries) more tx (Contains-append_left blocks entries tx k)) (Contains-append_cases more blocks tx h))
    apart)

-- so is each of those that a call offers
offered_new : (w : World) (more : List Tx) → IsSettled w.chain → ((tx : Tx) → Contains more tx → IsTx tx) → AreApart (transactions_in w ++ more) → (tx : Tx) → Contains more tx → IsNew (standing_of w) tx
offered_new w more settled spelled apart tx c =
    let blocks = connected_transactions w.chain in
    let entries = map (λ (e : Admitted). e.tx) w.pool in
    new_if_apart (standing_of w) tx settled (spelled tx c)
    (apart_part (tx ∷ blocks) ((blocks ++ entries) ++ more)
    (λ t h. ⊎_elim (λ (same : tx ≡ t). subst (λ (u : Tx). Contains ((blocks ++ entries) ++ more) u) same (Contains-append_right (blocks ++ entries) more tx c))
    (λ (k : Contains blocks t). Contains-append_left (blocks ++ entries) more t (Contains-append_left blocks entries t k)) (Contains-cons_cases tx blocks t h))
    apart)

-- where transactions are told apart by their ids
pub apart_stays : (w : World) (event : Event) → IsSettled w.chain → IsSpelled event → IsApartFrom w event → StaysApart w event
apart_stays w (Enter peer address) settled spelled apart = tt
apart_stays w (Leave peer) settled spelled apart = tt
apart_stays w (Submit peer now transaction) settled spelled apart = offered_stays w transaction settled spelled apart
apart_stays w (Package peer now parent child) settled spelled apart = offered_new w (of_both parent child) settled spelled apart
apart_stays w (Mempool peer) settled spelled apart = tt
apart_stays w (GetBlock peer height) settled spelled apart = tt
apart_stays w (Headers peer height) settled spelled apart = tt
apart_stays w (FeeFilter peer rate) settled spelled apart = tt
apart_stays w (Rpc call) settled spelled apart = offered_new w (offered (request_of call.json)) settled spelled apart
apart_stays w (SetFloor rate) settled spelled apart = tt
apart_stays w (Turn switch on) settled spelled apart = tt
apart_stays w (OfChain event) settled spelled apart = apart

-- no event changes the limits
decided_limits : (w : World) (peer : ℕ) (transaction : Option Tx) (decision : Result Grant Denial) → limits_of (decided w peer transaction decision).1 ≡ limits_of w
decided_limits w peer None decision = refl
decided_limits w peer (Some tx) (Ok grant) = refl
decided_limits w peer (Some tx) (Err denial) = refl

answered_limits : (w : World) (peer : ℕ) (served : Reply × World) (denial : Option PeerDenial) → limits_of served.1 ≡ limits_of w → limits_of (answered w peer served denial).1 ≡ limits_of w
answered_limits w peer served (Some denial) h = refl
answered_limits w peer served None h = h

pub step_limits : (w : World) (event : Event) → limits_of (step_of w event).1 ≡ limits_of w
unfolding step_of
step_limits w (Enter peer address) = answered_limits w peer (entered w peer address) (first_failing (entering_rules w.sessions peer)) refl
step_limits w (Leave peer) = answered_limits w peer (left w peer) (first_failing (session_rules w.sessions peer)) refl
step_limits w (Submit peer now transaction) =
    let s = submit_of (standing_of w) transaction now w.budget in
    answered_limits w peer (submitted w peer now transaction) (first_failing (submission_rules w peer transaction)) (decided_limits (record w { pool = s.entries; floor = s.floor }) peer transaction s.decision)
step_limits w (Package peer now parent child) = pair_gives (λ p. limits_of p.1 ≡ limits_of w) w peer now parent child (λ denial. refl) (λ denial. refl) (λ txs is. refl)
step_limits w (Mempool peer) = answered_limits w peer (listed w peer) (first_failing (listing_rules w peer)) refl
step_limits w (GetBlock peer height) = answered_limits w peer (block_given w height) (first_failing (block_rules w peer height)) refl
step_limits w (Headers peer height) = answered_limits w peer (headers_given w height) (first_failing (headers_rules w peer height)) refl
step_limits w (FeeFilter peer rate) = answered_limits w peer (filter_set w peer rate) (first_failing (session_rules w.sessions peer)) refl
step_limits w (Rpc call) = call_gives (λ p. limits_of p.1 ≡ limits_of w) w call.time call.user (request_of call.json) (λ answer. refl) (λ id transaction is. refl) (λ id call is. refl)
step_limits w (SetFloor rate) = refl
step_limits w (Turn switch on) = refl
step_limits w (OfChain event) = chain_gives (λ p. limits_of p.1 ≡ limits_of w) w event (λ denial. refl) (λ disconnect now blocks is passes. refl) (λ coin passes. refl) (λ row. refl) (λ blocks. refl)

pub step_from : (w : World) (event : Event) (tx : Tx) → Contains (transactions_in (step_of w event).1) tx → Contains (transactions_in w ++ transactions_of event) tx
unfolding step_of
step_from w (Enter peer address) tx h = answered_from w peer (entered w peer address) (first_failing (entering_rules w.sessions peer)) [] tx (λ k. Contains-append_left _ _ tx k) h
step_from w (Leave peer) tx h = answered_from w peer (left w peer) (first_failing (session_rules w.sessions peer)) [] tx (λ k. Contains-append_left _ _ tx k) h
step_from w (Submit peer now transaction) tx h =
    answered_from w peer (submitted w peer now transaction) (first_failing (submission_rules w peer transaction)) (option_to_list transaction) tx (submitted_from w peer now transaction tx) h
step_from w (Package peer now parent child) tx h =
    pair_gives (λ p. Contains (transactions_in p.1) tx → Contains (transactions_in w ++ of_both parent child) tx) w peer now parent child (λ denial k. Contains-append_left _ _ tx k)
    (λ denial k. Contains-append_left _ _ tx k)
    (λ txs is k. subst (λ (l : List Tx). Contains (transactions_in w ++ l) tx) is (package_leaves_from w now 0 txs tx k)) h
step_from w (Mempool peer) tx h = answered_from w peer (listed w peer) (first_failing (listing_rules w peer)) [] tx (λ k. Contains-append_left _ _ tx k) h
step_from w (GetBlock peer height) tx h = answered_from w peer (block_given w height) (first_failing (block_rules w peer height)) [] tx (λ k. Contains-append_left _ _ tx k) h
step_from w (Headers peer height) tx h = answered_from w peer (headers_given w height) (first_failing (headers_rules w peer height)) [] tx (λ k. Contains-append_left _ _ tx k) h
step_from w (FeeFilter peer rate) tx h = answered_from w peer (filter_set w peer rate) (first_failing (session_rules w.sessions peer)) [] tx (λ k. Contains-append_left _ _ tx k) h
step_from w (Rpc call) tx h =
    let request = request_of call.json in
    call_gives (λ p. Contains (transactions_in p.1) tx → Contains (transactions_in w ++ offered request) tx) w call.time call.user request (λ answer k. Contains-append_left _ _ tx k)
    (λ id transaction is k. subst (λ (txs : List Tx). Contains (transactions_in w ++ txs) tx) is (after_from w call.time transaction tx k))
    (λ id given is k. subst (λ (txs : List Tx). Contains (transactions_in w ++ txs) tx) is (package_leaves_from w call.time given.max_rate (members_of given.members) tx k)) h
step_from w (SetFloor rate) tx h = Contains-append_left _ _ tx h
step_from w (Turn switch on) tx h = Contains-append_left _ _ tx h
step_from w (OfChain event) tx h =
    chain_gives (λ p. Contains (transactions_in p.1) tx → Contains (transactions_in w ++ connected_by event) tx) w event (λ denial k. Contains-append_left _ _ tx k)
    (λ disconnect now blocks is passes k. subst (λ (e : ChainEvent). Contains (transactions_in w ++ connected_by e) tx) (sym is) (events_bring_nothing_else (standing_of w) disconnect (present blocks) now w.budget tx k))
    (λ coin passes k. Contains-append_left _ _ tx k) (λ row k. Contains-append_left _ _ tx k) (λ blocks k. Contains-append_left _ _ tx (forgetting_from w blocks tx k)) h

-- a step gives what it is to give
pub step_gives : (w : World) (event : Event) (reply : Reply) (next : World) → IsSpelled event → (reply, next) ≡ step_of w event → StepGives w event reply next
step_gives w event reply next spelled step good apart =
    (step, subst IsGoodWorld (sym (ap (λ (p : Reply × World). p.1) step)) (step_good w event spelled (apart_stays w event good.chain spelled apart) good))
