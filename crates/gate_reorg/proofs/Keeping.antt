-- A chain event keeps a pool good.
use Rattle.std.proofs.Common.{◌≡◌, ◌-◌, ℕ, Bool, true, false, cond, not, List, ◌∷◌, ◌++◌, take, length, refl, sym, ap, ◌∙◌, subst, inl, inr, ⊎_elim, arith, Option, None, Some, Result, Ok, Err, length-append}
use Rattle.std.specs.Prelude.{◌==◌, Contains, map, is_none, IfOk, OnOk, OnErr}
use Rattle.std.specs.List.{list_any}
use Rattle.std.specs.Str.{bytes_eq}
use Rattle.std.specs.Cmp.Lexicographic.{bytes_decides}
use Rattle.std.proofs.lemmas.Bool.{cases_Bool, or_parts}
use Rattle.std.proofs.lemmas.Bool.Decides.{nat_tests}
use Rattle.std.proofs.lemmas.List.{take-append-drop}
use Rattle.std.proofs.lemmas.List.Elements.{Contains-append_left, Contains-append_right, Contains-append_cases}
use Rattle.std.proofs.Math.Seq.{take-append_seam}
use Rattle.gate_bytes.specs.Order.{first_failing, NoneFails}
use Rattle.gate_bytes.proofs.Members.{Contains-cons_cases, any_is}
use Rattle.gate_tx.specs.Ids.{txid_of}
use Rattle.gate_tx.specs.Text.{IsTx}
use Rattle.gate_tx.specs.Tx.{Tx}
use Rattle.gate_chain.specs.Blocks.{Block}
use Rattle.gate_rules.specs.declared.ChainDenial.TheVariants.{BlockDecode}
use Rattle.gate_chain.specs.declared.ChainFault.{ChainFault}
use Rattle.gate_chain.specs.Coins.{has_transaction, has_txid, is_known_txid}
use Rattle.gate_chain.specs.History.{History}
use Rattle.gate_block.specs.Switching.{with_blocks, left_of, without_last, last_blocks, switched, blocks_rules, switch_rules}
use Rattle.gate_block.proofs.Switches.{none_last}
use Rattle.gate_pool.specs.Pool.{Admitted}
use Rattle.gate_pool.proofs.Entries.{Contains-from_map}
use Rattle.gate_pool.proofs.Walking.{Contains-filter, Contains-from_filter}
use Rattle.gate_trim.specs.Expiry.{expired, is_stale}
use Rattle.gate_trim.proofs.Trimmings.{trim_keeps, trim_within}
use Rattle.gate_admit.specs.Good.{AreApart, IsGood, IsSettled, IsSound, Limits, connected_transactions, limits_for}
use Rattle.gate_admit.specs.Standing.{Standing}
use Rattle.gate_admit.proofs.Removing.{below_sound, family_sound}
use Rattle.gate_submission.specs.declared.moved.Moved.{Moved}
use Rattle.gate_reorg.specs.Events.{Happened, event_rules, happening, terms_after, event_of}
use Rattle.gate_submission.specs.Blocks.{present}
use Rattle.gate_reorg.specs.Goodness.{IsReadyFor, StaysGood, EventsKeepPoolsGood, EntriesAreUnconfirmed, BlocksComeBack, met_by}
use Rattle.gate_reorg.specs.Reorganisation.{all_confirmed, has_id, unconfirmed, brought_back, is_premature, without_premature, returned, pool_after}
use Rattle.gate_submission.specs.Blocks.{transactions_of}
use Rattle.gate_reorg.proofs.Awaiting.{AreTold, IsSoundBut, LeavesPending, sound_at_last, switched_sound, told_apart}
use Rattle.gate_reorg.proofs.Knowing.{blocks_cases, Contains-first_blocks, Contains-last_blocks}
use Rattle.gate_reorg.proofs.Leaving.{all_confirmed_leaves}
use Rattle.gate_reorg.proofs.Settling.{settled_by, settled_switched, settled_without, switched_rules}
use Rattle.gate_reorg.proofs.Trying.{all_tried_kept}

-- ---- which transactions are tried again

-- each that went has the id of a new one, or is tried again
pub unconfirmed_waits : (new gone : List Tx) → LeavesPending gone new (unconfirmed new gone)
unconfirmed_waits new gone t m =
    ⊎_elim
    (λ (k : has_id new (txid_of t) ≡ true). let w = any_is (λ (u : Tx). bytes_eq (txid_of u) (txid_of t)) new k in inl (w.0, w.1, (bytes_decides (txid_of w.0) (txid_of t)).0 w.2))
    (λ (k : has_id new (txid_of t) ≡ false). inr (Contains-filter (λ (u : Tx). not (has_id new (txid_of u))) gone t m (ap not k)))
    (cases_Bool (has_id new (txid_of t)))

-- ---- the transactions that an event meets

module _ {limits : Limits} {h : History} {entries : List Admitted} {blocks : List Block} (ready : IsReadyFor limits h entries blocks) where
  met_spelled : (tx : Tx) → Contains (met_by h entries blocks) tx → IsTx tx
  met_spelled tx m =
      ⊎_elim
      (λ (k : Contains (connected_transactions h ++ map (λ (e : Admitted). e.tx) entries) tx).
      ⊎_elim (λ (l : Contains (connected_transactions h) tx). ready.settled.spelled tx l)
      (λ (l : Contains (map (λ (e : Admitted). e.tx) entries) tx). let w = Contains-from_map (λ (e : Admitted). e.tx) entries tx l in subst IsTx w.is (ready.entries_spelled w.item w.among))
      (Contains-append_cases (connected_transactions h) (map (λ (e : Admitted). e.tx) entries) tx k))
      (λ (k : Contains (transactions_of blocks) tx). ready.blocks_spelled tx k)
      (Contains-append_cases (connected_transactions h ++ map (λ (e : Admitted). e.tx) entries) (transactions_of blocks) tx m)

  pub met_told : AreTold (met_by h entries blocks)
  met_told = told_apart (met_by h entries blocks) met_spelled ready.apart

  before_met : (tx : Tx) → Contains (connected_transactions h) tx → Contains (met_by h entries blocks) tx
  before_met tx m = Contains-append_left _ _ tx (Contains-append_left _ _ tx m)

  front_back : (depth : ℕ) → h.blocks ≡ take (left_of h depth) h.blocks ++ last_blocks h depth
  front_back depth = sym (take-append-drop (left_of h depth) h.blocks)

  gone_met : (depth : ℕ) (tx : Tx) → Contains (transactions_of (last_blocks h depth)) tx → Contains (connected_transactions h) tx
  gone_met depth tx m = subst (λ (bs : List Block). Contains (transactions_of bs) tx) (sym (front_back depth)) (Contains-last_blocks (take (left_of h depth) h.blocks) (last_blocks h depth) tx m)

  after_met : (depth : ℕ) (tx : Tx) → Contains (connected_transactions (switched h depth blocks)) tx → Contains (met_by h entries blocks) tx
  after_met depth tx m =
      ⊎_elim
      (λ (k : Contains (transactions_of (take (left_of h depth) h.blocks)) tx).
      before_met tx (subst (λ (bs : List Block). Contains (transactions_of bs) tx) (sym (front_back depth)) (Contains-first_blocks (take (left_of h depth) h.blocks) (last_blocks h depth) tx k)))
      (λ (k : Contains (transactions_of blocks) tx). Contains-append_right (connected_transactions h ++ map (λ (e : Admitted). e.tx) entries) (transactions_of blocks) tx k)
      (blocks_cases (take (left_of h depth) h.blocks) blocks tx m)

  -- what is tried again has a text, and is told apart from what is connected
  pub tried_spelled : (depth : ℕ) (t : Tx) → Contains (unconfirmed (transactions_of blocks) (transactions_of (last_blocks h depth))) t → IsTx t
  tried_spelled depth t m = ready.settled.spelled t (gone_met depth t (Contains-from_filter (λ (u : Tx). not (has_id (transactions_of blocks) (txid_of u))) (transactions_of (last_blocks h depth)) t m))

  pub tried_apart : (depth : ℕ) (t : Tx) → Contains (unconfirmed (transactions_of blocks) (transactions_of (last_blocks h depth))) t → AreApart (t ∷ connected_transactions (switched h depth blocks))
  tried_apart depth t m =
      let own : Contains (met_by h entries blocks) t = before_met t (gone_met depth t (Contains-from_filter (λ (u : Tx). not (has_id (transactions_of blocks) (txid_of u))) (transactions_of (last_blocks h depth)) t m)) in
      let met : (u : Tx) → Contains (t ∷ connected_transactions (switched h depth blocks)) u → Contains (met_by h entries blocks) u =
      λ u k. ⊎_elim (λ (e : t ≡ u). subst (λ (v : Tx). Contains (met_by h entries blocks) v) e own) (λ (l : Contains (connected_transactions (switched h depth blocks)) u). after_met depth u l)
      (Contains-cons_cases t (connected_transactions (switched h depth blocks)) u k) in
      λ a b j k. ready.apart a b (met a j) (met b k)

-- ---- the pool after an event

abbrev Ready : Standing → List Block → ℕ → Type 0
Ready over blocks budget = IsReadyFor (limits_for over.policy budget) over.chain over.entries blocks

module _ (over : Standing) (depth : ℕ) (blocks : List Block) (now budget : ℕ) (rules : NoneFails (blocks_rules (without_last over.chain depth) blocks)) (ready : Ready over blocks budget) where
  confirmed_kept : IsSoundBut over.policy (unconfirmed (transactions_of blocks) (transactions_of (last_blocks over.chain depth))) (switched over.chain depth blocks) (all_confirmed over.entries (transactions_of blocks))
  confirmed_kept =
      switched_sound over.chain depth blocks over.entries (all_confirmed over.entries (transactions_of blocks))
      (unconfirmed (transactions_of blocks) (transactions_of (last_blocks over.chain depth)))
      ready.settled rules (met_told ready) over.policy ready.good.sound (all_confirmed_leaves over.entries (transactions_of blocks)) (unconfirmed_waits (transactions_of blocks) (transactions_of (last_blocks over.chain depth)))

  -- where no block went
  pub plain_good : depth ≡ 0 → IsGood (limits_for over.policy budget) (switched over.chain depth blocks) (all_confirmed over.entries (transactions_of blocks))
  plain_good none = record {
    sound = sound_at_last over.policy (switched over.chain depth blocks) (all_confirmed over.entries (transactions_of blocks))
        (subst (λ (pending : List Tx). IsSoundBut over.policy pending (switched over.chain depth blocks) (all_confirmed over.entries (transactions_of blocks)))
        (ap (λ (bs : List Block). unconfirmed (transactions_of blocks) (transactions_of bs)) (ap (last_blocks over.chain) none ∙ none_last over.chain)) confirmed_kept);
    size = omega (arith, ready.good.size, (all_confirmed_leaves over.entries (transactions_of blocks)).size);
  }

  -- where blocks went
  pub returned_good :
      IsGood (limits_for over.policy budget) (switched over.chain depth blocks)
      (returned (terms_after over depth blocks now budget) over.entries over.floor (transactions_of blocks) (transactions_of (last_blocks over.chain depth))).entries
  unfolding returned
  returned_good =
      let under = terms_after over depth blocks now budget in
      let chain = under.chain in
      let tried = brought_back under over.entries (transactions_of blocks) (transactions_of (last_blocks over.chain depth)) in
      let settled : IsSettled chain = settled_by (without_last over.chain depth) blocks (settled_without over.chain depth ready.settled) rules ready.blocks_spelled in
      let sound : IsSound over.policy chain tried =
      sound_at_last over.policy chain tried (all_tried_kept under settled (all_confirmed over.entries (transactions_of blocks)) (unconfirmed (transactions_of blocks) (transactions_of (last_blocks over.chain depth)))
      (tried_spelled ready depth) (tried_apart ready depth) confirmed_kept) in
      let left = expired over.policy.stay now (without_premature chain tried) in
      record {
        sound = trim_keeps (IsSound over.policy chain) (family_sound over.policy chain) over.policy.incremental_rate budget left over.floor (below_sound over.policy chain (is_stale over.policy.stay now) (without_premature chain tried) (below_sound over.policy chain (λ (e : Admitted). is_premature chain tried e.tx) tried sound));
        size = trim_within over.policy.incremental_rate budget left over.floor;
      }

none_gone : (depth : ℕ) → (depth == 0) ≡ true → depth ≡ 0
none_gone depth h = grind (arith, nat_tests)

pool_good : (over : Standing) (depth : ℕ) (blocks : List Block) (now budget : ℕ) → first_failing (switch_rules over.chain depth blocks) ≡ None → Ready over blocks budget
    → IsGood (limits_for over.policy budget) (switched over.chain depth blocks)
    (pool_after depth (terms_after over depth blocks now budget) over.entries over.floor (transactions_of blocks) (transactions_of (last_blocks over.chain depth))).entries
unfolding pool_after
pool_good over depth blocks now budget passes ready = go (depth == 0) refl
  where
    go : (b : Bool) → (depth == 0) ≡ b
        → IsGood (limits_for over.policy budget) (switched over.chain depth blocks)
        (cond b (record { entries = all_confirmed over.entries (transactions_of blocks); floor = over.floor })
        (returned (terms_after over depth blocks now budget) over.entries over.floor (transactions_of blocks) (transactions_of (last_blocks over.chain depth)))).entries
    go true e = plain_good over depth blocks now budget (switched_rules over.chain depth blocks passes) ready (none_gone depth e)
    go false e = returned_good over depth blocks now budget (switched_rules over.chain depth blocks passes) ready

-- an event that no rule refuses keeps the chain settled and the pool good
pub events_keep_pools_good : EventsKeepPoolsGood
unfolding event_of
events_keep_pools_good over depth blocks now budget passes ready = record {
  settled = settled_switched over.chain depth blocks ready.settled ready.blocks_spelled passes;
  good = pool_good over depth blocks now budget passes ready;
}

-- where no rule fails of an event, none fails of the switch
rest_passes : {X : Type 0} (b : Bool) (d : X) (o : Option X) → cond b (Some d) o ≡ None → o ≡ None
rest_passes true d o h = cc
rest_passes false d o h = h

pub switch_passes : (h : History) (depth : ℕ) (blocks : List (Option Block)) → first_failing (event_rules h depth blocks) ≡ None → first_failing (switch_rules h depth (present blocks)) ≡ None
unfolding event_rules
switch_passes h depth blocks passes = rest_passes (list_any is_none blocks) BlockDecode _ passes

-- what a call answers
pub answers_keep : (over : Standing) (depth : ℕ) (blocks : List (Option Block)) (now budget floor : ℕ) (chain : History) (entries : List Admitted) (result : Result Moved ChainFault)
    → IfOk result (λ moved. event_of over depth (present blocks) now budget ≡ happening chain entries floor moved)
    → OnOk result (first_failing (event_rules over.chain depth blocks) ≡ None) → OnErr result (chain ≡ over.chain) → OnErr result (entries ≡ over.entries)
    → IsReadyFor (limits_for over.policy budget) over.chain over.entries (present blocks) → StaysGood (limits_for over.policy budget) chain entries
answers_keep over depth blocks now budget floor chain entries (Ok moved) is passes same kept ready =
    subst (λ (after : Happened). StaysGood (limits_for over.policy budget) after.chain after.entries) is
    (events_keep_pools_good over depth (present blocks) now budget (switch_passes over.chain depth blocks passes) ready)
answers_keep over depth blocks now budget floor chain entries (Err fault) is passes same kept ready = record {
  settled = subst IsSettled (sym same) ready.settled;
  good = subst (λ (h : History). IsGood (limits_for over.policy budget) h entries) (sym same) (subst (IsGood (limits_for over.policy budget) over.chain) (sym kept) ready.good);
}

-- ---- what holds after it

unconnected_if_unknown : (h : History) (txid : List ℕ) → is_known_txid h txid ≡ false → list_any (has_transaction txid) h.blocks ≡ false
unfolding is_known_txid
unconnected_if_unknown h txid k = (or_parts (has_txid txid h.coins) (list_any (has_transaction txid) h.blocks) k).1

pub entries_are_unconfirmed : EntriesAreUnconfirmed
entries_are_unconfirmed over depth blocks now budget passes ready k d l =
    unconnected_if_unknown (event_of over depth blocks now budget).chain _ ((events_keep_pools_good over depth blocks now budget passes ready).good.sound.fresh k d l)

-- blocks that go and come again
pub blocks_come_back : BlocksComeBack
blocks_come_back chain depth blocks =
    let front = take (left_of chain depth) chain.blocks in
    let n = length-append front blocks in
    let left : length (front ++ blocks) - length blocks ≡ length front = omega arith in
    let same : take (length (front ++ blocks) - length blocks) (front ++ blocks) ≡ front = ap (λ k. take k (front ++ blocks)) left ∙ take-append_seam front blocks in
    λ j. with_blocks chain ((ap (λ l. l ++ last_blocks chain depth) same ∙ take-append-drop (left_of chain depth) chain.blocks) j)
