-- After blocks were disconnected the next block may have each entry.
use Rattle.std.proofs.Common.{◌≡◌, ◌≢◌, ◌+◌, ◌||◌, ℕ, Bool, true, false, not, List, [], ◌∷◌, Option, refl, sym, ap, ◌∙◌, subst, arith}
use Rattle.std.specs.Prelude.{◌==◌, Contains, get_or, option_and_then, slice_get}
use Rattle.std.specs.Option.{option_or}
use Rattle.std.specs.Cmp.Lexicographic.{bytes_decides}
use Rattle.std.proofs.lemmas.Bool.{true≢false, false_from_ne_true, not-true, or_parts, cond-false}
use Rattle.std.proofs.lemmas.Bool.Decides.{nat_tests}
use Rattle.std.proofs.lemmas.List.Elements.{All-contains, Contains-get_or, filter_passes}
use Rattle.gate_graph.specs.Family.{reaches}
use Rattle.gate_bytes.proofs.Members.{Contains-head, Contains-rest}
use Rattle.gate_tx.specs.declared.TxIn.{TxIn}
use Rattle.gate_tx.specs.Ids.{txid_of}
use Rattle.gate_tx.specs.Tx.{Tx}
use Rattle.gate_chain.specs.Coins.{coin_made, coin_of}
use Rattle.gate_chain.specs.History.{History}
use Rattle.gate_chain.specs.Times.{tip_of}
use Rattle.gate_locks.specs.Finality.{is_final_at}
use Rattle.gate_locks.specs.Locks.{median_at, sequence_locks_met_by}
use Rattle.gate_block.specs.Switching.{last_blocks}
use Rattle.gate_pool.specs.Pool.{Admitted, has_txid}
use Rattle.gate_pool.specs.Family.{steps}
use Rattle.gate_pool.proofs.Entries.{Id, entry_step}
use Rattle.gate_pool.proofs.Removals.{kept, below_closed}
use Rattle.gate_pool.proofs.Walking.{Contains-from_filter}
use Rattle.gate_trim.specs.Expiry.{expired, is_stale}
use Rattle.gate_trim.specs.Trimming.{Trimmed}
use Rattle.gate_trim.proofs.Trimmings.{trim_keeps}
use Rattle.gate_admit.specs.Coins.{view_coin}
use Rattle.gate_admit.proofs.Filtering.{find-filter_same}
use Rattle.gate_admit.proofs.Staying.{is_below, below_some_closed, stays_apart}
use Rattle.gate_reorg.specs.Events.{terms_after, event_of}
use Rattle.gate_reorg.specs.Goodness.{IsRipe, ReturnsLeaveTheRipe}
use Rattle.gate_reorg.specs.Reorganisation.{Terms, all_confirmed, brought_back, height_of, input_heights, is_young_coin, spends_young_coin, is_premature, without_premature, returned, pool_after}
use Rattle.gate_submission.specs.Blocks.{transactions_of}

-- ---- the same coins

module _ (chain : History) (D : Id → Bool) (entries : List Admitted) (closed : (a b : Id) → Contains (steps entries) (a, b) → D a ≡ true → D b ≡ true) where
  was : (e : Admitted) → Contains (kept D entries) e → Contains entries e
  was e m = Contains-from_filter (λ (a : Admitted). not (D (txid_of a.tx))) entries e m

  stays : (e : Admitted) → Contains (kept D entries) e → D (txid_of e.tx) ≡ false
  stays e m = not-true _ (All-contains (λ (a : Admitted). not (D (txid_of a.tx)) ≡ true) (kept D entries) e (filter_passes (λ (a : Admitted). not (D (txid_of a.tx))) entries) m)

  -- what an entry that stays spends is the coin that it was
  pub same_coin : (e : Admitted) → Contains (kept D entries) e → (i : TxIn) → Contains e.tx.inputs i → view_coin chain (kept D entries) i.prevout ≡ view_coin chain entries i.prevout
  same_coin e m i c =
      let beside : D i.prevout.txid ≡ false = false_from_ne_true _ (λ t. true≢false (sym (closed i.prevout.txid (txid_of e.tx) (entry_step entries e i (was e m) c) t) ∙ stays e m)) in
      ap (λ (found : Option Admitted). option_or (option_and_then (λ (a : Admitted). option_and_then (coin_made (tip_of chain + 1) false) (slice_get a.tx.outputs i.prevout.index)) found) (coin_of chain i.prevout))
      (find-filter_same (λ (a : Admitted). has_txid a i.prevout.txid) (λ (a : Admitted). not (D (txid_of a.tx))) entries
      (λ a n t. ap not (ap D ((bytes_decides (txid_of a.tx) i.prevout.txid).0 t) ∙ beside)))

-- where coins are the same, heights are, and whether a coin is young
same_heights : (chain : History) (l k : List Admitted) (inputs : List TxIn) → ((i : TxIn) → Contains inputs i → view_coin chain l i.prevout ≡ view_coin chain k i.prevout) → input_heights chain l inputs ≡ input_heights chain k inputs
same_heights chain l k [] same = refl
same_heights chain l k (i ∷ inputs) same =
    λ j. height_of (same i (Contains-head i inputs) j) ∷ same_heights chain l k inputs (λ n m. same n (Contains-rest i inputs n m)) j

same_young : (chain : History) (l k : List Admitted) (inputs : List TxIn) → ((i : TxIn) → Contains inputs i → view_coin chain l i.prevout ≡ view_coin chain k i.prevout) → spends_young_coin chain l inputs ≡ spends_young_coin chain k inputs
same_young chain l k [] same = refl
same_young chain l k (i ∷ inputs) same =
    λ j. is_young_coin (tip_of chain + 1) (same i (Contains-head i inputs) j) || same_young chain l k inputs (λ n m. same n (Contains-rest i inputs n m)) j

same_premature : (chain : History) (l k : List Admitted) (tx : Tx) → ((i : TxIn) → Contains tx.inputs i → view_coin chain l i.prevout ≡ view_coin chain k i.prevout) → is_premature chain l tx ≡ is_premature chain k tx
unfolding is_premature
same_premature chain l k tx same =
    λ j. not (is_final_at tx (tip_of chain + 1) (median_at chain (tip_of chain))) || (not (sequence_locks_met_by tx (same_heights chain l k tx.inputs same j) chain) || same_young chain l k tx.inputs same j)

-- ---- entries that the next block may have

abbrev AreMature : History → List Admitted → Type 0
AreMature chain entries = (e : Admitted) → Contains entries e → is_premature chain entries e.tx ≡ false

kept_mature : (chain : History) (D : Id → Bool) (entries : List Admitted) → ((a b : Id) → Contains (steps entries) (a, b) → D a ≡ true → D b ≡ true) → AreMature chain entries → AreMature chain (kept D entries)
kept_mature chain D entries closed h e m =
    same_premature chain (kept D entries) entries e.tx (λ i c. same_coin chain D entries closed e m i c) ∙ h e (was chain D entries closed e m)

first_mature : (chain : History) (entries : List Admitted) → AreMature chain (without_premature chain entries)
first_mature chain entries e m =
    let test : Admitted → Bool = λ a. is_premature chain entries a.tx in
    same_premature chain (without_premature chain entries) entries e.tx (λ i c. same_coin chain (is_below test entries) entries (below_some_closed test entries) e m i c)
    ∙ stays_apart test entries e m

returned_mature : (under : Terms) (entries : List Admitted) (floor : ℕ) (new old : List Tx) → AreMature under.chain (returned under entries floor new old).entries
unfolding returned
returned_mature under entries floor new old =
    let chain = under.chain in
    let tried = brought_back under entries new old in
    let ripe = without_premature chain tried in
    trim_keeps (AreMature chain) (λ l txid. kept_mature chain (reaches (steps l) txid) l (below_closed l txid)) under.policy.incremental_rate under.budget (expired under.policy.stay under.second ripe) floor
    (kept_mature chain (is_below (is_stale under.policy.stay under.second) ripe) ripe (below_some_closed (is_stale under.policy.stay under.second) ripe) (first_mature chain tried))

true_from_not : (b : Bool) → not b ≡ false → b ≡ true
true_from_not true h = refl
true_from_not false h = sym h

ripe : (chain : History) (entries : List Admitted) (tx : Tx) → is_premature chain entries tx ≡ false → IsRipe chain entries tx
unfolding is_premature
ripe chain entries tx h =
    let first = or_parts (not (is_final_at tx (tip_of chain + 1) (median_at chain (tip_of chain)))) _ h in
    let second = or_parts (not (sequence_locks_met_by tx (input_heights chain entries tx.inputs) chain)) (spends_young_coin chain entries tx.inputs) first.1 in
    record { final = true_from_not _ first.0; unlocked = true_from_not _ second.0; mature = second.1 }

some_gone : (depth : ℕ) → depth ≢ 0 → (depth == 0) ≡ false
some_gone depth h = grind (arith, nat_tests)

after_mature : (depth : ℕ) (under : Terms) (entries : List Admitted) (floor : ℕ) (new old : List Tx) → depth ≢ 0 → AreMature under.chain (pool_after depth under entries floor new old).entries
unfolding pool_after
after_mature depth under entries floor new old some =
    subst (λ (after : Trimmed). AreMature under.chain after.entries)
    (sym (cond-false (depth == 0) (record { entries = all_confirmed entries new; floor = floor }) (returned under entries floor new old) (some_gone depth some)))
    (returned_mature under entries floor new old)

pub returns_leave_the_ripe : ReturnsLeaveTheRipe
unfolding event_of
returns_leave_the_ripe over depth blocks now budget some k d l =
    let under = terms_after over depth blocks now budget in
    let old = transactions_of (last_blocks over.chain depth) in
    let after = pool_after depth under over.entries over.floor (transactions_of blocks) old in
    ripe under.chain after.entries (get_or after.entries k d).tx
    (after_mature depth under over.entries over.floor (transactions_of blocks) old some (get_or after.entries k d) (Contains-get_or after.entries k d l))
