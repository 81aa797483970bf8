-- Those that replace entries have no ancestor in the pool: so they pass over the entries that stay as they do over all.
use Rattle.std.proofs.Common.{◌≡◌, ℕ, ◌+◌, Bool, true, false, not, ◌&&◌, ◌||◌, List, [], ◌∷◌, ◌++◌, length, Option, Some, None, Ok, refl, sym, ap, ◌∙◌, subst, arith, ⊎_elim}
use Rattle.std.specs.Prelude.{◌-◌, ◌==◌, nat_lt, nat_le, if◌then◌else◌, Contains, filter, find, is_none, is_some, option_and_then, slice_get}
use Rattle.std.specs.List.{list_all, list_any}
use Rattle.std.specs.Option.{option_or, option_to_list}
use Rattle.std.proofs.lemmas.Bool.{false_from_ne_true, or_parts, true≢false}
use Rattle.std.proofs.lemmas.List.Elements.{All-contains, Contains-append_cases}
use Rattle.gate_bytes.specs.Order.{Rule, first_failing}
use Rattle.gate_bytes.proofs.Members.{Contains-head, Contains-rest, any_is, list_any_of, not_in_none}
use Rattle.gate_bytes.proofs.OrderLemmas.{first_failing_append, none_fails}
use Rattle.gate_tx.specs.declared.TxIn.{TxIn}
use Rattle.gate_tx.specs.Coins.{spends}
use Rattle.gate_tx.specs.Ids.{txid_of, wtxid_of}
use Rattle.gate_tx.specs.Tx.{Tx}
use Rattle.gate_rules.specs.declared.Denial.{Denial}
use Rattle.gate_rules.specs.declared.Denial.TheVariants.{AlreadyInMempool, AlreadyKnown, MempoolConflict, MissingOrSpent, SameNonWitnessData, SpendsConflicting, TooLongChain, TrucViolation}
use Rattle.gate_standard.specs.Rules.{is_truc}
use Rattle.gate_submission.specs.Alone.{alone_rules}
use Rattle.gate_chain.specs.Coins.{coin_made, coin_of, opened_with_of}
use Rattle.gate_tx.specs.declared.Coin.{Coin}
use Rattle.gate_chain.specs.Times.{tip_of}
use Rattle.gate_pool.specs.Pool.{Admitted, entry_by_txid, has_txid, has_wtxid, size_of, spender_of}
use Rattle.gate_pool.specs.Family.{ancestors_above, is_below_some, is_conflict}
use Rattle.gate_pool.proofs.Entries.{find_some}
use Rattle.gate_pool.proofs.Removals.{without_below-none}
use Rattle.gate_pool.proofs.Walking.{Contains-from_filter, none-filter}
use Rattle.gate_rbf.specs.Replacing.{is_non_signalling_conflict}
use Rattle.gate_admit.specs.Limits.{has_room_below, usual_limits}
use Rattle.gate_admit.specs.Policies.{Policy}
use Rattle.gate_admit.specs.Reports.{reported, report_rules, sigop_cost, vsize_of}
use Rattle.gate_admit.specs.Rules.{balance_rules, coin_value_rules, coins_value, final_rules, is_chain_coin_from, lock_rules, outputs_value, pool_rules}
use Rattle.gate_admit.specs.Standing.{Standing}
use Rattle.gate_admit.specs.Truc.{is_of_other_kind, is_outside, sibling_among, truc_size}
use Rattle.gate_admit.proofs.Lists.{none_pass}
use Rattle.gate_admit.proofs.Parents.{above_none, none_above}
use Rattle.gate_admit.proofs.Staying.{stays_apart}
use Rattle.gate_diagram.specs.declared.Price.{Price}
use Rattle.gate_package.specs.declared.role.Role.TheVariants.{Together}
use Rattle.gate_package.specs.Coins.{coin_rules_beside, coins_beside, made_by, misses_coin_beside, view_beside}
use Rattle.gate_package.specs.Judging.{family_rules, fee_beside, half_rules, payment_rules, pool_rules_as, rate_rules, replaces_one, vsize_beside}
use Rattle.gate_package.specs.Kinship.{breaks_beside, is_below_truc, is_outside as is_outside_beside, parents_among, some_breaks}
use Rattle.gate_package.specs.Packages.{AreAbsent, AreNewcomers}
use Rattle.gate_diagram.specs.Prices.{price_sum_size}
use Rattle.gate_package.specs.Shapes.{has_conflict, has_duplicates}
use Rattle.gate_package.specs.Replacement.{replacement_rules}
use Rattle.gate_rivals.specs.Rivals.{all_inputs, has_ancestor, have_ancestors, is_rival, staying_beside}
use Rattle.gate_package.specs.Together.{are_too_many, crowd, half_or, halves_of, passes_limits, replaces_some, replacing_denial, together_of, with_price}
use Rattle.gate_package.proofs.Joining.{PassAll, StandsFree, all_pass, checked, none_there, not_found, own_inputs, priced}
use Rattle.gate_package.proofs.Membership.{among}
use Rattle.gate_rivals.proofs.Replacing.{any_agree}
use Rattle.gate_package.proofs.Spenders.{spent_by_one}

both_none : {L : Type 0} (xs ys : List (Rule L)) → first_failing (xs ++ ys) ≡ None → (first_failing xs ≡ None) × (first_failing ys ≡ None)
both_none {L} xs ys h = by (first_failing xs) (first_failing ys) (sym (first_failing_append xs ys) ∙ h)
  where
    by : (a b : Option L) → option_or a b ≡ None → (a ≡ None) × (b ≡ None)
    by None b k = (refl, k)
    by (Some x) b k = absurd (cc)

and_none : {L : Type 0} (xs ys : List (Rule L)) → first_failing xs ≡ None → first_failing ys ≡ None → first_failing (xs ++ ys) ≡ None
and_none xs ys a b = first_failing_append xs ys ∙ (ap (λ o. option_or o (first_failing ys)) a ∙ b)

any_part : {X : Type 0} (p k : X → Bool) (xs : List X) → list_any p xs ≡ false → list_any p (filter k xs) ≡ false
any_part p k xs h = false_from_ne_true _ (λ t.
    let w = any_is p (filter k xs) t in
    true≢false (sym (list_any_of p xs w.0 (Contains-from_filter k xs w.0 w.1) w.2) ∙ h))

some_part : {X : Type 0} (p k : X → Bool) (xs : List X) → is_some (find p xs) ≡ false → is_some (find p (filter k xs)) ≡ false
some_part p k xs h = ap is_some (none-filter p k xs (none_there (find p xs) h))

-- ---- one transaction without a parent among entries, over a part of these

module _ (over : Standing) (keep : Admitted → Bool) (tx : Tx) (free : has_ancestor over.entries tx ≡ false) where
  rest : List Admitted
  rest = filter keep over.entries

  no_parent : (i : TxIn) → Contains tx.inputs i → entry_by_txid over.entries i.prevout.txid ≡ None
  no_parent i c =
      none_there (entry_by_txid over.entries i.prevout.txid)
      (All-contains (λ (j : TxIn). is_some (entry_by_txid over.entries j.prevout.txid) ≡ false) tx.inputs i (none_pass (λ (j : TxIn). is_some (entry_by_txid over.entries j.prevout.txid)) tx.inputs free) c)

  pub root_over : ancestors_above over.entries tx.inputs ≡ []
  root_over = above_none over.entries tx.inputs (λ i c. omega (arith, ap length (none_above over.entries i.prevout.txid (ap is_some (no_parent i c)))))

  pub root_rest : ancestors_above (filter keep over.entries) tx.inputs ≡ []
  root_rest =
      above_none (filter keep over.entries) tx.inputs
      (λ i c. omega (arith, ap length (none_above (filter keep over.entries) i.prevout.txid (ap is_some (none-filter (λ e. has_txid e i.prevout.txid) keep over.entries (no_parent i c))))))

  same_view : (before : List Tx) (i : TxIn) → Contains tx.inputs i → view_beside over.chain before (filter keep over.entries) i.prevout ≡ view_beside over.chain before over.entries i.prevout
  same_view before i c =
      let height = tip_of over.chain + 1 in
      let coin = λ (o : Option Admitted). option_or (made_by height before i.prevout) (option_or (option_and_then (λ (e : Admitted). option_and_then (coin_made height false) (slice_get e.tx.outputs i.prevout.index)) o) (coin_of over.chain i.prevout)) in
      ap coin (none-filter (λ e. has_txid e i.prevout.txid) keep over.entries (no_parent i c)) ∙ sym (ap coin (no_parent i c))

  same_coins_of : (before : List Tx) (inputs : List TxIn) → ((i : TxIn) → Contains inputs i → Contains tx.inputs i) → coins_beside over.chain before (filter keep over.entries) inputs ≡ coins_beside over.chain before over.entries inputs
  same_coins_of before [] within = refl
  same_coins_of before (i ∷ inputs) within =
      λ z. option_to_list (same_view before i (within i (Contains-head i inputs)) z) ++ same_coins_of before inputs (λ j c. within j (Contains-rest i inputs j c)) z

  pub same_coins : (before : List Tx) → coins_beside over.chain before (filter keep over.entries) tx.inputs ≡ coins_beside over.chain before over.entries tx.inputs
  same_coins before = same_coins_of before tx.inputs (λ i c. c)

  same_misses : (before : List Tx) → misses_coin_beside over.chain before (filter keep over.entries) tx.inputs ≡ misses_coin_beside over.chain before over.entries tx.inputs
  same_misses before =
      any_agree (λ (i : TxIn). is_none (view_beside over.chain before (filter keep over.entries) i.prevout)) (λ (i : TxIn). is_none (view_beside over.chain before over.entries i.prevout)) tx.inputs (λ i c. ap is_none (same_view before i c))

  same_coin_rules : (before : List Tx) → coin_rules_beside over.chain before (filter keep over.entries) tx ≡ coin_rules_beside over.chain before over.entries tx
  unfolding coin_rules_beside
  same_coin_rules before = λ z.
      (AlreadyKnown, (same_misses before z && is_chain_coin_from over.chain (txid_of tx) 0 tx.outputs) || opened_with_of over.chain (txid_of tx)) ∷ (MissingOrSpent, same_misses before z) ∷ []

  -- the rules on families of a transaction with these ancestors
  family_with : List Admitted → List Admitted → ℕ → List (Rule Denial)
  family_with entries above vsize =
      let limits = usual_limits over.policy in
      (TooLongChain, not (nat_le (length above + 1) limits.ancestors && ((length above == 0 || nat_le (size_of above + vsize) limits.ancestors_size) && list_all (has_room_below limits entries vsize) above)))
      ∷ (
        TrucViolation,
        (over.policy.standards.truc && (list_any (is_of_other_kind tx) above || (is_truc tx && is_outside entries tx vsize above))) || is_some (if over.policy.standards.truc && is_truc tx then sibling_among entries tx above else None),
      )
      ∷ (SpendsConflicting, list_any (is_conflict tx) above)
      ∷ []

  same_families : (vsize : ℕ) → family_rules Together over.policy (filter keep over.entries) tx vsize ≡ family_rules Together over.policy over.entries tx vsize
  unfolding family_rules family_with
  same_families vsize = ap (λ above. family_with (filter keep over.entries) above vsize) root_rest ∙ sym (ap (λ above. family_with over.entries above vsize) root_over)

  pool_part : first_failing (pool_rules over.policy over.entries tx) ≡ None → first_failing (pool_rules over.policy (filter keep over.entries) tx) ≡ None
  unfolding pool_rules
  pool_part h =
      let w = none_fails (pool_rules over.policy over.entries tx) h in
      λ z.
      first_failing
      ((AlreadyInMempool, some_part (λ e. has_wtxid e (wtxid_of tx)) keep over.entries w.0 z)
      ∷ (SameNonWitnessData, some_part (λ e. has_txid e (txid_of tx)) keep over.entries w.1.0 z)
      ∷ (MempoolConflict, signalling (not over.policy.full_rbf) w.1.1.0 z)
      ∷ [])
    where
      signalling : (b : Bool) → (b && list_any (is_non_signalling_conflict over.policy.standards.truc tx) over.entries) ≡ false
          → (b && list_any (is_non_signalling_conflict over.policy.standards.truc tx) (filter keep over.entries)) ≡ false
      signalling true k = any_part (is_non_signalling_conflict over.policy.standards.truc tx) keep over.entries k
      signalling false k = refl

  -- what is asked behind A23 goes by the coins and the ancestors alone
  behind_pool : ℕ → List (Rule Denial) → List Coin → (ℕ → List (Rule Denial)) → List (Rule Denial)
  behind_pool max_rate coin_rules coins families =
      let fee = coins_value coins - outputs_value tx in
      let vsize = vsize_of over.policy.sigop_size (sigop_cost (reported tx.inputs coins) tx.outputs) tx in
      coin_rules
      ++ (lock_rules over.chain coins tx
      ++ (coin_value_rules (tip_of over.chain + 1) 0 coins
      ++ (balance_rules (coins_value coins) (outputs_value tx)
      ++ (report_rules over.policy (reported tx.inputs coins) fee tx
      ++ (payment_rules Together over.policy tx over.floor fee vsize
      ++ (families vsize
      ++ rate_rules max_rate fee vsize))))))

  pub half_part : (max_rate : ℕ) (before : List Tx) → first_failing (half_rules Together max_rate before over tx) ≡ None
      → first_failing (half_rules Together max_rate before (record over { entries = filter keep over.entries }) tx) ≡ None
  unfolding half_rules pool_rules_as behind_pool
  half_part max_rate before h =
      let alone = both_none (alone_rules over.policy.standards tx) _ h in
      let final = both_none (final_rules over.chain tx) _ alone.1 in
      let pool = both_none (pool_rules over.policy over.entries tx) _ final.1 in
      let same : behind_pool max_rate (coin_rules_beside over.chain before (filter keep over.entries) tx) (coins_beside over.chain before (filter keep over.entries) tx.inputs) (λ vsize. family_rules Together over.policy (filter keep over.entries) tx vsize)
      ≡ behind_pool max_rate (coin_rules_beside over.chain before over.entries tx) (coins_beside over.chain before over.entries tx.inputs) (λ vsize. family_rules Together over.policy over.entries tx vsize) =
      λ z. behind_pool max_rate (same_coin_rules before z) (same_coins before z) (λ vsize. same_families vsize z) in
      and_none (alone_rules over.policy.standards tx) _ alone.0
      (and_none (final_rules over.chain tx) _ final.0
      (and_none (pool_rules over.policy (filter keep over.entries) tx) _ (pool_part pool.0) (ap first_failing same ∙ pool.1)))

  pub same_price : (before : List Tx)
      → (let p : Price = record { fee = fee_beside before (record over { entries = filter keep over.entries }) tx; vsize = vsize_beside before (record over { entries = filter keep over.entries }) tx } in p)
      ≡ record { fee = fee_beside before over tx; vsize = vsize_beside before over tx }
  same_price before = λ z.
      let coins = same_coins before z in
      record { fee = coins_value coins - outputs_value tx; vsize = vsize_of over.policy.sigop_size (sigop_cost (reported tx.inputs coins) tx.outputs) tx }

  beside_with : List Admitted → List Admitted → List Tx → ℕ → Bool
  beside_with entries above txs vsize =
      let parents = parents_among txs tx in
      if is_truc tx then nat_lt truc_size vsize || is_outside_beside entries txs tx vsize above parents else is_below_truc above parents

  pub same_beside : (txs : List Tx) (vsize : ℕ) → breaks_beside (filter keep over.entries) txs tx vsize ≡ breaks_beside over.entries txs tx vsize
  unfolding beside_with
  same_beside txs vsize = ap (λ above. beside_with (filter keep over.entries) above txs vsize) root_rest ∙ sym (ap (λ above. beside_with over.entries above txs vsize) root_over)

-- ---- all of them

module _ (over : Standing) (keep : Admitted → Bool) where
  halves_part : (max_rate : ℕ) (before : List Tx) (place : ℕ) (txs : List Tx) (prices : List Price) → have_ancestors over.entries txs ≡ false → halves_of max_rate over before place txs ≡ Ok prices
      → halves_of max_rate (record over { entries = filter keep over.entries }) before place txs ≡ Ok prices
  halves_part max_rate before place [] prices free h = h
  halves_part max_rate before place (tx ∷ txs) prices free h =
      let each = or_parts (has_ancestor over.entries tx) (have_ancestors over.entries txs) free in
      let price : Price = record { fee = fee_beside before over tx; vsize = vsize_beside before over tx } in
      let found = priced place price (first_failing (half_rules Together max_rate before over tx)) (halves_of max_rate over (before ++ tx ∷ []) (place + 1) txs) prices h in
      let first = half_part over keep tx each.0 max_rate before found.passes in
      let others = halves_part max_rate (before ++ tx ∷ []) (place + 1) txs found.rest each.1 found.behind in
      (λ z. half_or place (first z) (with_price (same_price over keep tx each.0 before z) (others z))) ∙ sym (ap Ok found.is)

  same_breaks : (all txs : List Tx) (prices : List Price) → have_ancestors over.entries txs ≡ false → some_breaks (filter keep over.entries) all txs prices ≡ some_breaks over.entries all txs prices
  same_breaks all [] prices free = refl
  same_breaks all (tx ∷ txs) [] free = refl
  same_breaks all (tx ∷ txs) (price ∷ prices) free =
      let each = or_parts (has_ancestor over.entries tx) (have_ancestors over.entries txs) free in
      λ z. same_beside over keep tx each.0 all price.vsize z || same_breaks all txs prices each.1 z

  no_parents : (txs : List Tx) → have_ancestors over.entries txs ≡ false → (i : TxIn) → Contains (all_inputs txs) i → entry_by_txid over.entries i.prevout.txid ≡ None
  no_parents [] free i c = not_in_none i c
  no_parents (tx ∷ txs) free i c =
      let each = or_parts (has_ancestor over.entries tx) (have_ancestors over.entries txs) free in
      ⊎_elim (no_parent over keep tx each.0 i) (no_parents txs each.1 i) (Contains-append_cases tx.inputs (all_inputs txs) i c)

  limits_with : List Admitted → List Admitted → List Tx → ℕ → Bool
  limits_with entries above txs vsize =
      let limits = usual_limits over.policy in
      let count = length txs in
      are_too_many limits count vsize || (nat_lt limits.ancestors (length above + count) || crowd limits entries count vsize above)

  same_limits : (txs : List Tx) (vsize : ℕ) → have_ancestors over.entries txs ≡ false → passes_limits over.policy (filter keep over.entries) txs vsize ≡ passes_limits over.policy over.entries txs vsize
  unfolding limits_with
  same_limits txs vsize free =
      let whole : ancestors_above over.entries (all_inputs txs) ≡ [] =
      above_none over.entries (all_inputs txs) (λ i c. omega (arith, ap length (none_above over.entries i.prevout.txid (ap is_some (no_parents txs free i c))))) in
      let part : ancestors_above (filter keep over.entries) (all_inputs txs) ≡ [] =
      above_none (filter keep over.entries) (all_inputs txs)
      (λ i c. omega (arith, ap length (none_above (filter keep over.entries) i.prevout.txid (ap is_some (none-filter (λ e. has_txid e i.prevout.txid) keep over.entries (no_parents txs free i c)))))) in
      ap (λ above. limits_with (filter keep over.entries) above txs vsize) part ∙ sym (ap (λ above. limits_with over.entries above txs vsize) whole)

-- ---- what stays has none of their conflicts

pub none_replaced : (entries : List Admitted) (txs : List Tx) → replaces_some (staying_beside entries txs) txs ≡ false
none_replaced entries txs = false_from_ne_true _ (λ t.
    let w = any_is (replaces_one (staying_beside entries txs)) txs t in
    let i = any_is (λ (j : TxIn). is_some (spender_of (staying_beside entries txs) j.prevout)) w.0.inputs w.2 in
    found (spender_of (staying_beside entries txs) i.0.prevout) refl i.2 (λ e is.
    let f = find_some (λ (x : Admitted). spends x.tx.inputs i.0.prevout) (staying_beside entries txs) e is in
    true≢false (sym (list_any_of (λ (j : TxIn). spends e.tx.inputs j.prevout) (all_inputs txs) i.0 (own_inputs txs w.0 w.1 i.0 i.1) f.1) ∙ stays_apart (is_rival txs) entries e f.0)))
  where
    found : (o : Option Admitted) → {x : Option Admitted} → x ≡ o → is_some x ≡ true → ((e : Admitted) → x ≡ Some e → ⊥) → ⊥
    found None is t none = absurd (true≢false (sym t ∙ ap is_some is))
    found (Some e) is t none = none e is

-- they may stand behind what stays
pub newcomers_beside : (entries : List Admitted) (txs : List Tx) → AreAbsent entries txs → has_duplicates txs ≡ false → has_conflict txs ≡ false → AreNewcomers (staying_beside entries txs) txs
newcomers_beside entries txs absent distinct apart =
    let keep : Admitted → Bool = λ e. not (is_below_some (is_rival txs) entries e) in
    record {
      absent = λ tx c. let a = absent tx c in (none-filter (λ e. has_txid e (txid_of tx)) keep entries a.0, none-filter (λ e. has_wtxid e (wtxid_of tx)) keep entries a.1);
      replace_none = none_replaced entries txs;
      distinct = distinct;
      apart = apart;
    }

-- nothing leaves where they replace nothing
pub all_stay : (entries : List Admitted) (txs : List Tx) → replaces_some entries txs ≡ false → staying_beside entries txs ≡ entries
all_stay entries txs none =
    without_below-none (is_rival txs) entries (not_found (is_rival txs) entries (λ e c.
    false_from_ne_true _ (λ t.
    let i = any_is (λ (j : TxIn). spends e.tx.inputs j.prevout) (all_inputs txs) t in
    true≢false (sym (spent_by_one entries txs i.0 i.1 e c i.2) ∙ none))))

-- ---- those that may enter together

free_if_replacing : (policy : Policy) (entries : List Admitted) (txs : List Tx) (prices : List Price) → replaces_some entries txs ≡ true → replacing_denial policy entries txs prices ≡ None → have_ancestors entries txs ≡ false
unfolding replacement_rules
free_if_replacing policy entries txs prices some h =
    let asked : first_failing (replacement_rules policy entries txs prices) ≡ None = sym (ap (λ b. if b then first_failing (replacement_rules policy entries txs prices) else None) some) ∙ h in
    (none_fails (replacement_rules policy entries txs prices) asked).1.0

pub stands_free : (max_rate : ℕ) (over : Standing) (txs : List Tx) (prices : List Price) → together_of max_rate over txs ≡ Ok prices → StandsFree max_rate (among over (staying_beside over.entries txs)) txs prices
unfolding together_of
stands_free max_rate over txs prices h =
    let made = checked over txs (halves_of max_rate over [] 0 txs) prices h in
    let all = all_pass over txs prices made.1 in
    by made.0 all (replaces_some over.entries txs) refl
  where
    by : halves_of max_rate over [] 0 txs ≡ Ok prices → PassAll over txs prices → (b : Bool) → replaces_some over.entries txs ≡ b → StandsFree max_rate (among over (staying_beside over.entries txs)) txs prices
    by halves all false none =
        subst (λ (l : List Admitted). StandsFree max_rate (among over l) txs prices) (sym (all_stay over.entries txs none)) (record { halves = halves; truc = all.truc; limits = all.limits; none = none })
    by halves all true some =
        let free = free_if_replacing over.policy over.entries txs prices some all.rules in
        let keep : Admitted → Bool = λ e. not (is_below_some (is_rival txs) over.entries e) in
        record {
          halves = halves_part over keep max_rate [] 0 txs prices free halves;
          truc = ap (λ b. over.policy.standards.truc && b) (same_breaks over keep txs txs prices free) ∙ all.truc;
          limits = same_limits over keep txs (price_sum_size prices) free ∙ all.limits;
          none = none_replaced over.entries txs;
        }
