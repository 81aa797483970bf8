-- Those that enter together keep entries sound over their chain.
use Rattle.std.proofs.Common.{◌≡◌, ◌≤◌, ◌+◌, ℕ, Bool, true, false, cond, ◌||◌, ◌&&◌, List, [], ◌∷◌, ◌++◌, length, get_or, Option, Some, None, Result, Ok, Err, refl, sym, ap, ◌∙◌, subst, append-nil, append_assoc, length-append, arith, ⊎_elim}
use Rattle.std.specs.Prelude.{nat_lt, if◌then◌else◌, Contains, IsSome, is_none, is_some, option_and_then, slice_get, find, filter, map, sum_by}
use Rattle.std.specs.List.{All, list_any, flat_map}
use Rattle.std.specs.Option.{option_or}
use Rattle.std.specs.Str.{bytes_eq}
use Rattle.std.specs.Cmp.Lexicographic.{bytes_decides}
use Rattle.std.proofs.lemmas.Bool.{cases_Bool, cond-false, false_from_ne_true, ltb-false, or_parts, true≢false}
use Rattle.std.proofs.lemmas.List.Elements.{All-append, All-contains, Contains-append_cases, Contains-append_left, Contains-append_right, Contains-get_or, Contains-push_cases, filter-append}
use Rattle.std.proofs.lemmas.List.Folds.{find-append}
use Rattle.std.proofs.lemmas.List.Sums.{sum_by-append, sum_by-cons}
use Rattle.gate_bytes.specs.Order.{first_failing}
use Rattle.gate_bytes.proofs.Members.{Contains-cons_cases, Contains-head, Contains-rest, any_is, list_any_of, not_in_none}
use Rattle.gate_tx.specs.declared.OutPoint.{OutPoint}
use Rattle.gate_tx.specs.declared.TxIn.{TxIn}
use Rattle.gate_tx.specs.Coins.{spends}
use Rattle.gate_tx.specs.Ids.{txid_of, wtxid_of}
use Rattle.gate_tx.specs.Tx.{Tx}
use Rattle.gate_rules.specs.declared.Denial.{Denial}
use Rattle.gate_rules.specs.declared.PackageDenial.{PackageDenial}
use Rattle.gate_chain.specs.Coins.{coin_made, coin_of, is_known_txid}
use Rattle.gate_chain.specs.Times.{tip_of}
use Rattle.gate_graph.specs.Family.{reaches}
use Rattle.gate_graph.proofs.Steps.{cases_id}
use Rattle.gate_pool.specs.Pool.{Admitted, entry_by_txid, has_txid, has_wtxid, size_of, spender_of, spends_of}
use Rattle.gate_pool.specs.Counting.{entered_beside, is_counted, is_sibling}
use Rattle.gate_pool.specs.Family.{steps, ancestors_above, descendants_of, is_conflict}
use Rattle.gate_pool.proofs.Entries.{Contains-from_map, Contains-map, find_none, find_some}
use Rattle.gate_pool.proofs.Removals.{without_below-none}
use Rattle.gate_pool.proofs.Walking.{Contains-filter, Contains-from_filter}
use Rattle.gate_admit.specs.Coins.{pool_coin, view_coin}
use Rattle.gate_admit.specs.Good.{IsLimited, IsSound, IsUnconnected}
use Rattle.gate_admit.specs.Limits.{usual_limits}
use Rattle.gate_admit.specs.Standing.{Standing}
use Rattle.gate_admit.proofs.Childless.{IsChildless, above_new, left_by, left_within, reached_before, reached_from_new}
use Rattle.gate_admit.proofs.Coining.{coin_beside, coin_elsewhere, some_either}
use Rattle.gate_admit.proofs.Entering.{MayEnter, childless_grant, joined_sound, neither, unknown}
use Rattle.gate_admit.proofs.Filtering.{length_ones, sum_by-none}
use Rattle.gate_admit.proofs.Granted.{each_once, ids_differ, some_from_not_none, spends_once}
use Rattle.gate_admit.proofs.Limited.{HasRoom, HasRoomAbove, limited_new, limited_old}
use Rattle.gate_admit.proofs.Lists.{All-one, none_pass}
use Rattle.gate_diagram.specs.declared.Price.{Price}
use Rattle.gate_package.specs.declared.role.Role.TheVariants.{Together}
use Rattle.gate_package.specs.declared.together.Refusal.{Refusal}
use Rattle.gate_package.specs.Coins.{coin_rules_beside, made_by, view_beside}
use Rattle.gate_package.specs.Judging.{fee_beside, half_rules, replaces_one, vsize_beside}
use Rattle.gate_package.specs.Packages.{newcomers}
use Rattle.gate_diagram.specs.Prices.{price_sum_fee, price_sum_size}
use Rattle.gate_package.specs.Shapes.{has_conflict, has_duplicates}
use Rattle.gate_rivals.specs.Rivals.{inputs_of}
use Rattle.gate_package.specs.Together.{above_all, all_checked, are_too_many, crowd, half_or, halves_of, is_crowded, passes_limits, priced_refusal, refusal_of, refused_by_price, refused_by_rule, replaces_some, replacing_denial, unless_refused, unpaid, with_price}
use Rattle.gate_package.specs.Kinship.{breaks_together}
use Rattle.gate_package.proofs.Belonging.{AllDiffer, Differ, Half, all_differ, half_absent, half_passes, half_small}
use Rattle.gate_package.proofs.Membership.{among}

-- ---- sums over a part of a list

module _ {X : Type 0} (f : X → ℕ) where
  part_of : (p : X → Bool) (xs : List X) → sum_by f (filter p xs) ≤ sum_by f xs
  part_of p [] = omega arith
  part_of p (x ∷ xs) = by (p x) (part_of p xs)
    where
      by : (b : Bool) → sum_by f (filter p xs) ≤ sum_by f xs → sum_by f (cond b (x ∷ filter p xs) (filter p xs)) ≤ sum_by f (x ∷ xs)
      by true s = omega (arith, s, sum_by-cons f x (filter p xs), sum_by-cons f x xs)
      by false s = omega (arith, s, sum_by-cons f x xs)

  narrower : (p q : X → Bool) (xs : List X) → ((x : X) → Contains xs x → p x ≡ true → q x ≡ true) → sum_by f (filter p xs) ≤ sum_by f (filter q xs)
  narrower p q [] h = omega arith
  narrower p q (x ∷ xs) h = by (p x) (q x) (h x (Contains-head x xs)) (narrower p q xs (λ y m. h y (Contains-rest x xs y m)))
    where
      by : (b c : Bool) → (b ≡ true → c ≡ true) → sum_by f (filter p xs) ≤ sum_by f (filter q xs) → sum_by f (cond b (x ∷ filter p xs) (filter p xs)) ≤ sum_by f (cond c (x ∷ filter q xs) (filter q xs))
      by true true n s = omega (arith, s, sum_by-cons f x (filter p xs), sum_by-cons f x (filter q xs))
      by true false n s = absurd (true≢false (sym (n refl)))
      by false true n s = omega (arith, s, sum_by-cons f x (filter q xs))
      by false false n s = s

pub not_found : {X : Type 0} (p : X → Bool) (xs : List X) → ((x : X) → Contains xs x → p x ≡ false) → find p xs ≡ None
not_found p [] h = refl
not_found p (x ∷ xs) h = cond-false (p x) (Some x) (find p xs) (h x (Contains-head x xs)) ∙ not_found p xs (λ y m. h y (Contains-rest x xs y m))

pub none_there : {X : Type 0} (o : Option X) → is_some o ≡ false → o ≡ None
none_there None h = refl
none_there (Some x) h = cc

-- ---- the entries and those that entered behind them

-- steps lead from an entry to what one of these inputs spends
abbrev pub is_above : List Admitted → List TxIn → Admitted → Bool
is_above entries inputs a = list_any (λ (i : TxIn). reaches (steps entries) (txid_of a.tx) i.prevout.txid) inputs

-- what holds once these newcomers, of these transactions, stand behind the entries: from an entry steps lead to what a member spends,
-- or to an entry, only where they did before, and from a newcomer to no entry
pub record Behind (over : Standing) (inputs : List TxIn) (before : List Tx) (ns after : List Admitted) : Type 0 where
  pub whole : after ≡ over.entries ++ ns
  pub told : map (λ (m : Admitted). m.tx) ns ≡ before
  pub sound : IsSound over.policy over.chain after
  pub above : (a : Admitted) → Contains over.entries a → (i : TxIn) → Contains inputs i → reaches (steps after) (txid_of a.tx) i.prevout.txid ≡ true → is_above over.entries inputs a ≡ true
  pub below : (a x : Admitted) → Contains over.entries a → Contains over.entries x → reaches (steps after) (txid_of a.tx) (txid_of x.tx) ≡ true → reaches (steps over.entries) (txid_of a.tx) (txid_of x.tx) ≡ true
  pub apart : (m x : Admitted) → Contains ns m → Contains over.entries x → reaches (steps after) (txid_of m.tx) (txid_of x.tx) ≡ false
  pub coins : (p : OutPoint) → IsSome (view_coin over.chain over.entries p) → IsSome (view_coin over.chain after p)

-- there is room for this many members of this size, taken for one family
pub record Room (over : Standing) (inputs : List TxIn) (count size : ℕ) : Type 0 where
  pub ancestors : length (filter (is_above over.entries inputs) over.entries) + count ≤ over.policy.ancestors
  pub ancestors_size : size_of (filter (is_above over.entries inputs) over.entries) + size ≤ over.policy.ancestors_size
  pub descendants : count ≤ over.policy.descendants
  pub descendants_size : size ≤ over.policy.descendants_size
  pub below : (a : Admitted) → Contains over.entries a → is_above over.entries inputs a ≡ true
      → (length (descendants_of over.entries (txid_of a.tx)) + count ≤ over.policy.descendants) × (size_of (descendants_of over.entries (txid_of a.tx)) + size ≤ over.policy.descendants_size)

module _ {over : Standing} {inputs : List TxIn} {before : List Tx} {ns after : List Admitted} (b : Behind over inputs before ns after) (m : Admitted) (own : (i : TxIn) → Contains m.tx.inputs i → Contains inputs i)
    (k : MayEnter (among over after) m.tx) (known : is_known_txid over.chain (txid_of m.tx) ≡ false) (alone : (a : Admitted) → Contains after a → is_conflict m.tx a ≡ false) where
  was : (a : Admitted) → Contains over.entries a → Contains after a
  was a c = subst (λ (l : List Admitted). Contains l a) (sym b.whole) (Contains-append_left over.entries ns a c)

  counts_none : (a : Admitted) → Contains after a → is_counted None m.tx a ≡ false
  counts_none a c = neither (is_sibling None a) (is_conflict m.tx a) refl (alone a c)

  beside : All (λ (a : Admitted). is_counted None m.tx a ≡ false) (ancestors_above after m.tx.inputs)
  beside = λ n d l.
      let a = get_or (ancestors_above after m.tx.inputs) n d in
      counts_none a (Contains-from_filter (is_above after m.tx.inputs) after a (Contains-get_or (ancestors_above after m.tx.inputs) n d l))

  stays : left_by after None m ≡ after
  stays = without_below-none (is_counted None m.tx) after (not_found (is_counted None m.tx) after counts_none)

  pub childless : IsChildless after m
  childless = childless_grant (among over after) None m b.sound k known beside

  -- ---- families

  from_above : (a : Admitted) → Contains over.entries a → is_above after m.tx.inputs a ≡ true → is_above over.entries inputs a ≡ true
  from_above a c t =
      let w = any_is (λ (i : TxIn). reaches (steps after) (txid_of a.tx) i.prevout.txid) m.tx.inputs t in
      b.above a c w.0 (own w.0 w.1) w.2

  sums : (f : Admitted → ℕ) (q : Admitted → Bool) → sum_by f (filter q after) ≡ sum_by f (filter q over.entries) + sum_by f (filter q ns)
  sums f q = ap (λ l. sum_by f (filter q l)) b.whole ∙ (ap (sum_by f) (filter-append q over.entries ns) ∙ sum_by-append f (filter q over.entries) (filter q ns))

  sum_above : (f : Admitted → ℕ) → sum_by f (ancestors_above after m.tx.inputs) ≤ sum_by f (filter (is_above over.entries inputs) over.entries) + sum_by f ns
  sum_above f =
      omega (arith, sums f (is_above after m.tx.inputs), narrower f (is_above after m.tx.inputs) (is_above over.entries inputs) over.entries from_above, part_of f (is_above after m.tx.inputs) ns)

  sum_below_entry : (f : Admitted → ℕ) (a : Admitted) → Contains over.entries a → sum_by f (descendants_of after (txid_of a.tx)) ≤ sum_by f (descendants_of over.entries (txid_of a.tx)) + sum_by f ns
  sum_below_entry f a c =
      omega (
        arith,
        sums f (λ (x : Admitted). reaches (steps after) (txid_of a.tx) (txid_of x.tx)),
        narrower f (λ (x : Admitted). reaches (steps after) (txid_of a.tx) (txid_of x.tx)) (λ (x : Admitted). reaches (steps over.entries) (txid_of a.tx) (txid_of x.tx)) over.entries (λ x d t. b.below a x c d t),
        part_of f (λ (x : Admitted). reaches (steps after) (txid_of a.tx) (txid_of x.tx)) ns,
      )

  sum_below_newcomer : (f : Admitted → ℕ) (a : Admitted) → Contains ns a → sum_by f (descendants_of after (txid_of a.tx)) ≤ sum_by f ns
  sum_below_newcomer f a c =
      omega (
        arith,
        sums f (λ (x : Admitted). reaches (steps after) (txid_of a.tx) (txid_of x.tx)),
        sum_by-none f (λ (x : Admitted). reaches (steps after) (txid_of a.tx) (txid_of x.tx)) over.entries (λ x d. b.apart a x c d),
        part_of f (λ (x : Admitted). reaches (steps after) (txid_of a.tx) (txid_of x.tx)) ns,
      )

  module _ {count size : ℕ} (r : Room over inputs count size) (small : m.vsize ≤ 100000) (fits : length ns + 1 ≤ count) (fits_size : size_of ns + m.vsize ≤ size) where
    room_above : HasRoomAbove over.policy after m
    room_above =
        record {
          count = omega (arith, r.ancestors, fits, sum_above (λ (a : Admitted). 1), length_ones (ancestors_above after m.tx.inputs), length_ones (filter (is_above over.entries inputs) over.entries), length_ones ns);
          size = omega (arith, r.ancestors_size, fits_size, sum_above (λ (a : Admitted). a.vsize));
        }

    room_with : (a : Admitted) → length (descendants_of after (txid_of a.tx)) ≤ over.policy.descendants → size_of (descendants_of after (txid_of a.tx)) + m.vsize ≤ over.policy.descendants_size → HasRoom over.policy after None m (txid_of a.tx)
    room_with a few light =
        record {
          gone = λ x. false;
          under = λ x c n. absurd (true≢false (sym n));
          goes = λ x c n. absurd (true≢false (sym n));
          count = omega (arith, few);
          size = λ narrow. omega (arith, light);
        }

    room_of : (a : Admitted) → Contains after a → reaches (steps (entered_beside after None m)) (txid_of a.tx) (txid_of m.tx) ≡ true → HasRoom over.policy after None m (txid_of a.tx)
    room_of a c leads =
        ⊎_elim
        (λ (old : Contains over.entries a).
        let room = r.below a old (from_above a old (above_new None childless a c leads)) in
        room_with a
        (omega (arith, room.0, fits, sum_below_entry (λ (x : Admitted). 1) a old, length_ones (descendants_of after (txid_of a.tx)), length_ones (descendants_of over.entries (txid_of a.tx)), length_ones ns))
        (omega (arith, room.1, fits_size, sum_below_entry (λ (x : Admitted). x.vsize) a old)))
        (λ (new : Contains ns a).
        room_with a (omega (arith, r.descendants, fits, sum_below_newcomer (λ (x : Admitted). 1) a new, length_ones (descendants_of after (txid_of a.tx)), length_ones ns))
        (omega (arith, r.descendants_size, fits_size, sum_below_newcomer (λ (x : Admitted). x.vsize) a new)))
        (Contains-append_cases over.entries ns a (subst (λ (l : List Admitted). Contains l a) b.whole c))

    limited : All (λ (a : Admitted). IsLimited over.policy (entered_beside after None m) (txid_of a.tx)) (entered_beside after None m)
    limited =
        All-append (λ (a : Admitted). IsLimited over.policy (entered_beside after None m) (txid_of a.tx)) (left_by after None m) (m ∷ [])
        (λ n d l.
        let a = get_or (left_by after None m) n d in
        let c : Contains after a = left_within after None m a (Contains-get_or (left_by after None m) n d l) in
        limited_old None childless (txid_of a.tx) (childless.new a c) (All-contains (λ (x : Admitted). IsLimited over.policy after (txid_of x.tx)) after a b.sound.limited c) (λ leads. room_of a c leads))
        (All-one (λ (a : Admitted). IsLimited over.policy (entered_beside after None m) (txid_of a.tx)) m (limited_new None (omega (arith, small, b.sound.bounds.descendants_size)) childless room_above))

    -- one more newcomer
    pub one_more : Behind over inputs (before ++ m.tx ∷ []) (ns ++ m ∷ []) (entered_beside after None m)
    one_more = record {
      whole = ap (λ l. l ++ m ∷ []) (stays ∙ b.whole) ∙ append_assoc over.entries ns (m ∷ []);
      told = map_last ns ∙ ap (λ l. l ++ m.tx ∷ []) b.told;
      sound = joined_sound (among over after) None m b.sound k known beside small limited;
      above = λ a c i d t.
          ⊎_elim
          (λ (same : i.prevout.txid ≡ txid_of m.tx). from_above a c (above_new None childless a (was a c) (subst (λ (z : List ℕ). reaches (steps (entered_beside after None m)) (txid_of a.tx) z ≡ true) same t)))
          (λ (other : i.prevout.txid ≡ txid_of m.tx → ⊥). b.above a c i d (reached_before None childless (txid_of a.tx) i.prevout.txid other t))
          (cases_id i.prevout.txid (txid_of m.tx));
      below = λ a x c d t. b.below a x c d (reached_before None childless (txid_of a.tx) (txid_of x.tx) (childless.new x (was x d)) t);
      apart = λ n x c d.
          false_from_ne_true _ (λ t.
          ⊎_elim
          (λ (old : Contains ns n). true≢false (sym (reached_before None childless (txid_of n.tx) (txid_of x.tx) (childless.new x (was x d)) t) ∙ b.apart n x old d))
          (λ (same : m ≡ n).
          childless.new x (was x d)
          (reached_from_new None childless (txid_of x.tx) (subst (λ (z : Admitted). reaches (steps (entered_beside after None m)) (txid_of z.tx) (txid_of x.tx) ≡ true) (sym same) t)))
          (Contains-push_cases ns m n c));
      coins = λ p h.
          subst (λ (l : List Admitted). IsSome (view_coin over.chain (l ++ m ∷ []) p)) (sym stays)
          (coin_beside over.chain after m p (coin_elsewhere over.chain over.entries (txid_of m.tx) (λ a c. childless.new a (was a c)) known p h) (b.coins p h));
    }
      where
        map_last : (ms : List Admitted) → map (λ (x : Admitted). x.tx) (ms ++ m ∷ []) ≡ map (λ (x : Admitted). x.tx) ms ++ m.tx ∷ []
        map_last [] = refl
        map_last (x ∷ ms) = ap (λ l. x.tx ∷ l) (map_last ms)

-- ---- the coins of a member

-- an entry's coin is that of its transaction
made_among : (height : ℕ) (ns : List Admitted) (p : OutPoint) → pool_coin height ns p ≡ made_by height (map (λ (m : Admitted). m.tx) ns) p
made_among height [] p = refl
made_among height (m ∷ ns) p = by (bytes_eq (txid_of m.tx) p.txid) (made_among height ns p)
  where
    by : (c : Bool) → pool_coin height ns p ≡ made_by height (map (λ (x : Admitted). x.tx) ns) p
        → option_and_then (λ (x : Admitted). option_and_then (coin_made height false) (slice_get x.tx.outputs p.index)) (cond c (Some m) (entry_by_txid ns p.txid))
        ≡ option_and_then (λ (t : Tx). option_and_then (coin_made height false) (slice_get t.outputs p.index)) (cond c (Some m.tx) (find (λ (t : Tx). bytes_eq (txid_of t) p.txid) (map (λ (x : Admitted). x.tx) ns)))
    by true h = refl
    by false h = h

module _ {over : Standing} {inputs : List TxIn} {before : List Tx} {ns after : List Admitted} (b : Behind over inputs before ns after) (fresh : (t : Tx) → Contains before t → entry_by_txid over.entries (txid_of t) ≡ None) where
  -- no entry has the txid of what made it
  unmade : (p : OutPoint) → IsSome (made_by (tip_of over.chain + 1) before p) → entry_by_txid over.entries p.txid ≡ None
  unmade p h = by (find (λ (t : Tx). bytes_eq (txid_of t) p.txid) before) refl h
    where
      by : (found : Option Tx) → find (λ (t : Tx). bytes_eq (txid_of t) p.txid) before ≡ found
          → is_some (option_and_then (λ (t : Tx). option_and_then (coin_made (tip_of over.chain + 1) false) (slice_get t.outputs p.index)) found) ≡ true → entry_by_txid over.entries p.txid ≡ None
      by None is s = absurd (true≢false (sym s))
      by (Some t) is s =
          let w = find_some (λ (x : Tx). bytes_eq (txid_of x) p.txid) before t is in
          subst (λ (z : List ℕ). entry_by_txid over.entries z ≡ None) ((bytes_decides (txid_of t) p.txid).0 w.1) (fresh t w.0)

  made_coin : (p : OutPoint) → IsSome (made_by (tip_of over.chain + 1) before p) → IsSome (view_coin over.chain after p)
  made_coin p h =
      let found : entry_by_txid after p.txid ≡ entry_by_txid ns p.txid =
      ap (λ l. entry_by_txid l p.txid) b.whole ∙ (find-append (λ (x : Admitted). has_txid x p.txid) over.entries ns ∙ ap (λ o. option_or o (entry_by_txid ns p.txid)) (unmade p h)) in
      let same : pool_coin (tip_of over.chain + 1) after p ≡ made_by (tip_of over.chain + 1) before p =
      ap (option_and_then (λ (x : Admitted). option_and_then (coin_made (tip_of over.chain + 1) false) (slice_get x.tx.outputs p.index))) found
      ∙ (made_among (tip_of over.chain + 1) ns p ∙ ap (λ l. made_by (tip_of over.chain + 1) l p) b.told) in
      first_is (pool_coin (tip_of over.chain + 1) after p) (coin_of over.chain p) (ap is_some same ∙ h)
    where
      first_is : {X : Type 0} (o q : Option X) → is_some o ≡ true → is_some (option_or o q) ≡ true
      first_is None q s = absurd (true≢false (sym s))
      first_is (Some x) q s = refl

  coin_after : (p : OutPoint) → IsSome (view_beside over.chain before over.entries p) → IsSome (view_coin over.chain after p)
  coin_after p h = ⊎_elim (made_coin p) (b.coins p) (some_either (made_by (tip_of over.chain + 1) before p) (view_coin over.chain over.entries p) h)

  -- a member that passes behind the others may enter behind them
  pub may_join : (tx : Tx) → Half before over tx → ((t : Tx) → Contains before t → Differ t tx) → MayEnter (among over after) tx
  unfolding coin_rules_beside
  may_join tx p ahead =
      let absent = half_absent before over tx p in
      let told : (a : Admitted) → Contains ns a → Contains before a.tx = λ a c. subst (λ (l : List Tx). Contains l a.tx) b.told (Contains-map (λ (x : Admitted). x.tx) ns a c) in
      record {
        txid = λ n d l.
            let a = get_or after n d in
            ⊎_elim (λ (old : Contains over.entries a). ids_differ (txid_of a.tx) (txid_of tx) (find_none (λ (x : Admitted). has_txid x (txid_of tx)) over.entries absent.0 a old))
            (λ (new : Contains ns a). (ahead a.tx (told a new)).txid) (Contains-append_cases over.entries ns a (subst (λ (s : List Admitted). Contains s a) b.whole (Contains-get_or after n d l)));
        wtxid = λ n d l.
            let a = get_or after n d in
            ⊎_elim (λ (old : Contains over.entries a). ids_differ (wtxid_of a.tx) (wtxid_of tx) (find_none (λ (x : Admitted). has_wtxid x (wtxid_of tx)) over.entries absent.1 a old))
            (λ (new : Contains ns a). (ahead a.tx (told a new)).wtxid) (Contains-append_cases over.entries ns a (subst (λ (s : List Admitted). Contains s a) b.whole (Contains-get_or after n d l)));
        single = spends_once tx.inputs (each_once over.policy.standards tx p.alone);
        coins = λ n d l.
            let w = Contains-from_map (λ (i : TxIn). i.prevout) tx.inputs (get_or (spends_of tx) n d) (Contains-get_or (spends_of tx) n d l) in
            let has : is_none (view_beside over.chain before over.entries w.item.prevout) ≡ false =
            All-contains (λ (i : TxIn). is_none (view_beside over.chain before over.entries i.prevout) ≡ false) tx.inputs w.item
            (none_pass (λ (i : TxIn). is_none (view_beside over.chain before over.entries i.prevout)) tx.inputs p.coin.1.0) w.among in
            subst (λ (q : OutPoint). IsSome (view_coin over.chain after q)) w.is (coin_after w.item.prevout (some_from_not_none (view_beside over.chain before over.entries w.item.prevout) has));
      }

  -- it conflicts with none of them
  pub joins_alone : (tx : Tx) → replaces_one over.entries tx ≡ false → ((t : Tx) → Contains before t → Differ t tx) → (a : Admitted) → Contains after a → is_conflict tx a ≡ false
  joins_alone tx none ahead a c =
      ⊎_elim
      (λ (old : Contains over.entries a). false_from_ne_true _ (λ t.
      let w = any_is (λ (i : TxIn). spends a.tx.inputs i.prevout) tx.inputs t in
      let no : is_some (spender_of over.entries w.0.prevout) ≡ false =
      All-contains (λ (i : TxIn). is_some (spender_of over.entries i.prevout) ≡ false) tx.inputs w.0 (none_pass (λ (i : TxIn). is_some (spender_of over.entries i.prevout)) tx.inputs none) w.1 in
      true≢false (sym w.2 ∙ find_none (λ (x : Admitted). spends x.tx.inputs w.0.prevout) over.entries (none_there (spender_of over.entries w.0.prevout) no) a old)))
      (λ (new : Contains ns a). (ahead a.tx (subst (λ (l : List Tx). Contains l a.tx) b.told (Contains-map (λ (x : Admitted). x.tx) ns a new))).apart)
      (Contains-append_cases over.entries ns a (subst (λ (l : List Admitted). Contains l a) b.whole c))

pub unknown_member : (over : Standing) (before : List Tx) (tx : Tx) → Half before over tx → IsUnconnected over.chain (Some tx) → is_known_txid over.chain (txid_of tx) ≡ false
unfolding coin_rules_beside
unknown_member over before tx p new = unknown over.chain (txid_of tx) (or_parts _ _ p.coin.0).1 new

-- ---- all of them, one behind another

-- no member is refused: one more price, and what the others pay
pub record Priced (price : Price) (found : Option Denial) (others : Result (List Price) Refusal) (prices : List Price) : Type 0 where
  pub passes : found ≡ None
  pub rest : List Price
  pub behind : others ≡ Ok rest
  pub is : prices ≡ price ∷ rest

pub priced : (place : ℕ) (price : Price) (found : Option Denial) (others : Result (List Price) Refusal) (prices : List Price) → half_or place found (with_price price others) ≡ Ok prices → Priced price found others prices
priced place price (Some denial) others prices h = cc
priced place price None (Err refusal) prices h = cc
priced place price None (Ok rest) prices h = record { passes = refl; rest = rest; behind = refl; is = cc }

-- a transaction that passes behind others of which the chain knows none is in no connected block
abbrev pub ComesNew : Standing → Tx → Type 0
ComesNew over tx = (before : List Tx) → ((t : Tx) → Contains before t → is_known_txid over.chain (txid_of t) ≡ false) → Half before over tx → IsUnconnected over.chain (Some tx)

-- the transactions of a package are told apart, and stand behind those that entered
pub record IsAhead (over : Standing) (inputs : List TxIn) (before txs : List Tx) : Type 0 where
  pub fresh : (t : Tx) → Contains before t → entry_by_txid over.entries (txid_of t) ≡ None
  pub ahead : (t x : Tx) → Contains before t → Contains txs x → Differ t x
  pub differ : AllDiffer txs
  pub own : (t : Tx) → Contains txs t → (i : TxIn) → Contains t.inputs i → Contains inputs i
  pub unknown : (t : Tx) → Contains before t → is_known_txid over.chain (txid_of t) ≡ false
  pub new : (t : Tx) → Contains txs t → ComesNew over t
  pub none : (t : Tx) → Contains txs t → replaces_one over.entries t ≡ false

pub ahead_next : (over : Standing) (inputs : List TxIn) (before : List Tx) (tx : Tx) (txs : List Tx) → entry_by_txid over.entries (txid_of tx) ≡ None → is_known_txid over.chain (txid_of tx) ≡ false
    → IsAhead over inputs before (tx ∷ txs) → IsAhead over inputs (before ++ tx ∷ []) txs
ahead_next over inputs before tx txs absent known h = record {
  fresh = λ t c. ⊎_elim (h.fresh t) (λ (same : tx ≡ t). subst (λ (x : Tx). entry_by_txid over.entries (txid_of x) ≡ None) same absent) (Contains-push_cases before tx t c);
  ahead = λ t x c d.
      ⊎_elim (λ (old : Contains before t). h.ahead t x old (Contains-rest tx txs x d)) (λ (same : tx ≡ t). subst (λ (y : Tx). Differ y x) same (h.differ.0 x d))
      (Contains-push_cases before tx t c);
  differ = h.differ.1;
  own = λ t c. h.own t (Contains-rest tx txs t c);
  unknown = λ t c. ⊎_elim (h.unknown t) (λ (same : tx ≡ t). subst (λ (x : Tx). is_known_txid over.chain (txid_of x) ≡ false) same known) (Contains-push_cases before tx t c);
  new = λ t c. h.new t (Contains-rest tx txs t c);
  none = λ t c. h.none t (Contains-rest tx txs t c);
}

abbrev pub newcomer : ℕ → List Tx → Standing → Tx → Admitted
newcomer now before over tx = record { tx = tx; fee = fee_beside before over tx; vsize = vsize_beside before over tx; time = now }

joined : (max_rate : ℕ) (over : Standing) (now : ℕ) (inputs : List TxIn) (count size : ℕ) → Room over inputs count size → (before : List Tx) (place : ℕ) (txs : List Tx) (prices : List Price) (ns after : List Admitted)
    → halves_of max_rate over before place txs ≡ Ok prices → Behind over inputs before ns after → IsAhead over inputs before txs
    → length ns + length txs ≤ count → size_of ns + sum_by (λ (p : Price). p.vsize) prices ≤ size
    → IsSound over.policy over.chain (over.entries ++ (ns ++ newcomers now txs prices))
joined max_rate over now inputs count size room before place [] prices ns after h b ahead fits fits_size =
    subst (IsSound over.policy over.chain) (b.whole ∙ ap (λ l. over.entries ++ l) (sym (append-nil ns))) b.sound
joined max_rate over now inputs count size room before place (tx ∷ txs) prices ns after h b ahead fits fits_size =
    let m = newcomer now before over tx in
    let price : Price = record { fee = fee_beside before over tx; vsize = vsize_beside before over tx } in
    let found = priced place price (first_failing (half_rules Together max_rate before over tx)) (halves_of max_rate over (before ++ tx ∷ []) (place + 1) txs) prices h in
    let p : Half before over tx = half_passes Together max_rate before over tx found.passes in
    let c = Contains-head tx txs in
    let before_it : (t : Tx) → Contains before t → Differ t tx = λ t d. ahead.ahead t tx d c in
    let total : sum_by (λ (q : Price). q.vsize) prices ≡ m.vsize + sum_by (λ (q : Price). q.vsize) found.rest = ap (sum_by (λ (q : Price). q.vsize)) found.is ∙ sum_by-cons (λ (q : Price). q.vsize) price found.rest in
    let known = unknown_member over before tx p (ahead.new tx c before ahead.unknown p) in
    let more = one_more b m (ahead.own tx c) (may_join b ahead.fresh tx p before_it) known (joins_alone b ahead.fresh tx (ahead.none tx c) before_it)
    room (half_small before over tx b.sound.bounds p) (omega (arith, fits)) (omega (arith, fits_size, total)) in
    let rest = joined max_rate over now inputs count size room (before ++ tx ∷ []) (place + 1) txs found.rest (ns ++ m ∷ []) (entered_beside after None m) found.behind more
    (ahead_next over inputs before tx txs (half_absent before over tx p).0 known ahead) (omega (arith, fits, length-append ns (m ∷ [])))
    (omega (arith, fits_size, total, sum_by-append (λ (x : Admitted). x.vsize) ns (m ∷ []), sum_by-cons (λ (x : Admitted). x.vsize) m [])) in
    subst (λ (l : List Price). IsSound over.policy over.chain (over.entries ++ (ns ++ newcomers now (tx ∷ txs) l))) (sym found.is)
    (subst (λ (l : List Admitted). IsSound over.policy over.chain (over.entries ++ l)) (append_assoc ns (m ∷ []) (newcomers now txs found.rest)) rest)

-- ---- the rules on all of them

unless_none : (b : Bool) (refusal : Refusal) (others : Option Refusal) → (if b then Some refusal else others) ≡ None → (b ≡ false) × (others ≡ None)
unless_none true refusal others h = cc
unless_none false refusal others h = (refl, h)

price_none : (txs : List Tx) (found : Option Denial) (others : Option Refusal) → refused_by_price txs found others ≡ None → others ≡ None
price_none txs (Some denial) others h = cc
price_none txs None others h = h

-- what passes all of them
pub record PassAll (over : Standing) (txs : List Tx) (prices : List Price) : Type 0 where
  pub truc : breaks_together over.policy over.entries txs prices ≡ false
  pub limits : passes_limits over.policy over.entries txs (price_sum_size prices) ≡ false
  pub rules : replacing_denial over.policy over.entries txs prices ≡ None

rule_none : (found : Option PackageDenial) (others : Option Refusal) → refused_by_rule found others ≡ None → found ≡ None
rule_none (Some denial) others h = cc
rule_none None others h = refl

pub all_pass : (over : Standing) (txs : List Tx) (prices : List Price) → refusal_of over txs prices ≡ None → PassAll over txs prices
unfolding refusal_of priced_refusal
all_pass over txs prices h =
    let whole = unless_none (breaks_together over.policy over.entries txs prices) _ _ h in
    let priced = price_none txs (unpaid over.policy over.floor (price_sum_fee prices) (price_sum_size prices)) _ whole.1 in
    let limits = unless_none (passes_limits over.policy over.entries txs (price_sum_size prices)) _ _ priced in
    record { truc = whole.0; limits = limits.0; rules = rule_none (replacing_denial over.policy over.entries txs prices) _ limits.1 }

unrefused : (over : Standing) (txs : List Tx) (made prices : List Price) (refusal : Option Refusal) → refusal_of over txs made ≡ refusal → unless_refused refusal made ≡ Ok prices → (made ≡ prices) × (refusal_of over txs prices ≡ None)
unrefused over txs made prices (Some refusal) is h = absurd (cc)
unrefused over txs made prices None is h = let same : made ≡ prices = cc in (same, subst (λ (l : List Price). refusal_of over txs l ≡ None) same is)

pub checked : (over : Standing) (txs : List Tx) (found : Result (List Price) Refusal) (prices : List Price) → all_checked over txs found ≡ Ok prices → (found ≡ Ok prices) × (refusal_of over txs prices ≡ None)
checked over txs (Err refusal) prices h = cc
checked over txs (Ok made) prices h = let w = unrefused over txs made prices (refusal_of over txs made) refl h in (ap Ok w.0, w.1)

no_size : (xs : List Admitted) → nat_lt 0 (length xs) ≡ false → size_of xs ≡ 0
no_size [] h = refl
no_size (x ∷ xs) h = absurd (omega (arith, ltb-false 0 (length (x ∷ xs)) h))

-- either half of a test
neither_both : (a c : Bool) → (a && c) ≡ false → (a ≡ false → ⊥) → c ≡ false
neither_both true c h n = h
neither_both false c h n = absurd (n refl)

pub room_made : (over : Standing) (txs : List Tx) (vsize : ℕ) → passes_limits over.policy over.entries txs vsize ≡ false → Room over (flat_map inputs_of txs) (length txs) vsize
room_made over txs vsize h =
    let above = above_all over.entries txs in
    let inputs = flat_map inputs_of txs in
    let limits = usual_limits over.policy in
    let whole = or_parts (are_too_many limits (length txs) vsize) (nat_lt over.policy.ancestors (length above + length txs) || crowd limits over.entries (length txs) vsize above) h in
    let a = or_parts (nat_lt over.policy.ancestors (length txs)) _ whole.0 in
    let d = or_parts (nat_lt over.policy.descendants (length txs)) _ a.1 in
    let s = or_parts (nat_lt over.policy.ancestors_size vsize) (nat_lt over.policy.descendants_size vsize) d.1 in
    let many = or_parts (nat_lt over.policy.ancestors (length above + length txs)) (crowd limits over.entries (length txs) vsize above) whole.1 in
    let both = or_parts (nat_lt 0 (length above) && nat_lt over.policy.ancestors_size (size_of above + vsize)) (list_any (is_crowded limits over.entries (length txs) vsize) above) many.1 in
    record {
      ancestors = ltb-false over.policy.ancestors (length above + length txs) many.0;
      ancestors_size =
          ⊎_elim
          (λ (some : nat_lt 0 (length above) ≡ true). ltb-false over.policy.ancestors_size (size_of above + vsize)
          (neither_both (nat_lt 0 (length above)) (nat_lt over.policy.ancestors_size (size_of above + vsize)) both.0 (λ no. true≢false (sym some ∙ no))))
          (λ (no : nat_lt 0 (length above) ≡ false). omega (arith, no_size above no, ltb-false over.policy.ancestors_size vsize s.0))
          (cases_Bool (nat_lt 0 (length above)));
      descendants = ltb-false over.policy.descendants (length txs) d.0;
      descendants_size = ltb-false over.policy.descendants_size vsize s.1;
      below = λ e c up.
          let free : is_crowded limits over.entries (length txs) vsize e ≡ false =
          All-contains (λ (x : Admitted). is_crowded limits over.entries (length txs) vsize x ≡ false) above e (none_pass (is_crowded limits over.entries (length txs) vsize) above both.1)
          (Contains-filter (is_above over.entries inputs) over.entries e c up) in
          let parts = or_parts (nat_lt over.policy.descendants (length (descendants_of over.entries (txid_of e.tx)) + length txs)) _ free in
          (ltb-false over.policy.descendants (length (descendants_of over.entries (txid_of e.tx)) + length txs) parts.0, ltb-false over.policy.descendants_size (size_of (descendants_of over.entries (txid_of e.tx)) + vsize) parts.1);
    }

pub own_inputs : (txs : List Tx) (tx : Tx) → Contains txs tx → (i : TxIn) → Contains tx.inputs i → Contains (flat_map inputs_of txs) i
own_inputs [] tx m i c = not_in_none tx m
own_inputs (first ∷ txs) tx m i c =
    ⊎_elim (λ (same : first ≡ tx). Contains-append_left first.inputs (flat_map inputs_of txs) i (subst (λ (t : Tx). Contains t.inputs i) (sym same) c))
    (λ (k : Contains txs tx). Contains-append_right first.inputs (flat_map inputs_of txs) i (own_inputs txs tx k i c))
    (Contains-cons_cases first txs tx m)

-- nothing has entered yet
pub behind_none : (over : Standing) (inputs : List TxIn) → IsSound over.policy over.chain over.entries → Behind over inputs [] [] over.entries
behind_none over inputs good = record {
  whole = sym (append-nil over.entries);
  told = refl;
  sound = good;
  above = λ a c i d t. list_any_of (λ (j : TxIn). reaches (steps over.entries) (txid_of a.tx) j.prevout.txid) inputs i d t;
  below = λ a x c d t. t;
  apart = λ n x c d. not_in_none n c;
  coins = λ p k. k;
}

pub all_ahead : (over : Standing) (txs : List Tx) → has_duplicates txs ≡ false → has_conflict txs ≡ false → ((tx : Tx) → Contains txs tx → ComesNew over tx) → replaces_some over.entries txs ≡ false
    → IsAhead over (flat_map inputs_of txs) [] txs
all_ahead over txs distinct apart new none = record {
  fresh = λ t c. not_in_none t c;
  ahead = λ t x c d. not_in_none t c;
  differ = all_differ txs distinct apart;
  own = own_inputs txs;
  unknown = λ t c. not_in_none t c;
  new = new;
  none = λ t c. All-contains (λ (x : Tx). replaces_one over.entries x ≡ false) txs t (none_pass (replaces_one over.entries) txs none) c;
}

-- these pass over the entries, which are none of those that they replace
pub record StandsFree (max_rate : ℕ) (over : Standing) (txs : List Tx) (prices : List Price) : Type 0 where
  pub halves : halves_of max_rate over [] 0 txs ≡ Ok prices
  pub truc : breaks_together over.policy over.entries txs prices ≡ false
  pub limits : passes_limits over.policy over.entries txs (price_sum_size prices) ≡ false
  pub none : replaces_some over.entries txs ≡ false

-- those that enter together keep the entries sound that stay, if no connected block has one of them that passes
pub together_sound : (max_rate : ℕ) (over : Standing) (now : ℕ) (txs : List Tx) (prices : List Price) → StandsFree max_rate over txs prices → has_duplicates txs ≡ false → has_conflict txs ≡ false
    → ((tx : Tx) → Contains txs tx → ComesNew over tx) → IsSound over.policy over.chain over.entries → IsSound over.policy over.chain (over.entries ++ newcomers now txs prices)
together_sound max_rate over now txs prices h distinct apart new good =
    let inputs = flat_map inputs_of txs in
    let room = room_made over txs (price_sum_size prices) h.limits in
    joined max_rate over now inputs (length txs) (price_sum_size prices) room [] 0 txs prices [] over.entries h.halves
    (behind_none over inputs good) (all_ahead over txs distinct apart new h.none)
    (omega arith) (omega (arith, room.descendants_size, good.bounds.descendants_size_most))
