-- The limits of a newcomer behind the entries, decided by their families without it.
use Rattle.std.proofs.Common.{◌≡◌, ◌<◌, ◌≤◌, ◌+◌, ℕ, Bool, true, false, not, ◌&&◌, List, [], ◌∷◌, ◌++◌, length, length-append, append-nil, refl, sym, ap, ◌∙◌, subst, arith}
use Rattle.std.specs.Prelude.{◌≢◌, Contains, nat_le}
use Rattle.std.specs.List.{AllPairs, list_all}
use Rattle.std.proofs.lemmas.Bool.{and_parts}
use Rattle.std.proofs.lemmas.Bool.Decides.{nat_tests}
use Rattle.std.proofs.lemmas.List.Elements.{Contains-append_left}
use Rattle.std.proofs.lemmas.List.Sums.{sum_by_push}
use Rattle.gate_tx.specs.Ids.{txid_of}
use Rattle.gate_graph.specs.Family.{reaches}
use Rattle.gate_bytes.proofs.Members.{Contains-head, Contains-rest}
use Rattle.gate_pool.specs.Pool.{Admitted, size_of}
use Rattle.gate_pool.specs.Family.{names, children_of, steps, ancestors_of, descendants_of, ancestors_above, all_below, is_below_some}
use Rattle.gate_pool.proofs.Adding.{DifferById, passed}
use Rattle.gate_pool.proofs.Families.{is_above}
use Rattle.gate_pool.proofs.Walking.{Contains-from_filter}
use Rattle.gate_admit.specs.declared.limits.FamilyLimits.{FamilyLimits}
use Rattle.gate_admit.specs.Chains.{AddsNoChain}
use Rattle.gate_admit.specs.Limits.{is_below_itself, is_limited, fits_within, has_parent, LeavesRoomBelow, LeavesRoomAbove}
use Rattle.gate_admit.specs.Policies.{Policy, most_ancestors, most_descendants, most_descendants_size}
use Rattle.gate_admit.proofs.Newcomer.{own_ancestors, leaf_beside, leaf_below, leaf_ancestors, leaf_descendants, root_beside, root_above, root_below, root_descendants, root_ancestors, own_below, amid_below, amid_ancestors, amid_descendants, not_from, not_back}
use Rattle.gate_admit.proofs.OwnLimits.{fit_of, too_many_below, stands_behind}

-- ---- tests

shifted : (m k less most : ℕ) → less + k ≡ most → nat_le (m + k) most ≡ nat_le m less
shifted m k less most h = grind (arith, nat_tests)

at_most : (m n : ℕ) → m ≤ n → nat_le m n ≡ true
at_most m n h = grind (arith, nat_tests)

above_it : (m n : ℕ) → n < m → nat_le m n ≡ false
above_it m n h = grind (arith, nat_tests)

each : (a b c d e f g h : Bool) → a ≡ e → b ≡ f → c ≡ g → d ≡ h → (a && (b && (c && d))) ≡ (e && (f && (g && h)))
each a b c d e f g h p q r s = λ i. p i && (q i && (r i && s i))

list_all-append : {X : Type 0} (p : X → Bool) (xs ys : List X) → list_all p (xs ++ ys) ≡ (list_all p xs && list_all p ys)
list_all-append p [] ys = refl
list_all-append p (x ∷ xs) ys = ap (λ b. p x && b) (list_all-append p xs ys) ∙ go (p x)
  where
    go : (b : Bool) → (b && (list_all p xs && list_all p ys)) ≡ ((b && list_all p xs) && list_all p ys)
    go true = refl
    go false = refl

list_all-same : {X : Type 0} (p q : X → Bool) (xs : List X) → ((x : X) → Contains xs x → p x ≡ q x) → list_all p xs ≡ list_all q xs
list_all-same p q [] h = refl
list_all-same p q (x ∷ xs) h = λ i. h x (Contains-head x xs) i && list_all-same p q xs (λ y m. h y (Contains-rest x xs y m)) i

longer : (xs : List Admitted) (n : Admitted) → length (xs ++ n ∷ []) ≡ length xs + 1
longer xs n = length-append xs (n ∷ [])

larger : (xs : List Admitted) (n : Admitted) → size_of (xs ++ n ∷ []) ≡ size_of xs + n.vsize
larger xs n = sum_by_push (λ (e : Admitted). e.vsize) xs n

-- the limits of an id, by what its families are
limits_by : (policy : Policy) (es : List Admitted) (x : List ℕ) (up down : List Admitted) → ancestors_of es x ≡ up → descendants_of es x ≡ down
    → is_limited policy es x ≡ (nat_le (length up) (most_ancestors policy) && (nat_le (size_of up) policy.ancestors_size && (nat_le (length down) (most_descendants policy) && nat_le (size_of down) (most_descendants_size policy))))
limits_by policy es x up down p q =
    λ i. nat_le (length (p i)) (most_ancestors policy) && (nat_le (size_of (p i)) policy.ancestors_size && (nat_le (length (q i)) (most_descendants policy) && nat_le (size_of (q i)) (most_descendants_size policy)))

-- where what is above passes with it, and what is below with it
fit_by : (policy : Policy) (es : List Admitted) (n : Admitted) (up down : List Admitted) → is_below_itself es n.tx ≡ false → ancestors_of es (txid_of n.tx) ≡ up ++ n ∷ [] → descendants_of es (txid_of n.tx) ≡ down ++ n ∷ []
    → fit_of policy es n
    ≡ ((list_all (λ (e : Admitted). is_limited policy es (txid_of e.tx)) up && (is_limited policy es (txid_of n.tx) && true))
    && (list_all (λ (e : Admitted). is_limited policy es (txid_of e.tx)) down && (is_limited policy es (txid_of n.tx) && true)))
fit_by policy es n up down beside p q =
    let passes : Admitted → Bool = λ e. is_limited policy es (txid_of e.tx) in
    (λ i. not (beside i) && (list_all passes (p i) && list_all passes (q i)))
    ∙ (λ i. list_all-append passes up (n ∷ []) i && list_all-append passes down (n ∷ []) i)

own_fails : (a b o : Bool) → o ≡ false → ((a && (o && true)) && (b && (o && true))) ≡ false
own_fails true b o h = ap (λ z. (z && true) && (b && (z && true))) h
own_fails false b o h = refl

own_passes : (a b o : Bool) → o ≡ true → ((a && (o && true)) && (b && (o && true))) ≡ (a && b)
own_passes a b o h = ap (λ z. (a && (z && true)) && (b && (z && true))) h ∙ (λ i. with_true a i && with_true b i)
  where
    with_true : (c : Bool) → (c && true) ≡ c
    with_true true = refl
    with_true false = refl

all_yes : (a b c d : Bool) → a ≡ true → b ≡ true → c ≡ true → d ≡ true → (a && (b && (c && d))) ≡ true
all_yes a b c d p q r s = each a b c d true true true true p q r s

fourth : (a b c d : Bool) → d ≡ false → (a && (b && (c && d))) ≡ false
fourth true true true d h = h
fourth true true false d h = refl
fourth true false c d h = refl
fourth false b c d h = refl

within : (k m : ℕ) → nat_le k m ≡ true → k ≤ m
within k m h = grind (arith, nat_tests)

within_sizes : (a b c d e f g h : ℕ) → (nat_le a e && (nat_le b f && (nat_le c g && nat_le d h))) ≡ true → (b ≤ f) × (d ≤ h)
within_sizes a b c d e f g h t =
    let sizes = and_parts (nat_le b f) (nat_le c g && nat_le d h) (and_parts (nat_le a e) (nat_le b f && (nat_le c g && nat_le d h)) t).1 in
    (within b f sizes.0, within d h (and_parts (nat_le c g) (nat_le d h) sizes.1).1)

module _ (policy : Policy) (entries : List Admitted) (n : Admitted) (new : (a : Admitted) → Contains entries a → txid_of a.tx ≢ txid_of n.tx) where
  -- one that names itself doesn't fit
  pub names_itself : names n (txid_of n.tx) ≡ true → fit_of policy (entries ++ n ∷ []) n ≡ false
  names_itself t =
      ap (λ b. not b && (list_all (λ (e : Admitted). is_limited policy (entries ++ n ∷ []) (txid_of e.tx)) (ancestors_of (entries ++ n ∷ []) (txid_of n.tx))
      && list_all (λ (e : Admitted). is_limited policy (entries ++ n ∷ []) (txid_of e.tx)) (descendants_of (entries ++ n ∷ []) (txid_of n.tx)))) (own_below entries n new t)

  module _ (apart : AllPairs DifferById (entries ++ n ∷ [])) (own : names n (txid_of n.tx) ≡ false) where
    abbrev all : List Admitted
    all = entries ++ n ∷ []

    abbrev above : List Admitted
    above = ancestors_above entries n.tx.inputs

    abbrev below : List Admitted
    below = all_below (λ (e : Admitted). names e (txid_of n.tx)) entries

    abbrev passes : Admitted → Bool
    passes e = is_limited policy all (txid_of e.tx)

    -- ---- where no entry names it
    module _ (childless : children_of entries (txid_of n.tx) ≡ []) where
      leaf_up : ancestors_of all (txid_of n.tx) ≡ above ++ n ∷ []
      leaf_up = own_ancestors entries n new apart (leaf_beside entries n new own childless)

      leaf_own : is_limited policy all (txid_of n.tx) ≡ (nat_le (length (above ++ n ∷ [])) (most_ancestors policy) && (nat_le (size_of (above ++ n ∷ [])) policy.ancestors_size && (nat_le 1 (most_descendants policy) && nat_le (0 + n.vsize) (most_descendants_size policy))))
      leaf_own = limits_by policy all (txid_of n.tx) (above ++ n ∷ []) (n ∷ []) leaf_up (leaf_below entries n new own childless) ∙ ap (λ s. nat_le (length (above ++ n ∷ [])) (most_ancestors policy) && (nat_le (size_of (above ++ n ∷ [])) policy.ancestors_size && (nat_le 1 (most_descendants policy) && nat_le s (most_descendants_size policy)))) (larger [] n)

      leaf_fit : fit_of policy all n ≡ ((list_all passes above && (is_limited policy all (txid_of n.tx) && true)) && (true && (is_limited policy all (txid_of n.tx) && true)))
      leaf_fit = fit_by policy all n above [] (leaf_beside entries n new own childless) leaf_up (leaf_below entries n new own childless)

      -- too many are above it, or too large
      pub leaf_many : most_ancestors policy ≤ length above → fit_of policy all n ≡ false
      leaf_many h =
          leaf_fit ∙ own_fails (list_all passes above) true (is_limited policy all (txid_of n.tx))
          (leaf_own ∙ ap (λ b. b && (nat_le (size_of (above ++ n ∷ [])) policy.ancestors_size && (nat_le 1 (most_descendants policy) && nat_le (0 + n.vsize) (most_descendants_size policy))))
          (above_it (length (above ++ n ∷ [])) (most_ancestors policy) (omega (arith, longer above n, h))))

      pub leaf_large : policy.ancestors_size < size_of above + n.vsize → fit_of policy all n ≡ false
      leaf_large h =
          leaf_fit ∙ own_fails (list_all passes above) true (is_limited policy all (txid_of n.tx))
          (leaf_own ∙ second (nat_le (length (above ++ n ∷ [])) (most_ancestors policy)) _ _ (above_it (size_of (above ++ n ∷ [])) policy.ancestors_size (omega (arith, larger above n, h))))
        where
          second : (a b c : Bool) → b ≡ false → (a && (b && c)) ≡ false
          second true b c h = ap (λ z. z && c) h
          second false b c h = refl

      -- it is too large below them
      pub leaf_heavy : most_descendants_size policy < n.vsize → fit_of policy all n ≡ false
      leaf_heavy h =
          leaf_fit ∙ own_fails (list_all passes above) true (is_limited policy all (txid_of n.tx))
          (leaf_own ∙ fourth (nat_le (length (above ++ n ∷ [])) (most_ancestors policy)) (nat_le (size_of (above ++ n ∷ [])) policy.ancestors_size) (nat_le 1 (most_descendants policy)) _ (above_it (0 + n.vsize) (most_descendants_size policy) (omega (arith, h))))

      -- those above it decide
      pub leaf_decides : (limits : FamilyLimits) → LeavesRoomBelow policy n.vsize limits → length above < most_ancestors policy → size_of above + n.vsize ≤ policy.ancestors_size
          → list_all (λ (e : Admitted). fits_within limits entries (txid_of e.tx)) above ≡ fit_of policy all n
      leaf_decides limits room few small = sym (
          leaf_fit
          ∙ own_passes (list_all passes above) true (is_limited policy all (txid_of n.tx))
          (leaf_own ∙ all_yes (nat_le (length (above ++ n ∷ [])) (most_ancestors policy)) (nat_le (size_of (above ++ n ∷ [])) policy.ancestors_size) (nat_le 1 (most_descendants policy)) (nat_le (0 + n.vsize) (most_descendants_size policy))
          (at_most _ _ (omega (arith, longer above n, few))) (at_most _ _ (omega (arith, larger above n, small))) (at_most _ _ (omega (arith, room.descendants))) (at_most _ _ (omega (arith, room.descendants_size))))
          ∙ with_yes (list_all passes above)
          ∙ list_all-same passes (λ (e : Admitted). fits_within limits entries (txid_of e.tx)) above (λ a m. one a m))
        where
          with_yes : (b : Bool) → (b && true) ≡ b
          with_yes true = refl
          with_yes false = refl

          one : (a : Admitted) → Contains above a → is_limited policy all (txid_of a.tx) ≡ fits_within limits entries (txid_of a.tx)
          one a m =
              let old : Contains entries a = Contains-from_filter (λ (e : Admitted). is_above entries n.tx.inputs (txid_of e.tx)) entries a m in
              let led : reaches (steps all) (txid_of a.tx) (txid_of n.tx) ≡ true =
              passed (λ (e : Admitted). reaches (steps all) (txid_of e.tx) (txid_of n.tx)) all a (subst (λ (l : List Admitted). Contains l a) (sym leaf_up) (Contains-append_left above (n ∷ []) a m)) in
              let up = ancestors_of entries (txid_of a.tx) in
              let down = descendants_of entries (txid_of a.tx) in
              limits_by policy all (txid_of a.tx) up (down ++ n ∷ []) (leaf_ancestors entries n new own childless (txid_of a.tx) (new a old)) (leaf_descendants entries n new own childless (txid_of a.tx) led)
              ∙ each _ _ _ _ _ _ _ _
              (ap (nat_le (length up)) (sym room.ancestors))
              (ap (nat_le (size_of up)) (sym room.ancestors_size))
              (ap (λ k. nat_le k (most_descendants policy)) (longer down n) ∙ shifted (length down) 1 limits.descendants (most_descendants policy) room.descendants)
              (ap (λ k. nat_le k (most_descendants_size policy)) (larger down n) ∙ shifted (size_of down) n.vsize limits.descendants_size (most_descendants_size policy) room.descendants_size)

    -- ---- where it names no entry
    module _ (orphan : has_parent entries n.tx ≡ false) where
      root_up : ancestors_of all (txid_of n.tx) ≡ n ∷ []
      root_up = own_ancestors entries n new apart (root_beside entries n new own orphan) ∙ ap (λ (l : List Admitted). l ++ n ∷ []) (root_above entries n new own orphan)

      root_own : is_limited policy all (txid_of n.tx) ≡ (nat_le 1 (most_ancestors policy) && (nat_le (0 + n.vsize) policy.ancestors_size && (nat_le (length (below ++ n ∷ [])) (most_descendants policy) && nat_le (size_of (below ++ n ∷ [])) (most_descendants_size policy))))
      root_own = limits_by policy all (txid_of n.tx) (n ∷ []) (below ++ n ∷ []) root_up (root_below entries n new own orphan) ∙ ap (λ s. nat_le 1 (most_ancestors policy) && (nat_le s policy.ancestors_size && (nat_le (length (below ++ n ∷ [])) (most_descendants policy) && nat_le (size_of (below ++ n ∷ [])) (most_descendants_size policy)))) (larger [] n)

      root_fit : fit_of policy all n ≡ ((true && (is_limited policy all (txid_of n.tx) && true)) && (list_all passes below && (is_limited policy all (txid_of n.tx) && true)))
      root_fit = fit_by policy all n [] below (root_beside entries n new own orphan) root_up (root_below entries n new own orphan)

      not_itself : is_limited policy all (txid_of n.tx) ≡ false → fit_of policy all n ≡ false
      not_itself h = root_fit ∙ own_fails true (list_all passes below) (is_limited policy all (txid_of n.tx)) h

      -- it is too large, too many are below it, or these are too large
      pub root_heavy : policy.ancestors_size < n.vsize → fit_of policy all n ≡ false
      root_heavy h = not_itself (root_own ∙ second (nat_le 1 (most_ancestors policy)) _ _ (above_it (0 + n.vsize) policy.ancestors_size (omega (arith, h))))
        where
          second : (a b c : Bool) → b ≡ false → (a && (b && c)) ≡ false
          second true b c h = ap (λ z. z && c) h
          second false b c h = refl

      pub root_many : most_descendants policy ≤ length below → fit_of policy all n ≡ false
      root_many h = not_itself (root_own ∙ third (nat_le 1 (most_ancestors policy)) (nat_le (0 + n.vsize) policy.ancestors_size) _ _ (above_it (length (below ++ n ∷ [])) (most_descendants policy) (omega (arith, longer below n, h))))
        where
          third : (a b c d : Bool) → c ≡ false → (a && (b && (c && d))) ≡ false
          third true true c d h = ap (λ z. z && d) h
          third true false c d h = refl
          third false b c d h = refl

      pub root_large : (most_descendants_size policy) < size_of below + n.vsize → fit_of policy all n ≡ false
      root_large h = not_itself (root_own ∙ fourth (nat_le 1 (most_ancestors policy)) (nat_le (0 + n.vsize) policy.ancestors_size) (nat_le (length (below ++ n ∷ [])) (most_descendants policy)) _ (above_it (size_of (below ++ n ∷ [])) (most_descendants_size policy) (omega (arith, larger below n, h))))

      -- those below it decide
      pub root_decides : (limits : FamilyLimits) → LeavesRoomAbove policy n.vsize limits → length below < most_descendants policy → size_of below + n.vsize ≤ (most_descendants_size policy)
          → list_all (λ (e : Admitted). fits_within limits entries (txid_of e.tx)) below ≡ fit_of policy all n
      root_decides limits room few small = sym (
          root_fit
          ∙ own_passes true (list_all passes below) (is_limited policy all (txid_of n.tx))
          (root_own ∙ all_yes (nat_le 1 (most_ancestors policy)) (nat_le (0 + n.vsize) policy.ancestors_size) (nat_le (length (below ++ n ∷ [])) (most_descendants policy)) (nat_le (size_of (below ++ n ∷ [])) (most_descendants_size policy))
          (at_most _ _ (omega (arith, room.ancestors))) (at_most _ _ (omega (arith, room.ancestors_size))) (at_most _ _ (omega (arith, longer below n, few))) (at_most _ _ (omega (arith, larger below n, small))))
          ∙ list_all-same passes (λ (e : Admitted). fits_within limits entries (txid_of e.tx)) below (λ d m. one d m))
        where
          one : (d : Admitted) → Contains below d → is_limited policy all (txid_of d.tx) ≡ fits_within limits entries (txid_of d.tx)
          one d m =
              let old : Contains entries d = Contains-from_filter (is_below_some (λ (e : Admitted). names e (txid_of n.tx)) entries) entries d m in
              let led : reaches (steps all) (txid_of n.tx) (txid_of d.tx) ≡ true =
              passed (λ (e : Admitted). reaches (steps all) (txid_of n.tx) (txid_of e.tx)) all d (subst (λ (l : List Admitted). Contains l d) (sym (root_below entries n new own orphan)) (Contains-append_left below (n ∷ []) d m)) in
              let up = ancestors_of entries (txid_of d.tx) in
              let down = descendants_of entries (txid_of d.tx) in
              limits_by policy all (txid_of d.tx) (up ++ n ∷ []) down (root_ancestors entries n new own orphan (txid_of d.tx) led) (root_descendants entries n new own orphan d old)
              ∙ each _ _ _ _ _ _ _ _
              (ap (λ k. nat_le k (most_ancestors policy)) (longer up n) ∙ shifted (length up) 1 limits.ancestors (most_ancestors policy) room.ancestors)
              (ap (λ k. nat_le k policy.ancestors_size) (larger up n) ∙ shifted (size_of up) n.vsize limits.ancestors_size policy.ancestors_size room.ancestors_size)
              (ap (nat_le (length down)) (sym room.descendants))
              (ap (nat_le (size_of down)) (sym room.descendants_size))

    -- ---- where it adds no chain between entries, and isn't below itself
    module _ (adds : AddsNoChain entries n.tx) (beside : is_below_itself all n.tx ≡ false) where
      amid_up : ancestors_of all (txid_of n.tx) ≡ above ++ n ∷ []
      amid_up = own_ancestors entries n new apart beside

      amid_down : descendants_of all (txid_of n.tx) ≡ below ++ n ∷ []
      amid_down = amid_below entries n new own adds

      -- its size is within the limits if its families are
      pub amid_light : is_limited policy all (txid_of n.tx) ≡ true → (n.vsize ≤ policy.ancestors_size) × (n.vsize ≤ most_descendants_size policy)
      amid_light h =
          let up = above ++ n ∷ [] in
          let down = below ++ n ∷ [] in
          let sizes = within_sizes (length up) (size_of up) (length down) (size_of down) (most_ancestors policy) policy.ancestors_size (most_descendants policy) (most_descendants_size policy)
          (sym (limits_by policy all (txid_of n.tx) up down amid_up amid_down) ∙ h) in
          (omega (arith, sizes.0, larger above n), omega (arith, sizes.1, larger below n))

      -- so are few below it
      pub amid_many : most_descendants policy < length below → fit_of policy all n ≡ false
      amid_many h = too_many_below policy all apart n (stands_behind entries all n refl) (omega (arith, h, ap length amid_down, longer below n))

      above_one : (limits : FamilyLimits) → LeavesRoomBelow policy n.vsize limits → (a : Admitted) → Contains above a → is_limited policy all (txid_of a.tx) ≡ fits_within limits entries (txid_of a.tx)
      above_one limits room a m =
          let old : Contains entries a = Contains-from_filter (λ (e : Admitted). is_above entries n.tx.inputs (txid_of e.tx)) entries a m in
          let stands : is_above entries n.tx.inputs (txid_of a.tx) ≡ true = passed (λ (e : Admitted). is_above entries n.tx.inputs (txid_of e.tx)) entries a m in
          let to : reaches (steps all) (txid_of a.tx) (txid_of n.tx) ≡ true =
          passed (λ (e : Admitted). reaches (steps all) (txid_of e.tx) (txid_of n.tx)) all a (subst (λ (l : List Admitted). Contains l a) (sym amid_up) (Contains-append_left above (n ∷ []) a m)) in
          let up = ancestors_of entries (txid_of a.tx) in
          let down = descendants_of entries (txid_of a.tx) in
          limits_by policy all (txid_of a.tx) up (down ++ n ∷ []) (amid_ancestors entries n new own adds a old false (not_from entries n new own adds apart beside (txid_of a.tx) stands) ∙ append-nil up) (amid_descendants entries n new own adds a old true to)
          ∙ each _ _ _ _ _ _ _ _
          (ap (nat_le (length up)) (sym room.ancestors))
          (ap (nat_le (size_of up)) (sym room.ancestors_size))
          (ap (λ k. nat_le k (most_descendants policy)) (longer down n) ∙ shifted (length down) 1 limits.descendants (most_descendants policy) room.descendants)
          (ap (λ k. nat_le k (most_descendants_size policy)) (larger down n) ∙ shifted (size_of down) n.vsize limits.descendants_size (most_descendants_size policy) room.descendants_size)

      below_one : (limits : FamilyLimits) → LeavesRoomAbove policy n.vsize limits → (d : Admitted) → Contains below d → is_limited policy all (txid_of d.tx) ≡ fits_within limits entries (txid_of d.tx)
      below_one limits room d m =
          let old : Contains entries d = Contains-from_filter (is_below_some (λ (e : Admitted). names e (txid_of n.tx)) entries) entries d m in
          let from : reaches (steps all) (txid_of n.tx) (txid_of d.tx) ≡ true =
          passed (λ (e : Admitted). reaches (steps all) (txid_of n.tx) (txid_of e.tx)) all d (subst (λ (l : List Admitted). Contains l d) (sym amid_down) (Contains-append_left below (n ∷ []) d m)) in
          let up = ancestors_of entries (txid_of d.tx) in
          let down = descendants_of entries (txid_of d.tx) in
          limits_by policy all (txid_of d.tx) (up ++ n ∷ []) down (amid_ancestors entries n new own adds d old true from) (amid_descendants entries n new own adds d old false (not_back entries n new own adds apart beside d old from) ∙ append-nil down)
          ∙ each _ _ _ _ _ _ _ _
          (ap (λ k. nat_le k (most_ancestors policy)) (longer up n) ∙ shifted (length up) 1 limits.ancestors (most_ancestors policy) room.ancestors)
          (ap (λ k. nat_le k policy.ancestors_size) (larger up n) ∙ shifted (size_of up) n.vsize limits.ancestors_size policy.ancestors_size room.ancestors_size)
          (ap (nat_le (length down)) (sym room.descendants))
          (ap (nat_le (size_of down)) (sym room.descendants_size))

      -- those above and below it decide
      pub amid_decides : (over under : FamilyLimits) → LeavesRoomBelow policy n.vsize over → LeavesRoomAbove policy n.vsize under → is_limited policy all (txid_of n.tx) ≡ true
          → (list_all (λ (e : Admitted). fits_within over entries (txid_of e.tx)) above && list_all (λ (e : Admitted). fits_within under entries (txid_of e.tx)) below) ≡ fit_of policy all n
      amid_decides over under room_over room_under own_fits = sym (
          fit_by policy all n above below beside amid_up amid_down
          ∙ own_passes (list_all passes above) (list_all passes below) (is_limited policy all (txid_of n.tx)) own_fits
          ∙ (λ i. list_all-same passes (λ (e : Admitted). fits_within over entries (txid_of e.tx)) above (above_one over room_over) i && list_all-same passes (λ (e : Admitted). fits_within under entries (txid_of e.tx)) below (below_one under room_under) i))
