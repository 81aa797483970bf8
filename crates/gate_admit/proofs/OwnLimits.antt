-- The limits of a transaction that is tried again, over its ancestors and its descendants.
use Rattle.std.proofs.Common.{◌≡◌, ◌<◌, ℕ, Bool, true, false, not, ◌&&◌, List, [], ◌∷◌, ◌++◌, length, refl, sym, ap, subst, ◌∙◌, inl, inr, arith}
use Rattle.std.specs.Prelude.{Contains, filter, nat_le}
use Rattle.std.specs.List.{AllPairs, list_any, list_all}
use Rattle.std.specs.Str.{bytes_eq}
use Rattle.std.specs.Cmp.Lexicographic.{bytes_decides}
use Rattle.std.proofs.lemmas.Bool.{true≢false, false_from_ne_true, cases_Bool}
use Rattle.std.proofs.lemmas.Bool.Decides.{nat_tests}
use Rattle.std.proofs.lemmas.List.Elements.{Contains-append_right}
use Rattle.gate_tx.specs.declared.TxIn.{TxIn}
use Rattle.gate_tx.specs.Ids.{txid_of}
use Rattle.gate_tx.specs.Tx.{Tx}
use Rattle.gate_graph.specs.Family.{reaches}
use Rattle.gate_bytes.proofs.Members.{Contains-head, Contains-rest, list_any_of}
use Rattle.gate_graph.proofs.Reaching.{reaches-same}
use Rattle.gate_pool.specs.Pool.{Admitted}
use Rattle.gate_pool.specs.Search.{AreEntries}
use Rattle.gate_pool.specs.Family.{steps, ancestors_of, descendants_of, ancestors_above, AreIdsOf}
use Rattle.gate_pool.proofs.Adding.{DifferById, passed}
use Rattle.gate_pool.proofs.Entries.{Id}
use Rattle.gate_pool.proofs.Families.{is_above}
use Rattle.gate_pool.proofs.OwnAncestors.{own_or_above, above_is, above_few}
use Rattle.gate_pool.proofs.Searching.{among_ids}
use Rattle.gate_pool.proofs.Walking.{Contains-filter, Contains-from_filter}
use Rattle.gate_admit.specs.Policies.{Policy, most_ancestors, most_descendants}
use Rattle.gate_admit.specs.Limits.{is_limited, is_below_itself, fits_again}
use Rattle.gate_admit.proofs.Families.{list_all_of, list_all_not}

no_more : (n m : ℕ) → m < n → nat_le n m ≡ false
no_more n m h = grind (arith, nat_tests)

third_fails : (a b c d : Bool) → c ≡ false → (a && (b && (c && d))) ≡ false
third_fails true true c d h = ap (λ z. z && d) h
third_fails true false c d h = refl
third_fails false b c d h = refl

first_fails : (a b : Bool) → a ≡ false → (a && b) ≡ false
first_fails a b h = ap (λ z. z && b) h

last_fails : (a b : Bool) → b ≡ false → (a && b) ≡ false
last_fails true b h = h
last_fails false b h = refl

-- too many on one side pass the limits
pub too_many_ascend : (policy : Policy) (entries : List Admitted) (x : Id) → most_ancestors policy < length (ancestors_of entries x) → is_limited policy entries x ≡ false
too_many_ascend policy entries x many = first_fails _ _ (no_more (length (ancestors_of entries x)) (most_ancestors policy) many)

pub too_many_descend : (policy : Policy) (entries : List Admitted) (x : Id) → most_descendants policy < length (descendants_of entries x) → is_limited policy entries x ≡ false
too_many_descend policy entries x many = third_fails _ _ _ _ (no_more (length (descendants_of entries x)) (most_descendants policy) many)

-- where not all pass, one fails
some_fails : {X : Type 0} (p : X → Bool) (xs : List X) → list_all p xs ≡ false → (x : X) × Contains xs x × (p x ≡ false)
some_fails p [] h = absurd (true≢false h)
some_fails {X} p (x ∷ xs) h = go (some_fails p xs) (p x) refl h
  where
    go : (list_all p xs ≡ false → (y : X) × Contains xs y × (p y ≡ false)) → (b : Bool) → p x ≡ b → (b && list_all p xs) ≡ false → (y : X) × Contains (x ∷ xs) y × (p y ≡ false)
    go rest true e k = let w = rest k in (w.0, Contains-rest x xs w.0 w.1, w.2)
    go rest false e k = (x, Contains-head x xs, e)

all_pass : {X : Type 0} (p : X → Bool) (xs : List X) (x : X) → list_all p xs ≡ true → Contains xs x → p x ≡ true
all_pass p xs x h m = elim (cases_Bool (p x)) [ inl t ↦ t | inr f ↦ absurd (true≢false (sym h ∙ list_all_not p xs x m f)) ]

-- what the limits say of an entry among others
abbrev pub fit_of : Policy → List Admitted → Admitted → Bool
fit_of policy es n =
    not (is_below_itself es n.tx)
    && (list_all (λ e. is_limited policy es (txid_of e.tx)) (ancestors_of es (txid_of n.tx))
    && list_all (λ e. is_limited policy es (txid_of e.tx)) (descendants_of es (txid_of n.tx)))

-- of one that stands behind them
pub fits_behind : (policy : Policy) (entries : List Admitted) (tx : Tx) (vsize : ℕ) (es : List Admitted) (n : Admitted) → es ≡ entries ++ n ∷ [] → n ≡ record { tx = tx; fee = 0; vsize = vsize; time = 0 } → fit_of policy es n ≡ fits_again policy entries tx vsize
fits_behind policy entries tx vsize es n is same = ap (λ l. fit_of policy l n) is ∙ ap (λ (e : Admitted). fit_of policy (entries ++ e ∷ []) e) same

pub stands_behind : (entries es : List Admitted) (n : Admitted) → es ≡ entries ++ n ∷ [] → Contains es n
stands_behind entries es n is = subst (λ l. Contains l n) (sym is) (Contains-append_right entries (n ∷ []) n (Contains-head n []))

-- ids of entries that pass a test are ids of entries
pub ids_entries : (test : Admitted → Bool) (es : List Admitted) (ids : List Id) → AreIdsOf ids (filter test es) → AreEntries es ids
ids_entries test es ids are = record {
  once = are.once;
  only = λ id m. let v = are.only id m in (v.0, Contains-from_filter test es v.0 v.1, v.2);
}

-- over entries, one of them with its ancestors and its descendants
module _ (policy : Policy) (es : List Admitted) (apart : AllPairs DifferById es) (n : Admitted) (m : Contains es n) where
  abbrev passes : Admitted → Bool
  passes e = is_limited policy es (txid_of e.tx)

  abbrev leads : Admitted → Bool
  leads e = reaches (steps es) (txid_of e.tx) (txid_of n.tx)

  abbrev stands : Admitted → Bool
  stands e = is_above es n.tx.inputs (txid_of e.tx)

  own_below : Contains (descendants_of es (txid_of n.tx)) n
  own_below = Contains-filter (λ (e : Admitted). reaches (steps es) (txid_of n.tx) (txid_of e.tx)) es n m (reaches-same (steps es) (txid_of n.tx))

  pub not_own : is_limited policy es (txid_of n.tx) ≡ false → fit_of policy es n ≡ false
  not_own h = last_fails _ _ (last_fails _ _ (list_all_not passes (descendants_of es (txid_of n.tx)) n own_below h))

  pub too_many_above : most_ancestors policy < length (ancestors_above es n.tx.inputs) → fit_of policy es n ≡ false
  too_many_above many = not_own (too_many_ascend policy es (txid_of n.tx) (omega (arith, many, above_few es apart n m (txid_of n.tx) refl)))

  pub too_many_below : most_descendants policy < length (descendants_of es (txid_of n.tx)) → fit_of policy es n ≡ false
  too_many_below many = not_own (too_many_descend policy es (txid_of n.tx) many)

  module _ (ids : List Id) (are : AreIdsOf ids (ancestors_above es n.tx.inputs)) where
    pub below_itself : list_any (λ y. bytes_eq y (txid_of n.tx)) ids ≡ true → fit_of policy es n ≡ false
    below_itself h =
        let v = are.only (txid_of n.tx) (among_ids ids (txid_of n.tx) h) in
        let is : is_below_itself es n.tx ≡ true = subst (λ z. list_any (λ (i : TxIn). reaches (steps es) z i.prevout.txid) n.tx.inputs ≡ true) v.2 (passed stands es v.0 v.1) in
        first_fails _ _ (ap not is)

    pub not_below : list_any (λ y. bytes_eq y (txid_of n.tx)) ids ≡ false → is_below_itself es n.tx ≡ false
    not_below h = false_from_ne_true _ (λ t.
        let own : Contains ids (txid_of n.tx) = are.all n (Contains-filter stands es n m t) in
        true≢false (sym (list_any_of (λ y. bytes_eq y (txid_of n.tx)) ids (txid_of n.tx) own ((bytes_decides (txid_of n.tx) (txid_of n.tx)).1 refl)) ∙ h))

    -- where it isn't above itself, and its ancestors pass, its descendants decide
    pub below_decide : list_any (λ y. bytes_eq y (txid_of n.tx)) ids ≡ false → list_all passes (ancestors_above es n.tx.inputs) ≡ true → list_all passes (descendants_of es (txid_of n.tx)) ≡ fit_of policy es n
    below_decide other above = decide (is_below_itself es n.tx) (list_all passes (ancestors_of es (txid_of n.tx))) (list_all passes (descendants_of es (txid_of n.tx))) (not_below other) (λ below.
        list_all_of passes (ancestors_of es (txid_of n.tx)) (λ a k.
        elim (own_or_above es apart n m (txid_of n.tx) refl (txid_of a.tx) (passed leads es a k)) [
          | inl same ↦ ap (is_limited policy es) same ∙ all_pass passes (descendants_of es (txid_of n.tx)) n below own_below
          | inr up ↦ all_pass passes (ancestors_above es n.tx.inputs) a above (Contains-filter stands es a (Contains-from_filter leads es a k) up)
        ]))
      where
        decide : (a b c : Bool) → a ≡ false → (c ≡ true → b ≡ true) → c ≡ (not a && (b && c))
        decide a b true h k = sym (ap (λ z. not z && (b && true)) h ∙ ap (λ z. z && true) (k refl))
        decide a b false h k = sym (last_fails (not a) (b && false) (last_fails b false refl))

  pub some_above_fails : list_all passes (ancestors_above es n.tx.inputs) ≡ false → fit_of policy es n ≡ false
  some_above_fails h =
      let w = some_fails passes (ancestors_above es n.tx.inputs) h in
      last_fails _ _ (first_fails _ _ (list_all_not passes (ancestors_of es (txid_of n.tx)) w.0
      (Contains-filter leads es w.0 (Contains-from_filter stands es w.0 w.1) (above_is es apart n m (txid_of n.tx) refl (txid_of w.0.tx) (passed stands es w.0 w.1))) w.2))
