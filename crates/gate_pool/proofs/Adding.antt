-- What entries come to, added up id by id.
use Rattle.std.proofs.Common.{◌≡◌, ◌≢◌, ℕ, suc, ◌+◌, Bool, true, false, not, ◌&&◌, cond, List, [], ◌∷◌, Option, Some, None, refl, sym, ap, ◌∙◌, subst, ◌⊎◌, inl, inr, true≢false, arith, length}
use Rattle.std.specs.Prelude.{Contains, filter, sum_by}
use Rattle.std.specs.List.{AllPairs}
use Rattle.std.specs.Cmp.Lexicographic.{bytes_decides}
use Rattle.std.proofs.lemmas.Bool.{false_from_ne_true, and_parts, and_from}
use Rattle.std.proofs.lemmas.List.Sums.{sum_by-cons}
use Rattle.gate_tx.specs.Ids.{txid_of}
use Rattle.gate_bytes.proofs.Members.{Contains-cons_cases, Contains-head, Contains-rest, not_in_none}
use Rattle.gate_pool.specs.Pool.{Admitted, has_txid, entry_by_txid}
use Rattle.gate_pool.specs.Family.{AreIdsOf}
use Rattle.gate_pool.proofs.Walking.{Contains-filter, Contains-from_filter}

abbrev pub DifferById : Admitted → Admitted → Type 0
DifferById a b = txid_of a.tx ≢ txid_of b.tx

-- what an entry weighs, where there is one
abbrev pub weight : (Admitted → ℕ) → Option Admitted → ℕ
weight w None = 0
weight w (Some e) = w e

-- what the entries of ids weigh
abbrev pub weigh : (Admitted → ℕ) → List Admitted → List (List ℕ) → ℕ
weigh w entries ids = sum_by (λ (a : List ℕ). weight w (entry_by_txid entries a)) ids

module _ {X : Type 0} (R : X → X → Type 0) where
  pub pairs_tail : (x : X) (xs : List X) → AllPairs R (x ∷ xs) → AllPairs R xs
  pairs_tail x xs h = λ i j d l m. h (suc i) (suc j) d (omega arith) (omega arith)

  pub pairs_head : (x : X) (xs : List X) → AllPairs R (x ∷ xs) → (y : X) → Contains xs y → R x y
  pairs_head x xs h y c = subst (R x) c.2 (h 0 (suc c.0) y (omega arith) (omega (arith, c.1)))

-- where ids tell entries apart, one that is found by its id is the one that has it
pub found_by_id : (entries : List Admitted) → AllPairs DifferById entries → (e : Admitted) → Contains entries e → entry_by_txid entries (txid_of e.tx) ≡ Some e
found_by_id [] h e c = not_in_none e c
found_by_id (x ∷ entries) h e c = go (λ k. found_by_id entries (pairs_tail DifferById x entries h) e k) (has_txid x (txid_of e.tx)) refl (Contains-cons_cases x entries e c)
  where
    go : (Contains entries e → entry_by_txid entries (txid_of e.tx) ≡ Some e) → (b : Bool) → has_txid x (txid_of e.tx) ≡ b → (x ≡ e) ⊎ Contains entries e → cond b (Some x) (entry_by_txid entries (txid_of e.tx)) ≡ Some e
    go ih true p (inl same) = ap Some same
    go ih true p (inr k) = absurd (pairs_head DifferById x entries h e k ((bytes_decides (txid_of x.tx) (txid_of e.tx)).0 p))
    go ih false p (inl same) = absurd (true≢false (sym ((bytes_decides (txid_of x.tx) (txid_of e.tx)).1 (ap (λ (a : Admitted). txid_of a.tx) same)) ∙ p))
    go ih false p (inr k) = ih k

-- two tests that agree on what a list has keep the same of it
pub same_kept : {X : Type 0} (p q : X → Bool) (xs : List X) → ((x : X) → Contains xs x → p x ≡ q x) → filter p xs ≡ filter q xs
same_kept p q [] h = refl
same_kept {X} p q (x ∷ xs) h =
    ap (λ b. cond b (x ∷ filter p xs) (filter p xs)) (h x (Contains-head x xs)) ∙ ap (λ l. cond (q x) (x ∷ l) l) (same_kept p q xs (λ y c. h y (Contains-rest x xs y c)))

-- a test, but for one id
abbrev pub but_for : (Admitted → Bool) → List ℕ → Admitted → Bool
but_for test a x = test x && not (has_txid x a)

and-true : (b : Bool) → (b && true) ≡ b
and-true true = refl
and-true false = refl

and-false : (b : Bool) → (b && false) ≡ false
and-false true = refl
and-false false = refl

-- with one more in front, or not
abbrev front : (Admitted → ℕ) → Admitted → Bool → List Admitted → ℕ
front w x b xs = sum_by w (cond b (x ∷ xs) xs)

with_other : (w : Admitted → ℕ) (x : Admitted) (n : ℕ) (xs ys : List Admitted) (b : Bool) → sum_by w xs ≡ n + sum_by w ys → front w x b xs ≡ n + front w x b ys
with_other w x n xs ys true h = sum_by-cons w x xs ∙ ap (λ m. w x + m) h ∙ omega arith ∙ ap (λ m. n + m) (sym (sum_by-cons w x ys))
with_other w x n xs ys false h = h

-- the weight of some entries is that of one of them and of the others
pub weigh-one : (w : Admitted → ℕ) (test : Admitted → Bool) (entries : List Admitted) → AllPairs DifferById entries → (e : Admitted) → Contains entries e → test e ≡ true
    → sum_by w (filter test entries) ≡ w e + sum_by w (filter (but_for test (txid_of e.tx)) entries)
weigh-one w test [] h e c t = not_in_none e c
weigh-one w test (x ∷ entries) h e c t = go (λ k. weigh-one w test entries (pairs_tail DifferById x entries h) e k t) (Contains-cons_cases x entries e c)
  where
    out : List Admitted
    out = filter (but_for test (txid_of e.tx)) entries

    stays : x ≡ e → (y : Admitted) → Contains entries y → test y ≡ but_for test (txid_of e.tx) y
    stays same y c =
        let apart : has_txid y (txid_of e.tx) ≡ false = false_from_ne_true _ (λ k. pairs_head DifferById x entries h y c (ap (λ (a : Admitted). txid_of a.tx) same ∙ sym ((bytes_decides (txid_of y.tx) (txid_of e.tx)).0 k))) in
        sym (ap (λ b. test y && not b) apart ∙ and-true (test y))

    go : (Contains entries e → sum_by w (filter test entries) ≡ w e + sum_by w out) → (x ≡ e) ⊎ Contains entries e
        → sum_by w (filter test (x ∷ entries)) ≡ w e + sum_by w (filter (but_for test (txid_of e.tx)) (x ∷ entries))
    go ih (inl same) =
        let has : has_txid x (txid_of e.tx) ≡ true = (bytes_decides (txid_of x.tx) (txid_of e.tx)).1 (ap (λ (a : Admitted). txid_of a.tx) same) in
        let gone : but_for test (txid_of e.tx) x ≡ false = ap (λ b. test x && not b) has ∙ and-false (test x) in
        ap (λ b. front w x b (filter test entries)) (ap test same ∙ t) ∙ sum_by-cons w x (filter test entries)
        ∙ ap (λ xs. w x + sum_by w xs) (same_kept test (but_for test (txid_of e.tx)) entries (stays same)) ∙ ap (λ (a : Admitted). w a + sum_by w out) same
        ∙ ap (λ b. w e + front w x b out) (sym gone)
    go ih (inr k) =
        let apart : has_txid x (txid_of e.tx) ≡ false = false_from_ne_true _ (λ p. pairs_head DifferById x entries h e k ((bytes_decides (txid_of x.tx) (txid_of e.tx)).0 p)) in
        let kept : but_for test (txid_of e.tx) x ≡ test x = ap (λ b. test x && not b) apart ∙ and-true (test x) in
        with_other w x (w e) (filter test entries) out (test x) (ih k) ∙ ap (λ b. w e + front w x b out) (sym kept)

-- what passes a test, from a filtered list
pub passed : {X : Type 0} (p : X → Bool) (xs : List X) (x : X) → Contains (filter p xs) x → p x ≡ true
passed p [] x c = not_in_none x c
passed {X} p (y ∷ xs) x c = go (λ k. passed p xs x k) (p y) refl c
  where
    go : (Contains (filter p xs) x → p x ≡ true) → (b : Bool) → p y ≡ b → Contains (cond b (y ∷ filter p xs) (filter p xs)) x → p x ≡ true
    go ih true e k = elim (Contains-cons_cases y (filter p xs) x k) [ inl same ↦ ap p (sym same) ∙ e | inr m ↦ ih m ]
    go ih false e k = ih k

none_kept : {X : Type 0} (xs : List X) → ((x : X) → Contains xs x → ⊥) → xs ≡ []
none_kept [] h = refl
none_kept (x ∷ xs) h = absurd (h x (Contains-head x xs))

-- ids of entries weigh what the entries do
pub weighed : (w : Admitted → ℕ) (entries : List Admitted) → AllPairs DifferById entries → (ids : List (List ℕ)) (test : Admitted → Bool) → AreIdsOf ids (filter test entries) → weigh w entries ids ≡ sum_by w (filter test entries)
weighed w entries h [] test k = ap (sum_by w) (sym (none_kept (filter test entries) (λ e c. not_in_none (txid_of e.tx) (k.all e c))))
weighed w entries h (a ∷ ids) test k =
    let first = k.only a (Contains-head a ids) in
    let e = first.0 in
    let member = Contains-from_filter test entries e first.1 in
    let passes = passed test entries e first.1 in
    let less : AreIdsOf ids (filter (but_for test (txid_of e.tx)) entries) = record {
      once = pairs_tail (λ (x : List ℕ) (y : List ℕ). x ≢ y) a ids k.once;
      all = λ x c.
          let p = and_parts _ _ (passed (but_for test (txid_of e.tx)) entries x c) in
          let m = Contains-from_filter (but_for test (txid_of e.tx)) entries x c in
          elim (Contains-cons_cases a ids (txid_of x.tx) (k.all x (Contains-filter test entries x m p.0))) [
            | inl same ↦ absurd (true≢false (sym ((bytes_decides (txid_of x.tx) (txid_of e.tx)).1 (sym same ∙ sym first.2)) ∙ not_true _ p.1))
            | inr n ↦ n
          ];
      only = λ b c.
          let found = k.only b (Contains-rest a ids b c) in
          let m = Contains-from_filter test entries found.0 found.1 in
          let apart : has_txid found.0 (txid_of e.tx) ≡ false = false_from_ne_true _ (λ p. pairs_head (λ (x : List ℕ) (y : List ℕ). x ≢ y) a ids k.once b c (sym first.2 ∙ sym ((bytes_decides (txid_of found.0.tx) (txid_of e.tx)).0 p) ∙ found.2)) in
          (found.0, Contains-filter (but_for test (txid_of e.tx)) entries found.0 m (and_from _ _ (passed test entries found.0 found.1) (ap not apart)), found.2);
    } in
    let one : weight w (entry_by_txid entries a) ≡ w e = ap (λ x. weight w (entry_by_txid entries x)) (sym first.2) ∙ ap (weight w) (found_by_id entries h e member) in
    sum_by-cons (λ (x : List ℕ). weight w (entry_by_txid entries x)) a ids ∙ ap (λ n. n + weigh w entries ids) one ∙ ap (λ n. w e + n) (weighed w entries h ids (but_for test (txid_of e.tx)) less) ∙ sym (weigh-one w test entries h e member passes)
  where
    not_true : (b : Bool) → not b ≡ true → b ≡ false
    not_true true h = sym h
    not_true false h = refl

pub length-ones : {X : Type 0} (xs : List X) → sum_by (λ x. 1) xs ≡ length xs
length-ones {X} [] = refl
length-ones {X} (x ∷ xs) = sum_by-cons (λ (y : X). 1) x xs ∙ ap (λ n. 1 + n) (length-ones xs) ∙ omega arith
