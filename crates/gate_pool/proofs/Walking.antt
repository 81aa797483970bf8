-- Filters of entries, and ids that are the same.
use Rattle.std.proofs.Common.{◌≡◌, ℕ, Bool, true, false, cond, List, [], ◌∷◌, refl, sym, ap, ◌∙◌, subst, ◌⊎◌, inl, inr, true≢false, arith}
use Rattle.std.specs.Prelude.{Contains, filter, find, length, ◌<◌, ◌≤◌, None, Some}
use Rattle.std.specs.Str.{bytes_eq}
use Rattle.std.specs.List.{list_any}
use Rattle.std.specs.Cmp.Lexicographic.{bytes_decides}
use Rattle.gate_tx.specs.declared.TxIn.{TxIn}
use Rattle.gate_bytes.proofs.Members.{Contains-cons_cases, Contains-head, Contains-rest}
use Rattle.gate_pool.specs.Pool.{Admitted}
use Rattle.gate_pool.proofs.Entries.{Id}

-- an input of an entry names an id
abbrev pub names : Admitted → List ℕ → Bool
names e txid = list_any (λ (i : TxIn). bytes_eq i.prevout.txid txid) e.tx.inputs

module _ {X : Type 0} (p : X → Bool) where
  pub Contains-filter : (xs : List X) (x : X) → Contains xs x → p x ≡ true → Contains (filter p xs) x
  Contains-filter [] x c h = absurd (omega arith)
  Contains-filter (y ∷ xs) x c h = go (λ k. Contains-filter xs x k h) (p y) refl (Contains-cons_cases y xs x c)
    where
      go : (Contains xs x → Contains (filter p xs) x) → (b : Bool) → p y ≡ b → (y ≡ x) ⊎ Contains xs x → Contains (cond b (y ∷ filter p xs) (filter p xs)) x
      go ih true e (inl same) = subst (Contains (y ∷ filter p xs)) same (Contains-head y (filter p xs))
      go ih true e (inr k) = Contains-rest y (filter p xs) x (ih k)
      go ih false e (inl same) = absurd (true≢false (sym (ap p same ∙ h) ∙ e))
      go ih false e (inr k) = ih k

  pub Contains-from_filter : (xs : List X) (x : X) → Contains (filter p xs) x → Contains xs x
  Contains-from_filter [] x c = absurd (omega arith)
  Contains-from_filter (y ∷ xs) x c = go (λ k. Contains-from_filter xs x k) (p y) c
    where
      go : (Contains (filter p xs) x → Contains xs x) → (b : Bool) → Contains (cond b (y ∷ filter p xs) (filter p xs)) x → Contains (y ∷ xs) x
      go ih true k = elim (Contains-cons_cases y (filter p xs) x k) [ inl same ↦ subst (Contains (y ∷ xs)) same (Contains-head y xs) | inr m ↦ Contains-rest y xs x (ih m) ]
      go ih false k = Contains-rest y xs x (ih k)

-- an id is its own
pub same_id : (a : Id) → bytes_eq a a ≡ true
same_id a = (bytes_decides a a).1 refl

pub shorter : {X : Type 0} (p : X → Bool) (ys : List X) → length (filter p ys) ≤ length ys
shorter p [] = omega arith
shorter {X} p (z ∷ ys) = by (p z) (shorter p ys)
  where
    by : (b : Bool) → length (filter p ys) ≤ length ys → length (cond b (z ∷ filter p ys) (filter p ys)) ≤ length (z ∷ ys)
    by true l = omega (arith, l)
    by false l = omega (arith, l)

pub falls : {X : Type 0} (p : X → Bool) (xs : List X) (x : X) → Contains xs x → p x ≡ false → length (filter p xs) < length xs
falls p [] x c h = absurd (omega arith)
falls {X} p (y ∷ xs) x c h = go (p y) refl (Contains-cons_cases y xs x c) (λ k. falls p xs x k h)
  where
    go : (b : Bool) → p y ≡ b → (y ≡ x) ⊎ Contains xs x → (Contains xs x → length (filter p xs) < length xs) → length (cond b (y ∷ filter p xs) (filter p xs)) < length (y ∷ xs)
    go false e k ih = omega (arith, shorter p xs)
    go true e (inl same) ih = absurd (true≢false (sym e ∙ ap p same ∙ h))
    go true e (inr k) ih = omega (arith, ih k)

pub none-filter : {X : Type 0} (t p : X → Bool) (xs : List X) → find t xs ≡ None → find t (filter p xs) ≡ None
none-filter t p [] h = refl
none-filter {X} t p (x ∷ xs) h = go (t x) refl h (none-filter t p xs)
  where
    by : t x ≡ false → (d : Bool) → find t (filter p xs) ≡ None → find t (cond d (x ∷ filter p xs) (filter p xs)) ≡ None
    by e true ih = ap (λ b. cond b (Some x) (find t (filter p xs))) e ∙ ih
    by e false ih = ih

    go : (b : Bool) → t x ≡ b → cond b (Some x) (find t xs) ≡ None → (find t xs ≡ None → find t (filter p xs) ≡ None) → find t (cond (p x) (x ∷ filter p xs) (filter p xs)) ≡ None
    go true e k ih = absurd (let f : Some x ≡ None = k in cc)
    go false e k ih = by e (p x) (ih k)
