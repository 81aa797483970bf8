-- A search of its own finds all that a chain leads to.
use Rattle.std.proofs.Common.{◌≡◌, ℕ, ◌+◌, ◌<◌, Bool, true, false, if◌then◌else◌, List, [], ◌∷◌, ◌++◌, length, get_or, drop, drop-cons, add-one, refl, sym, ap, ◌∙◌, subst, inl, inr}
use Rattle.std.specs.Prelude.{Contains}
use Rattle.std.specs.Str.{bytes_eq}
use Rattle.std.proofs.lemmas.List.Elements.{Contains-append_left, Contains-append_right, Contains-append_cases}
use Rattle.indexmap.specs.IndexSet.{insert_key, insert_all}
use Rattle.gate_graph.specs.Families.{among}
use Rattle.gate_bytes.proofs.Members.{Contains-cons_cases, Contains-head, Contains-rest, not_in_none}
use Rattle.gate_graph.proofs.Apart.{Contains-among}

abbrev Id : Type 0
Id = List ℕ

-- by cases on whether y is there already
by_new : (P : List Id → Type 0) (xs : List Id) (y : Id) → (among xs y ≡ true → P xs) → (among xs y ≡ false → P (xs ++ y ∷ [])) → P (insert_key bytes_eq xs y)
by_new P xs y old new = go (among xs y) old new
  where
    go : (b : Bool) → (b ≡ true → P xs) → (b ≡ false → P (xs ++ y ∷ [])) → P (if b then xs else xs ++ y ∷ [])
    go true old new = old refl
    go false old new = new refl

-- what was found stays found
still_found : (xs ys : List Id) (z : Id) → Contains xs z → Contains (insert_all bytes_eq xs ys) z
still_found xs [] z c = c
still_found xs (y ∷ ys) z c = still_found (insert_key bytes_eq xs y) ys z (by_new (λ l. Contains l z) xs y (λ _. c) (λ _. Contains-append_left xs (y ∷ []) z c))

-- what is inserted is found
pub inserted_found : (xs ys : List Id) (z : Id) → Contains ys z → Contains (insert_all bytes_eq xs ys) z
inserted_found xs [] z c = not_in_none z c
inserted_found xs (y ∷ ys) z c =
    elim (Contains-cons_cases y ys z c) [
      | inl e ↦ still_found (insert_key bytes_eq xs y) ys z (subst (Contains (insert_key bytes_eq xs y)) e (by_new (λ l. Contains l y) xs y (λ t. Contains-among xs y t) (λ _. Contains-append_right xs (y ∷ []) y (Contains-head y []))))
      | inr k ↦ inserted_found (insert_key bytes_eq xs y) ys z k
    ]

-- what is found afterwards was found, or is inserted
pub found_before : (P : Id → Type 0) (xs ys : List Id) → ((z : Id) → Contains xs z → P z) → ((z : Id) → Contains ys z → P z) → (z : Id) → Contains (insert_all bytes_eq xs ys) z → P z
found_before P xs [] h k z c = h z c
found_before P xs (y ∷ ys) h k z c =
    found_before P (insert_key bytes_eq xs y) ys
    (by_new (λ l. (w : Id) → Contains l w → P w) xs y (λ _. h)
    (λ _ w d. elim (Contains-append_cases xs (y ∷ []) w d) [
      | inl m ↦ h w m
      | inr m ↦ elim (Contains-cons_cases y [] w m) [ inl e ↦ subst P e (k y (Contains-head y ys)) | inr n ↦ not_in_none w n ]
    ]))
    (λ w d. k w (Contains-rest y ys w d)) z c

-- a loop's step
pub insert_more : (found ids : List Id) (i : ℕ) (d : Id) → i < length ids → insert_all bytes_eq found (drop i ids) ≡ insert_all bytes_eq (insert_key bytes_eq found (get_or ids i d)) (drop (i + 1) ids)
insert_more found ids i d h = ap (insert_all bytes_eq found) (drop-cons ids i d h) ∙ ap (λ k. insert_all bytes_eq (insert_key bytes_eq found (get_or ids i d)) (drop k ids)) (sym (add-one i))
