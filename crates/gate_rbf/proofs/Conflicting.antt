-- Asking each thing for an entry that answers to it is asking each entry for such a thing.
use Rattle.std.proofs.Common.{◌≡◌, Bool, true, false, cond, ◌||◌, ◌&&◌, List, [], ◌∷◌, Option, Some, None, refl, sym, ap, ◌∙◌, Bor}
use Rattle.std.specs.Prelude.{find, is_some}
use Rattle.std.specs.Option.{option_copied}
use Rattle.std.specs.List.{list_any}
use Rattle.gate_tx.specs.declared.TxIn.{TxIn}
use Rattle.gate_tx.specs.Tx.{Tx}
use Rattle.gate_tx.specs.Coins.{spends}
use Rattle.gate_pool.specs.Pool.{Admitted, spender_of}
use Rattle.gate_pool.specs.Family.{is_conflict, spends_one_of}

pub is_some-option_copied : {X : Type 0} (r : Option (Bor X)) → is_some (option_copied r) ≡ is_some r
is_some-option_copied None = refl
is_some-option_copied (Some x) = refl

-- a search finds where there is one
pub is_some-find : {X : Type 0} (p : X → Bool) (xs : List X) → is_some (find p xs) ≡ list_any p xs
is_some-find p [] = refl
is_some-find {X} p (x ∷ xs) = go (p x) (is_some-find p xs)
  where
    go : (b : Bool) → is_some (find p xs) ≡ list_any p xs → is_some (cond b (Some x) (find p xs)) ≡ (b || list_any p xs)
    go true h = refl
    go false h = h

-- `or` at each place of a list
either_any : {X : Type 0} (p q : X → Bool) (xs : List X) → list_any (λ x. p x || q x) xs ≡ (list_any p xs || list_any q xs)
either_any p q [] = refl
either_any {X} p q (x ∷ xs) = ap (λ b. (p x || q x) || b) (either_any p q xs) ∙ swap (p x) (q x) (list_any p xs) (list_any q xs)
  where
    swap : (a b c d : Bool) → ((a || b) || (c || d)) ≡ ((a || c) || (b || d))
    swap true b c d = refl
    swap false true true d = refl
    swap false true false d = refl
    swap false false c d = refl

none_any : {X : Type 0} (xs : List X) → list_any (λ x. false) xs ≡ false
none_any [] = refl
none_any (x ∷ xs) = none_any xs

-- the order in which two lists are asked doesn't matter
pub any_exchange : {X Y : Type 0} (R : X → Y → Bool) (xs : List X) (ys : List Y) → list_any (λ x. list_any (R x) ys) xs ≡ list_any (λ y. list_any (λ x. R x y) xs) ys
any_exchange R [] ys = sym (none_any ys)
any_exchange R (x ∷ xs) ys = ap (λ b. list_any (R x) ys || b) (any_exchange R xs ys) ∙ sym (either_any (R x) (λ y. list_any (λ x. R x y) xs) ys)

-- tests that agree find the same
pub list_any-agree : {X : Type 0} (p q : X → Bool) → ((x : X) → p x ≡ q x) → (xs : List X) → list_any p xs ≡ list_any q xs
list_any-agree p q h [] = refl
list_any-agree p q h (x ∷ xs) = ap (λ b. b || list_any p xs) (h x) ∙ ap (λ b. q x || b) (list_any-agree p q h xs)

-- what doesn't depend on the place stands outside
any_and : {X : Type 0} (p : X → Bool) (b : Bool) (xs : List X) → list_any (λ x. p x && b) xs ≡ (list_any p xs && b)
any_and p b [] = refl
any_and {X} p b (x ∷ xs) = ap (λ d. (p x && b) || d) (any_and p b xs) ∙ go (p x) b (list_any p xs)
  where
    go : (a b d : Bool) → ((a && b) || (d && b)) ≡ ((a || d) && b)
    go true true d = refl
    go true false true = refl
    go true false false = refl
    go false b d = refl

-- the same where something more is asked of what answers
pub any_exchange_and : {X Y : Type 0} (R : X → Y → Bool) (q : Y → Bool) (xs : List X) (ys : List Y) → list_any (λ x. list_any (λ y. R x y && q y) ys) xs ≡ list_any (λ y. list_any (λ x. R x y) xs && q y) ys
any_exchange_and R q xs ys =
    any_exchange (λ x y. R x y && q y) xs ys ∙ list_any-agree (λ y. list_any (λ x. R x y && q y) xs) (λ y. list_any (λ x. R x y) xs && q y) (λ y. any_and (λ x. R x y) (q y) xs) ys

-- an input is spent by an entry exactly where an entry is a conflict
pub any-spender : (entries : List Admitted) (inputs : List TxIn) → list_any (λ (i : TxIn). is_some (spender_of entries i.prevout)) inputs ≡ list_any (spends_one_of inputs) entries
any-spender entries inputs =
    list_any-agree (λ (i : TxIn). is_some (spender_of entries i.prevout)) (λ (i : TxIn). list_any (λ (e : Admitted). spends e.tx.inputs i.prevout) entries) (λ i. is_some-find (λ (e : Admitted). spends e.tx.inputs i.prevout) entries) inputs
    ∙ any_exchange (λ (i : TxIn) (e : Admitted). spends e.tx.inputs i.prevout) inputs entries

-- an input is spent by such an entry exactly where such an entry is a conflict
pub any-spender-with : (q : Admitted → Bool) (entries : List Admitted) (tx : Tx)
    → list_any (λ (i : TxIn). list_any (λ (e : Admitted). spends e.tx.inputs i.prevout && q e) entries) tx.inputs ≡ list_any (λ (e : Admitted). is_conflict tx e && q e) entries
any-spender-with q entries tx = any_exchange_and (λ (i : TxIn) (e : Admitted). spends e.tx.inputs i.prevout) q tx.inputs entries
