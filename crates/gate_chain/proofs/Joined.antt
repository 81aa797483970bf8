-- Tables and lists that take others in at their end.
use Rattle.std.proofs.Common.{◌≡◌, ℕ, ◌+◌, Bool, true, false, cond, ◌||◌, ◌&&◌, not, List, [], ◌∷◌, ◌++◌, length, take, get_or, ◌<◌, Some, None, is_some, if◌then◌else◌, refl, sym, ap, subst, ◌∙◌, append_assoc}
use Rattle.std.specs.List.{list_any, IsDistinct, AllByRecursion}
use Rattle.std.specs.Map.{lookup, keys_of}
use Rattle.std.specs.Str.{bytes_eq}
use Rattle.std.proofs.lemmas.Map.Keys.{IsDistinct-head, IsDistinct-tail}
use Rattle.indexmap.specs.IndexMap.{insert_entry, insert_all}
use Rattle.indexmap.specs.IndexSet.{insert_all as insert_keys}
use Rattle.gate_tx.specs.declared.OutPoint.{OutPoint}
use Rattle.gate_tx.specs.declared.TxIn.{TxIn}
use Rattle.gate_tx.specs.Coins.{point_eq, spends}
use Rattle.gate_chain.specs.declared.marked.Marked.{Marked}
use Rattle.gate_chain.specs.Marking.{coins_in, is_marked, unspent_in}
use Rattle.gate_chain.proofs.Copies.{point_swap}
use Rattle.gate_chain.proofs.Histories.{bytes_either}
use Rattle.gate_chain.proofs.Marks.{same_point, spends-push}

at : (P : OutPoint → Type 0) (l : List (OutPoint × Marked)) (x : OutPoint × Marked) (b : List (OutPoint × Marked)) → AllByRecursion P (keys_of (l ++ x ∷ b)) → P x.0
at P [] x b all = all.0
at P (e ∷ l) x b all = at P l x b all.1

-- of distinct outpoints, the next is not among those before it
pub absent : (a : List (OutPoint × Marked)) (x : OutPoint × Marked) (b : List (OutPoint × Marked)) → IsDistinct point_eq (keys_of (a ++ x ∷ b)) → lookup (point_eq x.0) a ≡ None
absent [] x b d = refl
absent (e ∷ a) x b d =
    let other : point_eq e.0 x.0 ≡ false = at (λ k. point_eq e.0 k ≡ false) a x b (IsDistinct-head point_eq e.0 (keys_of (a ++ x ∷ b)) d) in
    ap (λ t. cond t (Some e.1) (lookup (point_eq x.0) a)) (point_swap x.0 e.0 ∙ other) ∙ absent a x b (IsDistinct-tail point_eq e.0 (keys_of (a ++ x ∷ b)) d)

pub insert_end : (es : List (OutPoint × Marked)) (k : OutPoint) (v : Marked) → lookup (point_eq k) es ≡ None → insert_entry point_eq es k v ≡ es ++ (k, v) ∷ []
insert_end [] k v none = refl
insert_end (e ∷ es) k v none = by (point_eq k e.0) none (insert_end es k v)
  where
    by : (b : Bool) → cond b (Some e.1) (lookup (point_eq k) es) ≡ None → (lookup (point_eq k) es ≡ None → insert_entry point_eq es k v ≡ es ++ (k, v) ∷ [])
        → (if b then (e.0, v) ∷ es else e ∷ insert_entry point_eq es k v) ≡ e ∷ (es ++ (k, v) ∷ [])
    by true h rest = absurd cc
    by false h rest = ap (λ l. e ∷ l) (rest h)

-- coins that are all new go to the end
pub inserted : (done xs : List (OutPoint × Marked)) → IsDistinct point_eq (keys_of (done ++ xs)) → insert_all point_eq done xs ≡ done ++ xs
inserted done [] d = sym (append_nothing done)
  where
    append_nothing : (l : List (OutPoint × Marked)) → l ++ [] ≡ l
    append_nothing [] = refl
    append_nothing (e ∷ l) = ap (λ r. e ∷ r) (append_nothing l)
inserted done (x ∷ xs) d =
    ap (λ l. insert_all point_eq l xs) (insert_end done x.0 x.1 (absent done x xs d))
    ∙ inserted (done ++ x ∷ []) xs (subst (λ l. IsDistinct point_eq (keys_of l)) (sym (append_assoc done (x ∷ []) xs)) d)
    ∙ append_assoc done (x ∷ []) xs

at_id : (P : List ℕ → Type 0) (l : List (List ℕ)) (x : List ℕ) (b : List (List ℕ)) → AllByRecursion P (l ++ x ∷ b) → P x
at_id P [] x b all = all.0
at_id P (e ∷ l) x b all = at_id P l x b all.1

absent_id : (a : List (List ℕ)) (x : List ℕ) (b : List (List ℕ)) → IsDistinct bytes_eq (a ++ x ∷ b) → list_any (bytes_eq x) a ≡ false
absent_id [] x b d = refl
absent_id (e ∷ a) x b d =
    let other : bytes_eq e x ≡ false = at_id (λ k. bytes_eq e k ≡ false) a x b (IsDistinct-head bytes_eq e (a ++ x ∷ b) d) in
    (λ j. (bytes_either x e ∙ other) j || absent_id a x b (IsDistinct-tail bytes_eq e (a ++ x ∷ b) d) j)

-- ids that are all new go to the end
pub inserted_ids : (done xs : List (List ℕ)) → IsDistinct bytes_eq (done ++ xs) → insert_keys bytes_eq done xs ≡ done ++ xs
inserted_ids done [] d = sym (append_nothing done)
  where
    append_nothing : (l : List (List ℕ)) → l ++ [] ≡ l
    append_nothing [] = refl
    append_nothing (e ∷ l) = ap (λ r. e ∷ r) (append_nothing l)
inserted_ids done (x ∷ xs) d =
    ap (λ b. insert_keys bytes_eq (if b then done else done ++ x ∷ []) xs) (absent_id done x xs d)
    ∙ inserted_ids (done ++ x ∷ []) xs (subst (IsDistinct bytes_eq) (sym (append_assoc done (x ∷ []) xs)) d)
    ∙ append_assoc done (x ∷ []) xs

-- one more input is marked again
pub respending_goes : (inputs : List TxIn) (i : ℕ) (x : TxIn) (m n old : List (OutPoint × Marked)) (found : Bool) → i < length inputs → x ≡ get_or inputs i x
    → coins_in m ≡ coins_in old → found ≡ is_some (unspent_in m x.prevout)
    → ((p : OutPoint) → is_marked n p ≡ ((found && point_eq x.prevout p) || is_marked m p))
    → ((p : OutPoint) → is_some (lookup (point_eq p) (coins_in old)) ≡ true → is_marked m p ≡ (spends (take i inputs) p || is_marked old p))
    → (p : OutPoint) → is_some (lookup (point_eq p) (coins_in old)) ≡ true → is_marked n p ≡ (spends (take (i + 1) inputs) p || is_marked old p)
respending_goes inputs i x m n old found lt is coins found_is step h p there =
    step p ∙ here (point_eq x.prevout p) refl ∙ ap (λ b. point_eq x.prevout p || b) (h p there)
    ∙ swap (point_eq x.prevout p) (spends (take i inputs) p) (is_marked old p)
    ∙ ap (λ b. b || is_marked old p) (sym (spends-push inputs i x p lt is))
  where
    swap : (a b c : Bool) → (a || (b || c)) ≡ ((b || a) || c)
    swap true true c = refl
    swap true false c = refl
    swap false true c = refl
    swap false false c = refl

    live : (f m : Bool) → f ≡ not m → ((f && true) || m) ≡ true
    live f true e = ap (λ b. (b && true) || true) e
    live f false e = ap (λ b. (b && true) || false) e

    nope : (f m : Bool) → ((f && false) || m) ≡ m
    nope true m = refl
    nope false m = refl

    unspent_there : (b : Bool) → is_some (if b then None else lookup (point_eq p) (coins_in m)) ≡ not b
    unspent_there true = refl
    unspent_there false = ap (λ l. is_some (lookup (point_eq p) l)) coins ∙ there

    here : (b : Bool) → point_eq x.prevout p ≡ b → ((found && point_eq x.prevout p) || is_marked m p) ≡ (point_eq x.prevout p || is_marked m p)
    here true e =
        ap (λ b. (found && b) || is_marked m p) e
        ∙ live found (is_marked m p) (found_is ∙ ap (λ r. is_some (unspent_in m r)) (same_point x.prevout p e) ∙ unspent_there (is_marked m p))
        ∙ ap (λ b. b || is_marked m p) (sym e)
    here false e = ap (λ b. (found && b) || is_marked m p) e ∙ nope found (is_marked m p) ∙ ap (λ b. b || is_marked m p) (sym e)
