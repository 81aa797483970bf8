-- Rows that stay in a table, and rows that are copied.
use Rattle.std.proofs.Common.{◌≡◌, ◌≤◌, ◌<◌, ℕ, zero, suc, ◌+◌, Bool, true, false, cond, ◌&&◌, ◌||◌, eqb, List, [], ◌∷◌, ◌++◌, take, drop, length, get_or, slice_get, Option, Some, None, refl, sym, ap, subst, ◌∙◌, arith, add-one}
use Rattle.std.specs.Bool.{Decides}
use Rattle.std.specs.List.{list_any, IsDistinct, AllByRecursion}
use Rattle.std.specs.Map.{keys_of, lookup}
use Rattle.std.specs.Str.{bytes_eq}
use Rattle.std.proofs.lemmas.List.{take_all, take_more}
use Rattle.std.proofs.lemmas.List.Folds.{list_any-append}
use Rattle.std.proofs.lemmas.Map.Keys.{IsDistinct-head, IsDistinct-tail}
use Rattle.std.proofs.lemmas.Bool.Decides.{Decides-eqb, same_from_decides}
use Rattle.gate_tx.specs.Ids.{wtxid_of}
use Rattle.gate_tx.specs.Tx.{Tx}
use Rattle.gate_chain.specs.Blocks.{Block}
use Rattle.gate_chain.proofs.Copies.{take_one}
use Rattle.gate_chain.proofs.Histories.{bytes_either}
use Rattle.gate_graph.proofs.Filters.{filter-map}
use Rattle.gate_pool.specs.Pool.{Admitted}
use Rattle.gate_submission.specs.declared.verdict.Verdict.{Verdict}
use Rattle.gate_submission.specs.declared.verdict.VerdictRow.{VerdictRow}
use Rattle.gate_admit.specs.declared.verdicts.Subject.{Subject}
use Rattle.gate_admit.specs.Confirming.{Notes}
use Rattle.gate_admit.specs.VerdictMap.{row_of, rows_of, subject_eq, entries_for}
use Rattle.gate_admit.specs.Verdicts.{confirms, has_wtxid_among, is_needed, rows_for, rows_over}

-- ---- rows that are needed

-- the rows of the entries that stay
pub rows_of-needed : (pool : List Admitted) (confirmed : List ℕ → Bool) (es : List (Subject × Verdict)) → rows_of (entries_for pool confirmed es) ≡ rows_for pool confirmed (rows_of es)
rows_of-needed pool confirmed es = sym (filter-map row_of (λ (row : VerdictRow). is_needed pool confirmed row.wtxid) es)

-- two tests that say the same of each wtxid keep the same rows
pub same_rows : (pool : List Admitted) (a b : List ℕ → Bool) (rows : List VerdictRow) → ((wtxid : List ℕ) → a wtxid ≡ b wtxid) → rows_for pool a rows ≡ rows_for pool b rows
same_rows pool a b rows same = λ i. rows_for pool (λ wtxid. same wtxid i) rows

-- of no rows none are kept, whatever the tests are
pub no_rows : (pool : List Admitted) (confirmed : List ℕ → Bool) (blocks : List Block) (rows : List VerdictRow) → rows ≡ [] → rows_for pool confirmed rows ≡ rows_over pool blocks rows
no_rows pool confirmed blocks rows none = ap (rows_for pool confirmed) none ∙ sym (ap (rows_over pool blocks) none)

-- no more stay than there were
pub needed_few : (pool : List Admitted) (confirmed : List ℕ → Bool) (es : List (Subject × Verdict)) → length (entries_for pool confirmed es) ≤ length es
needed_few pool confirmed [] = omega arith
needed_few pool confirmed (e ∷ es) = by (is_needed pool confirmed e.0.wtxid) (needed_few pool confirmed es)
  where
    by : (b : Bool) → length (entries_for pool confirmed es) ≤ length es → length (cond b (e ∷ entries_for pool confirmed es) (entries_for pool confirmed es)) ≤ length (e ∷ es)
    by true h = omega arith
    by false h = omega arith

-- ---- wtxids that are noted

noted : (a b c : Bool) → cond c true (a || b) ≡ (a || (b || (c || false)))
noted true b true = refl
noted true b false = refl
noted false true true = refl
noted false true false = refl
noted false false true = refl
noted false false false = refl

pub noting_starts : (a : Bool) → a ≡ (a || false)
noting_starts true = refl
noting_starts false = refl

-- one more transaction
pub noting_goes : (txs : List Tx) (i : ℕ) (x : Tx) (id wtxid : List ℕ) (old before after : Bool) → i < length txs → x ≡ get_or txs i x → id ≡ wtxid_of x
    → after ≡ cond (bytes_eq id wtxid) true before → before ≡ (old || has_wtxid_among wtxid (take i txs)) → after ≡ (old || has_wtxid_among wtxid (take (i + 1) txs))
noting_goes txs i x id wtxid old before after lt is own now was =
    now ∙ (λ j. cond ((bytes_either id wtxid ∙ ap (bytes_eq wtxid) own) j) true (was j)) ∙ noted old (has_wtxid_among wtxid (take i txs)) (bytes_eq wtxid (wtxid_of x))
    ∙ ap (λ b. old || b)
    (sym (ap (has_wtxid_among wtxid) (take_more txs i x lt ∙ (λ j. take i txs ++ sym is j ∷ [])) ∙ list_any-append (λ (tx : Tx). bytes_eq wtxid (wtxid_of tx)) (take i txs) (x ∷ [])))

pub noting_ends : (txs : List Tx) (i : ℕ) (wtxid : List ℕ) (old : Bool) → length txs ≤ i → (old || has_wtxid_among wtxid (take i txs)) ≡ (old || has_wtxid_among wtxid txs)
noting_ends txs i wtxid old le = ap (λ l. old || has_wtxid_among wtxid l) (take_all i txs le)

-- ---- blocks that are noted

drop_push : {X : Type 0} (n : ℕ) (xs : List X) (x : X) → n ≤ length xs → drop n (xs ++ x ∷ []) ≡ drop n xs ++ x ∷ []
drop_push zero xs x le = refl
drop_push (suc n) [] x le = absurd (omega arith)
drop_push (suc n) (y ∷ xs) x le = drop_push n xs x (omega arith)

so_many : {X : Type 0} (xs : List X) (i : ℕ) (x : X) → slice_get xs i ≡ Some x → length (take i xs) ≡ i
so_many [] i x e = absurd cc
so_many (y ∷ xs) zero x e = refl
so_many (y ∷ xs) (suc i) x e = let h = so_many xs i x e in omega arith

take_past : {X : Type 0} (xs : List X) (i : ℕ) → slice_get xs i ≡ None → take (suc i) xs ≡ take i xs
take_past [] zero e = refl
take_past [] (suc i) e = refl
take_past (y ∷ xs) zero e = absurd cc
take_past (y ∷ xs) (suc i) e = ap (λ l. y ∷ l) (take_past xs i e)

either_last : (a b : Bool) → (a || b) ≡ (a || (b || false))
either_last true b = refl
either_last false true = refl
either_last false false = refl

-- the block at a place is noted behind those below it
pub block_noted : (blocks : List Block) (place : ℕ) (b : Block) (txs : List Tx) (old new : List ℕ → Bool) → slice_get blocks place ≡ Some b → txs ≡ b.transactions
    → ((wtxid : List ℕ) → new wtxid ≡ (old wtxid || has_wtxid_among wtxid txs)) → Notes place blocks old new
block_noted blocks place b txs old new there own now = λ from wtxid le was.
    now wtxid ∙ (λ i. was i || has_wtxid_among wtxid (own i))
    ∙ either_last (list_any (confirms wtxid) (drop from (take place blocks))) (confirms wtxid b)
    ∙ sym (ap (list_any (confirms wtxid)) (ap (drop from) (take_one blocks place b there) ∙ drop_push from (take place blocks) b (let n = so_many blocks place b there in omega arith))
    ∙ list_any-append (confirms wtxid) (drop from (take place blocks)) (b ∷ []))

-- past the last block there is none
pub none_noted : (blocks : List Block) (place : ℕ) (old : List ℕ → Bool) → slice_get blocks place ≡ None → Notes place blocks old old
none_noted blocks place old past = λ from wtxid le was. was ∙ ap (λ l. list_any (confirms wtxid) (drop from l)) (sym (ap (λ k. take k blocks) (add-one place) ∙ take_past blocks place past))

-- ---- rows that are copied

turned : {X : Type 0} {x y : X} {b : Bool} → Decides b (x ≡ y) → Decides b (y ≡ x)
turned d = (λ e. sym (d.0 e), λ e. d.1 (sym e))

-- the `==` of subjects is symmetric
subject_swap : (a b : Subject) → subject_eq a b ≡ subject_eq b a
subject_swap a b =
    let swapped : (m n : ℕ) → eqb m n ≡ eqb n m = λ m n. same_from_decides (eqb m n) (eqb n m) (Decides-eqb m n) (turned (Decides-eqb n m)) in
    λ i. bytes_either a.wtxid b.wtxid i && swapped a.input b.input i

found_is : {X : Type 0} (x y : X) → Some x ≡ Some y → x ≡ y
found_is x y e = cc

at : (P : Subject → Type 0) (es : List (Subject × Verdict)) (i : ℕ) (e : Subject × Verdict) → AllByRecursion P (keys_of es) → slice_get es i ≡ Some e → P e.0
at P [] i e all is = absurd cc
at P (x ∷ es) zero e all is = subst (λ (y : Subject × Verdict). P y.0) (found_is x e is) all.0
at P (x ∷ es) (suc i) e all is = at P es i e all.1 is

-- of distinct subjects, the next is not among those before it
absent_next : (es : List (Subject × Verdict)) (i : ℕ) (e : Subject × Verdict) → IsDistinct subject_eq (keys_of es) → slice_get es i ≡ Some e → lookup (subject_eq e.0) (take i es) ≡ None
absent_next [] zero e d is = refl
absent_next [] (suc i) e d is = refl
absent_next (x ∷ es) zero e d is = refl
absent_next (x ∷ es) (suc i) e d is =
    let other : subject_eq x.0 e.0 ≡ false = at (λ k. subject_eq x.0 k ≡ false) es i e (IsDistinct-head subject_eq x.0 (keys_of es) d) is in
    ap (λ t. cond t (Some x.1) (lookup (subject_eq e.0) (take i es))) (subject_swap e.0 x.0 ∙ other) ∙ absent_next es i e (IsDistinct-tail subject_eq x.0 (keys_of es) d) is

-- one more row, behind copies of those before it
pub copied_row : (es copies new : List (Subject × Verdict)) (place : ℕ) (e : Subject × Verdict) → slice_get es place ≡ Some e
    → (lookup (subject_eq e.0) copies ≡ None → new ≡ copies ++ e ∷ []) → IsDistinct subject_eq (keys_of es) → copies ≡ take place es → new ≡ take (place + 1) es
copied_row es copies new place e is put d same =
    put (ap (lookup (subject_eq e.0)) same ∙ absent_next es place e d is) ∙ ap (λ l. l ++ e ∷ []) same ∙ sym (take_one es place e is)
