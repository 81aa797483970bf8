-- A list of transactions, tested one behind another.
use Rattle.std.proofs.Common.{◌≡◌, ℕ, Bool, true, false, not, List, [], ◌∷◌, ◌++◌, Option, Some, None, Result, Ok, Err, if◌then◌else◌, refl, sym, ap, ◌∙◌, cond}
use Rattle.std.specs.Prelude.{filter, Contains, IfOk, is_some}
use Rattle.std.proofs.lemmas.Bool.{true≢false}
use Rattle.std.specs.List.{list_any}
use Rattle.std.specs.Cmp.Lexicographic.{bytes_decides}
use Rattle.gate_bytes.proofs.Members.{list_any_of}
use Rattle.gate_tx.specs.declared.TxIn.{TxIn}
use Rattle.gate_tx.specs.Ids.{txid_of}
use Rattle.gate_tx.specs.Tx.{Tx}
use Rattle.gate_rules.specs.declared.Denial.{Denial}
use Rattle.gate_rules.specs.declared.Denial.TheVariants.{MempoolConflict, TrucViolation}
use Rattle.gate_pool.specs.Keeping.{IsNew}
use Rattle.gate_pool.specs.Pool.{Admitted, entry_by_txid, has_txid, spender_of}
use Rattle.gate_admit.specs.Bounds.{FitsAnEntry}
use Rattle.gate_admit.specs.declared.Grant.{Grant}
use Rattle.gate_admit.specs.declared.Attempt.TheVariants.{First}
use Rattle.gate_admit.specs.Rules.{decision_of}
use Rattle.gate_admit.specs.Standing.{Standing}
use Rattle.gate_admit.specs.Submission.{admitted}
use Rattle.gate_admit.proofs.Granted.{granted_absent}
use Rattle.gate_query.specs.Queries.{has_conflict, is_from_conflict, is_from_sibling, unevicting, unreplacing}

-- without the entry of an id that no entry has, the entries are the same
none_left : (entries : List Admitted) (txid : List ℕ) → entry_by_txid entries txid ≡ None → filter (λ (a : Admitted). not (has_txid a txid)) entries ≡ entries
none_left [] txid h = refl
none_left (e ∷ entries) txid h = by (has_txid e txid) h (λ k. none_left entries txid k)
  where
    by : (b : Bool) → cond b (Some e) (entry_by_txid entries txid) ≡ None → (entry_by_txid entries txid ≡ None → filter (λ (a : Admitted). not (has_txid a txid)) entries ≡ entries)
        → cond (not b) (e ∷ filter (λ (a : Admitted). not (has_txid a txid)) entries) (filter (λ (a : Admitted). not (has_txid a txid)) entries) ≡ e ∷ entries
    by true k ih = absurd (cc)
    by false k ih = ap (λ l. e ∷ l) (ih k)

own_id : (e : Admitted) → has_txid e (txid_of e.tx) ≡ true
own_id e = (bytes_decides (txid_of e.tx) (txid_of e.tx)).1 refl

filtered_end : (p : Admitted → Bool) (entries : List Admitted) (e : Admitted) → p e ≡ false → filter p (entries ++ e ∷ []) ≡ filter p entries
filtered_end p [] e h = ap (λ b. cond b (e ∷ []) []) h
filtered_end p (x ∷ entries) e h = λ i. cond (p x) (x ∷ filtered_end p entries e h i) (filtered_end p entries e h i)

-- an entry that came last leaves what was there before
last_left : (entries : List Admitted) (e : Admitted) → entry_by_txid entries (txid_of e.tx) ≡ None → filter (λ (a : Admitted). not (has_txid a (txid_of e.tx))) (entries ++ e ∷ []) ≡ entries
last_left entries e h =
    filtered_end (λ (a : Admitted). not (has_txid a (txid_of e.tx))) entries e (ap not (own_id e)) ∙ none_left entries (txid_of e.tx) h

-- an entry that came in and left again leaves the entries as they were
pub left_again : (before among after left : List Admitted) (e : Admitted) (txid : List ℕ) → IsNew before e → among ≡ before ++ e ∷ [] → after ≡ among → txid ≡ txid_of e.tx
    → left ≡ filter (λ (a : Admitted). not (has_txid a txid)) after → left ≡ before
left_again before among after left e txid new came kept id is =
    is ∙ (λ i. filter (λ (a : Admitted). not (has_txid a (id i))) ((kept ∙ came) i)) ∙ last_left before e new.txid

-- ---- the decision where nothing is replaced

fits_either : (b : Bool) (d e : Denial) → FitsAnEntry (if b then Err d else Err e)
fits_either true d e = tt
fits_either false d e = tt

pub unreplacing_fits : (b : Bool) (decision : Result Grant Denial) → FitsAnEntry decision → FitsAnEntry (unreplacing b decision)
unreplacing_fits false decision fits = fits
unreplacing_fits true (Ok grant) fits = tt
unreplacing_fits true (Err denial) fits = fits_either (is_from_conflict denial) MempoolConflict denial

-- what no entry spends
no_spender : (entries : List Admitted) (inputs : List TxIn) → list_any (λ (i : TxIn). is_some (spender_of entries i.prevout)) inputs ≡ false → (i : TxIn) → Contains inputs i → spender_of entries i.prevout ≡ None
no_spender entries inputs none i c = by (spender_of entries i.prevout) refl
  where
    by : (o : Option Admitted) → spender_of entries i.prevout ≡ o → spender_of entries i.prevout ≡ None
    by None is = is
    by (Some e) is = absurd (true≢false (sym (list_any_of (λ (j : TxIn). is_some (spender_of entries j.prevout)) inputs i c (ap is_some is)) ∙ none))

-- what is granted where nothing is replaced is new
new_either : (over : Standing) (now : ℕ) (tx : Tx) (b : Bool) (d e : Denial) → IfOk (if b then Err d else Err e) (λ (grant : Grant). IsNew over.entries (admitted tx grant now))
new_either over now tx true d e = tt
new_either over now tx false d e = tt

pub grants_new : (over : Standing) (now : ℕ) (tx : Tx) (b : Bool) (decision : Result Grant Denial) → decision ≡ decision_of First over (Some tx) → b ≡ has_conflict over.entries tx
    → IfOk (unreplacing b decision) (λ (grant : Grant). IsNew over.entries (admitted tx grant now))
grants_new over now tx true (Ok grant) is found = tt
grants_new over now tx true (Err denial) is found = new_either over now tx (is_from_conflict denial) MempoolConflict denial
grants_new over now tx false (Err denial) is found = tt
grants_new over now tx false (Ok grant) is found =
    let absent = granted_absent First over tx grant is in
    record { txid = absent.0; wtxid = absent.1; points = no_spender over.entries tx.inputs (sym found) }

-- ---- the decision where no sibling is evicted either

pub unevicting_fits : (b : Bool) (decision : Result Grant Denial) → FitsAnEntry decision → FitsAnEntry (unevicting b decision)
unevicting_fits false decision fits = fits
unevicting_fits true (Ok grant) fits = tt
unevicting_fits true (Err denial) fits = fits_either (is_from_sibling denial) TrucViolation denial

-- what holds of what is granted holds of it where less is granted
pub unevicting_new : (over : Standing) (now : ℕ) (tx : Tx) (b : Bool) (decision : Result Grant Denial) → IfOk decision (λ (grant : Grant). IsNew over.entries (admitted tx grant now))
    → IfOk (unevicting b decision) (λ (grant : Grant). IsNew over.entries (admitted tx grant now))
unevicting_new over now tx false decision new = new
unevicting_new over now tx true (Ok grant) new = tt
unevicting_new over now tx true (Err denial) new = new_either over now tx (is_from_sibling denial) TrucViolation denial
