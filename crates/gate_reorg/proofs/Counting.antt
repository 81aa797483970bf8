-- How many entries of one list another lacks, where this is a part of it.
use Rattle.std.proofs.Common.{◌≡◌, ℕ, ◌+◌, Bool, true, false, not, ◌&&◌, cond, List, [], ◌∷◌, length, refl, sym, ap, ◌∙◌, true≢false, arith}
use Rattle.std.specs.Prelude.{Contains, filter, is_none}
use Rattle.std.specs.Cmp.Lexicographic.{bytes_decides}
use Rattle.std.proofs.lemmas.Bool.{false_from_ne_true}
use Rattle.std.proofs.lemmas.List.Filters.{length-filter_both}
use Rattle.std.proofs.lemmas.List.Kept.{AllPairs-filter}
use Rattle.gate_tx.specs.Ids.{txid_of}
use Rattle.gate_tx.specs.Tx.{Tx}
use Rattle.gate_pool.specs.Pool.{Admitted, has_txid, entry_by_txid, listing_of}
use Rattle.gate_pool.specs.Family.{is_conflict, is_below_some}
use Rattle.gate_pool.specs.Distinct.{AreDistinct}
use Rattle.gate_pool.proofs.Adding.{DifferById, found_by_id, same_kept, passed}
use Rattle.gate_pool.proofs.Conflicts.{find_absent}
use Rattle.gate_pool.proofs.Ids.{same_entry}
use Rattle.gate_pool.proofs.Removals.{filter_twice}
use Rattle.gate_pool.proofs.Walking.{Contains-filter, Contains-from_filter}
use Rattle.gate_reorg.specs.Reorganisation.{without_txid, confirmed, all_confirmed}
use Rattle.gate_submission.specs.declared.moved.Moved.{Moved}
use Rattle.gate_reorg.specs.Events.{count_beyond, moved_from}

-- ---- counted by ids

pub length-listing : (p : List ℕ → Bool) (entries : List Admitted) → length (filter p (listing_of entries)) ≡ length (filter (λ (e : Admitted). p (txid_of e.tx)) entries)
length-listing p [] = refl
length-listing p (e ∷ entries) = go (p (txid_of e.tx)) (length-listing p entries)
  where
    go : (b : Bool) → length (filter p (listing_of entries)) ≡ length (filter (λ (e : Admitted). p (txid_of e.tx)) entries)
        → length (cond b (txid_of e.tx ∷ filter p (listing_of entries)) (filter p (listing_of entries))) ≡ length (cond b (e ∷ filter (λ (e : Admitted). p (txid_of e.tx)) entries) (filter (λ (e : Admitted). p (txid_of e.tx)) entries))
    go true ih = omega arith
    go false ih = ih

-- ---- what is left of a list, in its order

pub record IsPart (part whole : List Admitted) : Type 0 where
  pub keeps : Admitted → Bool
  pub is : part ≡ filter keeps whole

all_kept : (entries : List Admitted) → entries ≡ filter (λ (e : Admitted). true) entries
all_kept [] = refl
all_kept (e ∷ entries) = ap (λ l. e ∷ l) (all_kept entries)

pub IsPart-self : (entries : List Admitted) → IsPart entries entries
IsPart-self entries = record { keeps = λ e. true; is = all_kept entries }

pub IsPart-filter : (p : Admitted → Bool) {part whole : List Admitted} → IsPart part whole → IsPart (filter p part) whole
IsPart-filter p {part} {whole} h = record {
  keeps = λ e. h.keeps e && p e;
  is = ap (filter p) h.is ∙ filter_twice p h.keeps (λ e. h.keeps e && p e) whole (λ e m k. sym (ap (λ b. b && p e) k)) (λ e m k. ap (λ b. b && p e) k);
}

confirmed_part : (entries : List Admitted) (tx : Tx) {whole : List Admitted} → IsPart entries whole → IsPart (confirmed entries tx) whole
unfolding confirmed
confirmed_part entries tx h =
    let rest = without_txid entries (txid_of tx) in
    IsPart-filter (λ e. not (is_below_some (is_conflict tx) rest e)) (IsPart-filter (λ e. not (has_txid e (txid_of tx))) h)

pub all_confirmed_part : (txs : List Tx) (entries whole : List Admitted) → IsPart entries whole → IsPart (all_confirmed entries txs) whole
all_confirmed_part [] entries whole h = h
all_confirmed_part (tx ∷ txs) entries whole h = all_confirmed_part txs (confirmed entries tx) whole (confirmed_part entries tx h)

-- ---- counted

none_pass : (p : Admitted → Bool) (entries : List Admitted) → ((e : Admitted) → Contains entries e → p e ≡ false) → length (filter p entries) ≡ 0
none_pass p entries h = ap length (same_kept p (λ e. false) entries h ∙ nothing entries)
  where
    nothing : (entries : List Admitted) → filter (λ (e : Admitted). false) entries ≡ []
    nothing [] = refl
    nothing (e ∷ entries) = nothing entries

-- what is left has no new ids
none_beyond : (whole : List Admitted) → AreDistinct whole → (k : Admitted → Bool) → count_beyond (filter k whole) whole ≡ 0
none_beyond whole distinct k = none_pass _ (filter k whole) (λ e m. ap is_none (found_by_id whole distinct.txids e (Contains-from_filter k whole e m)))

lacking : (whole : List Admitted) → AreDistinct whole → (k : Admitted → Bool) (e : Admitted) → Contains whole e → (b : Bool) → k e ≡ b → is_none (entry_by_txid (filter k whole) (txid_of e.tx)) ≡ not b
lacking whole distinct k e m true is =
    ap is_none (found_by_id (filter k whole) (AllPairs-filter DifferById k whole distinct.txids) e (Contains-filter k whole e m is))
lacking whole distinct k e m false is =
    ap is_none (find_absent (λ (d : Admitted). has_txid d (txid_of e.tx)) (filter k whole) (λ d n. false_from_ne_true _ (λ t.
    let one : d ≡ e = same_entry whole distinct d e (Contains-from_filter k whole d n) m ((bytes_decides (txid_of d.tx) (txid_of e.tx)).0 t) in
    absurd (true≢false (sym (passed k whole d n) ∙ ap k one ∙ is)))))

-- the ids that are lost are those of all that went
rest_beyond : (whole : List Admitted) → AreDistinct whole → (k : Admitted → Bool) → length (filter k whole) + count_beyond whole (filter k whole) ≡ length whole
rest_beyond whole distinct k =
    ap (λ l. length (filter k whole) + length l) (same_kept (λ (e : Admitted). is_none (entry_by_txid (filter k whole) (txid_of e.tx))) (λ e. not (k e)) whole (λ e m. lacking whole distinct k e m (k e) refl))
    ∙ length-filter_both k (λ e. not (k e)) (λ e. refl) whole

-- after transactions were confirmed no id is new, and the entries are fewer by those that are lost
pub record IsFewer (before after : List Admitted) : Type 0 where
  pub new : count_beyond after before ≡ 0
  pub lost : length after + count_beyond before after ≡ length before

fewer_part : (after before : List Admitted) → AreDistinct before → IsPart after before → IsFewer before after
fewer_part after before distinct h = record {
  new = ap (λ l. count_beyond l before) h.is ∙ none_beyond before distinct h.keeps;
  lost = ap (λ l. length l + count_beyond before l) h.is ∙ rest_beyond before distinct h.keeps;
}

pub fewer_confirmed : (before : List Admitted) (txs : List Tx) → AreDistinct before → IsFewer before (all_confirmed before txs)
fewer_confirmed before txs distinct = fewer_part (all_confirmed before txs) before distinct (all_confirmed_part txs before before (IsPart-self before))

-- a change by which no id is new comes to what was lost
pub only_taken : (before after : List Admitted) (tip under lost : ℕ) → tip ≡ under → lost ≡ count_beyond before after → count_beyond after before ≡ 0
    → moved_from under before after ≡ record { tip = tip; removed = lost; entered = 0 }
only_taken before after tip under lost top gone none =
    let moved : Moved = record { tip = tip; removed = lost; entered = 0 } in
    let same : moved ≡ moved_from under before after = λ j. record { tip = top j; removed = gone j; entered = sym none j } in
    sym same
