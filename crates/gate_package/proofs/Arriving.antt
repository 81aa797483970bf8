-- Those that enter together, one after another: each is new, and replaces nothing.
use Rattle.std.proofs.Common.{◌≡◌, ℕ, Bool, false, ◌||◌, List, [], ◌∷◌, ◌++◌, length, Some, None, Ok, refl, sym, ap, ◌∙◌, subst, append_assoc, ⊎_elim}
use Rattle.std.specs.Prelude.{◌+◌, ◌==◌, ◌&&◌, Contains, find, is_some}
use Rattle.std.specs.List.{list_any}
use Rattle.std.specs.Option.{option_or}
use Rattle.std.specs.Str.{bytes_eq}
use Rattle.std.specs.Cmp.Lexicographic.{bytes_decides}
use Rattle.std.proofs.lemmas.Bool.{and_parts, cond-false, false_from_ne_true, or_parts, true≢false}
use Rattle.std.proofs.lemmas.List.Elements.{All-contains}
use Rattle.std.proofs.lemmas.List.Folds.{find-append}
use Rattle.gate_bytes.specs.Order.{first_failing}
use Rattle.gate_bytes.proofs.Members.{Contains-cons_cases, Contains-head, Contains-rest, any_is, not_in_none}
use Rattle.gate_tx.specs.declared.TxIn.{TxIn}
use Rattle.gate_tx.specs.Coins.{spends}
use Rattle.gate_tx.specs.Ids.{txid_of, wtxid_of}
use Rattle.gate_tx.specs.Tx.{Tx}
use Rattle.gate_pool.specs.Counting.{entered_beside, is_counted, is_sibling, replaced_beside}
use Rattle.gate_graph.proofs.Filters.{filter_none}
use Rattle.gate_graph.specs.Family.{reaches}
use Rattle.gate_pool.specs.Family.{is_below_some, is_conflict, steps}
use Rattle.gate_pool.specs.Pool.{Admitted, entry_by_txid, entry_by_wtxid, has_txid, has_wtxid, listing_of, spender_of}
use Rattle.gate_pool.proofs.Entries.{find_none}
use Rattle.gate_pool.proofs.Removals.{without_below-none}
use Rattle.gate_admit.specs.Standing.{Standing}
use Rattle.gate_admit.proofs.Lists.{none_pass}
use Rattle.gate_diagram.specs.declared.Price.{Price}
use Rattle.gate_package.specs.declared.role.Role.TheVariants.{Together}
use Rattle.gate_package.specs.Judging.{fee_beside, half_rules, replaces_one, vsize_beside}
use Rattle.gate_package.specs.Packages.{AreAbsent, AreNewcomers, IsAbsent, newcomers}
use Rattle.gate_package.specs.Shapes.{has_conflict, has_duplicates, has_same_id, shares_input}
use Rattle.gate_package.specs.Together.{halves_of, replaces_some, together_of}
use Rattle.gate_package.proofs.Joining.{StandsFree, checked, none_there, not_found, priced}
use Rattle.gate_package.proofs.Belonging.{half_absent, half_passes, neither}

-- ---- an entry that replaces nothing

no_spender : (entries : List Admitted) (tx : Tx) (i : TxIn) → replaces_one entries tx ≡ false → Contains tx.inputs i → spender_of entries i.prevout ≡ None
no_spender entries tx i h c =
    none_there (spender_of entries i.prevout)
    (All-contains (λ (j : TxIn). is_some (spender_of entries j.prevout) ≡ false) tx.inputs i (none_pass (λ (j : TxIn). is_some (spender_of entries j.prevout)) tx.inputs h) c)

-- it conflicts with no entry
pub conflicts_none : (entries : List Admitted) (tx : Tx) (a : Admitted) → replaces_one entries tx ≡ false → Contains entries a → is_conflict tx a ≡ false
conflicts_none entries tx a h c =
    false_from_ne_true _ (λ t.
    let w = any_is (λ (i : TxIn). spends a.tx.inputs i.prevout) tx.inputs t in
    true≢false (sym w.2 ∙ find_none (λ (x : Admitted). spends x.tx.inputs w.0.prevout) entries (no_spender entries tx w.0 h w.1) a c))

unopposed : (entries : List Admitted) (tx : Tx) (a : Admitted) → replaces_one entries tx ≡ false → Contains entries a → is_counted None tx a ≡ false
unopposed entries tx a h c = neither (is_sibling None a) (is_conflict tx a) refl (conflicts_none entries tx a h c)

pub enters_plainly : (entries : List Admitted) (e : Admitted) → replaces_one entries e.tx ≡ false → entered_beside entries None e ≡ entries ++ e ∷ []
enters_plainly entries e h =
    ap (λ l. l ++ e ∷ []) (without_below-none (is_counted None e.tx) entries (not_found (is_counted None e.tx) entries (λ a c. unopposed entries e.tx a h c)))

-- it replaces none
pub replaces_nothing : (entries : List Admitted) (e : Admitted) → replaces_one entries e.tx ≡ false → [] ≡ listing_of (replaced_beside entries None e.tx)
replaces_nothing entries e h =
    sym (ap listing_of (filter_none (is_below_some (is_counted None e.tx) entries) entries (λ a c.
    false_from_ne_true _ (λ t.
    let w = any_is (λ b. is_counted None e.tx b && reaches (steps entries) (txid_of b.tx) (txid_of a.tx)) entries t in
    true≢false (sym (and_parts _ _ w.2).0 ∙ unopposed entries e.tx w.0 h w.1)))))

-- ---- the first of them, and the others behind it

pub first_absent : (entries : List Admitted) (e : Admitted) (txs : List Tx) → AreNewcomers entries (e.tx ∷ txs) → IsAbsent entries e
first_absent entries e txs h = let both = h.absent e.tx (Contains-head e.tx txs) in record { txid = both.0; wtxid = both.1 }

pub first_alone : (entries : List Admitted) (tx : Tx) (txs : List Tx) → AreNewcomers entries (tx ∷ txs) → replaces_one entries tx ≡ false
first_alone entries tx txs h = (or_parts (replaces_one entries tx) (replaces_some entries txs) h.replace_none).0

-- the search of an id, where one more entry has another
found_behind : (entries : List Admitted) (e : Admitted) (p : Admitted → Bool) → find p entries ≡ None → p e ≡ false → find p (entries ++ e ∷ []) ≡ None
found_behind entries e p none other = find-append p entries (e ∷ []) ∙ (ap (λ o. option_or o (find p (e ∷ []))) none ∙ cond-false (p e) (Some e) None other)

flipped : (a b : List ℕ) → bytes_eq a b ≡ false → bytes_eq b a ≡ false
flipped a b h = false_from_ne_true _ (λ t. true≢false (sym ((bytes_decides a b).1 (sym ((bytes_decides b a).0 t))) ∙ h))

pub others_behind : (entries : List Admitted) (e : Admitted) (txs : List Tx) → AreNewcomers entries (e.tx ∷ txs) → AreNewcomers (entries ++ e ∷ []) txs
others_behind entries e txs h =
    let ids = or_parts (list_any (has_same_id e.tx) txs) (has_duplicates txs) h.distinct in
    let some = or_parts (length e.tx.inputs == 0) (list_any (shares_input e.tx.inputs) txs || has_conflict txs) h.apart in
    let inputs = or_parts (list_any (shares_input e.tx.inputs) txs) (has_conflict txs) some.1 in
    let alone = or_parts (replaces_one entries e.tx) (replaces_some entries txs) h.replace_none in
    record {
      absent = λ tx c.
          let old = h.absent tx (Contains-rest e.tx txs tx c) in
          let same = or_parts (bytes_eq (txid_of tx) (txid_of e.tx)) (bytes_eq (wtxid_of tx) (wtxid_of e.tx)) (All-contains (λ (t : Tx). has_same_id e.tx t ≡ false) txs tx (none_pass (has_same_id e.tx) txs ids.0) c) in (
            found_behind entries e (λ (x : Admitted). has_txid x (txid_of tx)) old.0 (flipped (txid_of tx) (txid_of e.tx) same.0),
            found_behind entries e (λ (x : Admitted). has_wtxid x (wtxid_of tx)) old.1 (flipped (wtxid_of tx) (wtxid_of e.tx) same.1),
          );
      replace_none =
          false_from_ne_true _ (λ t.
          let w = any_is (replaces_one (entries ++ e ∷ [])) txs t in
          let i = any_is (λ (j : TxIn). is_some (spender_of (entries ++ e ∷ []) j.prevout)) w.0.inputs w.2 in
          let old : spender_of entries i.0.prevout ≡ None = no_spender entries w.0 i.0 (All-contains (λ (x : Tx). replaces_one entries x ≡ false) txs w.0 (none_pass (replaces_one entries) txs alone.1) w.1) i.1 in
          let unshared : shares_input e.tx.inputs w.0 ≡ false = All-contains (λ (x : Tx). shares_input e.tx.inputs x ≡ false) txs w.0 (none_pass (shares_input e.tx.inputs) txs inputs.0) w.1 in
          let other : spends e.tx.inputs i.0.prevout ≡ false = All-contains (λ (j : TxIn). spends e.tx.inputs j.prevout ≡ false) w.0.inputs i.0 (none_pass (λ (j : TxIn). spends e.tx.inputs j.prevout) w.0.inputs unshared) i.1 in
          true≢false (sym i.2 ∙ ap is_some (found_behind entries e (λ (x : Admitted). spends x.tx.inputs i.0.prevout) old other)));
      distinct = ids.1;
      apart = inputs.1;
    }

-- the newcomers, once an entry has the transaction of the first of them
pub led_by : (entries : List Admitted) (tx : Tx) (all txs : List Tx) (e : Admitted) → AreNewcomers entries all → all ≡ tx ∷ txs → e.tx ≡ tx → AreNewcomers entries (e.tx ∷ txs)
led_by entries tx all txs e new is same = subst (λ (l : List Tx). AreNewcomers entries l) (is ∙ ap (λ (t : Tx). t ∷ txs) (sym same)) new

-- the entries of all are that of the first, and those of the others
pub newcomers_first : (now : ℕ) (tx : Tx) (all txs : List Tx) (price : Price) (prices rest : List Price) (e : Admitted) → all ≡ tx ∷ txs → prices ≡ price ∷ rest
    → e ≡ record { tx = tx; fee = price.fee; vsize = price.vsize; time = now } → newcomers now all prices ≡ e ∷ newcomers now txs rest
newcomers_first now tx all txs price prices rest e is priced made =
    ap (λ (l : List Tx). newcomers now l prices) is
    ∙ (ap (λ (l : List Price). newcomers now (tx ∷ txs) l) priced ∙ ap (λ (a : Admitted). a ∷ newcomers now txs rest) (sym made))

-- the others stand behind the first
pub all_behind : (entries after last : List Admitted) (e : Admitted) (all others : List Admitted) → after ≡ entries ++ e ∷ [] → all ≡ e ∷ others → last ≡ after ++ others → last ≡ entries ++ all
all_behind entries after last e all others first is behind =
    behind ∙ (ap (λ (l : List Admitted). l ++ others) first ∙ (append_assoc entries (e ∷ []) others ∙ ap (λ (l : List Admitted). entries ++ l) (sym is)))

-- ---- those that are granted together

all_absent : (max_rate : ℕ) (over : Standing) (before : List Tx) (place : ℕ) (txs : List Tx) (prices : List Price) → halves_of max_rate over before place txs ≡ Ok prices → (tx : Tx) → Contains txs tx
    → (entry_by_txid over.entries (txid_of tx) ≡ None) × (entry_by_wtxid over.entries (wtxid_of tx) ≡ None)
all_absent max_rate over before place [] prices h tx c = not_in_none tx c
all_absent max_rate over before place (first ∷ txs) prices h tx c =
    let price : Price = record { fee = fee_beside before over first; vsize = vsize_beside before over first } in
    let found = priced place price (first_failing (half_rules Together max_rate before over first)) (halves_of max_rate over (before ++ first ∷ []) (place + 1) txs) prices h in
    ⊎_elim
    (λ (same : first ≡ tx). subst (λ (t : Tx). (entry_by_txid over.entries (txid_of t) ≡ None) × (entry_by_wtxid over.entries (wtxid_of t) ≡ None)) same
    (half_absent before over first (half_passes Together max_rate before over first found.passes)))
    (λ (k : Contains txs tx). all_absent max_rate over (before ++ first ∷ []) (place + 1) txs found.rest found.behind tx k)
    (Contains-cons_cases first txs tx c)

pub together_absent : (max_rate : ℕ) (over : Standing) (txs : List Tx) (prices : List Price) → together_of max_rate over txs ≡ Ok prices → AreAbsent over.entries txs
unfolding together_of
together_absent max_rate over txs prices h = all_absent max_rate over [] 0 txs prices (checked over txs (halves_of max_rate over [] 0 txs) prices h).0

pub together_new : (max_rate : ℕ) (over : Standing) (txs : List Tx) (prices : List Price) → StandsFree max_rate over txs prices → has_duplicates txs ≡ false → has_conflict txs ≡ false → AreNewcomers over.entries txs
together_new max_rate over txs prices h distinct apart = record { absent = all_absent max_rate over [] 0 txs prices h.halves; replace_none = h.none; distinct = distinct; apart = apart }
