-- What goes and what stays, where entries that pass a test go with all that is below them.
use Rattle.std.proofs.Common.{◌≡◌, Bool, true, false, not, ◌&&◌, List, sym, ◌∙◌, subst}
use Rattle.std.specs.Prelude.{Contains}
use Rattle.std.specs.Str.{bytes_eq}
use Rattle.std.specs.List.{list_any}
use Rattle.std.specs.Cmp.Lexicographic.{bytes_decides}
use Rattle.std.proofs.lemmas.Bool.{true≢false, false_from_ne_true, not-true, and_from, and_parts}
use Rattle.std.proofs.lemmas.List.Elements.{All-contains, filter_passes}
use Rattle.gate_tx.specs.declared.TxIn.{TxIn}
use Rattle.gate_tx.specs.Ids.{txid_of}
use Rattle.gate_graph.specs.Family.{reaches}
use Rattle.gate_bytes.proofs.Members.{any_is, list_any_of}
use Rattle.gate_graph.proofs.Reaching.{reaches-same, reaches_trans, reaches_step}
use Rattle.gate_pool.specs.Pool.{Admitted}
use Rattle.gate_pool.specs.Family.{steps, names, is_below_some, all_below, without_below}
use Rattle.gate_pool.proofs.Entries.{Id, entry_step}
use Rattle.gate_pool.proofs.Walking.{Contains-from_filter}

-- an id is below an entry that passes a test, or is its own
abbrev pub is_below : (Admitted → Bool) → List Admitted → Id → Bool
is_below test entries txid = list_any (λ (a : Admitted). test a && reaches (steps entries) (txid_of a.tx) txid) entries

-- what is below them takes with it all that is below
pub below_some_closed : (test : Admitted → Bool) (entries : List Admitted) (a b : Id) → Contains (steps entries) (a, b) → is_below test entries a ≡ true → is_below test entries b ≡ true
below_some_closed test entries a b step h =
    let w = any_is (λ (e : Admitted). test e && reaches (steps entries) (txid_of e.tx) a) entries h in
    let p = and_parts _ _ w.2 in
    list_any_of (λ (e : Admitted). test e && reaches (steps entries) (txid_of e.tx) b) entries w.0 w.1
    (and_from _ _ p.0 (reaches_trans (steps entries) (txid_of w.0.tx) a b p.1 (reaches_step (steps entries) a b step)))

-- an entry that stays is below none of them
pub stays_beside : (test : Admitted → Bool) (entries : List Admitted) (e : Admitted) → Contains (without_below test entries) e → is_below test entries (txid_of e.tx) ≡ false
stays_beside test entries e m = not-true _ (All-contains (λ (a : Admitted). not (is_below_some test entries a) ≡ true) (without_below test entries) e (filter_passes (λ (a : Admitted). not (is_below_some test entries a)) entries) m)

-- an entry that goes is below one
pub goes_below : (test : Admitted → Bool) (entries : List Admitted) (e : Admitted) → Contains (all_below test entries) e → is_below test entries (txid_of e.tx) ≡ true
goes_below test entries e m = All-contains (λ (a : Admitted). is_below_some test entries a ≡ true) (all_below test entries) e (filter_passes (is_below_some test entries) entries) m

-- an entry that stays was there
pub stays_within : (test : Admitted → Bool) (entries : List Admitted) (e : Admitted) → Contains (without_below test entries) e → Contains entries e
stays_within test entries e m = Contains-from_filter (λ (a : Admitted). not (is_below_some test entries a)) entries e m

-- an entry that stays does not pass the test
pub stays_apart : (test : Admitted → Bool) (entries : List Admitted) (e : Admitted) → Contains (without_below test entries) e → test e ≡ false
stays_apart test entries e m = false_from_ne_true _ (λ t.
    true≢false (sym (list_any_of (λ (a : Admitted). test a && reaches (steps entries) (txid_of a.tx) (txid_of e.tx)) entries e (stays_within test entries e m) (and_from _ _ t (reaches-same (steps entries) (txid_of e.tx))))
    ∙ stays_beside test entries e m))

-- an entry that names an id is a step below it
pub named_step : (entries : List Admitted) (e : Admitted) (txid : Id) → Contains entries e → names e txid ≡ true → Contains (steps entries) (txid, txid_of e.tx)
named_step entries e txid member named =
    let i = any_is (λ (i : TxIn). bytes_eq i.prevout.txid txid) e.tx.inputs named in
    subst (λ (a : Id). Contains (steps entries) (a, txid_of e.tx)) ((bytes_decides i.0.prevout.txid txid).0 i.2) (entry_step entries e i.0 member i.1)
