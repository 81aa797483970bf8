-- What the parents of a transaction in the pool say of its ancestors.
use Rattle.std.proofs.Common.{◌≡◌, ℕ, ◌≤◌, false, is_some, List, [], ◌∷◌, length, max, refl, arith}
use Rattle.std.specs.Prelude.{Contains}
use Rattle.std.specs.List.{list_any}
use Rattle.std.specs.Ordering.{nat_cmp, ord_max}
use Rattle.gate_tx.specs.declared.TxIn.{TxIn}
use Rattle.gate_tx.specs.Ids.{txid_of}
use Rattle.gate_graph.specs.Family.{reaches, Leads, here, down}
use Rattle.gate_bytes.proofs.Members.{Contains-head, any_is, list_any_of}
use Rattle.gate_graph.proofs.Reaching.{Leads_from_reaches}
use Rattle.gate_pool.specs.Pool.{Admitted, entry_by_txid}
use Rattle.gate_pool.specs.Family.{steps, ancestors_of, ancestors_above}
use Rattle.gate_pool.specs.Search.{IsEntry}
use Rattle.gate_pool.proofs.Adding.{passed}
use Rattle.gate_pool.proofs.Entries.{Id, step_entry}
use Rattle.gate_pool.proofs.Searching.{entry_absent}
use Rattle.gate_pool.proofs.Walking.{Contains-filter, Contains-from_filter}
use Rattle.gate_admit.proofs.Families.{fewer}

nothing_there : {X : Type 0} (xs : List X) → ((x : X) → Contains xs x → ⊥) → xs ≡ []
nothing_there [] h = refl
nothing_there (x ∷ xs) h = absurd (h x (Contains-head x xs))

some_there : {X : Type 0} (xs : List X) (x : X) → Contains xs x → 1 ≤ length xs
some_there xs x m = let l = m.1 in omega arith

-- the greater of two numbers, as code finds it
pub greater_is : (a b m : ℕ) → m ≡ ord_max nat_cmp a b → m ≡ max a b
greater_is a b m is = grind (arith)

-- a chain of steps leads from an entry to entries only
leads_to_entry : (g : List Admitted) {a b : Id} → Leads (steps g) a b → IsEntry g a → IsEntry g b
leads_to_entry g here has = has
leads_to_entry g (down {a = a} {b = b} s k) has = let v = step_entry g a b s in leads_to_entry g k (v.entry, v.member, v.child)

-- nothing is above an id that no entry has
pub none_above : (g : List Admitted) (x : Id) → is_some (entry_by_txid g x) ≡ false → ancestors_of g x ≡ []
none_above g x absent =
    nothing_there (ancestors_of g x) (λ e m.
    let leads = Leads_from_reaches (steps g) (txid_of e.tx) x (passed (λ (d : Admitted). reaches (steps g) (txid_of d.tx) x) g e m) in
    entry_absent g x absent (leads_to_entry g leads (e, Contains-from_filter (λ (d : Admitted). reaches (steps g) (txid_of d.tx) x) g e m, refl)))

-- what is above one of the inputs is above all of them
pub above_one : (g : List Admitted) (inputs : List TxIn) (i : TxIn) → Contains inputs i → length (ancestors_of g i.prevout.txid) ≤ length (ancestors_above g inputs)
above_one g inputs i m =
    fewer (λ (e : Admitted). reaches (steps g) (txid_of e.tx) i.prevout.txid) (λ (e : Admitted). list_any (λ (j : TxIn). reaches (steps g) (txid_of e.tx) j.prevout.txid) inputs) g
    (λ e c r. list_any_of (λ (j : TxIn). reaches (steps g) (txid_of e.tx) j.prevout.txid) inputs i m r)

-- where nothing is above any of the inputs, nothing is above them
pub above_none : (g : List Admitted) (inputs : List TxIn) → ((i : TxIn) → Contains inputs i → length (ancestors_of g i.prevout.txid) ≤ 0) → ancestors_above g inputs ≡ []
above_none g inputs none =
    nothing_there (ancestors_above g inputs) (λ e m.
    let w = any_is (λ (i : TxIn). reaches (steps g) (txid_of e.tx) i.prevout.txid) inputs (passed (λ (d : Admitted). list_any (λ (i : TxIn). reaches (steps g) (txid_of d.tx) i.prevout.txid) inputs) g e m) in
    let member = Contains-from_filter (λ (d : Admitted). list_any (λ (i : TxIn). reaches (steps g) (txid_of d.tx) i.prevout.txid) inputs) g e m in
    let above = Contains-filter (λ (d : Admitted). reaches (steps g) (txid_of d.tx) w.0.prevout.txid) g e member w.2 in
    omega (arith, none w.0 w.1, some_there (ancestors_of g w.0.prevout.txid) e above))
