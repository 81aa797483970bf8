-- How many descendants entries have together, id by id.
use Rattle.std.proofs.Common.{◌≡◌, ℕ, ◌+◌, ◌<◌, ◌≤◌, Bool, List, [], ◌∷◌, length, take, get_or, sym, ap, ◌∙◌, subst, arith, true, false, refl, is_some, Option, Some, None, true≢false}
use Rattle.std.specs.Prelude.{Contains, filter, nat_lt}
use Rattle.std.proofs.lemmas.Bool.{false_from_ne_true}
use Rattle.std.proofs.lemmas.Bool.Decides.{Decides-ltb}
use Rattle.std.proofs.lemmas.List.Sums.{sum_by_more, sum_by-take-le, sum_by-cons}
use Rattle.gate_tx.specs.Ids.{txid_of}
use Rattle.gate_bytes.proofs.Members.{Contains-head, Contains-rest}
use Rattle.gate_graph.proofs.Reaching.{reaches-same}
use Rattle.gate_graph.specs.Family.{reaches}
use Rattle.std.specs.Cmp.Lexicographic.{bytes_decides}
use Rattle.gate_pool.specs.Pool.{Admitted, entry_by_txid, has_txid}
use Rattle.gate_pool.proofs.Entries.{find_none}
use Rattle.gate_pool.specs.Family.{steps, descendants_of, AreIdsOf}
use Rattle.gate_pool.specs.Search.{IsEntry}
use Rattle.gate_pool.specs.Distinct.{AreDistinct}
use Rattle.gate_pool.proofs.Adding.{weight, weigh, weighed, found_by_id}
use Rattle.gate_pool.proofs.Walking.{Contains-filter, Contains-from_filter}
use Rattle.gate_rbf.specs.Replacing.{descendant_count}

-- how many are below an entry, itself among them
abbrev pub family_size : List Admitted → Admitted → ℕ
family_size entries c = length (descendants_of entries (txid_of c.tx))

-- how many are below the entries of ids
abbrev pub counted : List Admitted → List (List ℕ) → ℕ
counted entries ids = weigh (family_size entries) entries ids

module _ (entries : List Admitted) (distinct : AreDistinct entries) (ids : List (List ℕ)) (test : Admitted → Bool) (are : AreIdsOf ids (filter test entries)) where
  -- that is their descendants' number
  pub counted-all : counted entries ids ≡ descendant_count entries (filter test entries)
  counted-all = weighed (family_size entries) entries distinct.txids ids test are

  -- a part of the ids counts no more
  pub counted-part : (k : ℕ) → counted entries (take k ids) ≤ descendant_count entries (filter test entries)
  counted-part k = subst (λ n. counted entries (take k ids) ≤ n) counted-all (sum_by-take-le (λ (a : List ℕ). weight (family_size entries) (entry_by_txid entries a)) ids k)

  module _ (k : ℕ) (id : List ℕ) (within : k < length ids) (here : get_or ids k id ≡ id) where
    -- the entry of the next id
    owner : (e : Admitted) × Contains (filter test entries) e × (txid_of e.tx ≡ id)
    owner = are.only id (k, within, here)

    member : Contains entries owner.0
    member = Contains-from_filter test entries owner.0 owner.1

    -- it is the id of an entry
    pub next_entry : IsEntry entries id
    next_entry = (owner.0, member, owner.2)

    -- one id more counts its family
    pub counted-more : counted entries (take (k + 1) ids) ≡ counted entries (take k ids) + length (descendants_of entries id)
    counted-more =
        sum_by_more (λ (a : List ℕ). weight (family_size entries) (entry_by_txid entries a)) ids k id within
        ∙ ap (λ a. counted entries (take k ids) + weight (family_size entries) (entry_by_txid entries a)) (here ∙ sym owner.2)
        ∙ ap (λ o. counted entries (take k ids) + weight (family_size entries) o) (found_by_id entries distinct.txids owner.0 member)
        ∙ ap (λ a. counted entries (take k ids) + length (descendants_of entries a)) owner.2

-- each entry is below itself
own : (entries : List Admitted) (e : Admitted) → Contains entries e → 1 ≤ family_size entries e
own entries e m = omega (arith, (Contains-filter (λ x. reaches (steps entries) (txid_of e.tx) (txid_of x.tx)) entries e m (reaches-same (steps entries) (txid_of e.tx))).1)

-- entries have at least as many descendants as they are
pub counted-least : (entries some : List Admitted) → ((e : Admitted) → Contains some e → Contains entries e) → length some ≤ descendant_count entries some
counted-least entries [] among = omega arith
counted-least entries (e ∷ some) among =
    let sum : descendant_count entries (e ∷ some) ≡ family_size entries e + descendant_count entries some = sum_by-cons (family_size entries) e some in
    omega (arith, sum, own entries e (among e (Contains-head e some)), counted-least entries some (λ x m. among x (Contains-rest e some x m)))

-- more than the most, and no more
pub is_over : (most n : ℕ) → most < n → nat_lt most n ≡ true
is_over most n h = (Decides-ltb most n).1 h

pub is_within : (most n : ℕ) → n ≤ most → nat_lt most n ≡ false
is_within most n h = false_from_ne_true _ (λ t. omega (arith, (Decides-ltb most n).0 t, h))

-- an entry is found by its id
pub entry_found : (entries : List Admitted) (id : List ℕ) → IsEntry entries id → is_some (entry_by_txid entries id) ≡ true
entry_found entries id w = by (entry_by_txid entries id) refl
  where
    by : (o : Option Admitted) → entry_by_txid entries id ≡ o → is_some o ≡ true
    by (Some e) h = refl
    by None h = absurd (true≢false (sym ((bytes_decides (txid_of w.0.tx) id).1 w.2) ∙ find_none (λ (e : Admitted). has_txid e id) entries h w.0 w.1))
