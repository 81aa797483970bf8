-- What holds of each element of a list, told one by one.
use Rattle.std.proofs.Common.{◌≡◌, ℕ, suc, ◌+◌, ◌<◌, ◌≤◌, List, [], ◌∷◌, length, drop, get_or, Option, Some, None, sym, ap, ◌∙◌, subst, ⊎_elim, add-one, append-nil}
use Rattle.std.specs.Prelude.{Contains, IfSome}
use Rattle.std.specs.List.{flat_map}
use Rattle.std.specs.Option.{option_to_list}
use Rattle.std.proofs.Math.Seq.{drop-cons}
use Rattle.std.proofs.lemmas.List.{drop_all}
use Rattle.std.proofs.lemmas.List.Elements.{Contains-append_left, Contains-append_cases}
use Rattle.gate_bytes.proofs.Members.{Contains-cons_cases, not_in_none}
use Rattle.gate_tx.specs.Text.{IsTx}
use Rattle.gate_tx.specs.Tx.{Tx}
use Rattle.gate_chain.specs.Blocks.{Block}
use Rattle.gate_submission.specs.Blocks.{present, transactions_of}

-- each transaction of a list has a text
abbrev pub AreSpelled : List Tx → Type 0
AreSpelled txs = (tx : Tx) → Contains txs tx → IsTx tx

item_first : {X : Type 0} (xs : List X) (i : ℕ) (x : X) → i < length xs → x ≡ get_or xs i x → drop i xs ≡ x ∷ drop (i + 1) xs
item_first xs i x within is = rw add-one (drop-cons xs i x within ∙ ap (λ y. y ∷ drop (suc i) xs) (sym is))

-- one more of a list
pub spelled_next : (txs : List Tx) (i : ℕ) (tx : Tx) → i < length txs → tx ≡ get_or txs i tx → IsTx tx → AreSpelled (drop (i + 1) txs) → AreSpelled (drop i txs)
spelled_next txs i tx within is told rest = subst AreSpelled (sym (item_first txs i tx within is)) (λ t m. ⊎_elim (λ (e : tx ≡ t). subst IsTx e told) (λ k. rest t k) (Contains-cons_cases tx (drop (i + 1) txs) t m))

-- none is left
pub spelled_last : (txs : List Tx) (i : ℕ) → length txs ≤ i → AreSpelled (drop i txs)
spelled_last txs i past = subst AreSpelled (sym (drop_all i txs past)) (λ t m. not_in_none t m)

-- one more of a list of submissions
pub texts_next : (these : List (Option Tx)) (i : ℕ) (found : Option Tx) → i < length these → found ≡ get_or these i found → IfSome found IsTx
    → AreSpelled (flat_map option_to_list (drop (i + 1) these)) → AreSpelled (flat_map option_to_list (drop i these))
texts_next these i found within is told rest =
    subst (λ (l : List (Option Tx)). AreSpelled (flat_map option_to_list l)) (sym (item_first these i found within is)) (go found told)
  where
    go : (found : Option Tx) → IfSome found IsTx → AreSpelled (flat_map option_to_list (found ∷ drop (i + 1) these))
    go None told = rest
    go (Some tx) told = λ t m. ⊎_elim (λ (e : tx ≡ t). subst IsTx e told) (λ k. rest t k) (Contains-cons_cases tx (flat_map option_to_list (drop (i + 1) these)) t m)

pub texts_last : (these : List (Option Tx)) (i : ℕ) → length these ≤ i → AreSpelled (flat_map option_to_list (drop i these))
texts_last these i past = subst (λ (l : List (Option Tx)). AreSpelled (flat_map option_to_list l)) (sym (drop_all i these past)) (λ t m. not_in_none t m)

-- one more of a list of blocks
pub blocks_next : (blocks : List (Option Block)) (i : ℕ) (found : Option Block) → i < length blocks → found ≡ get_or blocks i found → AreSpelled (transactions_of (present (found ∷ [])))
    → AreSpelled (transactions_of (present (drop (i + 1) blocks))) → AreSpelled (transactions_of (present (drop i blocks)))
blocks_next blocks i found within is told rest =
    subst (λ (bs : List (Option Block)). AreSpelled (transactions_of (present bs))) (sym (item_first blocks i found within is)) (go found told)
  where
    go : (found : Option Block) → AreSpelled (transactions_of (present (found ∷ []))) → AreSpelled (transactions_of (present (found ∷ drop (i + 1) blocks)))
    go None told = rest
    go (Some b) told = λ t m. ⊎_elim (λ k. told t (Contains-append_left b.transactions [] t k)) (λ k. rest t k) (Contains-append_cases b.transactions (transactions_of (present (drop (i + 1) blocks))) t m)

pub blocks_last : (blocks : List (Option Block)) (i : ℕ) → length blocks ≤ i → AreSpelled (transactions_of (present (drop i blocks)))
blocks_last blocks i past = subst (λ (bs : List (Option Block)). AreSpelled (transactions_of (present bs))) (sym (drop_all i blocks past)) (λ t m. not_in_none t m)

-- of one block, or of none
pub told_some : (found : Option Block) (b : Block) (txs : List Tx) → found ≡ Some b → txs ≡ b.transactions → AreSpelled txs → AreSpelled (transactions_of (present (found ∷ [])))
told_some found b txs is same told =
    subst (λ (o : Option Block). AreSpelled (transactions_of (present (o ∷ [])))) (sym is)
    (λ t m. subst AreSpelled same told t (subst (λ (l : List Tx). Contains l t) (append-nil b.transactions) m))

pub told_none : (found : Option Block) → found ≡ None → AreSpelled (transactions_of (present (found ∷ [])))
told_none found is = subst (λ (o : Option Block). AreSpelled (transactions_of (present (o ∷ [])))) (sym is) (λ t m. not_in_none t m)
