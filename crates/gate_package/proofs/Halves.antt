-- What those that are judged together pay, one behind another.
use Rattle.std.proofs.Common.{◌≡◌, ◌<◌, ◌+◌, ℕ, suc, List, [], ◌∷◌, ◌++◌, length, take, drop, get_or, None, Result, Ok, Err, refl, sym, ap, ◌∙◌, subst, drop-cons, add-one}
use Rattle.std.proofs.lemmas.List.{take_more}
use Rattle.gate_bytes.specs.Order.{first_failing}
use Rattle.gate_tx.specs.Tx.{Tx}
use Rattle.gate_admit.specs.Standing.{Standing}
use Rattle.gate_diagram.specs.declared.Price.{Price}
use Rattle.gate_package.specs.declared.role.Role.{Role}
use Rattle.gate_package.specs.declared.together.Refusal.{Refusal}
use Rattle.gate_package.specs.Judging.{fee_beside, half_rules, vsize_beside}
use Rattle.gate_package.specs.Together.{half_or, halves_as, with_price}

-- these prices stand before those of the others, if none of these is refused
abbrev pub with_all : List Price → Result (List Price) Refusal → Result (List Price) Refusal
with_all prices (Ok others) = Ok (prices ++ others)
with_all prices (Err refusal) = Err refusal

pub with_none : (found : Result (List Price) Refusal) → with_all [] found ≡ found
with_none (Ok others) = refl
with_none (Err refusal) = refl

-- one more price at the end of these
pub with_last : (prices : List Price) (price : Price) (found : Result (List Price) Refusal) → with_all (prices ++ price ∷ []) found ≡ with_all prices (with_price price found)
with_last prices price (Ok others) = ap Ok (last prices)
  where
    last : (front : List Price) → (front ++ price ∷ []) ++ others ≡ front ++ price ∷ others
    last [] = refl
    last (p ∷ front) = ap (λ l. p ∷ l) (last front)
with_last prices price (Err refusal) = refl

-- one more transaction that passes the first half behind those before it
pub halves_next : (role : Role) (max_rate : ℕ) (over : Standing) (txs : List Tx) (place i : ℕ) (tx : Tx) (before : List Tx) (prices more : List Price) (price : Price) (all : Result (List Price) Refusal)
    → i < length txs → tx ≡ get_or txs i tx → place ≡ i → before ≡ take place txs → more ≡ prices ++ price ∷ []
    → first_failing (half_rules role max_rate before over tx) ≡ None → price.fee ≡ fee_beside before over tx → price.vsize ≡ vsize_beside before over tx
    → with_all prices (halves_as role max_rate over (take i txs) place (drop i txs)) ≡ all
    → with_all more (halves_as role max_rate over (take (i + 1) txs) (place + 1) (drop (i + 1) txs)) ≡ all
halves_next role max_rate over txs place i tx before prices more price all within is at front grown passes fee vsize rest =
    let b : before ≡ take i txs = front ∙ ap (λ n. take n txs) at in
    let priced : Price = record { fee = fee_beside (take i txs) over tx; vsize = vsize_beside (take i txs) over tx } in
    let own_fee : price.fee ≡ fee_beside (take i txs) over tx = fee ∙ ap (λ (l : List Tx). fee_beside l over tx) b in
    let own_vsize : price.vsize ≡ vsize_beside (take i txs) over tx = vsize ∙ ap (λ (l : List Tx). vsize_beside l over tx) b in
    let same : price ≡ priced = λ j. record { fee = own_fee j; vsize = own_vsize j } in
    let others = halves_as role max_rate over (take i txs ++ tx ∷ []) (place + 1) (drop (i + 1) txs) in
    let opens : drop i txs ≡ tx ∷ drop (i + 1) txs = drop-cons txs i tx within ∙ (ap (λ t. t ∷ drop (suc i) txs) (sym is) ∙ ap (λ n. tx ∷ drop n txs) (sym (add-one i))) in
    let longer : take (i + 1) txs ≡ take i txs ++ tx ∷ [] = take_more txs i tx within ∙ ap (λ t. take i txs ++ t ∷ []) (sym is) in
    let step : halves_as role max_rate over (take i txs) place (drop i txs) ≡ with_price priced others =
    ap (halves_as role max_rate over (take i txs) place) opens ∙ ap (λ o. half_or place o (with_price priced others)) (subst (λ (l : List Tx). first_failing (half_rules role max_rate l over tx) ≡ None) b passes) in
    ap (λ (l : List Price). with_all l (halves_as role max_rate over (take (i + 1) txs) (place + 1) (drop (i + 1) txs))) (grown ∙ ap (λ (q : Price). prices ++ q ∷ []) same)
    ∙ (ap (λ (l : List Tx). with_all (prices ++ priced ∷ []) (halves_as role max_rate over l (place + 1) (drop (i + 1) txs))) longer
    ∙ (with_last prices priced others ∙ (ap (with_all prices) (sym step) ∙ rest)))
