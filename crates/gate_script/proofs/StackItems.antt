-- Gathering the items of a script's pushes from the left.
use Rattle.std.proofs.Common.{◌≡◌, ℕ, ◌<◌, ◌≤◌, true, false, leb, cond, List, [], ◌∷◌, ◌++◌, length, Option, Some, None, refl, sym, ap, ◌∙◌, arith, append_assoc, append-nil, length-append}
use Rattle.std.specs.Option.{option_map}
use Rattle.std.proofs.lemmas.Bool.Decides.{nat_tests}
use Rattle.gate_script.specs.Instructions.{Instruction, instructions}
use Rattle.gate_script.specs.Pushes.{item_of, items_of, push_stack_of, ◌>>=◌}

-- the items so far, before those of the instructions `left`
abbrev pub gathered : List (List ℕ) → Option (List (List ℕ)) → Option (List (List ℕ))
gathered items rest = option_map (λ xs. items ++ xs) rest

abbrev pub gathering : List (List ℕ) → List Instruction → Option (List (List ℕ))
gathering items left = gathered items (items_of left)

abbrev bounded : Option (List (List ℕ)) → Option (List (List ℕ))
bounded found = found >>= (λ items. cond (leb (length items) 1000) (Some items) None)

pub gathering-none : (left : List Instruction) → gathering [] left ≡ items_of left
gathering-none left = elim (items_of left) as (λ found. gathered [] found ≡ found) [ None ↦ refl | Some items ↦ refl ]

gathered-more : (items : List (List ℕ)) (item : List ℕ) (found : Option (List (List ℕ))) → gathered items (found >>= (λ xs. Some (item ∷ xs))) ≡ gathered (items ++ item ∷ []) found
gathered-more items item None = refl
gathered-more items item (Some xs) = ap Some (sym (append_assoc items (item ∷ []) xs))

pub gathering-more : (items : List (List ℕ)) (item : List ℕ) (first : Instruction) (left : List Instruction) → item_of first ≡ Some item → gathering items (first ∷ left) ≡ gathering (items ++ item ∷ []) left
unfolding items_of
gathering-more items item first left is =
    ap (λ found. gathered items (found >>= (λ x. items_of left >>= (λ xs. Some (x ∷ xs))))) is ∙ gathered-more items item (items_of left)

pub gathering-stop : (items : List (List ℕ)) (first : Instruction) (left : List Instruction) → item_of first ≡ None → gathering items (first ∷ left) ≡ None
unfolding items_of
gathering-stop items first left none = ap (λ found. gathered items (found >>= (λ x. items_of left >>= (λ xs. Some (x ∷ xs))))) none

pub gathering-end : (items : List (List ℕ)) → gathering items [] ≡ Some items
unfolding items_of
gathering-end items = ap Some (append-nil items)

gathered-past : (items : List (List ℕ)) (found : Option (List (List ℕ))) → 1000 < length items → bounded (gathered items found) ≡ None
gathered-past items None past = refl
gathered-past items (Some xs) past =
    let long : 1000 < length (items ++ xs) = omega (arith, length-append items xs) in
    let no : leb (length (items ++ xs)) 1000 ≡ false = grind (arith, nat_tests) in
    ap (λ b. cond b (Some (items ++ xs)) None) no

-- what the stack is where nothing is left, where an instruction leaves no item, and where one more is too many
pub stack-end : (script : List ℕ) (items : List (List ℕ)) → gathering items [] ≡ items_of (instructions script) → length items ≤ 1000 → Some items ≡ push_stack_of script
stack-end script items whole few =
    let yes : leb (length items) 1000 ≡ true = grind (arith, nat_tests) in
    sym (ap bounded (sym whole ∙ gathering-end items) ∙ ap (λ b. cond b (Some items) None) yes)

pub stack-stop : (script : List ℕ) (items : List (List ℕ)) (first : Instruction) (left : List Instruction) → gathering items (first ∷ left) ≡ items_of (instructions script) → item_of first ≡ None → None ≡ push_stack_of script
stack-stop script items first left whole none = sym (ap bounded (sym whole ∙ gathering-stop items first left none))

pub stack-past : (script : List ℕ) (items : List (List ℕ)) (item : List ℕ) (first : Instruction) (left : List Instruction) → gathering items (first ∷ left) ≡ items_of (instructions script) → item_of first ≡ Some item → length items ≡ 1000 → None ≡ push_stack_of script
stack-past script items item first left whole is full =
    let past : 1000 < length (items ++ item ∷ []) = omega (arith, length-append items (item ∷ [])) in
    sym (ap bounded (sym whole ∙ gathering-more items item first left is) ∙ gathered-past (items ++ item ∷ []) (items_of left) past)
