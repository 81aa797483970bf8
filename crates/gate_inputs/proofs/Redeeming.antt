-- The redeem script of an input that pushes it.
use Rattle.std.proofs.Common.{◌≡◌, ℕ, Bool, true, false, ◌&&◌, leb, cond, List, [], ◌∷◌, length, Option, Some, None, refl, ap, ◌∙◌, arith}
use Rattle.std.specs.List.{list_all}
use Rattle.std.specs.Prelude.{option_and_then}
use Rattle.std.proofs.lemmas.Bool.Decides.{nat_tests}
use Rattle.gate_script.specs.Instructions.{Instruction, Push, Truncated, Plain, instructions}
use Rattle.gate_script.specs.Pushes.{item_of, items_of, pushes, is_push_only, push_stack_of}
use Rattle.gate_script.specs.declared.templates.Template.TheVariants.{ScriptHash}
use Rattle.gate_inputs.specs.Reports.{last_of, redeem_of, counted_redeem}

-- an instruction that leaves an item is a push
item-pushes : (op : Instruction) (item : List ℕ) → item_of op ≡ Some item → pushes op ≡ true
item-pushes (Push opcode bytes) item is = refl
item-pushes (Truncated opcode) item is = cc
item-pushes (Plain opcode) item is = grind (arith, nat_tests)

both-push : (op : Instruction) (ops : List Instruction) (items : List (List ℕ)) (first : Option (List ℕ)) (rest : Option (List (List ℕ))) → item_of op ≡ first
    → ((xs : List (List ℕ)) → rest ≡ Some xs → list_all pushes ops ≡ true)
    → option_and_then (λ x. option_and_then (λ xs. Some (x ∷ xs)) rest) first ≡ Some items → (pushes op && list_all pushes ops) ≡ true
both-push op ops items None rest is more e = cc
both-push op ops items (Some x) None is more e = cc
both-push op ops items (Some x) (Some xs) is more e = ap (λ b. b && list_all pushes ops) (item-pushes op x is) ∙ more xs refl

items-push : (ops : List Instruction) (items : List (List ℕ)) → items_of ops ≡ Some items → list_all pushes ops ≡ true
unfolding items_of
items-push [] items all = refl
items-push (op ∷ ops) items all = both-push op ops items (item_of op) (items_of ops) refl (items-push ops) all

-- a script whose pushes succeed only pushes
found-items : (found : Option (List (List ℕ))) (items : List (List ℕ)) → option_and_then (λ all. cond (leb (length all) 1000) (Some all) None) found ≡ Some items → (all : List (List ℕ)) × (found ≡ Some all)
found-items None items e = absurd (cc)
found-items (Some all) items e = (all, refl)

stack-pushes : (script : List ℕ) (items : List (List ℕ)) → push_stack_of script ≡ Some items → is_push_only script ≡ true
stack-pushes script items e =
    let found = found-items (items_of (instructions script)) items e in
    items-push (instructions script) found.0 found.1

counted : (only : Bool) (found : Option (List (List ℕ))) → ((items : List (List ℕ)) → found ≡ Some items → only ≡ true) → cond only (option_and_then last_of found) None ≡ option_and_then last_of found
counted true found h = refl
counted false None h = refl
counted false (Some items) h = cc (h items refl)

-- so its redeem script counts
pub counted_redeem-script_hash : (script : List ℕ) → counted_redeem ScriptHash script ≡ redeem_of script
unfolding redeem_of
counted_redeem-script_hash script = counted (is_push_only script) (push_stack_of script) (stack-pushes script)
