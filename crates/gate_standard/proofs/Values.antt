-- The values of outputs, added from the left.
use Rattle.std.proofs.Common.{◌≡◌, ℕ, ◌+◌, ◌≤◌, Bool, true, false, ltb, cond, List, [], ◌∷◌, Option, Some, None, refl, ap, ◌∙◌, arith}
use Rattle.std.specs.Prelude.{fold}
use Rattle.std.specs.List.{AllByRecursion}
use Rattle.std.specs.Int.{is_negative}
use Rattle.std.proofs.lemmas.Bool.Decides.{nat_tests}
use Rattle.gate_bytes.specs.Order.{first_failing}
use Rattle.gate_tx.specs.declared.transaction.TxOut.{TxOut}
use Rattle.gate_tx.specs.Money.{max_money, amount_or_zero}
use Rattle.gate_rules.specs.declared.Denial.{Denial}
use Rattle.gate_rules.specs.declared.Denial.TheVariants.{VoutNegative, VoutTooLarge, TotalTooLarge}
use Rattle.gate_standard.specs.Laws.{ValuesAreInRange}
use Rattle.gate_standard.specs.Rules.{output_value_rules}

-- the sum after values of this sum
abbrev added : ℕ → List TxOut → ℕ
added sum outputs = fold (λ (a : ℕ) (o : TxOut). a + amount_or_zero o.value) sum outputs

abbrev NoneNegative : List TxOut → Type 0
NoneNegative outputs = AllByRecursion (λ (o : TxOut). is_negative o.value ≡ false) outputs

added-le : (sum : ℕ) (outputs : List TxOut) → sum ≤ added sum outputs
added-le sum [] = omega arith
added-le sum (o ∷ outputs) = omega (arith, added-le (sum + amount_or_zero o.value) outputs)

-- what three rules and the rest say
abbrev tested : Bool → Bool → Bool → Option Denial → Option Denial
tested a b c rest = cond a (Some VoutNegative) (cond b (Some VoutTooLarge) (cond c (Some TotalTooLarge) rest))

none_of : (a b c : Bool) (rest : Option Denial) → tested a b c rest ≡ None → (a ≡ false) × (b ≡ false) × (c ≡ false) × (rest ≡ None)
none_of true b c rest e = absurd (cc)
none_of false true c rest e = absurd (cc)
none_of false false true rest e = absurd (cc)
none_of false false false rest e = (refl, refl, refl, e)

forward : (sum : ℕ) (outputs : List TxOut) → sum ≤ max_money → first_failing (output_value_rules sum outputs) ≡ None → NoneNegative outputs × (added sum outputs ≤ max_money)
forward sum [] few e = (tt, few)
forward sum (o ∷ outputs) few e =
    let amount = amount_or_zero o.value in
    let met = none_of (is_negative o.value) (ltb max_money amount) (ltb max_money (sum + amount)) (first_failing (output_value_rules (sum + amount) outputs)) e in
    let next : sum + amount ≤ max_money = (let h = met.2 in grind (arith, nat_tests)) in
    let rest = forward (sum + amount) outputs next met.3 in
    ((met.0, rest.0), rest.1)

backward : (sum : ℕ) (outputs : List TxOut) → NoneNegative outputs → added sum outputs ≤ max_money → first_failing (output_value_rules sum outputs) ≡ None
backward sum [] all few = refl
backward sum (o ∷ outputs) all few =
    let amount = amount_or_zero o.value in
    let next : sum + amount ≤ max_money = omega (arith, added-le (sum + amount) outputs) in
    let one : ltb max_money amount ≡ false = grind (arith, nat_tests) in
    let two : ltb max_money (sum + amount) ≡ false = grind (arith, nat_tests) in
    ap (λ a. tested a (ltb max_money amount) (ltb max_money (sum + amount)) (first_failing (output_value_rules (sum + amount) outputs))) all.0
    ∙ ap (λ b. tested false b (ltb max_money (sum + amount)) (first_failing (output_value_rules (sum + amount) outputs))) one
    ∙ ap (λ c. tested false false c (first_failing (output_value_rules (sum + amount) outputs))) two
    ∙ backward (sum + amount) outputs all.1 few

pub values_are_in_range : ValuesAreInRange
values_are_in_range outputs = (forward 0 outputs (omega arith), λ is. backward 0 outputs is.0 is.1)
