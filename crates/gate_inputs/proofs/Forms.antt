-- The answers by the template of the coin.
use Rattle.std.proofs.Common.{◌≡◌, ℕ, ◌+◌, ◌*◌, ◌-◌, ◌^◌, Bool, true, false, leb, List, [], ◌∷◌, Option, Some, None, refl, ap, ◌∙◌, min, arith}
use Rattle.std.specs.Prelude.{option_and_then}
use Rattle.std.specs.Option.{option_map_or}
use Rattle.gate_script.specs.Sigops.{sigops_of}
use Rattle.std.proofs.lemmas.Bool.{cond-false}
use Rattle.std.proofs.lemmas.Bool.Decides.{nat_tests}
use Rattle.gate_script.specs.Witness.{is_anchor, witness_program_of}
use Rattle.gate_script.proofs.Anchors.{no_anchor}
use Rattle.gate_tx.specs.declared.transaction.TxIn.{TxIn}
use Rattle.gate_script.specs.Templates.{template_of}
use Rattle.gate_script.specs.declared.templates.Template.{Template}
use Rattle.gate_script.specs.declared.templates.Template.TheVariants.{ScriptHash, WitnessV0Key, WitnessV0Script, Taproot, WitnessUnknown, NullData, Key, KeyHash, Multisig, Nonstandard}
use Rattle.gate_inputs.specs.declared.answer.Answers.{Answers}
use Rattle.gate_inputs.specs.Answers.{answers_of}
use Rattle.gate_inputs.specs.Internal.{answers_by}
use Rattle.gate_inputs.specs.Reports.{is_pay_to_script_hash, redeem_of, counted_redeem, is_standard_by, is_standard_spend, program_by, locking_script, allows_witness, is_witness_standard, is_bare, witness_cost, cost_by, sigop_cost_of, legacy_sigops_by, legacy_sigops_of}
use Rattle.gate_inputs.proofs.Redeeming.{counted_redeem-script_hash}

abbrev pub made : Bool → Bool → ℕ → Bool → Bool → ℕ → Answers
made s w k a b l = record { standard = s; witness_standard = w; sigop_cost = k; anchor = a; bare = b; legacy_sigops = l }

-- the answers, were this the template
abbrev answers_at : Template → TxIn → List ℕ → Answers
answers_at form input script = record {
  standard = is_standard_by form (redeem_of input.script);
  witness_standard = allows_witness form input.witness (program_by form (redeem_of input.script) script);
  sigop_cost = min (cost_by input (counted_redeem form input.script) (program_by form (counted_redeem form input.script) script)) (2 ^ 64 - 1);
  anchor = is_anchor script;
  bare = is_bare input.witness;
  legacy_sigops = min (legacy_sigops_by form input.script (redeem_of input.script) script) (2 ^ 64 - 1);
}

answers_of-at : (form : Template) (input : TxIn) (script : List ℕ) → template_of script ≡ form → answers_of input script ≡ answers_at form input script
unfolding answers_of is_standard_spend is_witness_standard sigop_cost_of legacy_sigops_of
answers_of-at form input script is = ap (λ f. answers_at f input script) is

-- the answers under a script hash, with the redeem script whose operations count
abbrev hash_answers : TxIn → Option (List ℕ) → Bool → Answers
hash_answers input counted anchor = record {
  standard = is_standard_by ScriptHash (redeem_of input.script);
  witness_standard = allows_witness ScriptHash input.witness (program_by ScriptHash (redeem_of input.script) []);
  sigop_cost = min (cost_by input counted (program_by ScriptHash counted [])) (2 ^ 64 - 1);
  anchor = anchor;
  bare = is_bare input.witness;
  legacy_sigops = min (legacy_sigops_by ScriptHash input.script (redeem_of input.script) []) (2 ^ 64 - 1);
}

pub answers_of-script_hash : (input : TxIn) (script : List ℕ) → template_of script ≡ ScriptHash → answers_of input script ≡ answers_by ScriptHash input (redeem_of input.script) []
unfolding answers_by
answers_of-script_hash input script is =
    answers_of-at ScriptHash input script is
    ∙ ap (λ counted. hash_answers input counted (is_anchor script)) (counted_redeem-script_hash input.script)
    ∙ ap (λ anchor. hash_answers input (redeem_of input.script) anchor) (no_anchor script is)

answers_at-direct : (form : Template) (input : TxIn) (script : List ℕ) → is_pay_to_script_hash form ≡ false → answers_at form input script ≡ answers_by form input None script
unfolding answers_by
answers_at-direct ScriptHash input script other = absurd (cc)
answers_at-direct WitnessV0Key input script other = refl
answers_at-direct WitnessV0Script input script other = refl
answers_at-direct Taproot input script other = refl
answers_at-direct WitnessUnknown input script other = refl
answers_at-direct NullData input script other = refl
answers_at-direct Key input script other = refl
answers_at-direct KeyHash input script other = refl
answers_at-direct (Multisig required keys) input script other = refl
answers_at-direct Nonstandard input script other = refl

pub answers_of-direct : (form : Template) (input : TxIn) (script : List ℕ) → template_of script ≡ form → is_pay_to_script_hash form ≡ false → answers_of input script ≡ answers_by form input None script
answers_of-direct form input script is other = answers_of-at form input script is ∙ answers_at-direct form input script other

pub same_answers : {s s' w w' a a' b b' : Bool} {k k' l l' : ℕ} → s ≡ s' → w ≡ w' → k ≡ k' → a ≡ a' → b ≡ b' → l ≡ l' → made s w k a b l ≡ made s' w' k' a' b' l'
same_answers p q r t u v = cc

-- the program of a coin that isn't locked by a script hash
pub program_by-direct : (form : Template) (script : List ℕ) → is_pay_to_script_hash form ≡ false → program_by form None script ≡ witness_program_of script
program_by-direct form script other = ap (option_and_then witness_program_of) (cond-false (is_pay_to_script_hash form) None (Some script) other)

-- the script that locks such a coin
pub locking-direct : (form : Template) (script : List ℕ) → is_pay_to_script_hash form ≡ false → locking_script form None script ≡ Some script
locking-direct form script other = cond-false (is_pay_to_script_hash form) None (Some script) other

-- a count that is capped at the greatest number of 64 bits, in a test and in a sum
pub leb-capped : (n r : ℕ) → r ≡ min n (2 ^ 64 - 1) → leb r 15 ≡ leb n 15
leb-capped n r capped = grind (arith, nat_tests)

pub sum-capped : (a b c r : ℕ) → r ≡ min b (2 ^ 64 - 1) → min (4 * a + 4 * r + c) (2 ^ 64 - 1) ≡ min (4 * a + 4 * b + c) (2 ^ 64 - 1)
sum-capped a b c r capped = omega arith

pub cost-capped : (input : TxIn) (redeem : Option (List ℕ)) {p p' : Option (ℕ × List ℕ)} (r : ℕ) → r ≡ min (option_map_or (sigops_of true) redeem 0) (2 ^ 64 - 1) → p ≡ p'
    → min (4 * sigops_of false input.script + 4 * r + witness_cost input.witness p) (2 ^ 64 - 1) ≡ min (cost_by input redeem p') (2 ^ 64 - 1)
cost-capped input redeem {p' = p'} r capped e =
    ap (λ q. min (4 * sigops_of false input.script + 4 * r + witness_cost input.witness q) (2 ^ 64 - 1)) e
    ∙ sum-capped (sigops_of false input.script) (option_map_or (sigops_of true) redeem 0) (witness_cost input.witness p') r capped

legacy_sum-capped : (a b r : ℕ) → r ≡ min b (2 ^ 64 - 1) → min (a + r) (2 ^ 64 - 1) ≡ min (a + b) (2 ^ 64 - 1)
legacy_sum-capped a b r capped = omega arith

pub legacy-capped : (script : List ℕ) {locking locking' : Option (List ℕ)} (r : ℕ) → r ≡ min (option_map_or (sigops_of true) locking 0) (2 ^ 64 - 1) → locking ≡ locking'
    → min (sigops_of true script + r) (2 ^ 64 - 1) ≡ min (sigops_of true script + option_map_or (sigops_of true) locking' 0) (2 ^ 64 - 1)
legacy-capped script {locking = locking} r capped e =
    legacy_sum-capped (sigops_of true script) (option_map_or (sigops_of true) locking 0) r capped
    ∙ ap (λ locks. min (sigops_of true script + option_map_or (sigops_of true) locks 0) (2 ^ 64 - 1)) e

pub bare-is : (w : List (List ℕ)) (r : Bool) → (r ≡ true → w ≡ []) → (w ≡ [] → r ≡ true) → r ≡ is_bare w
bare-is [] r empty none = none refl
bare-is (item ∷ items) false empty none = refl
bare-is (item ∷ items) true empty none = cc (empty refl)

pub allows-same : (form : Template) {w w' : List (List ℕ)} {p p' : Option (ℕ × List ℕ)} → w ≡ w' → p ≡ p' → allows_witness form w p ≡ allows_witness form w' p'
allows-same form {w = w} {p' = p'} e f = ap (allows_witness form w) f ∙ ap (λ v. allows_witness form v p') e

pub allows-none : (form : Template) (w : List (List ℕ)) (r : Bool) → (r ≡ true → w ≡ []) → (w ≡ [] → r ≡ true) → r ≡ allows_witness form w None
allows-none form [] r empty none = none refl
allows-none form (item ∷ items) false empty none = refl
allows-none form (item ∷ items) true empty none = cc (empty refl)

pub is_pay_to_script_hash-other : (form : Template) → (form ≡ ScriptHash → ⊥) → is_pay_to_script_hash form ≡ false
is_pay_to_script_hash-other ScriptHash other = absurd (other refl)
is_pay_to_script_hash-other _ other = refl
