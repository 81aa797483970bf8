-- When parts are refused.
use Rattle.std.proofs.Common.{◌≡◌, ◌≢◌, ◌⊎◌, ℕ, ℤ, ◌+◌, ◌<◌, ◌≤◌, ◌^◌, List, [], ◌∷◌, length, refl, sym, subst, inl, inr, arith}
use Rattle.std.specs.Prelude.{FitsSigned}
use Rattle.std.specs.Int.{w32, cast_signed, cast_unsigned}
use Rattle.std.specs.List.{AllByRecursion}
use Rattle.std.proofs.lemmas.Int.{to_z-of_z}
use Rattle.gate_tx.specs.declared.transaction.TxIn.{TxIn}
use Rattle.gate_tx.specs.declared.transaction.TxOut.{TxOut}
use Rattle.gate_tx.specs.Tx.{tx_of}
use Rattle.gate_tx.specs.Text.{text, longest, IsTransaction}
use Rattle.gate_tx.specs.Internal.{stripped_lists, witness_lists, IsRangedInput, IsRangedOutput}
use Rattle.gate_tx.proofs.Bounds.{length-text, is_transaction}

-- what is refused: outputs without inputs, or too long a text
abbrev Refused : List TxIn → List TxOut → ℕ → Type 0
Refused ins outs size = ((ins ≡ []) × (outs ≢ [])) ⊎ (longest < size)

refused_at : (ins : List TxIn) (outs : List TxOut) (m n : ℕ) → m ≡ n → Refused ins outs m → Refused ins outs n
refused_at ins outs m n e (inl p) = inl p
refused_at ins outs m n e (inr q) = inr (omega arith)

pub refusal : (v : ℤ) (ins : List TxIn) (outs : List TxOut) (lock : ℕ) → Refused ins outs (stripped_lists ins outs + witness_lists ins) → Refused ins outs (length (text (tx_of v ins outs lock)))
refusal v ins outs lock = refused_at ins outs (stripped_lists ins outs + witness_lists ins) (length (text (tx_of v ins outs lock))) (sym (length-text (tx_of v ins outs lock)))

shape_of : (ins : List TxIn) (outs : List TxOut) → ¬ ((ins ≡ []) × (outs ≢ [])) → ins ≡ [] → outs ≡ []
shape_of ins [] h e = refl
shape_of ins (o ∷ outs) h e = absurd (h (e, λ q. cc))

short : (size : ℕ) → ¬ (longest < size) → size ≤ longest
short size h = omega (arith, h)

-- what isn't refused is a transaction
pub unrefused : (v : ℤ) (ins : List TxIn) (outs : List TxOut) (lock : ℕ) → FitsSigned w32 v → lock < 2 ^ 32 → AllByRecursion IsRangedInput ins → AllByRecursion IsRangedOutput outs
    → ¬ Refused ins outs (stripped_lists ins outs + witness_lists ins) → IsTransaction (tx_of (cast_signed w32 (cast_unsigned w32 v)) ins outs lock)
unrefused v ins outs lock version locktime all_in all_out h =
    let size : length (text (tx_of v ins outs lock)) ≤ longest = omega (arith, short (stripped_lists ins outs + witness_lists ins) (λ q. h (inr q)), length-text (tx_of v ins outs lock)) in
    let is = is_transaction (tx_of v ins outs lock) (record { version = version; inputs = all_in; outputs = all_out; locktime = locktime }) (shape_of ins outs (λ p. h (inl p))) size in
    subst (λ (z : ℤ). IsTransaction (tx_of z ins outs lock)) (sym (to_z-of_z w32 v version)) is
