-- One byte more of a line, and one write more of a text.
use Rattle.std.proofs.Common.{◌≡◌, ℕ, ◌+◌, ◌-◌, ◌≤◌, List, [], ◌∷◌, ◌++◌, length, take, drop, Option, sym, subst, arith, length-drop}
use Rattle.std.proofs.Math.Seq.{take-add}
use Rattle.std.proofs.lemmas.List.{take_all}
use Rattle.std.proofs.KnownBytes.{Appends-trans}
use Rattle.std.specs.Io.KnownBytes.{Appends}
use Rattle.gate_lines.specs.Lines.{LacksNewline}

pub LacksNewline-push : (xs : List ℕ) (x : ℕ) → LacksNewline xs → (x ≡ 10 → ⊥) → LacksNewline (xs ++ x ∷ [])
LacksNewline-push [] x h other = (other, tt)
LacksNewline-push (y ∷ ys) x h other = (h.0, LacksNewline-push ys x h.1 other)

pub take-all_rest : (text : List ℕ) (at : ℕ) → take (length text - at) (drop at text) ≡ drop at text
take-all_rest text at = take_all (length text - at) (drop at text) (omega (arith, length-drop at text))

pub write_step : (a b c : Option (List ℕ)) (text : List ℕ) (at n : ℕ) → at ≤ length text
    → n ≤ length (take (length text - at) (drop at text))
    → Appends a b (take at text) → Appends b c (take n (take (length text - at) (drop at text)))
    → (at + n ≤ length text) × Appends a c (take (at + n) text)
write_step a b c text at n within bound before more =
    let rest = take-all_rest text at in
    let bound' : n ≤ length (drop at text) = subst (λ l. n ≤ length l) rest bound in
    let more' : Appends b c (take n (drop at text)) = subst (λ l. Appends b c (take n l)) rest more in
    (omega (arith, length-drop at text), subst (Appends a c) (sym (take-add at n text)) (Appends-trans a b c _ _ before more'))
