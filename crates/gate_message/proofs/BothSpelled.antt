-- The transactions of a parent and its child have texts, as each of the two has one.
use Rattle.std.proofs.Common.{◌≡◌, [], ◌∷◌, Contains, IfSome, ⊎_elim, Option, Some, None, subst}
use Rattle.gate_bytes.proofs.Members.{Contains-cons_cases, not_in_none}
use Rattle.gate_tx.specs.Text.{IsTx}
use Rattle.gate_tx.specs.Tx.{Tx}
use Rattle.gate_message.specs.Spelled.{of_both}

one_spelled : (other : Tx) → IsTx other → (tx : Tx) → Contains (other ∷ []) tx → IsTx tx
one_spelled other told tx m = ⊎_elim (λ (e : other ≡ tx). subst IsTx e told) (λ n. not_in_none tx n) (Contains-cons_cases other [] tx m)

pub both_spelled : (parent child : Option Tx) → IfSome parent IsTx → IfSome child IsTx → (tx : Tx) → Contains (of_both parent child) tx → IsTx tx
both_spelled None None first second tx m = not_in_none tx m
both_spelled None (Some child) first second tx m = one_spelled child second tx m
both_spelled (Some parent) None first second tx m = one_spelled parent first tx m
both_spelled (Some parent) (Some child) first second tx m =
    ⊎_elim (λ (e : parent ≡ tx). subst IsTx e first) (λ n. one_spelled child second tx n) (Contains-cons_cases parent (child ∷ []) tx m)
