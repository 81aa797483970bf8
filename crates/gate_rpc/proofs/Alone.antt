-- The parameters as a list of values.
use Rattle.std.proofs.Common.{◌≡◌, List, [], ◌∷◌, length, None, refl, arith}
use Rattle.std.specs.Prelude.{◌≢◌, ◌==◌}
use Rattle.std.proofs.lemmas.Bool.Decides.{nat_tests}
use Rattle.serde_json.specs.View.{items_view}
use Rattle.serde_json.specs.declared.value.Value.{Value}
use Rattle.gate_rpc.specs.Calls.{only, is_none, package_in}

-- a list of none or of several has no item alone
pub not_alone : (vs : List Value) → length vs ≢ 1 → None ≡ only (items_view vs)
not_alone [] other = refl
not_alone (v ∷ []) other = absurd (other refl)
not_alone (v ∷ w ∷ vs) other = refl

pub none_is_empty : (vs : List Value) → (length vs == 0) ≡ is_none (items_view vs)
none_is_empty [] = refl
none_is_empty (v ∷ vs) = grind (arith, nat_tests)

-- a list of none, or of more than three, is no package with what a call allows
pub not_package : (vs : List Value) → length vs ≢ 1 → length vs ≢ 2 → length vs ≢ 3 → None ≡ package_in (items_view vs)
not_package [] one two three = refl
not_package (v ∷ []) one two three = absurd (one refl)
not_package (v ∷ w ∷ []) one two three = absurd (two refl)
not_package (v ∷ w ∷ x ∷ []) one two three = absurd (three refl)
not_package (v ∷ w ∷ x ∷ y ∷ vs) one two three = refl
