-- Names with commas between them.
use Rattle.std.proofs.Common.{◌≡◌, ℕ, false, ◌==◌, List, [], ◌∷◌, ◌++◌, map, length, refl, ap}
use Rattle.std.specs.Prelude.{codes}
use Rattle.std.specs.List.{flat_map, join_by}
use Rattle.gate_net.specs.Permissions.{joined}

later : {X : Type 0} (f : X → List ℕ) (xs : List X) → flat_map (λ (y : X). codes "," ++ f y) xs ≡ flat_map (λ (n : List ℕ). codes "," ++ n) (map f xs)
later f [] = refl
later f (x ∷ xs) = ap (λ l. (codes "," ++ f x) ++ l) (later f xs)

pub joined_by : {X : Type 0} (f : X → List ℕ) (xs : List X) → (length xs == 0) ≡ false → join_by f (codes ",") xs ≡ joined (map f xs)
joined_by f [] h = cc
joined_by f (x ∷ xs) h = ap (λ l. f x ++ l) (later f xs)
