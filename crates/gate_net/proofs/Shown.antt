-- Eight groups as they are printed.
use Rattle.std.proofs.Common.{◌≡◌, ℕ, false, List, [], ◌∷◌, ◌++◌, length, get_or, map, sym, ap, subst}
use Rattle.std.specs.List.{join_with_byte}
use Rattle.std.specs.Fmt.{digits, HasWritten}
use Rattle.std.specs.declared.fmt.Formatter.{Formatter}
use Rattle.std.proofs.NetLemmas.Arrays.{eight_items}

pub rewritten : {W : Type 0} {took : W → List ℕ → W → Type 0} {f : Formatter W} {t u : List ℕ} {g : Formatter W} → HasWritten took f t g → t ≡ u → HasWritten took f u g
rewritten {W} {took} {f} {t} {u} {g} h is = subst (λ (s : List ℕ). HasWritten took f s g) is h

abbrev hex : List ℕ → ℕ → List ℕ
hex xs k = digits 16 false (get_or xs k 0)

pub eight_text : (xs : List ℕ) → length xs ≡ 8
    → hex xs 0 ++ (58 ∷ (hex xs 1 ++ (58 ∷ (hex xs 2 ++ (58 ∷ (hex xs 3 ++ (58 ∷ (hex xs 4 ++ (58 ∷ (hex xs 5 ++ (58 ∷ (hex xs 6 ++ (58 ∷ hex xs 7)))))))))))))
    ≡ join_with_byte 58 (map (digits 16 false) xs)
eight_text xs eight = sym (ap (λ (l : List ℕ). join_with_byte 58 (map (digits 16 false) l)) (eight_items xs eight))
