-- Sums over what all tokens know.
use Rattle.std.proofs.Common.{◌≡◌, ◌≢◌, ℕ, zero, suc, ◌+◌, ◌≤◌, List, [], ◌∷◌, ◌++◌, length, set, refl, sym, ap, ◌∙◌, arith}
use mathlib.Core.Option.{some, some-injective, some-ne-none}
use lib.ListN.{get_elem?}
use Rattle.gate_shared.specs.declared.tokens.Known.{Known}
use Rattle.gate_shared.specs.Tokens.{PassCall, weigh, total}

-- ---- the weights of calls

pub weigh-append : (h : ℕ → ℕ) (cs ds : List PassCall) → weigh h (cs ++ ds) ≡ weigh h cs + weigh h ds
weigh-append h [] ds = omega arith
weigh-append h (c ∷ cs) ds = omega (arith, weigh-append h cs ds)

-- ---- the sums over tokens

pub total-set : (f : Known → ℕ) (views : List Known) (by : ℕ) (v w : Known) → get_elem? views by ≡ some v → total f (set views by w) + f v ≡ total f views + f w
total-set f [] by v w is = absurd (some-ne-none v (sym is))
total-set f (x ∷ xs) zero v w is = let same : f x ≡ f v = ap f (some-injective x v is) in omega arith
total-set f (x ∷ xs) (suc by) v w is = omega (arith, total-set f xs by v w is)

pub total-snoc : (f : Known → ℕ) (views : List Known) (w : Known) → total f (views ++ w ∷ []) ≡ total f views + f w
total-snoc f [] w = omega arith
total-snoc f (x ∷ xs) w = omega (arith, total-snoc f xs w)

pub le-total : (f : Known → ℕ) (views : List Known) (by : ℕ) (v : Known) → get_elem? views by ≡ some v → f v ≤ total f views
le-total f [] by v is = absurd (some-ne-none v (sym is))
le-total f (x ∷ xs) zero v is = let same : f x ≡ f v = ap f (some-injective x v is) in omega arith
le-total f (x ∷ xs) (suc by) v is = omega (arith, le-total f xs by v is)

-- where f is 0, so is g
abbrev pub Follows : (f g : Known → ℕ) → List Known → Type 0
Follows f g views = (j : ℕ) (u : Known) → get_elem? views j ≡ some u → f u ≡ 0 → g u ≡ 0

total-none : (f g : Known → ℕ) (views : List Known) → Follows f g views → total f views ≡ 0 → total g views ≡ 0
total-none f g [] follows none = refl
total-none f g (x ∷ xs) follows none =
    omega (arith, follows 0 x refl (omega arith), total-none f g xs (λ j u is. follows (suc j) u is) (omega arith))

-- if one token has all of f, it has all of g
pub total-one : (f g : Known → ℕ) (views : List Known) (by : ℕ) (v : Known) → get_elem? views by ≡ some v → Follows f g views → total f views ≡ f v → total g views ≡ g v
total-one f g [] by v is follows all = absurd (some-ne-none v (sym is))
total-one f g (x ∷ xs) zero v is follows all =
    let same : f x ≡ f v = ap f (some-injective x v is) in
    let same' : g x ≡ g v = ap g (some-injective x v is) in
    omega (arith, total-none f g xs (λ j u there. follows (suc j) u there) (omega arith))
total-one f g (x ∷ xs) (suc by) v is follows all =
    let most : f v ≤ total f xs = le-total f xs by v is in
    omega (arith, follows 0 x refl (omega arith), total-one f g xs by v is (λ j u there. follows (suc j) u there) (omega arith))
