-- What is found among rules, by what they are compared by.
use Rattle.std.proofs.Common.{◌≡◌, Bool, true, false, cond, List, [], ◌∷◌, map, filter, refl, sym, ap}
use Rattle.gate_rules.specs.Key.{Key}
use Rattle.gate_rules.specs.Rules.{key_of}
use Rattle.gate_rules.specs.declared.rule.Rule.{Rule}

chosen : (is : Bool) (rule : Rule) (rules : List Rule) (keys : List Key) → map key_of rules ≡ keys
    → map key_of (cond is (rule ∷ rules) rules) ≡ cond is (key_of rule ∷ keys) keys
chosen true rule rules keys e = ap (λ (ks : List Key). key_of rule ∷ ks) e
chosen false rule rules keys e = e

pub map_filter : (test : Key → Bool) (rules : List Rule)
    → map key_of (filter (λ (rule : Rule). test (key_of rule)) rules) ≡ filter test (map key_of rules)
map_filter test [] = refl
map_filter test (rule ∷ rules) =
    chosen (test (key_of rule)) rule (filter (λ (r : Rule). test (key_of r)) rules) (filter test (map key_of rules)) (map_filter test rules)

-- two tests of which each follows from the other
pub both_or_neither : (one other : Bool) → (one ≡ true → other ≡ true) → (other ≡ true → one ≡ true) → one ≡ other
both_or_neither true other to from = sym (to refl)
both_or_neither false true to from = from refl
both_or_neither false false to from = refl
