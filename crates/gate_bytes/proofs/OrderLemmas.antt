-- The first failing rule of a list, and of two lists in turn.
use Rattle.std.proofs.Common.{◌≡◌, Bool, true, false, if◌then◌else◌, List, [], ◌∷◌, ◌++◌, Option, Some, None, refl, ap, subst, ◌∙◌}
use Rattle.std.specs.Option.{option_or}
use Rattle.gate_bytes.specs.Order.{Rule, first_failing, NoneFails, IsFirstOf}

passes_on : {L : Type 0} (rule : Rule L) (rules : List (Rule L)) (found : Option L) → rule.1 ≡ false → IsFirstOf rules found → IsFirstOf (rule ∷ rules) found
passes_on rule rules None is h = (is, h)
passes_on rule rules (Some said) is (before, after, parts, none) = (rule ∷ before, after, ap (λ l. rule ∷ l) parts, (is, none))

first_by : {L : Type 0} (said : L) (fails : Bool) (rules : List (Rule L)) → IsFirstOf rules (first_failing rules)
    → IsFirstOf ((said, fails) ∷ rules) (if fails then Some said else first_failing rules)
first_by said true rules h = ([], rules, refl, tt)
first_by said false rules h = passes_on (said, false) rules (first_failing rules) refl h

-- what is found is the first that fails, or that none does
pub first_failing_is_first : {L : Type 0} (rules : List (Rule L)) → IsFirstOf rules (first_failing rules)
first_failing_is_first [] = tt
first_failing_is_first (rule ∷ rules) = first_by rule.0 rule.1 rules (first_failing_is_first rules)

skips : {L : Type 0} (said : L) (fails : Bool) (rest more : Option L) → (if fails then Some said else option_or rest more) ≡ option_or (if fails then Some said else rest) more
skips said true rest more = refl
skips said false rest more = refl

pub first_failing_append : {L : Type 0} (xs ys : List (Rule L)) → first_failing (xs ++ ys) ≡ option_or (first_failing xs) (first_failing ys)
first_failing_append [] ys = refl
first_failing_append (x ∷ xs) ys = ap (λ o. if x.1 then Some x.0 else o) (first_failing_append xs ys) ∙ skips x.0 x.1 (first_failing xs) (first_failing ys)

pub found_in_first : {L : Type 0} (xs ys : List (Rule L)) (said : L) → first_failing xs ≡ Some said → first_failing (xs ++ ys) ≡ Some said
found_in_first xs ys said h = first_failing_append xs ys ∙ ap (λ o. option_or o (first_failing ys)) h

pub found_in_second : {L : Type 0} (xs ys : List (Rule L)) → first_failing xs ≡ None → first_failing (xs ++ ys) ≡ first_failing ys
found_in_second xs ys h = first_failing_append xs ys ∙ ap (λ o. option_or o (first_failing ys)) h

pub none_fails-append : {L : Type 0} (xs ys : List (Rule L)) → NoneFails (xs ++ ys) → NoneFails xs × NoneFails ys
none_fails-append [] ys h = (tt, h)
none_fails-append (x ∷ xs) ys h = let w = none_fails-append xs ys h.1 in ((h.0, w.0), w.1)

pub none_fails : {L : Type 0} (rules : List (Rule L)) → first_failing rules ≡ None → NoneFails rules
none_fails rules h = subst (IsFirstOf rules) h (first_failing_is_first rules)
