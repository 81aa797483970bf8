-- A written order: rules in turn, each with what is said if it fails, and the first that fails.
use Rattle.std.specs.Prelude.{◌≡◌, Bool, true, false, if◌then◌else◌, List, [], ◌∷◌, ◌++◌, Option, Some, None}

-- a rule: what is said if it fails, and whether it fails
abbrev pub Rule : Type 0 → Type 0
Rule L = L × Bool

-- what the first rule that fails says, or none
abbrev pub first_failing : {L : Type 0} → List (Rule L) → Option L
first_failing [] = None
first_failing (rule ∷ rules) = if rule.1 then Some rule.0 else first_failing rules

abbrev pub NoneFails : {L : Type 0} → List (Rule L) → Type 0
NoneFails [] = Unit {0}
NoneFails (rule ∷ rules) = (rule.1 ≡ false) × NoneFails rules

-- the rule that says this fails, and no rule before it does
abbrev pub IsFirstFailing : {L : Type 0} → List (Rule L) → L → Type 0
IsFirstFailing {L} rules said = (before : List (Rule L)) × (after : List (Rule L)) × (rules ≡ before ++ ((said, true) ∷ after)) × NoneFails before

-- what the first rule that fails says, or none if no rule fails
abbrev pub IsFirstOf : {L : Type 0} → List (Rule L) → Option L → Type 0
IsFirstOf rules None = NoneFails rules
IsFirstOf rules (Some said) = IsFirstFailing rules said
