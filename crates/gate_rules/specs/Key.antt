-- What is said of a rule or a word that is printed, but for its sentence.
use Rattle.std.specs.Prelude.{ℕ, List}
use Rattle.gate_rules.specs.declared.rule.Consequence.{Consequence}

-- what stands before the token, the token, and what follows
pub record Key : Type 0 where
  pub name : List ℕ
  pub token : List ℕ
  pub follows : Consequence

abbrev pub key : List ℕ → List ℕ → Consequence → Key
key name token follows = record { name = name; token = token; follows = follows }
