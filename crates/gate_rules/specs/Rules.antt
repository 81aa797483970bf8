-- By what a rule is found in the table.
use Rattle.std.specs.Prelude.{ℕ, Bool, ◌||◌, List, filter, map}
use Rattle.std.specs.Str.{bytes_eq}
use Rattle.std.specs.Char.{to_ascii_lowercase}
use Rattle.gate_rules.specs.Key.{Key, key}
use Rattle.gate_rules.specs.declared.rule.Rule.{Rule}

abbrev pub key_of : Rule → Key
key_of rule = key rule.name.now rule.token.now rule.then

-- the texts differ at most in the case of letters
unfoldable pub is_alike : List ℕ → List ℕ → Bool
is_alike text other = bytes_eq (map to_ascii_lowercase text) (map to_ascii_lowercase other)

-- the word is the name or the token, in either case
abbrev pub is_named : List ℕ → Key → Bool
is_named word k = is_alike k.name word || is_alike k.token word

-- the rules among these that the word names
abbrev pub named_among : List ℕ → List Rule → List Rule
named_among word rules = filter (λ (rule : Rule). is_named word (key_of rule)) rules
