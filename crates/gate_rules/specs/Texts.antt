-- The lines that are printed of rules.
use Rattle.std.specs.Prelude.{ℕ, List, [], ◌∷◌, ◌++◌, codes, Option, Some, None}
use Rattle.std.specs.Borrow.{Bor}
use Rattle.std.specs.List.{flat_map}
use Rattle.gate_rules.specs.declared.rule.Rule.{Rule}
use Rattle.gate_rules.specs.declared.rule.Consequence.{Consequence}
use Rattle.gate_rules.specs.declared.rule.Consequence.TheVariants.{Keep, Close, CloseAlways, Relay, Nothing, EndsRun, EndsProgram}

abbrev pub then_text : Consequence → List ℕ
then_text Keep = codes "The session is kept."
then_text Close = codes "The session is closed, unless the peer has noban."
then_text CloseAlways = codes "The session is closed, also with noban."
then_text Relay = codes "The session is kept, and for a peer with forcerelay the transaction is relayed once more."
then_text Nothing = codes "Nothing changes."
then_text EndsRun = codes "The run ends there."
then_text EndsProgram = codes "The program ends with status 2."

-- the line of a rule by its parts, with the name in Bitcoin Core if there is one
abbrev pub text_of : List ℕ → List ℕ → List ℕ → List ℕ → Option (Bor (List ℕ)) → List ℕ
text_of name token says then None = name ++ (codes " " ++ (token ++ (codes ": " ++ (says ++ (codes ". " ++ then)))))
text_of name token says then (Some core) =
    name ++ (codes " " ++ (token ++ (codes ": " ++ (says ++ (codes ". " ++ (then ++ (codes " Core: " ++ (core.now ++ codes "."))))))))

-- `NAME TOKEN: SENTENCE. WHAT FOLLOWS. Core: NAME.`
abbrev pub rule_text : Rule → List ℕ
rule_text rule = text_of rule.name.now rule.token.now rule.says.now (then_text rule.then) rule.core

-- the text of these rules, a line each
abbrev pub rules_text : List Rule → List ℕ
rules_text rules = flat_map (λ (rule : Rule). rule_text rule ++ 10 ∷ []) rules
