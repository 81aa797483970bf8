use Rattle.std.proofs.Common.{◌≡◌, Option, Some, None, List, ℕ, not, refl, ◌∙◌, rules, tests}
use Rattle.std.specs.Str.{bytes_eq}
use Rattle.std.specs.Option.{option_map}
use Rattle.std.proofs.lemmas.Iterator.{YieldsList-from_slice}
use Rattle.std.proofs.lemmas.Iterator.Consumers.{YieldsList-from_copied}
use Rattle.std.proofs.lemmas.Iterator.Search.{find_from_yields_List}
use Rattle.gate_admit.proofs.truc.first_other.Goals as goal

itself : (o : Option (List ℕ)) → o ≡ option_map (λ (x : List ℕ). x) o
itself None = refl
itself (Some x) = refl

pub returns : goal.returns
returns c =
    itself c.find.result
    ∙ find_from_yields_List (λ (id : List ℕ). not (bytes_eq id c.args.txid.now)) _ _ c.find.result c.find.ensures.ran (YieldsList-from_copied (YieldsList-from_slice c.args.ids.now cc)) (λ x b q k. search (rules, tests))
