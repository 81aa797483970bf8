use Rattle.std.proofs.Common.{rules, tests}
use Rattle.std.proofs.lemmas.Iterator.Search.{all_from_yields_List}
use Rattle.std.proofs.lemmas.Iterator.Consumers.{YieldsList-from_first}
use Rattle.gate_script.specs.Instructions.{instruction_of, instructions}
use Rattle.gate_script.specs.Pushes.{pushes}
use Rattle.gate_script.proofs.pushes.is_push_only.Goals as goal

pub returns : goal.returns
returns c =
    all_from_yields_List pushes _ _ _ c.all.ensures.ran (YieldsList-from_first instruction_of (λ left. left) (instructions c.args.script.now) (c.ops.ensures)) (λ x b q k. search (rules, tests))
