use Rattle.std.proofs.Common.{rules, tests}
use Rattle.std.proofs.lemmas.Iterator.Search.{any_from_yields_List}
use Rattle.std.proofs.lemmas.Iterator.Consumers.{YieldsList-from_first}
use Rattle.gate_script.specs.Instructions.{instruction_of, instructions}
use Rattle.gate_package.specs.Shapes.{is_invalid}
use Rattle.gate_package.proofs.shape.has_invalid.Goals as goal

pub returns : goal.returns
returns c =
    any_from_yields_List is_invalid _ _ _ c.any.ensures.ran (YieldsList-from_first instruction_of (λ left. left) (instructions c.args.script.now) (c.ops.ensures)) (λ x b q k. search (rules, tests))
