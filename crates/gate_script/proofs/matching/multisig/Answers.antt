use Rattle.std.proofs.Common.{◌≡◌, ◌∷◌, ◌∙◌, true, sym, ap, arith}
use Rattle.gate_script.specs.Instructions.{instruction_of}
use Rattle.gate_script.specs.Templates.{pushes_key}
use Rattle.gate_script.proofs.Keys.{finish, finish-more}
use Rattle.gate_script.proofs.matching.multisig.Goals as goal

pub loop-op-preserved : goal.loop-op-preserved
loop-op-preserved c =
    let op = instruction_of c.in-Some.op in
    let left = c.next-in-loop-op.new.self in
    let key : pushes_key op ≡ true = cc in
    let moved : c.loop-op.left ≡ op ∷ left = c.in-Some.ensures.steps in
    (tt, tt, omega arith, sym (finish-more c.in_ok-required.required c.loop-op.keys op left key) ∙ ap (finish c.in_ok-required.required c.loop-op.keys) (sym moved) ∙ c.loop-op.invariant.3)
