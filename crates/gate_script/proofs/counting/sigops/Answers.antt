use Rattle.std.proofs.Common.{◌∷◌, ◌∙◌, ap, arith}
use Rattle.gate_script.specs.Instructions.{instruction_of}
use Rattle.gate_script.proofs.Operations.{sigops-nil, sigops-push, sigops-truncated, sigops-plain, sigops_of-most}
use Rattle.gate_script.proofs.counting.sigops.Goals as goal

pub loop-op-preserved-in-Push : goal.loop-op-preserved-in-Push
loop-op-preserved-in-Push c =
    let moved = c.in-Some.ensures.steps ∙ ap (λ op. instruction_of op ∷ c.next.new.self) c.in-Push.is in
    (tt, tt, omega arith, omega (arith, c.loop-op.invariant.3, sigops-push c.args.accurate c.loop-op.last_opcode c.loop-op.op-iterator c.next.new.self c.in-Push.opcode c.in-Push.bytes.now moved))

pub loop-op-preserved : goal.loop-op-preserved
loop-op-preserved c =
    let moved = c.in-Some.ensures.steps ∙ ap (λ op. instruction_of op ∷ c.next.new.self) c.in-Plain.is in
    (tt, tt, omega arith, omega (arith, c.loop-op.invariant.3, c.sigops_of_opcode.ensures, c.saturating_add-count.ensures, sigops-plain c.args.accurate c.loop-op.last_opcode c.loop-op.op-iterator c.next.new.self c.in-Plain.opcode moved))

pub returns-in-None : goal.returns-in-None
returns-in-None c =
    omega (arith, sigops_of-most c.args.accurate c.args.script.now, c.loop-op.invariant.3, sigops-nil c.args.accurate c.loop-op.last_opcode c.loop-op.op-iterator c.in-None.ensures.steps.0)

pub returns-in-Truncated : goal.returns-in-Truncated
returns-in-Truncated c =
    let moved = c.in-Some.ensures.steps ∙ ap (λ op. instruction_of op ∷ c.next.new.self) c.in-Truncated.is in
    omega (arith, sigops_of-most c.args.accurate c.args.script.now, c.loop-op.invariant.3, sigops-truncated c.args.accurate c.loop-op.last_opcode c.loop-op.op-iterator c.next.new.self c.in-Truncated.opcode moved)
