use Rattle.std.proofs.Common.{rules, arith, ◌≡◌, ◌∙◌, ◌||◌, false, nat_lt, length, sym, ap, subst, IfErr, Some, if◌then◌else◌}
use Rattle.std.proofs.lemmas.Bool.Decides.{nat_tests}
use Rattle.gate_bytes.specs.Order.{first_failing}
use Rattle.gate_rules.specs.declared.ChainDenial.TheVariants.{NoUndo}
use Rattle.gate_chain.specs.Connecting.{Tells}
use Rattle.gate_block.specs.Switching.{blocks_rules, max_depth, without_last}
use Rattle.gate_block.proofs.Switches.{none_gone}
use Rattle.gate_block.proofs.switching.switch.Goals as goal

pub returns-then-depth-eq0-clause-denied : goal.returns-then-depth-eq0-clause-denied
returns-then-depth-eq0-clause-denied g c =
    let h = c.args.chain.now in
    let none : c.args.depth ≡ 0 = grind (arith, nat_tests) in
    let shallow : (nat_lt max_depth c.args.depth || nat_lt (length h.blocks) c.args.depth) ≡ false = sym c.is_too_deep.ensures ∙ (search rules) in
    let same : h ≡ without_last h c.args.depth = sym (none_gone h) ∙ ap (without_last h) (sym none) in
    subst (λ o. IfErr c.extend.result (λ fault. Tells fault o))
    (λ j. if sym shallow j then Some NoUndo else first_failing (blocks_rules (same j) c.args.blocks.items)) c.extend.ensures.denied
