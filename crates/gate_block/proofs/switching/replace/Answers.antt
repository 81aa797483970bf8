use Rattle.std.proofs.Common.{rules, ◌≡◌, ◌∙◌, sym, length}
use Rattle.std.proofs.lemmas.Result.{err_from_is_err_and}
use Rattle.gate_block.specs.Switching.{without_last}
use Rattle.gate_block.proofs.Switches.{come_and_gone, so_many_gone}
use Rattle.gate_block.proofs.switching.replace.Goals as goal

pub returns-in_err-top-clause-denied : goal.returns-in_err-top-clause-denied
returns-in_err-top-clause-denied g c =
    let p = err_from_is_err_and c.from_residual.result c.from_residual.ensures.1 in
    rw (p.1, p.2) tt

pub returns-in-Ok-clause-back : goal.returns-in-Ok-clause-back
returns-in-Ok-clause-back g c =
    let h = c.args.chain.now in
    let count : c.len-connected.result ≡ length c.args.blocks.items = c.len-connected.ensures ∙ (search rules) in
    let gone = c.from_vec.ensures ∙ c.in_ok-top.ensures.blocks in (
      c.of-before.ensures,
      (λ j. without_last (c.in-Ok.ensures.ok j) (count j))
          ∙ come_and_gone c.take_off.new.chain c.args.blocks.items ∙ c.in_ok-top.ensures.chain
          ∙ sym (so_many_gone h c.args.depth c.requires.within)
          ∙ (λ j. without_last (sym c.of-before.ensures j) (length (sym gone j))),
    )
