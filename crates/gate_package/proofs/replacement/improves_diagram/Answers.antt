use Rattle.std.proofs.Common.{ap, ◌∙◌, arith, length}
use Rattle.gate_package.proofs.Chunking.{new_few}
use Rattle.gate_package.proofs.replacement.improves_diagram.Goals as goal

pub improves-requires-clause-few : goal.improves-requires-clause-few
improves-requires-clause-few g c =
    let few = new_few c.args.pool.now.entries c.args.replaced.now c.args.sum in
    omega (arith, ap length (c.deref.ensures.value ∙ c.in_ok-new.ensures.items), few, c.requires.few)
