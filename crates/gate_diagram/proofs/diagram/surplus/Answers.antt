use Rattle.std.proofs.Common.{◌≡◌, ◌≤◌, ◌<◌, ◌+◌, ◌^◌, arith, get_or, take}
use Rattle.std.proofs.lemmas.List.Sums.{sum_by_more_le}
use Rattle.gate_diagram.specs.declared.price.Price.{Price}
use Rattle.gate_diagram.specs.Diagram.{beyond, surplus}
use Rattle.gate_diagram.proofs.Surplus.{surplus_fits}
use Rattle.gate_diagram.proofs.diagram.surplus.Goals as goal

pub overflow_add-sum : goal.overflow_add-sum
overflow_add-sum c =
    let none : Price = record { fee = 0; vsize = 0 } in
    let k = c.loop-chunk.chunk-index in
    let so_far : c.loop-chunk.sum ≡ surplus c.args.rate (take k c.args.chunks.now) = c.loop-chunk.invariant in
    let more : surplus c.args.rate (take k c.args.chunks.now) + beyond c.args.rate (get_or c.args.chunks.now k none) ≤ surplus c.args.rate c.args.chunks.now =
    sum_by_more_le (beyond c.args.rate) c.args.chunks.now k none c.loop-chunk-test.true in
    let fits : surplus c.args.rate c.args.chunks.now < 2 ^ 128 = surplus_fits c.args.rate c.args.chunks.now c.requires.small_rate c.requires.small c.requires.few in
    omega (arith, so_far, c.beyond-sum.ensures, more, fits)
