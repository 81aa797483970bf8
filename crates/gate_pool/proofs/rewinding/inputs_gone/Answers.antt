use Rattle.std.proofs.Common.{◌+◌, ◌∙◌, sym, ap, length, arith}
use Rattle.std.specs.Prelude.{sum_by}
use Rattle.std.proofs.lemmas.List.{take_all}
use Rattle.gate_graph.specs.declared.held.Gone.{Gone}
use Rattle.gate_pool.specs.Pool.{Admitted}
use Rattle.gate_pool.proofs.Weights.{loads}
use Rattle.gate_pool.proofs.rewinding.inputs_gone.Goals as goal

pub returns : goal.returns
returns c =
    c.loop-gone.invariant
    ∙ ap (λ xs. sum_by (λ (x : Gone Admitted). length x.load.tx.inputs) xs + c.args.more) (take_all c.loop-gone.gone-index c.args.log.now (omega (arith, c.loop-gone-test.false)))
    ∙ ap (λ n. n + c.args.more) (sym (loads (λ (e : Admitted). length e.tx.inputs) c.args.log.now))
