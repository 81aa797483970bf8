use Rattle.std.proofs.Common.{◌||◌, take, sym, ap, ◌∙◌, arith}
use Rattle.std.specs.List.{list_any}
use Rattle.std.proofs.Math.Bool.{or-false}
use Rattle.std.proofs.lemmas.List.{take_all}
use Rattle.gate_pool.specs.Leaving.{has_left}
use Rattle.gate_pool.proofs.Points.{any_more}
use Rattle.gate_pool.proofs.moves.txids_left.Goals as goal

pub loop-gone-preserved : goal.loop-gone-preserved
loop-gone-preserved g c = λ id.
    let log = c.args.log.now in
    let i = c.loop-gone.gone-index in
    let x = c.gone-item.result in
    let test = has_left c.args.mark id in
    c.in_ok-add_left.ensures id
    ∙ ap (λ b. b || test x) (c.loop-gone.invariant id)
    ∙ ap (λ b. list_any test (take i log) || b) (sym (or-false (test x)))
    ∙ sym (any_more test log i x c.loop-gone-test.true c.gone-item.is)

pub returns : goal.returns
returns g c = λ id. c.loop-gone.invariant id ∙ ap (list_any (has_left c.args.mark id)) (take_all c.loop-gone.gone-index c.args.log.now (omega (arith, c.loop-gone-test.false)))
