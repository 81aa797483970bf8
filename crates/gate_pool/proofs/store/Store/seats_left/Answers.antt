use Rattle.std.proofs.Common.{◌++◌, ◌∷◌, [], map, cond, ap, ◌∙◌, arith}
use Rattle.std.specs.Prelude.{filter}
use Rattle.std.proofs.lemmas.List.{take_all}
use Rattle.gate_pool.specs.Leaving.{has_gone, seated}
use Rattle.gate_pool.proofs.Seats.{picked_more}
use Rattle.gate_pool.proofs.store.Store.seats_left.Goals as goal

pub loop-gone-preserved : goal.loop-gone-preserved
loop-gone-preserved g c =
    let log = c.args.log.now in
    let i = c.loop-gone.gone-index in
    let x = c.gone-item.result in
    let test = has_gone c.args.self.now.entries c.args.mark in
    c.in_ok-add_gone.ensures
    ∙ ap (λ l. l ++ cond (test x) (seated x ∷ []) []) c.loop-gone.invariant
    ∙ picked_more seated test log i x c.loop-gone-test.true c.gone-item.is

pub returns : goal.returns
returns g c = c.loop-gone.invariant ∙ ap (λ l. map seated (filter (has_gone c.args.self.now.entries c.args.mark) l)) (take_all c.loop-gone.gone-index c.args.log.now (omega (arith, c.loop-gone-test.false)))
