use Rattle.std.proofs.Common.{◌+◌, ◌∙◌, ap, arith}
use Rattle.std.proofs.lemmas.List.{take_all}
use Rattle.gate_pool.specs.Log.{loads_of}
use Rattle.gate_pool.specs.Pool.{Pooled, inputs_of, room_of}
use Rattle.gate_pool.proofs.store.Store.inputs_left.Goals as goal

pub loop-txid-init : goal.loop-txid-init
loop-txid-init g c = omega (arith, c.in_ok-sum.ensures, ap (λ xs. (room_of (loads_of xs)).inputs) c.as_slice.ensures.value, ap (λ (p : Pooled). p.left.inputs) c.self.view_is)

pub returns : goal.returns
returns g c =
    let left = c.args.self.now.left.inputs in
    c.loop-txid.invariant
    ∙ ap (λ ids. left + inputs_of c.args.self.now.entries ids + c.args.more) (take_all c.loop-txid.txid-index c.args.leaving.now (omega (arith, c.loop-txid-test.false)))
