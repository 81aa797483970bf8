use Rattle.std.proofs.Common.{◌≡◌, ◌<◌, ◌≤◌, [], ◌+◌, ℕ, length, get_or, ap}
use Rattle.gate_try.specs.Spent.{spent_from}
use Rattle.gate_try.proofs.Spending.{coin_next, coins_end, coins_lack}
use Rattle.gate_try.proofs.signed.spent_from.Goals as goal

pub returns-in_default : goal.returns-in_default
returns-in_default c =
    let lt : c.loop-input.place < length c.args.inputs.now = rw c.loop-input.invariant.0 c.loop-input-test.true in
    let is : c.input-item.result ≡ get_or c.args.inputs.now c.loop-input.place c.input-item.result = rw c.loop-input.invariant.0 c.input-item.is in
    coins_lack c.args.said.now c.loop-input.place c.loop-input.coins.items c.args.inputs.now c.args.had.now (spent_from c.args.said.now [] c.args.inputs.now c.args.had.now) c.input-item.result lt is c.in_default.ensures.lookup.3 c.loop-input.invariant.1

pub loop-input-preserved : goal.loop-input-preserved
loop-input-preserved c =
    let lt : c.loop-input.place < length c.args.inputs.now = rw c.loop-input.invariant.0 c.loop-input-test.true in
    let is : c.input-item.result ≡ get_or c.args.inputs.now c.loop-input.place c.input-item.result = rw c.loop-input.invariant.0 c.input-item.is in (
      ap (λ (n : ℕ). n + 1) c.loop-input.invariant.0,
      rw c.in_ok-take_coin.ensures (coin_next c.args.said.now c.loop-input.place c.loop-input.coins.items c.args.inputs.now c.args.had.now (spent_from c.args.said.now [] c.args.inputs.now c.args.had.now) c.input-item.result c.in-Some.it.now lt is c.in-Some.ensures.lookup.3.0 c.in-Some.ensures.lookup.1 c.loop-input.invariant.1),
    )

pub returns : goal.returns
returns c =
    let le : length c.args.inputs.now ≤ c.loop-input.place = rw c.loop-input.invariant.0 c.loop-input-test.false in
    coins_end c.args.said.now c.loop-input.place c.loop-input.coins.items c.args.inputs.now c.args.had.now (spent_from c.args.said.now [] c.args.inputs.now c.args.had.now) le c.loop-input.invariant.1
