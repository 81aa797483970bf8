use Rattle.std.proofs.Common.{◌∷◌, [], sym, subst, arith}
use Rattle.std.specs.Prelude.{All}
use Rattle.std.proofs.lemmas.List.Elements.{All-append}
use Rattle.gate_admit.specs.Bounds.{FitsEntry}
use Rattle.gate_admit.specs.Lending.{lent_with}
use Rattle.gate_admit.proofs.Lists.{All-one}
use Rattle.gate_diagram.specs.declared.Price.{Price}
use Rattle.gate_package.specs.Together.{halves_as}
use Rattle.gate_package.proofs.Halves.{halves_next}
use Rattle.gate_package.proofs.together.judge_halves.Goals as goal

pub loop-tx-preserved : goal.loop-tx-preserved
loop-tx-preserved g c =
    let over = lent_with c.args.under.now c.args.pool.now.entries in
    let so = c.loop-tx.invariant in
    let price : Price = record { fee = c.in-Ok.half.fee; vsize = c.in-Ok.half.vsize } in
    let Fit = λ (p : Price). FitsEntry p.fee p.vsize in
    let fits = rw c.in-Ok.is at c.in_ok-half.ensures.fits in
    let passes = rw c.in-Ok.is at c.in_ok-half.ensures.ok in
    let fee = rw c.in-Ok.is at c.in_ok-half.ensures.fee in
    let vsize = rw c.in-Ok.is at c.in_ok-half.ensures.vsize in
    record {
      at = omega (arith, so.at);
      fit = subst (All Fit) (sym c.in_ok-push-in-Ok.ensures.items) (All-append Fit c.loop-tx.prices.items (price ∷ []) so.fit (All-one Fit price fits));
      rest = halves_next c.args.role c.args.max_rate over c.args.these.now c.loop-tx.place c.loop-tx.tx-index c.tx-item.result c.split_at.result.0.now c.loop-tx.prices.items c.push.new.self.items price
          (halves_as c.args.role c.args.max_rate over [] 0 c.args.these.now)
          c.loop-tx-test.true c.tx-item.is so.at c.split_at.ensures.front c.in_ok-push-in-Ok.ensures.items passes fee vsize so.rest;
    }
