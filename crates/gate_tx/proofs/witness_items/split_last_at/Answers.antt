use Rattle.std.proofs.Common.{◌≡◌, ◌-◌, suc, ap, sym, ◌∙◌, arith}
use Rattle.gate_tx.specs.Items.{items_at}
use Rattle.gate_tx.proofs.Items.{none_at, front_has, last_is, last_comes}
use Rattle.gate_tx.proofs.witness_items.split_last_at.Goals as goal

pub returns-then-count-eq0 : goal.returns-then-count-eq0
returns-then-count-eq0 c = ap (λ n. items_at n c.args.bytes.now) c.if-count-eq0.true ∙ none_at c.args.bytes.now

pub returns-in_default : goal.returns-in_default
returns-in_default c =
    let more : c.args.count ≡ suc (c.args.count - 1) = omega (arith, c.if-count-eq0.false) in
    absurd (last_comes c.args.count (c.args.count - 1) c.args.bytes.now more c.requires c.in_default.ensures)

pub of-requires : goal.of-requires
of-requires c = (front_has (c.args.count - 1) c.args.count c.args.bytes.now (omega arith) c.requires).0

pub returns : goal.returns
returns c =
    let more : c.args.count ≡ suc (c.args.count - 1) = omega (arith, c.if-count-eq0.false) in
    rw c.of.ensures (last_is c.args.count (c.args.count - 1) c.args.bytes.now c.in-Some.last.now more c.requires (sym c.in-Some.ensures))
