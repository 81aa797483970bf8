use Rattle.std.proofs.Common.{◌||◌, ◌∙◌, sym, get_or}
use Rattle.std.proofs.lemmas.List.Elements.{Contains-get_or}
use Rattle.std.proofs.lemmas.List.Folds.{list_any_more}
use Rattle.gate_bytes.proofs.Members.{list_any_of}
use Rattle.gate_diagram.specs.declared.price.Price.{Price}
use Rattle.gate_diagram.specs.Diagram.{is_below}
use Rattle.gate_diagram.proofs.diagram.is_below_at.Goals as goal

pub returns-then-is_below : goal.returns-then-is_below
returns-then-is_below c =
    let none : Price = record { fee = 0; vsize = 0 } in
    let rates = c.args.rates.now in
    let k = c.loop-rate.rate-index in
    sym (list_any_of (is_below c.args.chunks.now c.args.others.now) rates (get_or rates k none) (Contains-get_or rates k none c.loop-rate-test.true) (sym c.is_below.ensures ∙ c.if-is_below.true))

pub loop-rate-preserved : goal.loop-rate-preserved
loop-rate-preserved c =
    let none : Price = record { fee = 0; vsize = 0 } in
    let test = is_below c.args.chunks.now c.args.others.now in
    let k = c.loop-rate.rate-index in
    list_any_more test c.args.rates.now k none c.loop-rate-test.true ∙ (λ z. c.loop-rate.invariant z || (sym c.is_below.ensures ∙ c.if-is_below.false) z)
