use Rattle.std.proofs.Common.{◌∙◌, sym, ap, arith}
use Rattle.std.specs.Prelude.{option_and_then}
use Rattle.gate_inputs.specs.Reports.{last_of, redeem_of}
use Rattle.gate_inputs.proofs.Ends.{pop-last}
use Rattle.gate_inputs.proofs.judging.redeem_script.Goals as goal

pub returns-in-Some : goal.returns-in-Some
unfolding redeem_of
returns-in-Some c =
    pop-last c.into_vec-items.result.items c.pop.new.self.items c.pop.result c.pop.ensures.items (λ some. c.pop.ensures.variant.1 (omega (arith, c.into_vec-items.result.ok.0)))
    ∙ ap last_of c.into_vec-items.ensures ∙ ap (option_and_then last_of) (sym c.in-Some.is ∙ c.in_ok-stack.ensures)

pub returns-in-None : goal.returns-in-None
unfolding redeem_of
returns-in-None c = ap (option_and_then last_of) (sym c.in-None.is ∙ c.in_ok-stack.ensures)
