use Rattle.std.proofs.Common.{◌≡◌, ◌<◌, ◌≤◌, ◌^◌, ℕ, ap, sym, subst, ◌∙◌, arith}
use Rattle.std.specs.Prelude.{nat_le}
use Rattle.gate_tx.specs.Money.{max_money}
use Rattle.gate_standard.specs.Amounts.{feerate}
use Rattle.gate_figures.proofs.Passing.{small_rate}
use Rattle.gate_figures.proofs.least.fee_over.Goals as goal

pub fee_above-requires : goal.fee_above-requires
fee_above-requires c = record {
  some = c.requires;
  small = let h = small_rate c.fee.result c.vsize.result c.fee.ensures.most in subst (λ (r : ℕ). r < 2 ^ 62) (sym c.rate_of.ensures) h;
}

pub returns : goal.returns
returns c = λ fee.
    let is : c.rate_of.result ≡ feerate c.args.entry.now.fee c.args.entry.now.vsize = c.rate_of.ensures ∙ (λ i. feerate (c.fee.ensures.value i) (c.vsize.ensures.value i)) in
    ap (λ (r : ℕ). nat_le (feerate fee c.args.vsize) r) (sym is) ∙ c.fee_above.ensures fee
