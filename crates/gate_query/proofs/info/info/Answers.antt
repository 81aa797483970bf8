use Rattle.std.proofs.Common.{is_some, ap, ◌∙◌}
use Rattle.gate_tx.specs.Sizes.{weight_of}
use Rattle.gate_graph.specs.declared.held.Totals.{Totals}
use Rattle.gate_query.proofs.info.info.Goals as goal

pub unwrap-totals-requires : goal.unwrap-totals-requires
unwrap-totals-requires g c = c.totals.ensures.found ∙ ap is_some c.requires

pub returns : goal.returns
returns g c =
    let kept = rw c.unwrap-totals.ensures at c.totals.ensures.totals in
    let weight = c.weight.ensures ∙ ap weight_of (c.get.ensures ∙ c.identified.ensures) in
    λ i. record {
      wtxid = c.wtxid.ensures i;
      fee = c.fee.ensures.value i;
      vsize = c.vsize.ensures.value i;
      weight = weight i;
      time = c.time.ensures i;
      ancestor_count = (ap (λ (t : Totals). t.above.count) kept) i;
      ancestor_size = (ap (λ (t : Totals). t.above.size) kept) i;
      ancestor_fees = (ap (λ (t : Totals). t.above.fees) kept) i;
      descendant_count = (ap (λ (t : Totals). t.below.count) kept) i;
      descendant_size = (ap (λ (t : Totals). t.below.size) kept) i;
      descendant_fees = (ap (λ (t : Totals). t.below.fees) kept) i;
      is_replaceable = c.in_ok-is_replaceable.ensures i;
      depends = (c.from_vec-depends.ensures ∙ c.in_ok-parents.ensures) i;
      spent_by = (c.from_vec-spent_by.ensures ∙ c.in_ok-children.ensures) i;
    }
