use Rattle.std.proofs.Common.{◌≡◌, ℕ, false, List, Option, length, sym, ap, ◌∙◌, subst, arith, eq-eqb}
use Rattle.std.specs.Prelude.{IfOk}
use Rattle.gate_bytes.specs.Order.{first_failing}
use Rattle.gate_rules.specs.declared.PackageDenial.{PackageDenial}
use Rattle.gate_pool.specs.Family.{AreIdsOf, is_below_some}
use Rattle.gate_pool.specs.Pool.{listing_of}
use Rattle.gate_package.specs.Replacement.{price_of_all, rules_on}
use Rattle.gate_rivals.specs.Rivals.{have_too_many, is_rival, replaced_together, rivals_of}
use Rattle.gate_package.proofs.Asking.{behind_three}
use Rattle.gate_package.proofs.Pricing.{of_two}
use Rattle.gate_rivals.proofs.Rivalry.{replaced_few}
use Rattle.gate_package.proofs.replacement.check_replacement.Goals as goal

pub check_replaced-requires-clause-listed : goal.check_replaced-requires-clause-listed
check_replaced-requires-clause-listed g c =
    let entries = c.args.pool.now.entries in
    let these = c.args.these.now in
    let rivals : AreIdsOf c.as_slice-2.result.now (rivals_of entries these) = subst (λ (l : List (List ℕ)). AreIdsOf l (rivals_of entries these)) (sym c.as_slice-2.ensures.value) c.in_ok-rivals.ensures in
    let named : c.as_slice-gone.result.now ≡ listing_of (replaced_together entries these) = c.as_slice-gone.ensures.value ∙ c.in_ok-gone.ensures these rivals in
    let stands : c.as_slice-replaced.result.now ≡ replaced_together entries these = c.as_slice-replaced.ensures.value ∙ c.in_ok-replaced.ensures (is_below_some (is_rival these) entries) named in
    named ∙ ap listing_of (sym stands)

pub check_replaced-requires-clause-few : goal.check_replaced-requires-clause-few
check_replaced-requires-clause-few g c =
    let entries = c.args.pool.now.entries in
    let these = c.args.these.now in
    let rivals : AreIdsOf c.as_slice-2.result.now (rivals_of entries these) = subst (λ (l : List (List ℕ)). AreIdsOf l (rivals_of entries these)) (sym c.as_slice-2.ensures.value) c.in_ok-rivals.ensures in
    let named : c.as_slice-gone.result.now ≡ listing_of (replaced_together entries these) = c.as_slice-gone.ensures.value ∙ c.in_ok-gone.ensures these rivals in
    let stands : c.as_slice-replaced.result.now ≡ replaced_together entries these = c.as_slice-replaced.ensures.value ∙ c.in_ok-replaced.ensures (is_below_some (is_rival these) entries) named in
    let asked : AreIdsOf c.as_slice.result.now (rivals_of entries these) = subst (λ (l : List (List ℕ)). AreIdsOf l (rivals_of entries these)) (sym c.as_slice.ensures.value) c.in_ok-rivals.ensures in
    let few : have_too_many entries (rivals_of entries these) ≡ false = sym (c.have_too_many.ensures (is_rival these) asked) ∙ c.if-have_too_many.false in
    let most = replaced_few entries these few in
    omega (arith, ap length stands, most)

pub check_replaced-requires-clause-small_sum : goal.check_replaced-requires-clause-small_sum
check_replaced-requires-clause-small_sum g c =
    let two = of_two c.args.prices.now c.requires.fit (c.requires.one_each ∙ c.if-these-ne2.false) in
    record { fee = omega (arith, c.sum_of.ensures.fee, two.fee); vsize = omega (arith, c.sum_of.ensures.vsize, two.vsize) }

pub check_replaced-requires-clause-some : goal.check_replaced-requires-clause-some
check_replaced-requires-clause-some g c =
    let two = of_two c.args.prices.now c.requires.fit (c.requires.one_each ∙ c.if-these-ne2.false) in
    omega (arith, c.sum_of.ensures.vsize, two.some)

pub returns : goal.returns
returns g c =
    let entries = c.args.pool.now.entries in
    let these = c.args.these.now in
    let rivals : AreIdsOf c.as_slice-2.result.now (rivals_of entries these) = subst (λ (l : List (List ℕ)). AreIdsOf l (rivals_of entries these)) (sym c.as_slice-2.ensures.value) c.in_ok-rivals.ensures in
    let named : c.as_slice-gone.result.now ≡ listing_of (replaced_together entries these) = c.as_slice-gone.ensures.value ∙ c.in_ok-gone.ensures these rivals in
    let stands : c.as_slice-replaced.result.now ≡ replaced_together entries these = c.as_slice-replaced.ensures.value ∙ c.in_ok-replaced.ensures (is_below_some (is_rival these) entries) named in
    let asked : AreIdsOf c.as_slice.result.now (rivals_of entries these) = subst (λ (l : List (List ℕ)). AreIdsOf l (rivals_of entries these)) (sym c.as_slice.ensures.value) c.in_ok-rivals.ensures in
    let few : have_too_many entries (rivals_of entries these) ≡ false = sym (c.have_too_many.ensures (is_rival these) asked) ∙ c.if-have_too_many.false in
    let prices = c.args.prices.now in
    let policy = c.args.policy.now in
    let sum : c.sum_of.result ≡ price_of_all prices = λ z. record { fee = c.sum_of.ensures.fee z; vsize = c.sum_of.ensures.vsize z } in
    let asked_on : first_failing (rules_on policy entries c.as_slice-replaced.result.now prices c.sum_of.result) ≡ first_failing (rules_on policy entries (replaced_together entries these) prices (price_of_all prices)) =
    λ z. first_failing (rules_on policy entries (stands z) prices (sum z)) in
    subst (λ (o : Option PackageDenial). IfOk c.check_replaced.result (λ denial. denial ≡ o))
    (asked_on ∙ behind_three policy entries these prices (eq-eqb (length these) 2 c.if-these-ne2.false) (sym c.have_ancestors.ensures ∙ c.if-have_ancestors.false) few) c.check_replaced.ensures
