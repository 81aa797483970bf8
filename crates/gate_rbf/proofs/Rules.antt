-- The rules of a replacement, in turn.
use Rattle.std.proofs.Common.{◌≡◌, ℕ, true, false, if◌then◌else◌, List, [], Option, Some, None, sym, ap, ◌∙◌, true≢false, ◌&&◌}
use Rattle.std.specs.Prelude.{nat_le, nat_lt}
use Rattle.std.specs.List.{list_any}
use Rattle.std.proofs.lemmas.Bool.{and_parts, false_from_ne_true}
use Rattle.gate_bytes.specs.Order.{first_failing}
use Rattle.gate_graph.specs.Family.{reaches}
use Rattle.gate_bytes.proofs.Members.{any_is, list_any_of}
use Rattle.gate_tx.specs.Ids.{txid_of}
use Rattle.gate_tx.specs.Tx.{Tx}
use Rattle.gate_standard.specs.Amounts.{feerate}
use Rattle.gate_standard.specs.declared.Feerate.{Feerate}
use Rattle.gate_rules.specs.declared.Denial.TheVariants.{LowerFeeRate, TooManyReplacements, AddsUnconfirmed}
use Rattle.gate_pool.specs.Pool.{Admitted}
use Rattle.gate_pool.specs.Family.{steps, is_below_some, fees_of}
use Rattle.gate_pool.specs.Counting.{is_counted, counted_of, replaced_beside}
use Rattle.gate_rbf.specs.declared.parents.ParentsOf.{ParentsOf}
use Rattle.gate_rbf.specs.Replacing.{replacement_rules, rules_beside, descendant_count, adds_unconfirmed, sharers}
use Rattle.gate_rbf.specs.Paying.{amount_rules}
use Rattle.gate_rbf.proofs.Alone.{none_kept}

-- one without a conflict passes
pub unasked : (rate : Feerate) (parents : ParentsOf) (entries : List Admitted) (sibling : Option (List ℕ)) (tx : Tx) (fee vsize : ℕ) → list_any (is_counted sibling tx) entries ≡ false → first_failing (replacement_rules rate parents entries sibling tx fee vsize) ≡ None
unfolding replacement_rules
unasked rate parents entries sibling tx fee vsize none =
    ap (λ b. first_failing (if b then rules_beside rate entries (counted_of entries sibling tx) (sharers parents entries sibling tx) (fees_of (replaced_beside entries sibling tx)) tx fee vsize else [])) none

module _ (rate : Feerate) (parents : ParentsOf) (entries : List Admitted) (sibling : Option (List ℕ)) (tx : Tx) (fee vsize : ℕ) (some : list_any (is_counted sibling tx) entries ≡ true) where
  asked : first_failing (replacement_rules rate parents entries sibling tx fee vsize) ≡ first_failing (rules_beside rate entries (counted_of entries sibling tx) (sharers parents entries sibling tx) (fees_of (replaced_beside entries sibling tx)) tx fee vsize)
  unfolding replacement_rules
  asked = ap (λ b. first_failing (if b then rules_beside rate entries (counted_of entries sibling tx) (sharers parents entries sibling tx) (fees_of (replaced_beside entries sibling tx)) tx fee vsize else [])) some

  -- A38 fails
  pub fails_rate : list_any (λ (c : Admitted). nat_le (feerate fee vsize) (feerate c.fee c.vsize)) (counted_of entries sibling tx) ≡ true → first_failing (replacement_rules rate parents entries sibling tx fee vsize) ≡ Some LowerFeeRate
  unfolding rules_beside
  fails_rate r = asked ∙ rw r

  module _ (r : list_any (λ (c : Admitted). nat_le (feerate fee vsize) (feerate c.fee c.vsize)) (counted_of entries sibling tx) ≡ false) where
    -- A39 fails
    pub fails_count : nat_lt 100 (descendant_count entries (counted_of entries sibling tx)) ≡ true → first_failing (replacement_rules rate parents entries sibling tx fee vsize) ≡ Some TooManyReplacements
    unfolding rules_beside
    fails_count n = asked ∙ rw (r, n)

    module _ (n : nat_lt 100 (descendant_count entries (counted_of entries sibling tx)) ≡ false) where
      -- A40 fails
      pub fails_parents : adds_unconfirmed parents entries sibling tx ≡ true → first_failing (replacement_rules rate parents entries sibling tx fee vsize) ≡ Some AddsUnconfirmed
      unfolding rules_beside
      fails_parents p = asked ∙ rw (r, n, p)

      -- A41 and A42 are left
      pub leaves_amounts : adds_unconfirmed parents entries sibling tx ≡ false
          → first_failing (replacement_rules rate parents entries sibling tx fee vsize) ≡ first_failing (amount_rules rate (fees_of (replaced_beside entries sibling tx)) fee vsize)
      unfolding rules_beside
      leaves_amounts p = asked ∙ rw (r, n, p)

-- one without a conflict replaces none
pub none_replaced : (entries : List Admitted) (sibling : Option (List ℕ)) (tx : Tx) → list_any (is_counted sibling tx) entries ≡ false → replaced_beside entries sibling tx ≡ []
none_replaced entries sibling tx none =
    none_kept (is_below_some (is_counted sibling tx) entries) entries (λ e m. false_from_ne_true _ (λ h.
    let w = any_is (λ a. is_counted sibling tx a && reaches (steps entries) (txid_of a.tx) (txid_of e.tx)) entries h in
    true≢false (sym (list_any_of (is_counted sibling tx) entries w.0 w.1 (and_parts _ _ w.2).0) ∙ none)))
