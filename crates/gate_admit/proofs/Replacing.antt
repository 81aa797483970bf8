-- A granted replacement pays for what it replaces, and leaves nothing behind that spends from what goes.
use Rattle.std.proofs.Common.{◌≡◌, ◌≤◌, ◌+◌, ℕ, Bool, true, false, not, ◌&&◌, if◌then◌else◌, List, [], Option, Some, Ok, sym, ◌∙◌, subst, arith}
use Rattle.std.specs.Prelude.{◌-◌, Contains, nat_lt}
use Rattle.std.specs.List.{list_any}
use Rattle.std.specs.Cmp.Lexicographic.{bytes_decides}
use Rattle.std.proofs.lemmas.Bool.{true≢false, false_from_ne_true, and_from, or_left, ltb-false, leb-false}
use Rattle.std.proofs.lemmas.List.Elements.{Contains-get_or}
use Rattle.gate_bytes.specs.Order.{Rule, first_failing, NoneFails}
use Rattle.gate_bytes.proofs.Members.{list_any_of}
use Rattle.gate_tx.specs.Ids.{txid_of}
use Rattle.gate_tx.specs.Tx.{Tx}
use Rattle.gate_graph.specs.Family.{reaches}
use Rattle.gate_graph.proofs.Reaching.{reaches-same}
use Rattle.gate_standard.specs.Amounts.{required_fee}
use Rattle.gate_pool.specs.Pool.{Admitted, has_txid}
use Rattle.gate_pool.specs.Family.{names, steps, all_below, is_below_some, is_conflict, without_below, descendants_of, fees_of}
use Rattle.gate_pool.specs.Counting.{is_counted, counted_of, replaced_beside}
use Rattle.gate_pool.proofs.Walking.{Contains-filter, Contains-from_filter}
use Rattle.gate_rbf.specs.Replacing.{rules_beside, replacement_rules, sharers}
use Rattle.gate_admit.specs.declared.attempt.Attempt.{Attempt}
use Rattle.gate_admit.specs.declared.attempt.Attempt.TheVariants.{First}
use Rattle.gate_admit.specs.declared.grant.Grant.{Grant}
use Rattle.gate_admit.specs.Granting.{Replaces}
use Rattle.gate_admit.specs.Laws.{PaysForSibling}
use Rattle.gate_admit.specs.Rules.{admission_rules, grant_of, decision_of}
use Rattle.gate_admit.specs.Standing.{Standing}
use Rattle.gate_admit.proofs.Evicting.{evicted, other_below}
use Rattle.gate_admit.proofs.Granted.{granted}
use Rattle.gate_admit.proofs.Lists.{none_pass}
use Rattle.gate_admit.proofs.Passing.{Passes, passes}
use Rattle.gate_admit.proofs.Staying.{below_some_closed, goes_below, named_step, stays_beside, stays_within}
use Rattle.gate_admit.specs.Policies.{incremental_feerate}
use Rattle.gate_admit.specs.Truc.{sibling_of}

-- ---- what is named

names_none : (test : Admitted → Bool) (entries : List Admitted) (e gone : Admitted) → Contains (without_below test entries) e → Contains (all_below test entries) gone → names e (txid_of gone.tx) ≡ false
names_none test entries e gone stays goes = false_from_ne_true _ (λ named.
    true≢false (sym (below_some_closed test entries (txid_of gone.tx) (txid_of e.tx) (named_step entries e (txid_of gone.tx) (stays_within test entries e stays) named) (goes_below test entries gone goes)) ∙ stays_beside test entries e stays))

-- ---- what is paid

pays_both : (paid required fee : ℕ) → nat_lt fee paid ≡ false → nat_lt (fee - paid) required ≡ false → paid + required ≤ fee
pays_both paid required fee h k = let a = ltb-false _ _ h in let b = ltb-false _ _ k in omega arith

asked : {L : Type 0} (b : Bool) (rules : List (Rule L)) → b ≡ true → NoneFails (if b then rules else []) → NoneFails rules
asked true rules e h = h
asked false rules e h = absurd (true≢false (sym e))

-- the rules beside a conflict, or beside the sibling
pub beside_conflict : (attempt : Attempt) (over : Standing) (tx : Tx) → Passes attempt over tx → list_any (is_counted (sibling_of attempt over.policy over.entries tx) tx) over.entries ≡ true
    → NoneFails (rules_beside (incremental_feerate over.policy) over.entries (counted_of over.entries (sibling_of attempt over.policy over.entries tx) tx) (sharers over.policy.parents over.entries (sibling_of attempt over.policy over.entries tx) tx) (fees_of (replaced_beside over.entries (sibling_of attempt over.policy over.entries tx) tx)) tx (grant_of attempt over tx).fee (grant_of attempt over tx).vsize)
unfolding grant_of replacement_rules
beside_conflict attempt over tx p conflicts = asked (list_any (is_counted (sibling_of attempt over.policy over.entries tx) tx) over.entries) _ conflicts p.replacement

replaces : (attempt : Attempt) (over : Standing) (tx : Tx) (grant : Grant)
    → NoneFails (rules_beside (incremental_feerate over.policy) over.entries (counted_of over.entries (sibling_of attempt over.policy over.entries tx) tx) (sharers over.policy.parents over.entries (sibling_of attempt over.policy over.entries tx) tx) (fees_of (replaced_beside over.entries (sibling_of attempt over.policy over.entries tx) tx)) tx grant.fee grant.vsize)
    → Replaces attempt over tx grant
unfolding rules_beside
replaces attempt over tx grant h =
    let sibling = sibling_of attempt over.policy over.entries tx in
    record {
      paid = pays_both (fees_of (replaced_beside over.entries sibling tx)) (required_fee (incremental_feerate over.policy) grant.vsize) grant.fee h.1.1.1.0 h.1.1.1.1.0;
      rate = λ k d l. leb-false _ _ (none_pass _ (counted_of over.entries sibling tx) h.0 k d l);
      whole = λ k d l n c m. names_none (is_counted sibling tx) over.entries _ _ (Contains-get_or (without_below (is_counted sibling tx) over.entries) k d l) (Contains-get_or (replaced_beside over.entries sibling tx) n c m);
    }

pub decided_replace : (attempt : Attempt) (over : Standing) (tx : Tx) (grant : Grant) → decision_of attempt over (Some tx) ≡ Ok grant
    → list_any (is_counted (sibling_of attempt over.policy over.entries tx) tx) over.entries ≡ true → Replaces attempt over tx grant
unfolding decision_of
decided_replace attempt over tx grant h conflicts =
    let both = granted (first_failing (admission_rules attempt over tx)) (grant_of attempt over tx) grant h in
    subst (Replaces attempt over tx) both.1 (replaces attempt over tx (grant_of attempt over tx) (beside_conflict attempt over tx (passes attempt over tx both.0) conflicts))

-- what evicts its sibling replaces that, and pays for it
pub decided_evict : (over : Standing) (tx : Tx) (grant : Grant) (txid : List ℕ) → decision_of First over (Some tx) ≡ Ok grant → sibling_of First over.policy over.entries tx ≡ Some txid → PaysForSibling over tx grant txid
decided_evict over tx grant txid h k =
    let w = evicted over.policy over.entries tx txid k in
    let under : Admitted → Bool = λ x. reaches (steps over.entries) (txid_of w.parent.tx) (txid_of x.tx) in
    let member : Contains over.entries w.other =
    Contains-from_filter under over.entries w.other (Contains-from_filter (λ (x : Admitted). not (has_txid x (txid_of w.parent.tx))) (descendants_of over.entries (txid_of w.parent.tx)) w.other (other_below w)) in
    let counts : is_counted (Some txid) tx w.other ≡ true = or_left (has_txid w.other txid) (is_conflict tx w.other) ((bytes_decides (txid_of w.other.tx) txid).1 w.is) in
    let some : list_any (is_counted (sibling_of First over.policy over.entries tx) tx) over.entries ≡ true =
    list_any_of (is_counted (sibling_of First over.policy over.entries tx) tx) over.entries w.other member (subst (λ (s : Option (List ℕ)). is_counted s tx w.other ≡ true) (sym k) counts) in
    let below : is_below_some (is_counted (Some txid) tx) over.entries w.other ≡ true =
    list_any_of (λ (x : Admitted). is_counted (Some txid) tx x && reaches (steps over.entries) (txid_of x.tx) (txid_of w.other.tx)) over.entries w.other member (and_from _ _ counts (reaches-same (steps over.entries) (txid_of w.other.tx))) in
    record {
      leaves = (w.other, Contains-filter (is_below_some (is_counted (Some txid) tx) over.entries) over.entries w.other member below, w.is);
      paid = subst (λ (s : Option (List ℕ)). fees_of (replaced_beside over.entries s tx) + required_fee (incremental_feerate over.policy) grant.vsize ≤ grant.fee) k (decided_replace First over tx grant h some).paid;
    }
