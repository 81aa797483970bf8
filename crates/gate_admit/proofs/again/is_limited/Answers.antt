use Rattle.std.proofs.Common.{◌≡◌, ◌<◌, ℕ, Bool, true, false, ◌&&◌, leb, List, length, refl, sym, ap, subst, ◌∙◌}
use Rattle.gate_tx.specs.Ids.{txid_of}
use Rattle.gate_graph.specs.Family.{reaches}
use Rattle.gate_pool.specs.Pool.{Admitted, has_txid, size_of}
use Rattle.gate_pool.specs.Family.{steps, ancestors_of, descendants_of, all_below, is_below_some, AreIdsOf}
use Rattle.gate_graph.specs.declared.held.Sums.{Sums}
use Rattle.gate_pool.proofs.Ids.{AreIdsOf-one}
use Rattle.gate_admit.specs.Policies.{most_ancestors, most_descendants, most_descendants_size}
use Rattle.gate_admit.proofs.Families.{below_one}
use Rattle.gate_admit.proofs.OwnLimits.{too_many_descend}
use Rattle.gate_admit.proofs.again.is_limited.Goals as goal

grouped : (a b c d : Bool) → (((a && b) && c) && d) ≡ (a && (b && (c && d)))
grouped true true c d = refl
grouped true false c d = refl
grouped false b c d = refl

pub returns-in_default-2 : goal.returns-in_default-2
returns-in_default-2 g c =
    let entries = g.V.FamilyView.entries c.args.pool.now in
    let x = c.args.txid.now in
    let own = c.requires in
    let test : Admitted → Bool = λ e. has_txid e x in
    let policy = c.args.policy.now in
    let many : most_descendants policy < length (all_below test entries) = subst (λ (n : ℕ). n < length (all_below test entries)) c.most_descendants-most_below.ensures (c.in_ok-below.ensures.many test (AreIdsOf-one entries own.0 x own.1 own.2) c.in_default-2.is) in
    sym (too_many_descend policy entries x (subst (λ (l : List Admitted). most_descendants policy < length l) (below_one entries own.0 x own.1 own.2 ∙ ap (descendants_of entries) own.2) many))

pub returns : goal.returns
returns g c =
    let entries = g.V.FamilyView.entries c.args.pool.now in
    let x = c.args.txid.now in
    let own = c.requires in
    let test : Admitted → Bool = λ e. has_txid e x in
    let above : AreIdsOf c.in-Some.above.items (ancestors_of entries x) = rw c.in-Some.is at c.in_ok-above.ensures.found in
    let below : AreIdsOf c.in-Some-2.below.items (all_below test entries) = rw c.in-Some-2.is at c.in_ok-below.ensures.found test (AreIdsOf-one entries own.0 x own.1 own.2) in
    let up = c.add_up-above.ensures.sums (λ e. reaches (steps entries) (txid_of e.tx) x) (subst (λ l. AreIdsOf l (ancestors_of entries x)) (sym c.deref.ensures.value) above) in
    let down = c.add_up-below.ensures.sums (is_below_some test entries) (subst (λ l. AreIdsOf l (all_below test entries)) (sym c.deref-2.ensures.value) below) in
    let same = below_one entries own.0 x own.1 own.2 ∙ ap (descendants_of entries) own.2 in
    let high = most_ancestors c.args.policy.now in
    let low = most_descendants c.args.policy.now in
    let wide = c.args.policy.now.ancestors_size in
    let deep = most_descendants_size c.args.policy.now in
    ap (λ (n : ℕ). (((leb c.add_up-above.result.count c.most_ancestors-most_above.result && leb c.add_up-above.result.size n) && leb c.add_up-below.result.count c.most_descendants-most_below.result) && leb c.add_up-below.result.size c.from-deep.result)) (c.from-wide.ensures ∙ c.ancestors_size.ensures)
    ∙ ap (λ (n : ℕ). (((leb c.add_up-above.result.count c.most_ancestors-most_above.result && leb c.add_up-above.result.size wide) && leb c.add_up-below.result.count c.most_descendants-most_below.result) && leb c.add_up-below.result.size n)) (c.from-deep.ensures ∙ c.most_descendants_size.ensures)
    ∙ ap (λ (m : ℕ). (((leb c.add_up-above.result.count m && leb c.add_up-above.result.size wide) && leb c.add_up-below.result.count c.most_descendants-most_below.result) && leb c.add_up-below.result.size deep)) c.most_ancestors-most_above.ensures
    ∙ ap (λ (m : ℕ). (((leb c.add_up-above.result.count high && leb c.add_up-above.result.size wide) && leb c.add_up-below.result.count m) && leb c.add_up-below.result.size deep)) c.most_descendants-most_below.ensures
    ∙ grouped (leb c.add_up-above.result.count high) (leb c.add_up-above.result.size wide) (leb c.add_up-below.result.count low) (leb c.add_up-below.result.size deep)
    ∙ ap (λ (s : Sums). leb s.count high && (leb s.size wide && (leb c.add_up-below.result.count low && leb c.add_up-below.result.size deep))) up
    ∙ ap (λ (s : Sums). leb (length (ancestors_of entries x)) high && (leb (size_of (ancestors_of entries x)) wide && (leb s.count low && leb s.size deep))) down
    ∙ ap (λ (l : List Admitted). leb (length (ancestors_of entries x)) high && (leb (size_of (ancestors_of entries x)) wide && (leb (length l) low && leb (size_of l) deep))) same
