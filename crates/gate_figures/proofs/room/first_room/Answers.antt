use Rattle.std.proofs.Common.{◌≡◌, ℕ, Bool, is_some, ◌+◌, ◌∷◌, [], ◌∙◌, sym, ap, subst, List, true≢false}
use Rattle.std.specs.Prelude.{Contains, filter}
use Rattle.gate_tx.specs.Ids.{txid_of}
use Rattle.gate_bytes.proofs.Members.{Contains-head}
use Rattle.gate_graph.specs.declared.held.Totals.{Totals}
use Rattle.gate_pool.specs.Pool.{Admitted, entry_by_txid, size_of}
use Rattle.gate_pool.specs.Family.{descendants_of, is_conflict, conflicts_of, totals_of}
use Rattle.gate_pool.proofs.Walking.{Contains-from_filter}
use Rattle.gate_rbf.proofs.Counted.{entry_found}
use Rattle.gate_admit.specs.Limits.{grown, usual_limits}
use Rattle.gate_admit.proofs.Families.{grown-other}
use Rattle.gate_figures.specs.Rooms.{Limits}
use Rattle.gate_figures.proofs.room.first_room.Goals as goal

-- the only conflict is an entry
member : (entries : List Admitted) (test : Admitted → Bool) (e : Admitted) → filter test entries ≡ e ∷ [] → Contains entries e
member entries test e one = Contains-from_filter test entries e (subst (λ (l : List Admitted). Contains l e) (sym one) (Contains-head e []))

pub returns-in_default-clause-limits : goal.returns-in_default-clause-limits
returns-in_default-clause-limits g c =
    let direct = c.args.direct.now in
    c.usual_room-usual.ensures ∙ sym (grown-other direct.entries (conflicts_of direct.entries direct.tx) (usual_limits c.args.policy.now) (c.only.ensures.other c.in_default.is))

pub returns-in-Some-totals-clause-limits : goal.returns-in-Some-totals-clause-limits
returns-in-Some-totals-clause-limits g c =
    let direct = c.args.direct.now in
    let one = c.in-Some.ensures.one in
    let size : c.in-Some-totals.totals.now.below.size ≡ size_of (descendants_of direct.entries (txid_of one.0.tx)) =
    ap (λ (t : Totals). t.below.size) c.in-Some-totals.ensures.totals ∙ (λ i. (totals_of (c.pool.ensures i) (sym one.2 i)).below.size) in
    let usual = usual_limits c.args.policy.now in
    let grows : Limits → ℕ → Limits = λ l n. record l { descendants = l.descendants + 1; descendants_size = l.descendants_size + n } in
    ap (λ l. grows l c.in-Some-totals.totals.now.below.size) c.usual_room-usual.ensures ∙ ap (grows usual) size ∙ ap (λ l. grown direct.entries l usual) (sym one.1)

pub returns-in-None-clause-limits : goal.returns-in-None-clause-limits
returns-in-None-clause-limits g c =
    let direct = c.args.direct.now in
    let one = c.in-Some.ensures.one in
    let there = member direct.entries (is_conflict direct.tx) one.0 one.1 in
    absurd (true≢false (sym (entry_found direct.entries c.in-Some.conflict (one.0, there, one.2)) ∙ ap (λ (l : List Admitted). is_some (entry_by_txid l c.in-Some.conflict)) (sym c.pool.ensures) ∙ sym c.in-None.ensures.found))
