use Rattle.std.proofs.Common.{[], refl, sym, subst, ◌+◌, ℕ, List, take}
use Rattle.std.specs.Prelude.{filter}
use Rattle.gate_pool.specs.Family.{is_among, AreIdsOf}
use Rattle.gate_rbf.specs.Gathering.{IsPut}
use Rattle.gate_rbf.proofs.Putting.{AreIdsOf-none, AreIdsOf-entry, AreIdsOf-no_entry}
use Rattle.gate_rbf.proofs.below.admitted.Goals as goal
use Rattle.gate_rbf.proofs.below.admitted.Goals.{in-Some+in_ok-put-in-Some, in-None}

pub loop-id-init : goal.loop-id-init
loop-id-init g c =
    let entries = c.args.pool.now.entries in
    subst (λ (l : List (List ℕ)). AreIdsOf l (filter (is_among []) entries)) (sym c.new-found.ensures.items) (AreIdsOf-none (is_among []) entries (λ e m. refl))

pub loop-id-preserved : goal.loop-id-preserved
loop-id-preserved g c =
    let entries = c.args.pool.now.entries in
    let ids = c.args.ids.now in
    let k = c.loop-id.id-index in
    elim c.match-entry.branch [
      | in-Some+in_ok-put-in-Some w ↦
          subst (λ f. AreIdsOf f.items (filter (is_among (take (k + 1) ids)) entries)) (sym w.found-is)
          (AreIdsOf-entry entries c.recall_distinct.ensures ids k c.id-item.result c.loop-id-test.true (sym c.id-item.is) w.in-Some.entry.now (sym w.in-Some.ensures)
          (subst (λ (t : List ℕ). IsPut c.loop-id.found.items t w.put.new.ids.items) w.txid.ensures w.in_ok-put-in-Some.ensures.ok) c.loop-id.invariant)
      | in-None w ↦
          subst (λ f. AreIdsOf f.items (filter (is_among (take (k + 1) ids)) entries)) (sym w.found-is)
          (AreIdsOf-no_entry entries ids k c.id-item.result c.loop-id-test.true (sym c.id-item.is) (sym w.in-None.ensures) c.loop-id.found.items c.loop-id.invariant)
    ]
