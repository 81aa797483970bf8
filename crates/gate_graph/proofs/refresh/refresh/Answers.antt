use Rattle.std.proofs.Common.{◌≡◌, ◌∙◌, ap, map, subst, sym}
use Rattle.std.specs.Prelude.{filter}
use Rattle.gate_graph.specs.Family.{reaches, steps_of}
use Rattle.gate_graph.specs.Families.{among}
use Rattle.gate_graph.proofs.Apart.{has-node}
use Rattle.gate_graph.proofs.Filters.{filter_same_on}
use Rattle.gate_graph.specs.Holding.{nodes_of, id_at, ids_at, at_id, with_totals}
use Rattle.gate_graph.specs.Weighing.{sums_of}
use Rattle.gate_graph.specs.Walking.{AreStanding}
use Rattle.gate_graph.proofs.refresh.refresh.Goals as goal

pub weigh-above-requires-clause-standing : goal.weigh-above-requires-clause-standing
weigh-above-requires-clause-standing g c = subst (AreStanding c.args.slots.now.spots) (sym c.as_slice.ensures.value) c.walk.ensures.standing

pub weigh-below-requires-clause-standing : goal.weigh-below-requires-clause-standing
weigh-below-requires-clause-standing g c = subst (AreStanding c.args.slots.now.spots) (sym c.as_slice-2.ensures.value) c.walk-2.ensures.standing

pub returns-clause-refreshed : goal.returns-clause-refreshed
returns-clause-refreshed g c =
    let hs = c.args.slots.now.held in
    let spots = c.args.slots.now.spots in
    let ns = nodes_of hs in
    let x = id_at spots c.args.place in
    let up = ids_at spots c.walk.new.found.items in
    let low = ids_at spots c.walk-2.new.found.items in
    let above : c.weigh-above.result ≡ sums_of (filter (λ n. reaches (steps_of ns) n.id x) ns) =
    c.weigh-above.ensures ∙ ap (λ l. sums_of (filter (λ n. among (ids_at spots l) n.id) ns)) c.as_slice.ensures.value
    ∙ ap sums_of (filter_same_on (λ n. among up n.id) (λ n. reaches (steps_of ns) n.id x) ns (λ n m. c.walk.ensures.led n.id (has-node ns n m))) in
    let below : c.weigh-below.result ≡ sums_of (filter (λ n. reaches (steps_of ns) x n.id) ns) =
    c.weigh-below.ensures ∙ ap (λ l. sums_of (filter (λ n. among (ids_at spots l) n.id) ns)) c.as_slice-2.ensures.value
    ∙ ap sums_of (filter_same_on (λ n. among low n.id) (λ n. reaches (steps_of ns) x n.id) ns (λ n m. c.walk-2.ensures.led n.id (has-node ns n m))) in
    c.set_totals.ensures.held ∙ (λ i. map (at_id x (with_totals (record { above = above i; below = below i }))) hs)
