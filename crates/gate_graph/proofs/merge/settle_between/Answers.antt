use Rattle.std.proofs.Common.{◌≡◌, ◌∙◌, ◌<◌, ◌^◌, sym, ap, arith, length, map, subst, is_some}
use Rattle.std.specs.Prelude.{Contains, filter}
use Rattle.gate_graph.specs.Families.{among, are_apart}
use Rattle.gate_graph.specs.declared.held.Totals.{Totals}
use Rattle.gate_graph.specs.declared.weigh.Side.TheVariants.{Above, Below}
use Rattle.gate_graph.specs.declared.weigh.Sign.TheVariants.{Plus}
use Rattle.gate_graph.specs.Holding.{id_at, ids_at, nodes_of, loaded, at_id, with_totals}
use Rattle.gate_graph.specs.Slots.{at}
use Rattle.gate_graph.specs.Weighing.{sums_of, changed_of}
use Rattle.gate_graph.specs.Walking.{AreClear, AreStanding}
use Rattle.gate_graph.proofs.Changing.{by}
use Rattle.gate_graph.proofs.Holdings.{find_is}
use Rattle.gate_graph.proofs.Merging.{raised, settled, nodes_emptied, nodes_raised, loaded_between, raise_fits, crown_fits, IsWeighed-between}
use Rattle.gate_graph.proofs.Tabling.{tables_same}
use Rattle.gate_graph.proofs.merge.settle_between.Given.{Over}
use Rattle.gate_graph.proofs.merge.settle_between.Goals.{After-at-held, After-walk-2, After-set_totals, After-change_all, After-change_all-2, After-set_totals-2}
use Rattle.gate_graph.proofs.merge.settle_between.Goals as goal

there : (g : Over) (c : After-at-held g) → Contains c.args.slots.now.held c.at-held.result.now × (c.at-held.result.now.id ≡ id_at c.args.slots.now.spots c.args.place)
there g c = find_is c.args.slots.now.held (id_at c.args.slots.now.spots c.args.place) c.at-held.result.now c.at-held.ensures

small_count : (g : Over) (c : After-at-held g) → length c.args.slots.now.held < 2 ^ 64
small_count g c = omega (arith, c.count-count.ensures, c.count-count.type_inv)

-- what stands there after each step
is_raised : (g : Over) (c : After-change_all g) (w : Contains c.args.slots.now.held c.at-held.result.now × (c.at-held.result.now.id ≡ id_at c.args.slots.now.spots c.args.place))
    → c.change_all.new.slots.held ≡ raised c.args.slots.now.held (id_at c.args.slots.now.spots c.args.place) c.at-held.result.now c.requires.adds.last c.requires.tables.apart w.0 w.1 (ids_at c.args.slots.now.spots c.walk.new.found.items)
is_raised g c w =
    let k = c.at-held.result.now in
    let spots = c.args.slots.now.spots in
    c.change_all.ensures.changed
    ∙ ap (λ s. map (changed_of (ids_at s c.as_slice-3.result.now) (by Below Plus k.size k.fee)) c.set_totals.new.self.held) c.set_totals.ensures.spots
    ∙ ap (λ l. map (changed_of (ids_at spots l) (by Below Plus k.size k.fee)) c.set_totals.new.self.held) c.as_slice-3.ensures.value
    ∙ ap (map (changed_of (ids_at spots c.walk.new.found.items) (by Below Plus k.size k.fee))) c.set_totals.ensures.held

is_settled : (g : Over) (c : After-set_totals-2 g) (w : Contains c.args.slots.now.held c.at-held.result.now × (c.at-held.result.now.id ≡ id_at c.args.slots.now.spots c.args.place)) (up : c.change_all.new.slots.held ≡ raised c.args.slots.now.held (id_at c.args.slots.now.spots c.args.place) c.at-held.result.now c.requires.adds.last c.requires.tables.apart w.0 w.1 (ids_at c.args.slots.now.spots c.walk.new.found.items))
    → c.set_totals-2.new.self.held ≡ settled c.args.slots.now.held (id_at c.args.slots.now.spots c.args.place) c.at-held.result.now c.requires.adds.last c.requires.tables.apart w.0 w.1 (ids_at c.args.slots.now.spots c.walk.new.found.items) (ids_at c.args.slots.now.spots c.walk-2.new.found.items) (record { above = c.weigh.result; below = c.weigh-2.result })
is_settled g c w up =
    let k = c.at-held.result.now in
    let spots = c.args.slots.now.spots in
    let x = id_at spots c.args.place in
    let totals : Totals = record { above = c.weigh.result; below = c.weigh-2.result } in
    let old_spots : c.change_all.new.slots.spots ≡ spots = c.change_all.ensures.spots ∙ c.set_totals.ensures.spots in
    c.set_totals-2.ensures.held
    ∙ ap (λ s. map (at_id (id_at s c.args.place) (with_totals totals)) c.change_all-2.new.slots.held) (c.change_all-2.ensures.spots ∙ old_spots)
    ∙ ap (map (at_id x (with_totals totals)))
    (c.change_all-2.ensures.changed
    ∙ ap (λ s. map (changed_of (ids_at s c.as_slice-4.result.now) (by Above Plus k.size k.fee)) c.change_all.new.slots.held) old_spots
    ∙ ap (λ l. map (changed_of (ids_at spots l) (by Above Plus k.size k.fee)) c.change_all.new.slots.held) c.as_slice-4.ensures.value
    ∙ ap (map (changed_of (ids_at spots c.walk-2.new.found.items) (by Above Plus k.size k.fee))) up)

pub weigh-requires-clause-standing : goal.weigh-requires-clause-standing
weigh-requires-clause-standing g c = subst (AreStanding c.args.slots.now.spots) (sym c.as_slice.ensures.value) c.walk.ensures.standing

pub weigh-requires-2-clause-standing : goal.weigh-requires-2-clause-standing
weigh-requires-2-clause-standing g c = subst (AreStanding c.args.slots.now.spots) (sym c.as_slice-2.ensures.value) c.walk-2.ensures.standing

pub change_all-requires-clause-apart : goal.change_all-requires-clause-apart
change_all-requires-clause-apart g c =
    let w = there g (goal.at.change_all-requires-clause-apart g c).After-at-held in
    ap (λ l. are_apart (nodes_of l)) c.set_totals.ensures.held
    ∙ ap are_apart (nodes_emptied c.args.slots.now.held (id_at c.args.slots.now.spots c.args.place) c.at-held.result.now c.requires.adds.last c.requires.tables.apart w.0 w.1)
    ∙ c.requires.tables.apart

pub change_all-requires-clause-standing : goal.change_all-requires-clause-standing
change_all-requires-clause-standing g c =
    subst (λ s. AreStanding s c.as_slice-3.result.now) (sym c.set_totals.ensures.spots) (subst (AreStanding c.args.slots.now.spots) (sym c.as_slice-3.ensures.value) c.walk.ensures.standing)

pub change_all-requires-clause-allows : goal.change_all-requires-clause-allows
change_all-requires-clause-allows g c h m t =
    let at = goal.at.change_all-requires-clause-allows g c in
    let w = there g at.After-at-held in
    raise_fits c.args.slots.now.held (id_at c.args.slots.now.spots c.args.place) c.at-held.result.now c.requires.adds.last c.requires.tables.apart w.0 w.1 c.requires.tables.small (small_count g at.After-at-held) h
    (subst (λ l. Contains l h) c.set_totals.ensures.held m)

pub change_all-requires-2-clause-apart : goal.change_all-requires-2-clause-apart
change_all-requires-2-clause-apart g c =
    let at = goal.at.change_all-requires-2-clause-apart g c in
    let w = there g at.After-at-held in
    ap (λ l. are_apart (nodes_of l)) (is_raised g at.After-change_all w)
    ∙ ap are_apart (nodes_raised c.args.slots.now.held (id_at c.args.slots.now.spots c.args.place) c.at-held.result.now c.requires.adds.last c.requires.tables.apart w.0 w.1 (ids_at c.args.slots.now.spots c.walk.new.found.items))
    ∙ c.requires.tables.apart

pub change_all-requires-2-clause-standing : goal.change_all-requires-2-clause-standing
change_all-requires-2-clause-standing g c =
    subst (λ s. AreStanding s c.as_slice-4.result.now) (sym (c.change_all.ensures.spots ∙ c.set_totals.ensures.spots)) (subst (AreStanding c.args.slots.now.spots) (sym c.as_slice-4.ensures.value) c.walk-2.ensures.standing)

pub change_all-requires-2-clause-allows : goal.change_all-requires-2-clause-allows
change_all-requires-2-clause-allows g c h m t =
    let at = goal.at.change_all-requires-2-clause-allows g c in
    let w = there g at.After-at-held in
    crown_fits c.args.slots.now.held (id_at c.args.slots.now.spots c.args.place) c.at-held.result.now c.requires.adds.last c.requires.tables.apart w.0 w.1 c.requires.tables.small (small_count g at.After-at-held)
    (ids_at c.args.slots.now.spots c.walk.new.found.items) h (subst (λ l. Contains l h) (is_raised g at.After-change_all w) m)

pub set_totals-requires-2 : goal.set_totals-requires-2
set_totals-requires-2 g c = ap (λ s. is_some (at s c.args.place)) (c.change_all-2.ensures.spots ∙ c.change_all.ensures.spots ∙ c.set_totals.ensures.spots) ∙ c.requires.stands

pub returns-clause-loaded : goal.returns-clause-loaded
returns-clause-loaded g c =
    let at = goal.at.returns-clause-loaded g c in
    let w = there g at.After-at-held in
    ap loaded (is_settled g at.After-set_totals-2 w (is_raised g at.After-change_all w))
    ∙ loaded_between c.args.slots.now.held (id_at c.args.slots.now.spots c.args.place) c.at-held.result.now c.requires.adds.last c.requires.tables.apart w.0 w.1 (ids_at c.args.slots.now.spots c.walk.new.found.items) (ids_at c.args.slots.now.spots c.walk-2.new.found.items) (record { above = c.weigh.result; below = c.weigh-2.result })

pub returns-clause-weighed : goal.returns-clause-weighed
returns-clause-weighed g c =
    let at = goal.at.returns-clause-weighed g c in
    let w = there g at.After-at-held in
    let hs = c.args.slots.now.held in
    let spots = c.args.slots.now.spots in
    IsWeighed-between hs (id_at spots c.args.place) c.at-held.result.now c.requires.adds c.requires.tables.apart w.0 w.1 (ids_at spots c.walk.new.found.items) (ids_at spots c.walk-2.new.found.items) c.walk.ensures.led c.walk-2.ensures.led
    (record { above = c.weigh.result; below = c.weigh-2.result }) c.set_totals-2.new.self.held (is_settled g at.After-set_totals-2 w (is_raised g at.After-change_all w))
    (λ i. record {
      above = (c.weigh.ensures ∙ ap (λ l. sums_of (filter (λ n. among (ids_at spots l) n.id) (nodes_of hs))) c.as_slice.ensures.value) i;
      below = (c.weigh-2.ensures ∙ ap (λ l. sums_of (filter (λ n. among (ids_at spots l) n.id) (nodes_of hs))) c.as_slice-2.ensures.value) i;
    })

pub returns-clause-tables : goal.returns-clause-tables
returns-clause-tables g c =
    tables_same c.args.slots.now _ _ c.args.scratch.now _ c.requires.tables (returns-clause-loaded g c)
    (subst (λ s. AreClear (length s) c.walk-2.new.marks.items) (sym (c.set_totals-2.ensures.spots ∙ c.change_all-2.ensures.spots ∙ c.change_all.ensures.spots ∙ c.set_totals.ensures.spots)) c.walk-2.ensures.clear)
    c.walk-2.ensures.capacity c.walk.ensures.capacity
