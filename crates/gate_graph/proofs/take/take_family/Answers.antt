use Rattle.std.proofs.Common.{◌≡◌, length, ◌++◌, ◌∙◌, sym, ap, subst}
use Rattle.std.proofs.lemmas.List.{length-map}
use Rattle.gate_graph.specs.Family.{reaches, steps_of}
use Rattle.gate_graph.specs.Families.{among, are_apart}
use Rattle.gate_graph.specs.Holding.{ids_at, nodes_of, loaded, left_of, all_gone, unless, vacated}
use Rattle.gate_graph.specs.Walking.{AreClear, AreStanding}
use Rattle.gate_graph.proofs.Marking.{ids_same}
use Rattle.gate_graph.specs.Weighing.{IsCounted, IsWeighed}
use Rattle.gate_graph.proofs.Loading.{small_left}
use Rattle.gate_graph.proofs.Going.{gone_with}
use Rattle.gate_graph.proofs.Leaving.{IsCounted-start, IsWeighed-left, apart_left, loaded_left}
use Rattle.gate_graph.proofs.Vacating.{vacated_same, stands_node}
use Rattle.gate_graph.proofs.take.take_family.Given.{Over}
use Rattle.gate_graph.proofs.take.take_family.Goals.{After-pull_each}
use Rattle.gate_graph.proofs.take.take_family.Goals as goal

pub lower_above_each-requires-clause-counted : goal.lower_above_each-requires-clause-counted
lower_above_each-requires-clause-counted g c = IsCounted-start c.args.slots.now.held c.requires.weighed

pub returns-clause-left : goal.returns-clause-left
returns-clause-left g c =
    let spots = c.args.slots.now.spots in
    let ids = ids_at spots c.walk_below.new.found.items in
    let hs = c.args.slots.now.held in
    let hs' = c.lower_above_each.new.slots.held in
    let counted : IsCounted (nodes_of hs) ids hs' = subst (λ l. IsCounted (nodes_of hs) (ids_at spots l) hs') c.as_slice.ensures.value c.lower_above_each.ensures.counted in
    ap loaded (c.pull_each.ensures.left ∙ ap (λ l. left_of l hs') (ids_same c.args.slots.now.spots c.lower_above_each.new.slots.spots c.as_slice-2.result.now c.walk_below.new.found.items c.lower_above_each.ensures.spots c.as_slice-2.ensures.value))
    ∙ loaded_left hs hs' c.args.id.now ids c.walk_below.ensures.led counted c.lower_above_each.ensures.loaded

pub returns-clause-apart : goal.returns-clause-apart
returns-clause-apart g c =
    let spots = c.args.slots.now.spots in
    let ids = ids_at spots c.walk_below.new.found.items in
    let hs = c.args.slots.now.held in
    let hs' = c.lower_above_each.new.slots.held in
    let counted : IsCounted (nodes_of hs) ids hs' = subst (λ l. IsCounted (nodes_of hs) (ids_at spots l) hs') c.as_slice.ensures.value c.lower_above_each.ensures.counted in
    ap (λ l. are_apart (nodes_of l)) (c.pull_each.ensures.left ∙ ap (λ l. left_of l hs') (ids_same c.args.slots.now.spots c.lower_above_each.new.slots.spots c.as_slice-2.result.now c.walk_below.new.found.items c.lower_above_each.ensures.spots c.as_slice-2.ensures.value))
    ∙ apart_left hs hs' c.args.id.now ids c.walk_below.ensures.led counted c.requires.apart

pub returns-clause-weighed : goal.returns-clause-weighed
returns-clause-weighed g c =
    let spots = c.args.slots.now.spots in
    let ids = ids_at spots c.walk_below.new.found.items in
    let hs = c.args.slots.now.held in
    let hs' = c.lower_above_each.new.slots.held in
    let counted : IsCounted (nodes_of hs) ids hs' = subst (λ l. IsCounted (nodes_of hs) (ids_at spots l) hs') c.as_slice.ensures.value c.lower_above_each.ensures.counted in
    subst IsWeighed (sym (c.pull_each.ensures.left ∙ ap (λ l. left_of l hs') (ids_same c.args.slots.now.spots c.lower_above_each.new.slots.spots c.as_slice-2.result.now c.walk_below.new.found.items c.lower_above_each.ensures.spots c.as_slice-2.ensures.value)))
    (IsWeighed-left hs hs' c.args.id.now ids c.walk_below.ensures.led counted)

pub returns-clause-small : goal.returns-clause-small
returns-clause-small g c =
    small_left c.args.slots.now.held c.pull_each.new.slots.held c.args.id.now
    (ap loaded (c.pull_each.ensures.left ∙ ap (λ l. left_of l c.lower_above_each.new.slots.held) (ids_same c.args.slots.now.spots c.lower_above_each.new.slots.spots c.as_slice-2.result.now c.walk_below.new.found.items c.lower_above_each.ensures.spots c.as_slice-2.ensures.value))
    ∙ loaded_left c.args.slots.now.held c.lower_above_each.new.slots.held c.args.id.now (ids_at c.args.slots.now.spots c.walk_below.new.found.items) c.walk_below.ensures.led
    (subst (λ l. IsCounted (nodes_of c.args.slots.now.held) (ids_at c.args.slots.now.spots l) c.lower_above_each.new.slots.held) c.as_slice.ensures.value c.lower_above_each.ensures.counted) c.lower_above_each.ensures.loaded)
    c.requires.small

pub returns-clause-gone : goal.returns-clause-gone
returns-clause-gone g c =
    let hs = c.args.slots.now.held in
    let hs' = c.lower_above_each.new.slots.held in
    let spots = c.args.slots.now.spots in
    let found = c.walk_below.new.found.items in
    gone_with hs hs' spots c.args.id.now found c.args.gone.now.items c.pull_each.new.gone.items
    (ap are_apart c.lower_above_each.ensures.counted.nodes ∙ c.requires.apart) c.lower_above_each.ensures.loaded c.walk_below.ensures.standing c.walk_below.ensures.led
    (c.pull_each.ensures.gone ∙ (λ i. c.args.gone.now.items ++ all_gone (c.lower_above_each.ensures.spots i) hs' (c.as_slice-2.ensures.value i)))

pub lower_above_each-requires-clause-standing : goal.lower_above_each-requires-clause-standing
lower_above_each-requires-clause-standing g c = subst (AreStanding c.args.slots.now.spots) (sym c.as_slice.ensures.value) c.walk_below.ensures.standing

pub pull_each-requires-clause-standing : goal.pull_each-requires-clause-standing
pull_each-requires-clause-standing g c =
    subst (λ s. AreStanding s c.as_slice-2.result.now) (sym c.lower_above_each.ensures.spots) (subst (AreStanding c.args.slots.now.spots) (sym c.as_slice-2.ensures.value) c.walk_below.ensures.standing)

-- where an id stands there is a node
spots_are : (g : Over) (c : After-pull_each g) → c.pull_each.new.slots.spots ≡ vacated (reaches (steps_of (nodes_of c.args.slots.now.held)) c.args.id.now) c.args.slots.now.spots
spots_are g c =
    let spots = c.args.slots.now.spots in
    let ns = nodes_of c.args.slots.now.held in
    c.pull_each.ensures.spots
    ∙ (λ i. vacated (among (ids_at (c.lower_above_each.ensures.spots i) (c.as_slice-2.ensures.value i))) (c.lower_above_each.ensures.spots i))
    ∙ vacated_same (among (ids_at spots c.walk_below.new.found.items)) (reaches (steps_of ns) c.args.id.now) spots (λ x k. c.walk_below.ensures.led x (stands_node ns spots x c.len-len.ensures.ids k))

pub returns-clause-spots : goal.returns-clause-spots
returns-clause-spots g c = spots_are g (goal.at.returns-clause-spots g c).After-pull_each

pub returns-clause-clear : goal.returns-clause-clear
returns-clause-clear g c =
    let spots = c.args.slots.now.spots in
    subst (λ n. AreClear n c.lower_above_each.new.marks.items)
    (sym (ap length (spots_are g (goal.at.returns-clause-clear g c).After-pull_each) ∙ length-map spots (unless (reaches (steps_of (nodes_of c.args.slots.now.held)) c.args.id.now)))) c.lower_above_each.ensures.clear
