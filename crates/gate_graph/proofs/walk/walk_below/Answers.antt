use Rattle.std.proofs.Common.{sym, ◌∙◌, ap}
use Rattle.gate_graph.specs.Family.{reaches, steps_of}
use Rattle.gate_graph.specs.Holding.{nodes_of}
use Rattle.gate_graph.proofs.Marking.{id_from, filled}
use Rattle.gate_graph.proofs.walk.walk_below.Goals as goal

pub walk-requires-clause-stands : goal.walk-requires-clause-stands
walk-requires-clause-stands g c = filled c.args.slots.now.spots c.in-Some.place c.args.id.now c.in-Some.ensures.sound

pub walk_named-requires-clause-none : goal.walk_named-requires-clause-none
walk_named-requires-clause-none g c = sym c.in-None.ensures.has

pub returns-in-Some-clause-led : goal.returns-in-Some-clause-led
returns-in-Some-clause-led g c b h =
    c.walk.ensures.led b h ∙ ap (λ y. reaches (steps_of (nodes_of c.args.slots.now.held)) y b) (id_from c.args.slots.now.spots c.in-Some.place c.args.id.now c.in-Some.ensures.sound)
