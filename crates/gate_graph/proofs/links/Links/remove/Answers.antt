use Rattle.gate_graph.proofs.Listing.{IsWithout-none, IsWithout-swap}
use Rattle.gate_graph.proofs.links.Links.remove.Goals as goal

pub returns-in-Some-clause-lists : goal.returns-in-Some-clause-lists
returns-in-Some-clause-lists g c =
    IsWithout-swap c.args.parent.now c.args.child.now c.args.self.now c.swap_out.new.self c.in-Some.number c.in-Some.ensures.within c.in-Some.ensures.there c.swap_out.ensures.len c.swap_out.ensures.this c.swap_out.ensures.gone c.swap_out.ensures.others

pub returns-in_default-clause-lists : goal.returns-in_default-clause-lists
returns-in_default-clause-lists g c = IsWithout-none c.args.parent.now c.args.child.now c.args.self.now c.in_default.ensures.none
