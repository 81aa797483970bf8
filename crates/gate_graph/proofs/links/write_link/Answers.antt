use Rattle.std.proofs.Common.{◌∙◌, ap}
use Rattle.std.specs.Map.{lookup}
use Rattle.gate_graph.specs.Linking.{link_eq}
use Rattle.gate_graph.proofs.Writes.{lookup_set, link_decides, link_same}
use Rattle.gate_graph.proofs.links.write_link.Goals as goal

pub returns-in-Some-clause-look : goal.returns-in-Some-clause-look
returns-in-Some-clause-look g c k = ap (lookup (link_eq k)) (c.get_mut.follows.holds _).0 ∙ lookup_set link_eq link_decides link_same c.args.at.now k c.args.id c.args.links.now.entries c.requires
