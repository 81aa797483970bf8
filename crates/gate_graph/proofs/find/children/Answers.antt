use Rattle.std.proofs.Common.{ap, ◌∙◌}
use Rattle.std.specs.Str.{bytes_eq}
use Rattle.indexmap.specs.IndexSet.{insert_all}
use Rattle.gate_graph.specs.Families.{among}
use Rattle.gate_graph.specs.Holding.{nodes_of}
use Rattle.gate_graph.specs.Linking.{listing}
use Rattle.gate_graph.proofs.Childhood.{all_children}
use Rattle.gate_graph.proofs.find.children.Goals as goal

pub returns : goal.returns
returns g c other =
    ap (λ l. among l other) (c.in_ok-insert_listed.ensures ∙ ap (λ l. insert_all bytes_eq l (listing c.args.links.now c.args.id.now)) c.with_hasher-found.ensures.empty)
    ∙ all_children (nodes_of c.args.slots.now.held) c.args.links.now c.args.id.now c.requires.linked other
