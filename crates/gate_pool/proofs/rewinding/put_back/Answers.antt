use Rattle.std.proofs.Common.{◌≡◌, ◌++◌, ◌∷◌, [], is_some, ap, ◌∙◌}
use Rattle.std.specs.List.Sorted.{IsPermutation}
use Rattle.gate_tx.specs.Ids.{txid_of}
use Rattle.gate_graph.specs.Families.{has}
use Rattle.gate_graph.specs.Family.{Node}
use Rattle.gate_graph.specs.Holding.{nodes_in}
use Rattle.gate_pool.specs.Family.{node_of}
use Rattle.gate_pool.specs.Keeping.{entries_in}
use Rattle.gate_pool.proofs.Carrying.{has_is, same_node}
use Rattle.gate_pool.proofs.Found.{IsIndexed-push}
use Rattle.gate_pool.proofs.Returning.{IsCarried-moved, IsIndexed-moved, entries_moved}
use Rattle.gate_pool.proofs.rewinding.put_back.Given.{Over}
use Rattle.gate_pool.proofs.rewinding.put_back.Goals.{After-put_back}
use Rattle.gate_pool.proofs.rewinding.put_back.Goals as goal

pub put_back-requires-clause-new : goal.put_back-requires-clause-new
put_back-requires-clause-new g c =
    let nodes = c.args.nodes.now.nodes in
    ap (has (nodes_in nodes)) (c.node_id-id.ensures ∙ c.txid.ensures) ∙ has_is nodes c.requires.stored.carried (txid_of c.args.gone.load.tx) ∙ ap is_some c.requires.new.txid

-- the node that comes back is its entry's
abbrev node : (g : Over) (c : After-put_back g) → Node
node g c = record { id = c.node_id-id.result; size = c.vsize-size.result; fee = c.fee-fee.result; parents = c.args.gone.parents.items }

own : (g : Over) (c : After-put_back g) → node g c ≡ node_of c.args.gone.load
own g c = same_node c.node_id-id.result c.vsize-size.result c.fee-fee.result c.args.gone.parents.items c.args.gone.load (c.node_id-id.ensures ∙ c.txid.ensures) c.vsize-size.ensures.value c.fee-fee.ensures.value c.requires.named

moved : (g : Over) (c : After-put_back g) → IsPermutation (entries_in c.args.nodes.now.nodes ++ c.args.gone.load ∷ []) (entries_in c.put_back.new.self.nodes)
moved g c = entries_moved c.args.nodes.now.nodes c.put_back.new.self.nodes (node g c) c.args.gone.load c.requires.stored.carried (own g c) c.put_back.ensures.nodes

pub returns-clause-entries : goal.returns-clause-entries
returns-clause-entries g c = moved g (goal.at.returns-clause-entries g c).After-put_back

pub returns-clause-stored : goal.returns-clause-stored
returns-clause-stored g c =
    let d = (goal.at.returns-clause-stored g c).After-put_back in
    let e = c.args.gone.load in
    let pushed = IsIndexed-push e c.requires.stored.indexed c.requires.new c.put_entry.ensures.wtxids c.put_entry.ensures.points in
    record {
      carried = IsCarried-moved c.args.nodes.now.nodes c.put_back.new.self.nodes (node g d) e c.requires.stored.carried (own g d) c.put_back.ensures.nodes c.recall_bounds.ensures;
      indexed = IsIndexed-moved (entries_in c.args.nodes.now.nodes ++ e ∷ []) (entries_in c.put_back.new.self.nodes) (moved g d) pushed.distinct pushed;
    }
