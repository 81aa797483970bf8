use Rattle.std.proofs.Common.{◌≡◌, Some, is_some, length, refl, sym, ap, subst, ◌∙◌, ◌++◌, ◌∷◌, [], arith, length-append}
use Rattle.std.proofs.lemmas.List.{length-map}
use Rattle.gate_tx.specs.declared.TxIn.{TxIn}
use Rattle.gate_tx.specs.Ids.{txid_of}
use Rattle.gate_graph.specs.Families.{has}
use Rattle.gate_graph.specs.Holding.{nodes_in}
use Rattle.gate_graph.specs.Slots.{entries_of}
use Rattle.gate_pool.specs.Pool.{Pooled, entry_by_txid, listing_of}
use Rattle.gate_pool.specs.Keeping.{carried, entries_in, IsNew}
use Rattle.gate_pool.specs.Log.{before_of}
use Rattle.gate_pool.specs.Search.{parents_of}
use Rattle.gate_pool.proofs.Carrying.{has_is, one_more, same_node, entries_are, IsCarried-of, bounded_more}
use Rattle.gate_pool.proofs.Found.{IsIndexed-push, IsIndexed-same}
use Rattle.gate_pool.proofs.Seats.{IsLog-put, IsLog-same, before_same, seat_put}
use Rattle.gate_pool.proofs.Standing.{spots_listed}
use Rattle.gate_pool.proofs.store.Store.put.Given.{Over}
use Rattle.gate_pool.proofs.store.Store.put.Goals.{After-put}
use Rattle.gate_pool.proofs.store.Store.put.Goals as goal

pub put-requires-clause-new : goal.put-requires-clause-new
put-requires-clause-new g c =
    let nodes = c.self.inside.nodes.nodes in
    let x = txid_of c.args.entry.tx in
    ap (has (nodes_in nodes)) (c.node_id-id.ensures ∙ c.txid.ensures) ∙ has_is nodes c.self.invariant.0 x ∙ ap (λ (p : Pooled). is_some (entry_by_txid p.entries x)) c.self.view_is ∙ ap is_some c.requires.new.txid

-- the nodes are those of the entries
more : (g : Over) (c : After-put g) → c.put.new.self.nodes ≡ carried (entries_in c.self.inside.nodes.nodes ++ c.args.entry ∷ [])
more g c =
    let e = c.args.entry in
    let parents = ap (λ v. v.items) c.replace-parents.ensures.value ∙ c.list_parents.ensures ∙ ap parents_of (c.inputs-2.ensures ∙ ap (λ t. t.inputs) c.transaction-2.ensures) in
    let own = same_node c.node_id-id.result c.vsize-size.result c.fee-fee.result c.replace-parents.result.items e (c.node_id-id.ensures ∙ c.txid.ensures) c.vsize-size.ensures.value c.fee-fee.ensures.value parents in
    one_more c.self.inside.nodes.nodes c.self.invariant.0 c.put.new.self.nodes _ e own c.put.ensures.nodes

-- the entries, and the places at which their ids stand
are : (g : Over) (c : After-put g) → entries_in c.put.new.self.nodes ≡ entries_in c.self.inside.nodes.nodes ++ c.args.entry ∷ []
are g c = entries_are c.put.new.self.nodes (entries_in c.self.inside.nodes.nodes ++ c.args.entry ∷ []) (more g c)

listed : (g : Over) (c : After-put g) → entries_of c.self.inside.nodes.places ≡ listing_of (entries_in c.self.inside.nodes.nodes)
listed g c =
    spots_listed c.as_slice-slots.result.now c.self.inside.nodes.places (entries_in c.self.inside.nodes.nodes) (c.as_slice-slots.ensures.nodes ∙ c.self.invariant.0.is) c.as_slice-slots.ensures.places

pub invariant_of-self : goal.invariant_of-self
invariant_of-self g c =
    let d = (goal.at.invariant_of-self g c).After-put in
    let nodes = c.self.inside.nodes.nodes in
    let es = entries_in nodes in
    let e = c.args.entry in
    let new = subst (λ (p : Pooled). IsNew p.entries e) (sym c.self.view_is) c.requires.new in
    let room = ap (λ (p : Pooled). p.room.entries) c.self.view_is in
    let inputs = ap length (c.inputs.ensures ∙ ap (λ t. t.inputs) c.transaction.ensures) in
    let names = ap length (ap (λ v. v.items) c.replace-parents.ensures.value ∙ c.list_parents.ensures ∙ ap parents_of (c.inputs-2.ensures ∙ ap (λ t. t.inputs) c.transaction-2.ensures)) in
    let parents = length-map e.tx.inputs (λ (i : TxIn). i.prevout.txid) in (
      IsCarried-of c.put.new.self.nodes (es ++ e ∷ []) (more g d) (bounded_more nodes e c.self.invariant.0 c.recall_bounds.ensures),
      IsIndexed-same (IsIndexed-push e c.self.invariant.1 new c.put_entry.ensures.wtxids c.put_entry.ensures.points) (are g d) (λ id. refl) (λ point. refl),
      record {
        nodes_room = omega (arith, c.self.invariant.2.nodes_room, c.put.ensures.room);
        names_room = omega (arith, c.self.invariant.2.names_room, c.put.ensures.names, inputs, names, parents);
        wtxids = omega (arith, c.self.invariant.2.wtxids, c.put_entry.ensures.wtxid_room);
        points = omega (arith, c.self.invariant.2.points, c.put_entry.ensures.point_room, inputs);
      },
      omega (arith, c.self.invariant.3, room, c.requires.room, ap length (are g d), length-append es (e ∷ [])),
      IsLog-same (IsLog-put es c.self.inside.nodes.places (listed g d) c.self.invariant.1.distinct.txids e c.node_id-id.result c.self.inside.gone.items c.self.inside.mark c.self.invariant.4) (are g d) c.put.ensures.places refl refl,
    )

pub returns-clause-entries : goal.returns-clause-entries
returns-clause-entries g c = are g (goal.at.returns-clause-entries g c).After-put ∙ ap (λ (p : Pooled). p.entries ++ c.args.entry ∷ []) c.self.view_is

pub returns-clause-before : goal.returns-clause-before
returns-clause-before g c =
    let d = (goal.at.returns-clause-before g c).After-put in
    let es = entries_in c.self.inside.nodes.nodes in
    let spots = c.self.inside.nodes.places in
    let e = c.args.entry in
    let id = c.node_id-id.result in
    let log = c.self.inside.gone.items in
    let mark = c.self.inside.mark in
    (λ i. before_of (are g d i) (c.put.ensures.places i) log mark)
    ∙ before_same es (es ++ e ∷ []) spots (spots ++ Some id ∷ []) log log mark (λ p lt. seat_put es spots (listed g d) c.self.invariant.1.distinct.txids e id log p (omega (arith, lt, c.self.invariant.4.marked)))
    ∙ ap (λ (p : Pooled). p.before) c.self.view_is
