use Rattle.std.proofs.Common.{◌≡◌, length, sym, ap, subst, ◌∙◌, arith}
use Rattle.std.specs.Prelude.{Contains}
use Rattle.std.proofs.lemmas.List.{length-map}
use Rattle.gate_graph.specs.Slots.{entries_of}
use Rattle.gate_graph.specs.declared.held.Gone.{Gone}
use Rattle.gate_pool.specs.Keeping.{entries_in}
use Rattle.gate_pool.specs.Log.{before_of}
use Rattle.gate_pool.specs.Pool.{Admitted, Pooled, listing_of}
use Rattle.gate_pool.proofs.Readiness.{HasPlaces-none}
use Rattle.gate_pool.proofs.Seats.{before_early}
use Rattle.gate_pool.proofs.Standing.{spots_listed}
use Rattle.gate_pool.proofs.store.Store.rewind.Goals as goal

pub put_each_back-requires-clause-rewinding : goal.put_each_back-requires-clause-rewinding
put_each_back-requires-clause-rewinding g c =
    let log = c.self.inside.gone.items in
    let late = c.take_late.ensures in
    let view = c.self.view_is in
    record {
      logged = (late.logs log c.self.invariant.4).0;
      early = late.early;
      places = record {
        nodes_room = omega (arith, c.self.invariant.2.nodes_room, c.requires.room.entries, ap (λ (p : Pooled). p.left.entries) view, ap (λ (p : Pooled). p.room.entries) view, late.room);
        names_room = omega (arith, c.self.invariant.2.names_room, c.requires.room.inputs, ap (λ (p : Pooled). p.left.inputs) view, ap (λ (p : Pooled). p.room.inputs) view, late.names);
        wtxids = omega (arith, c.self.invariant.2.wtxids, c.requires.room.entries, ap (λ (p : Pooled). p.left.entries) view, ap (λ (p : Pooled). p.room.entries) view, late.wtxid_room);
        points = omega (arith, c.self.invariant.2.points, c.requires.room.inputs, ap (λ (p : Pooled). p.left.inputs) view, ap (λ (p : Pooled). p.room.inputs) view, late.point_room);
      };
      arrived = record { all = λ e m. c.requires.arrived.all e (subst (λ (p : Pooled). Contains p.entries e) view (late.fewer e m)) };
      arrivals_room = omega (arith, c.requires.arrivals_room, ap (λ (p : Pooled). p.left.entries) view, length-map log (λ (x : Gone Admitted). x.load));
    }

pub invariant_of-self : goal.invariant_of-self
invariant_of-self g c =
    let back = c.put_each_back.ensures in (
      back.stored.carried,
      back.stored.indexed,
      HasPlaces-none,
      omega (arith, back.few, c.take_late.ensures.count, c.self.invariant.3, back.capacity, ap length back.none, c.put_each_back.new.log.ok),
      back.rewinding.logged,
    )

pub returns-clause-entries : goal.returns-clause-entries
returns-clause-entries g c =
    let back = c.put_each_back.ensures in
    let nodes = c.put_each_back.new.nodes in
    let es = entries_in nodes.nodes in
    let mark = c.self.inside.mark in
    let listed : entries_of nodes.places ≡ listing_of es = spots_listed c.as_slice-rewound.result.now nodes.places es (c.as_slice-rewound.ensures.nodes ∙ back.stored.carried.is) c.as_slice-rewound.ensures.places in
    sym (before_early es nodes.places listed back.stored.indexed.distinct.txids mark back.rewinding.logged.marked back.rewinding.early)
    ∙ ap (λ xs. before_of es nodes.places xs mark) (sym back.none)
    ∙ back.began
    ∙ (c.take_late.ensures.logs c.self.inside.gone.items c.self.invariant.4).1
    ∙ ap (λ (p : Pooled). p.before) c.self.view_is

pub returns-clause-before : goal.returns-clause-before
returns-clause-before g c = c.put_each_back.ensures.began ∙ (c.take_late.ensures.logs c.self.inside.gone.items c.self.invariant.4).1 ∙ ap (λ (p : Pooled). p.before) c.self.view_is

pub returns-clause-few : goal.returns-clause-few
returns-clause-few g c =
    let view = c.self.view_is in
    omega (
      arith,
      c.put_each_back.ensures.few,
      c.take_late.ensures.count,
      ap (λ (p : Pooled). length p.entries) view,
      ap (λ (p : Pooled). p.left.entries) view,
      length-map c.self.inside.gone.items (λ (x : Gone Admitted). x.load),
      c.self.inside.gone.ok,
    )
