use Rattle.std.proofs.Common.{◌≡◌, ◌<◌, ◌++◌, ◌∷◌, [], length, refl, sym, ap, subst, ◌∙◌, arith, length-append}
use Rattle.std.proofs.lemmas.List.Sorted.{length_permutation}
use Rattle.gate_graph.specs.Slots.{entries_of}
use Rattle.gate_pool.specs.Keeping.{entries_in}
use Rattle.gate_pool.specs.Log.{before_of, loads_of}
use Rattle.gate_pool.specs.Pool.{listing_of, room_of}
use Rattle.gate_pool.specs.Rewinding.{IsEarly, IsLogOf}
use Rattle.gate_pool.proofs.Earliest.{HaveArrived-more}
use Rattle.gate_pool.proofs.Readiness.{HaveArrived-moved}
use Rattle.gate_pool.proofs.Returning.{IsEarly-back, IsLog-back, IsLog-dropped, IsNew-back, before_back, before_dropped}
use Rattle.gate_pool.proofs.Seats.{IsLog-same}
use Rattle.gate_pool.proofs.Standing.{spots_listed}
use Rattle.gate_pool.proofs.Weights.{last_weighs}
use Rattle.gate_pool.proofs.rewinding.put_last_back.Given.{Over}
use Rattle.gate_pool.proofs.rewinding.put_last_back.Goals.{In-Some}
use Rattle.gate_pool.proofs.rewinding.put_last_back.Goals as goal

listed : (g : Over) (c : In-Some g) → entries_of c.args.nodes.now.places ≡ listing_of (entries_in c.args.nodes.now.nodes)
listed g c =
    spots_listed c.as_slice-slots.result.now c.args.nodes.now.places (entries_in c.args.nodes.now.nodes) (c.as_slice-slots.ensures.nodes ∙ c.requires.stored.carried.is) c.as_slice-slots.ensures.places

-- the log with its last
logged : (g : Over) (c : In-Some g) → IsLogOf c.args.nodes.now (c.pop.new.self.items ++ c.in-Some.gone ∷ []) c.args.mark
logged g c = subst (λ xs. IsLogOf c.args.nodes.now xs c.args.mark) c.in-Some.ensures.items c.requires.rewinding.logged

pub put_back-requires-clause-new : goal.put_back-requires-clause-new
put_back-requires-clause-new g c =
    let d = (goal.at.put_back-requires-clause-new g c).In-Some in
    IsNew-back (entries_in c.args.nodes.now.nodes) c.args.nodes.now.places (listed g d) c.requires.stored.indexed.distinct.txids c.pop.new.self.items c.in-Some.gone c.args.mark (logged g d)
    (omega (arith, c.if-gone-mark.true)) c.requires.rewinding.early

pub returns-then-gone-mark-clause-rewinding : goal.returns-then-gone-mark-clause-rewinding
returns-then-gone-mark-clause-rewinding g c =
    let d = (goal.at.returns-then-gone-mark-clause-rewinding g c).In-Some in
    let es = entries_in c.args.nodes.now.nodes in
    let es' = entries_in c.put_back.new.nodes.nodes in
    let spots = c.args.nodes.now.places in
    let log = c.pop.new.self.items in
    let x = c.in-Some.gone in
    let mark = c.args.mark in
    let old = c.requires.rewinding in
    let distinct = c.requires.stored.indexed.distinct.txids in
    let distinct' = c.put_back.ensures.stored.indexed.distinct.txids in
    let low : x.place < mark = omega (arith, c.if-gone-mark.true) in
    let moved = c.put_back.ensures.entries in
    let weighs = last_weighs log x in
    let count = ap (λ xs. length (loads_of xs)) c.in-Some.ensures.items in
    let inputs = ap (λ xs. (room_of (loads_of xs)).inputs) c.in-Some.ensures.items in
    record {
      logged = IsLog-same (IsLog-back es spots (listed g d) distinct log x mark (logged g d) low old.early es' moved distinct') refl c.put_back.ensures.places refl refl;
      early = subst (λ s. IsEarly s mark) (sym c.put_back.ensures.places) (IsEarly-back es spots (listed g d) distinct log x mark (logged g d) low old.early es' moved distinct');
      places = record {
        nodes_room = omega (arith, old.places.nodes_room, count, weighs.0, c.put_back.ensures.room);
        names_room = omega (arith, old.places.names_room, inputs, weighs.1, c.put_back.ensures.names);
        wtxids = omega (arith, old.places.wtxids, count, weighs.0, c.put_back.ensures.wtxid_room);
        points = omega (arith, old.places.points, inputs, weighs.1, c.put_back.ensures.point_room);
      };
      arrived = HaveArrived-moved (HaveArrived-more x.load old.arrived refl c.push.ensures.pushed) moved;
      arrivals_room = omega (arith, old.arrivals_room, c.push.ensures.room, ap length c.in-Some.ensures.items, length-append log (x ∷ []));
    }

pub returns-then-gone-mark-clause-began : goal.returns-then-gone-mark-clause-began
returns-then-gone-mark-clause-began g c =
    let d = (goal.at.returns-then-gone-mark-clause-began g c).In-Some in
    let es = entries_in c.args.nodes.now.nodes in
    let es' = entries_in c.put_back.new.nodes.nodes in
    let spots = c.args.nodes.now.places in
    let log = c.pop.new.self.items in
    let mark = c.args.mark in
    ap (λ s. before_of es' s log mark) c.put_back.ensures.places
    ∙ before_back es spots (listed g d) c.requires.stored.indexed.distinct.txids log c.in-Some.gone mark (logged g d) (omega (arith, c.if-gone-mark.true)) c.requires.rewinding.early es' c.put_back.ensures.entries c.put_back.ensures.stored.indexed.distinct.txids
    ∙ ap (λ xs. before_of es spots xs mark) (sym c.in-Some.ensures.items)

pub returns-then-gone-mark-clause-few : goal.returns-then-gone-mark-clause-few
returns-then-gone-mark-clause-few g c =
    let es = entries_in c.args.nodes.now.nodes in
    let e = c.in-Some.gone.load in
    omega (arith, length_permutation (es ++ e ∷ []) (entries_in c.put_back.new.nodes.nodes) c.put_back.ensures.entries, length-append es (e ∷ []))

pub returns-else-gone-mark-clause-rewinding : goal.returns-else-gone-mark-clause-rewinding
returns-else-gone-mark-clause-rewinding g c =
    let d = (goal.at.returns-else-gone-mark-clause-rewinding g c).In-Some in
    let es = entries_in c.args.nodes.now.nodes in
    let log = c.pop.new.self.items in
    let x = c.in-Some.gone in
    let old = c.requires.rewinding in
    let weighs = last_weighs log x in
    let count = ap (λ xs. length (loads_of xs)) c.in-Some.ensures.items in
    let inputs = ap (λ xs. (room_of (loads_of xs)).inputs) c.in-Some.ensures.items in
    record {
      logged = IsLog-dropped es c.args.nodes.now.places log x c.args.mark (logged g d) (omega (arith, c.if-gone-mark.false));
      early = old.early;
      places = record {
        nodes_room = omega (arith, old.places.nodes_room, count, weighs.0);
        names_room = omega (arith, old.places.names_room, inputs, weighs.1);
        wtxids = omega (arith, old.places.wtxids, count, weighs.0);
        points = omega (arith, old.places.points, inputs, weighs.1);
      };
      arrived = old.arrived;
      arrivals_room = omega (arith, old.arrivals_room, ap length c.in-Some.ensures.items, length-append log (x ∷ []));
    }

pub returns-else-gone-mark-clause-began : goal.returns-else-gone-mark-clause-began
returns-else-gone-mark-clause-began g c =
    let d = (goal.at.returns-else-gone-mark-clause-began g c).In-Some in
    let es = entries_in c.args.nodes.now.nodes in
    let spots = c.args.nodes.now.places in
    let mark = c.args.mark in
    before_dropped es spots c.pop.new.self.items c.in-Some.gone mark (logged g d) (omega (arith, c.if-gone-mark.false))
    ∙ ap (λ xs. before_of es spots xs mark) (sym c.in-Some.ensures.items)
