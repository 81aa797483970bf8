use Rattle.std.proofs.Common.{◌≡◌, Some, None, not, length, sym, ap, refl, ◌∙◌, arith, ◌∷◌, [], cond, append-nil}
use Rattle.std.specs.Prelude.{filter}
use Rattle.std.specs.Str.{bytes_eq}
use Rattle.std.proofs.Math.Bool.{or-false}
use Rattle.gate_tx.specs.Coins.{point_eq}
use Rattle.indexmap.specs.IndexMap.{get}
use Rattle.gate_graph.specs.Holding.{load_in, names_in, vacated, without_one}
use Rattle.gate_graph.specs.Slots.{entries_of}
use Rattle.gate_pool.specs.Pool.{Admitted, Pooled, has_txid, has_wtxid, has_point, listing_of}
use Rattle.gate_pool.specs.Keeping.{carried, entries_in}
use Rattle.gate_pool.specs.Log.{before_of}
use Rattle.gate_pool.proofs.Carrying.{load_is, named_parents, one_left, entries_are, IsCarried-of, bounded_left}
use Rattle.gate_pool.proofs.Found.{IsIndexed-left, IsIndexed-same}
use Rattle.gate_pool.proofs.Leaving.{leaving_taken, taken_none, taken_one}
use Rattle.gate_pool.proofs.Seats.{AreTaken, IsLog-same, IsLog-taken, before_taken, taken_fits}
use Rattle.gate_pool.proofs.Standing.{spots_listed}
use Rattle.gate_pool.proofs.Readiness.{HasPlaces-more}
use Rattle.gate_pool.proofs.store.Store.take_one.Given.{Over}
use Rattle.gate_pool.proofs.store.Store.take_one.Goals.{After-take_one, In-Some, In-None}
use Rattle.gate_pool.proofs.store.Store.take_one.Goals as goal

listed : (g : Over) (c : After-take_one g) → entries_of c.self.inside.nodes.places ≡ listing_of (entries_in c.self.inside.nodes.nodes)
listed g c =
    spots_listed c.as_slice-slots.result.now c.self.inside.nodes.places (entries_in c.self.inside.nodes.nodes) (c.as_slice-slots.ensures.nodes ∙ c.self.invariant.0.is) c.as_slice-slots.ensures.places

carried_left : (g : Over) (c : After-take_one g) → c.take_one.new.self.nodes ≡ carried (filter (λ d. not (has_txid d c.args.txid.now)) (entries_in c.self.inside.nodes.nodes))
carried_left g c = one_left c.self.inside.nodes.nodes c.self.invariant.0 c.take_one.new.self.nodes c.args.txid.now (c.take_one.ensures.left ∙ ap (λ y. without_one c.self.inside.nodes.nodes y) c.node_id.ensures)

are : (g : Over) (c : After-take_one g) → entries_in c.take_one.new.self.nodes ≡ filter (λ d. not (has_txid d c.args.txid.now)) (entries_in c.self.inside.nodes.nodes)
are g c = entries_are c.take_one.new.self.nodes (filter (λ d. not (has_txid d c.args.txid.now)) (entries_in c.self.inside.nodes.nodes)) (carried_left g c)

places : (g : Over) (c : After-take_one g) → c.take_one.new.self.places ≡ vacated (λ y. bytes_eq y c.args.txid.now) c.self.inside.nodes.places
places g c = c.take_one.ensures.places ∙ ap (λ x. vacated (λ y. bytes_eq y x) c.self.inside.nodes.places) c.node_id.ensures

-- the entry that left, or none
some_taken : (g : Over) (c : In-Some g) → AreTaken (λ y. bytes_eq y c.args.txid.now) (entries_in c.self.inside.nodes.nodes) c.self.inside.nodes.places (c.in-Some.gone ∷ [])
some_taken g c =
    let nodes = c.self.inside.nodes.nodes in
    let x = c.args.txid.now in
    taken_one (entries_in nodes) c.self.inside.nodes.places x c.in-Some.gone c.self.invariant.1.distinct
    (sym (c.in-Some.ensures.load ∙ ap (load_in nodes) c.node_id.ensures ∙ load_is nodes c.self.invariant.0 x))
    (c.in-Some.ensures.place ∙ ap Some c.node_id.ensures)
    (named_parents nodes c.self.invariant.0 x c.in-Some.gone
    (sym (c.in-Some.ensures.load ∙ ap (load_in nodes) c.node_id.ensures))
    (sym (c.in-Some.ensures.parents ∙ ap (names_in nodes) c.node_id.ensures)))

none_taken : (g : Over) (c : In-None g) → AreTaken (λ y. bytes_eq y c.args.txid.now) (entries_in c.self.inside.nodes.nodes) c.self.inside.nodes.places []
none_taken g c =
    let nodes = c.self.inside.nodes.nodes in
    let x = c.args.txid.now in
    taken_none (entries_in nodes) c.self.inside.nodes.places x (sym (c.in-None.ensures.load ∙ ap (load_in nodes) c.node_id.ensures ∙ load_is nodes c.self.invariant.0 x))

pub push_reserved-requires : goal.push_reserved-requires
push_reserved-requires g c =
    let d = (goal.at.push_reserved-requires g c).In-Some in
    let nodes = c.self.inside.nodes.nodes in
    let fits = taken_fits (entries_in nodes) c.self.inside.nodes.places (listed g (goal.at.push_reserved-requires g c).After-take_one) c.self.invariant.1.distinct.txids (λ y. bytes_eq y c.args.txid.now) c.self.inside.gone.items (c.in-Some.gone ∷ []) (some_taken g d) in
    omega (arith, fits, c.self.invariant.3)

pub invariant_of-self : goal.invariant_of-self
invariant_of-self g c =
    let b = (goal.at.invariant_of-self g c).After-take_one in
    let d = (goal.at.invariant_of-self g c).In-Some in
    let nodes = c.self.inside.nodes.nodes in
    let es = entries_in nodes in
    let spots = c.self.inside.nodes.places in
    let x = c.args.txid.now in
    let e = c.in-Some.gone.load in
    let log = c.self.inside.gone.items in
    let keep = λ (d : Admitted). not (has_txid d x) in
    let distinct = c.self.invariant.1.distinct.txids in
    let fits = taken_fits es spots (listed g b) distinct (λ y. bytes_eq y x) log (c.in-Some.gone ∷ []) (some_taken g d) in (
      IsCarried-of c.take_one.new.self.nodes (filter keep es) (carried_left g b) (bounded_left nodes keep c.self.invariant.0),
      IsIndexed-same (IsIndexed-left keep (e ∷ []) c.self.invariant.1 (leaving_taken (λ y. bytes_eq y x) es spots (c.in-Some.gone ∷ []) (some_taken g d))
          (λ id. c.drop_entry.ensures.wtxids id ∙ ap (λ b. cond b None (get bytes_eq c.self.inside.wtxids id)) (sym (or-false (has_wtxid e id))))
          (λ point. c.drop_entry.ensures.points point ∙ ap (λ b. cond b None (get point_eq c.self.inside.spent point)) (sym (or-false (has_point e point))))) (are g b) (λ id. refl) (λ point. refl),
      HasPlaces-more c.self.invariant.2 (omega (arith, c.take_one.ensures.room)) (omega (arith, c.take_one.ensures.names)) c.drop_entry.ensures.wtxid_room c.drop_entry.ensures.point_room,
      omega (arith, c.self.invariant.3, fits, ap length (are g b), c.push_reserved.ensures.len, c.push_reserved.ensures.capacity),
      IsLog-same (IsLog-taken es spots (listed g b) distinct (λ y. bytes_eq y x) log (c.in-Some.gone ∷ []) (some_taken g d) c.self.inside.mark c.self.invariant.4) (are g b) (places g b) c.push_reserved.ensures.items refl,
    )

pub invariant_of-self-in-None : goal.invariant_of-self-in-None
invariant_of-self-in-None g c =
    let b = (goal.at.invariant_of-self-in-None g c).After-take_one in
    let nodes = c.self.inside.nodes.nodes in
    let es = entries_in nodes in
    let spots = c.self.inside.nodes.places in
    let x = c.args.txid.now in
    let log = c.self.inside.gone.items in
    let keep = λ (d : Admitted). not (has_txid d x) in
    let distinct = c.self.invariant.1.distinct.txids in
    let fits = taken_fits es spots (listed g b) distinct (λ y. bytes_eq y x) log [] (none_taken g c) in (
      IsCarried-of c.take_one.new.self.nodes (filter keep es) (carried_left g b) (bounded_left nodes keep c.self.invariant.0),
      IsIndexed-same (IsIndexed-left keep [] c.self.invariant.1 (leaving_taken (λ y. bytes_eq y x) es spots [] (none_taken g c)) (λ id. refl) (λ point. refl)) (are g b) (λ id. refl) (λ point. refl),
      HasPlaces-more c.self.invariant.2 (omega (arith, c.take_one.ensures.room)) (omega (arith, c.take_one.ensures.names)) (omega arith) (omega arith),
      omega (arith, c.self.invariant.3, fits, ap length (are g b)),
      IsLog-same (IsLog-taken es spots (listed g b) distinct (λ y. bytes_eq y x) log [] (none_taken g c) c.self.inside.mark c.self.invariant.4) (are g b) (places g b) (sym (append-nil log)) refl,
    )

pub returns-in-Some-clause-entries : goal.returns-in-Some-clause-entries
returns-in-Some-clause-entries g c =
    are g (goal.at.returns-in-Some-clause-entries g c).After-take_one ∙ ap (λ (p : Pooled). filter (λ d. not (has_txid d c.args.txid.now)) p.entries) c.self.view_is

pub returns-in-None-clause-entries : goal.returns-in-None-clause-entries
returns-in-None-clause-entries g c =
    are g (goal.at.returns-in-None-clause-entries g c).After-take_one ∙ ap (λ (p : Pooled). filter (λ d. not (has_txid d c.args.txid.now)) p.entries) c.self.view_is

pub returns-in-Some-clause-before : goal.returns-in-Some-clause-before
returns-in-Some-clause-before g c =
    let b = (goal.at.returns-in-Some-clause-before g c).After-take_one in
    let d = (goal.at.returns-in-Some-clause-before g c).In-Some in
    let es = entries_in c.self.inside.nodes.nodes in
    let mark = c.self.inside.mark in
    (λ i. before_of (are g b i) (places g b i) (c.push_reserved.ensures.items i) mark)
    ∙ before_taken es c.self.inside.nodes.places (listed g b) c.self.invariant.1.distinct.txids (λ y. bytes_eq y c.args.txid.now) c.self.inside.gone.items (c.in-Some.gone ∷ []) (some_taken g d) mark
    ∙ ap (λ (p : Pooled). p.before) c.self.view_is

pub returns-in-None-clause-before : goal.returns-in-None-clause-before
returns-in-None-clause-before g c =
    let b = (goal.at.returns-in-None-clause-before g c).After-take_one in
    let d = (goal.at.returns-in-None-clause-before g c).In-None in
    let es = entries_in c.self.inside.nodes.nodes in
    let mark = c.self.inside.mark in
    (λ i. before_of (are g b i) (places g b i) (sym (append-nil c.self.inside.gone.items) i) mark)
    ∙ before_taken es c.self.inside.nodes.places (listed g b) c.self.invariant.1.distinct.txids (λ y. bytes_eq y c.args.txid.now) c.self.inside.gone.items [] (none_taken g d) mark
    ∙ ap (λ (p : Pooled). p.before) c.self.view_is
