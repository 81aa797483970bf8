use Rattle.std.proofs.Common.{◌≡◌, cond, None, not, ◌-◌, length, take, drop, refl, ap, ◌∙◌, arith, length-append}
use Rattle.std.specs.List.{list_any}
use Rattle.std.specs.Str.{bytes_eq}
use Rattle.std.proofs.Math.Seq.{drop-append_seam}
use Rattle.std.proofs.lemmas.List.{take_all}
use Rattle.gate_tx.specs.Coins.{point_eq}
use Rattle.indexmap.specs.IndexMap.{get}
use Rattle.gate_tx.specs.Ids.{txid_of}
use Rattle.gate_graph.specs.declared.held.Gone.{Gone}
use Rattle.gate_graph.specs.Family.{reaches}
use Rattle.gate_graph.specs.Holding.{vacated}
use Rattle.gate_graph.specs.Slots.{entries_of}
use Rattle.gate_pool.specs.Pool.{Admitted, Pooled, all_of, has_wtxid, has_point, listing_of}
use Rattle.gate_pool.specs.Family.{steps, without_family}
use Rattle.gate_pool.specs.Keeping.{entries_in}
use Rattle.gate_pool.specs.Log.{before_of, loads_of}
use Rattle.gate_pool.proofs.Carrying.{family_left, entries_are, steps_are, IsCarried-of, bounded_left, count_is}
use Rattle.gate_pool.proofs.Found.{IsIndexed-left, IsIndexed-same}
use Rattle.gate_pool.proofs.Leaving.{any_loads, leaving_taken, taken_family}
use Rattle.gate_pool.proofs.Readiness.{HasPlaces-more}
use Rattle.gate_pool.proofs.Seats.{AreTaken, IsLog-same, IsLog-taken, before_taken, taken_fits}
use Rattle.gate_pool.proofs.Standing.{spots_listed}
use Rattle.gate_pool.proofs.Walking.{shorter}
use Rattle.gate_pool.proofs.Weights.{all_taken, together}
use Rattle.gate_pool.proofs.store.Store.take_out.Given.{Over}
use Rattle.gate_pool.proofs.store.Store.take_out.Goals.{After-take_family}
use Rattle.gate_pool.proofs.store.Store.take_out.Goals as goal

pub take_family-requires : goal.take_family-requires
take_family-requires g c = omega (arith, c.self.invariant.3, count_is c.self.inside.nodes.nodes c.self.invariant.0)

-- the entries that left, the places that are empty, and the entries that stay
taken : (g : Over) (c : After-take_family g) → AreTaken (reaches (steps (entries_in c.self.inside.nodes.nodes)) c.args.id.now) (entries_in c.self.inside.nodes.nodes) c.self.inside.nodes.places c.take_family.ensures.gone.more
taken g c = taken_family c.self.inside.nodes.nodes c.self.inside.nodes.places c.args.id.now c.self.inside.gone.items c.take_family.new.gone.items c.self.invariant.0 c.take_family.ensures.gone

places : (g : Over) (c : After-take_family g) → c.take_family.new.self.places ≡ vacated (reaches (steps (entries_in c.self.inside.nodes.nodes)) c.args.id.now) c.self.inside.nodes.places
places g c = c.take_family.ensures.places ∙ ap (λ s. vacated (reaches s c.args.id.now) c.self.inside.nodes.places) (steps_are c.self.inside.nodes.nodes c.self.invariant.0)

are : (g : Over) (c : After-take_family g) → entries_in c.take_family.new.self.nodes ≡ without_family (entries_in c.self.inside.nodes.nodes) c.args.id.now
are g c =
    let nodes = c.self.inside.nodes.nodes in
    entries_are c.take_family.new.self.nodes (without_family (entries_in nodes) c.args.id.now) (family_left nodes c.self.invariant.0 c.take_family.new.self.nodes c.args.id.now c.take_family.ensures.left)

listed : (g : Over) (c : After-take_family g) → entries_of c.self.inside.nodes.places ≡ listing_of (entries_in c.self.inside.nodes.nodes)
listed g c =
    spots_listed c.as_slice-slots.result.now c.self.inside.nodes.places (entries_in c.self.inside.nodes.nodes) (c.as_slice-slots.ensures.nodes ∙ c.self.invariant.0.is) c.as_slice-slots.ensures.places

pub invariant_of-self : goal.invariant_of-self
invariant_of-self g c =
    let d = (goal.at.invariant_of-self g c).After-take_family in
    let nodes = c.self.inside.nodes.nodes in
    let es = entries_in nodes in
    let x = c.args.id.now in
    let log = c.self.inside.gone.items in
    let k = c.self.invariant.0 in
    let keep = λ (e : Admitted). not (reaches (steps es) x (txid_of e.tx)) in
    let left = family_left nodes k c.take_family.new.self.nodes x c.take_family.ensures.left in
    let more = c.take_family.ensures.gone.more in
    let spots = c.self.inside.nodes.places in
    let distinct = c.self.invariant.1.distinct.txids in
    let fewer = shorter keep es in
    let fits = taken_fits es spots (listed g d) distinct (reaches (steps es) x) log more (taken g d) in
    let count : c.len-count.result ≡ length log = omega (arith, c.len-count.ensures, c.self.inside.gone.ok) in
    let lengths = ap length c.take_family.ensures.gone.is ∙ length-append log more in
    let size = length c.deref.result.now - c.len-count.result in
    let part : take size (drop c.len-count.result c.deref.result.now) ≡ more =
    ap (take size) ((λ i. drop (count i) ((c.deref.ensures.value ∙ c.take_family.ensures.gone.is) i)) ∙ drop-append_seam log more) ∙ take_all size more (omega (arith, count, lengths, ap length c.deref.ensures.value)) in (
      IsCarried-of c.take_family.new.self.nodes (without_family es x) left (bounded_left nodes keep k),
      IsIndexed-same
          (IsIndexed-left keep (loads_of more) c.self.invariant.1 (leaving_taken (reaches (steps es) x) es spots more (taken g d))
          (λ id. c.drop_each.ensures.wtxids id ∙ ap (λ b. cond b None (get bytes_eq c.self.inside.wtxids id)) (ap (list_any (λ (y : Gone Admitted). has_wtxid y.load id)) part ∙ any_loads (λ e. has_wtxid e id) more))
          (λ point. c.drop_each.ensures.points point ∙ ap (λ b. cond b None (get point_eq c.self.inside.spent point)) (ap (list_any (λ (y : Gone Admitted). has_point y.load point)) part ∙ any_loads (λ e. has_point e point) more)))
          (are g d) (λ id. refl) (λ point. refl),
      HasPlaces-more c.self.invariant.2 (omega (arith, c.take_family.ensures.room)) (omega (arith, c.take_family.ensures.names)) c.drop_each.ensures.wtxid_room c.drop_each.ensures.point_room,
      omega (arith, c.self.invariant.3, fits, ap length (are g d), lengths, c.take_family.ensures.capacity, c.self.inside.gone.ok, c.take_family.new.gone.ok),
      IsLog-same (IsLog-taken es spots (listed g d) distinct (reaches (steps es) x) log more (taken g d) c.self.inside.mark c.self.invariant.4) (are g d) (places g d) c.take_family.ensures.gone.is refl,
    )

pub returns-clause-rest : goal.returns-clause-rest
returns-clause-rest g c = are g (goal.at.returns-clause-rest g c).After-take_family ∙ ap (λ (p : Pooled). without_family p.entries c.args.id.now) c.self.view_is

pub returns-clause-room : goal.returns-clause-room
returns-clause-room g c = ap (λ (p : Pooled). p.room) c.self.view_is

pub returns-clause-next : goal.returns-clause-next
returns-clause-next g c = ap (λ (p : Pooled). p.next) c.self.view_is

pub returns-clause-before : goal.returns-clause-before
returns-clause-before g c =
    let d = (goal.at.returns-clause-before g c).After-take_family in
    let es = entries_in c.self.inside.nodes.nodes in
    let test = reaches (steps es) c.args.id.now in
    let mark = c.self.inside.mark in
    (λ i. before_of (are g d i) (places g d i) (c.take_family.ensures.gone.is i) mark)
    ∙ before_taken es c.self.inside.nodes.places (listed g d) c.self.invariant.1.distinct.txids test c.self.inside.gone.items c.take_family.ensures.gone.more (taken g d) mark
    ∙ ap (λ (p : Pooled). p.before) c.self.view_is

pub returns-clause-all : goal.returns-clause-all
returns-clause-all g c =
    let d = (goal.at.returns-clause-all g c).After-take_family in
    let es = entries_in c.self.inside.nodes.nodes in
    (λ i. together (c.take_family.ensures.gone.is i) (are g d i))
    ∙ all_taken es c.self.inside.nodes.places (listed g d) c.self.invariant.1.distinct.txids (reaches (steps es) c.args.id.now) c.take_family.ensures.gone.more (taken g d) c.self.inside.gone.items
    ∙ ap all_of c.self.view_is
