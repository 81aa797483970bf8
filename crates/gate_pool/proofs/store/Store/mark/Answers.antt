use Rattle.std.proofs.Common.{◌≡◌, refl, sym, ap, subst, ◌∙◌, arith, length}
use Rattle.gate_graph.specs.Slots.{entries_of}
use Rattle.gate_graph.proofs.Placing.{length-spots}
use Rattle.gate_pool.specs.Pool.{Pooled, listing_of, room_of}
use Rattle.gate_pool.specs.Keeping.{entries_in, IsCarried}
use Rattle.gate_pool.specs.Log.{before_of, loads_of}
use Rattle.gate_pool.specs.Distinct.{AreDistinct}
use Rattle.gate_pool.proofs.Found.{IsIndexed-same}
use Rattle.gate_pool.proofs.Readiness.{HasPlaces-none}
use Rattle.gate_pool.proofs.Seats.{IsLog-marked, IsLog-same, before_marked}
use Rattle.gate_pool.proofs.Standing.{spots_listed}
use Rattle.gate_pool.proofs.store.Store.mark.Given.{Over}
use Rattle.gate_pool.proofs.store.Store.mark.Goals.{After-as_slice}
use Rattle.gate_pool.proofs.store.Store.mark.Goals as goal

-- the ids at the places are those of the entries, which differ
listed : (g : Over) (c : After-as_slice g) → entries_of c.tidy.new.self.places ≡ listing_of (entries_in c.tidy.new.self.nodes)
listed g c =
    let carried = subst IsCarried (sym c.tidy.ensures) c.self.invariant.0 in
    spots_listed c.as_slice.result.now c.tidy.new.self.places (entries_in c.tidy.new.self.nodes) (c.as_slice.ensures.nodes ∙ carried.is) c.as_slice.ensures.places

distinct : (g : Over) (c : After-as_slice g) → AreDistinct (entries_in c.tidy.new.self.nodes)
distinct g c = subst (λ ns. AreDistinct (entries_in ns)) (sym c.tidy.ensures) c.self.invariant.1.distinct

places : (g : Over) (c : After-as_slice g) → length c.as_slice.result.now ≡ length c.tidy.new.self.places
places g c = sym (length-spots c.as_slice.result.now) ∙ ap length c.as_slice.ensures.places

pub invariant_of-self : goal.invariant_of-self
invariant_of-self g c =
    let d = (goal.at.invariant_of-self g c).After-as_slice in
    let same = c.tidy.ensures in (
      subst IsCarried (sym same) c.self.invariant.0,
      IsIndexed-same c.self.invariant.1 (ap entries_in same) (λ id. refl) (λ point. refl),
      HasPlaces-none,
      omega (arith, c.self.invariant.3, ap (λ l. length (entries_in l)) same, c.clear.ensures.len, c.clear.ensures.capacity),
      IsLog-same (IsLog-marked (entries_in c.tidy.new.self.nodes) c.tidy.new.self.places (listed g d) (distinct g d)) refl refl c.clear.ensures.items (places g d),
    )

pub returns-clause-entries : goal.returns-clause-entries
returns-clause-entries g c = ap entries_in c.tidy.ensures ∙ ap (λ (p : Pooled). p.entries) c.self.view_is

pub returns-clause-before : goal.returns-clause-before
returns-clause-before g c =
    let d = (goal.at.returns-clause-before g c).After-as_slice in
    let es = entries_in c.tidy.new.self.nodes in
    (λ i. before_of es c.tidy.new.self.places (c.clear.ensures.items i) (places g d i))
    ∙ before_marked es c.tidy.new.self.places (listed g d) (distinct g d).txids
    ∙ ap entries_in c.tidy.ensures ∙ ap (λ (p : Pooled). p.entries) c.self.view_is

pub returns-clause-left : goal.returns-clause-left
returns-clause-left g c = ap (λ l. room_of (loads_of l)) c.clear.ensures.items
