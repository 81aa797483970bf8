use Rattle.std.proofs.Common.{◌≡◌, refl, sym, ap, subst, ◌∙◌, arith, length}
use Rattle.std.specs.Map.{lookup}
use Rattle.std.specs.Str.{bytes_eq}
use Rattle.gate_tx.specs.Coins.{point_eq}
use Rattle.gate_graph.specs.Slots.{entries_of}
use Rattle.gate_graph.proofs.Placing.{length-spots}
use Rattle.gate_pool.specs.Pool.{Pooled, listing_of}
use Rattle.gate_pool.specs.Log.{before_of}
use Rattle.gate_pool.specs.Distinct.{AreDistinct}
use Rattle.gate_pool.specs.Keeping.{entries_in, IsCarried}
use Rattle.gate_pool.proofs.Found.{IsIndexed-same}
use Rattle.gate_pool.proofs.Seats.{IsLog-marked, IsLog-same, before_marked}
use Rattle.gate_pool.proofs.Standing.{spots_listed, standing_in}
use Rattle.gate_pool.proofs.Readiness.{HasPlaces-none}
use Rattle.gate_pool.proofs.store.Store.copy.Given.{Over}
use Rattle.gate_pool.proofs.store.Store.copy.Goals.{After-as_slice-mark}
use Rattle.gate_pool.proofs.store.Store.copy.Goals as goal

pub index_each-requires-clause-distinct : goal.index_each-requires-clause-distinct
index_each-requires-clause-distinct g c =
    subst AreDistinct (sym (standing_in c.as_slice.result.now c.self.inside.nodes.nodes c.as_slice.ensures.nodes)) c.self.invariant.1.distinct

pub index_each-requires-clause-no_wtxids : goal.index_each-requires-clause-no_wtxids
index_each-requires-clause-no_wtxids g c = λ k. ap (lookup (bytes_eq k)) c.with_hasher-wtxids.ensures.empty

pub index_each-requires-clause-no_points : goal.index_each-requires-clause-no_points
index_each-requires-clause-no_points g c = λ k. ap (lookup (point_eq k)) c.with_hasher-spent.ensures.empty

-- the ids at the copy's places are those of the entries, which differ
carried : (g : Over) (c : After-as_slice-mark g) → IsCarried c.in_ok-nodes.nodes.nodes
carried g c = subst IsCarried (sym c.in_ok-nodes.ensures) c.self.invariant.0

listed : (g : Over) (c : After-as_slice-mark g) → entries_of c.in_ok-nodes.nodes.places ≡ listing_of (entries_in c.in_ok-nodes.nodes.nodes)
listed g c = spots_listed c.as_slice-mark.result.now c.in_ok-nodes.nodes.places (entries_in c.in_ok-nodes.nodes.nodes) (c.as_slice-mark.ensures.nodes ∙ (carried g c).is) c.as_slice-mark.ensures.places

distinct : (g : Over) (c : After-as_slice-mark g) → AreDistinct (entries_in c.in_ok-nodes.nodes.nodes)
distinct g c = subst (λ ns. AreDistinct (entries_in ns)) (sym c.in_ok-nodes.ensures) c.self.invariant.1.distinct

places : (g : Over) (c : After-as_slice-mark g) → length c.as_slice-mark.result.now ≡ length c.in_ok-nodes.nodes.places
places g c = sym (length-spots c.as_slice-mark.result.now) ∙ ap length c.as_slice-mark.ensures.places

pub invariant_of-result : goal.invariant_of-result
invariant_of-result g c =
    let d = (goal.at.invariant_of-result g c).After-as_slice-mark in
    let nodes = c.self.inside.nodes.nodes in
    let same = c.in_ok-nodes.ensures in (
      carried g d,
      IsIndexed-same c.in_ok-index_each.ensures (ap entries_in same ∙ sym (standing_in c.as_slice.result.now nodes c.as_slice.ensures.nodes)) (λ id. refl) (λ point. refl),
      HasPlaces-none,
      omega (arith, c.in_ok-gone.ensures.len, ap (λ l. length (entries_in l)) same, c.in_ok-gone.ensures.capacity, c.count.ensures, ap (λ (p : Pooled). length p.entries) c.self.view_is),
      IsLog-same (IsLog-marked (entries_in c.in_ok-nodes.nodes.nodes) c.in_ok-nodes.nodes.places (listed g d) (distinct g d)) refl refl c.in_ok-gone.ensures.items (places g d),
    )

pub returns-clause-entries : goal.returns-clause-entries
returns-clause-entries g c = ap entries_in c.in_ok-nodes.ensures ∙ ap (λ (p : Pooled). p.entries) c.self.view_is

pub returns-clause-before : goal.returns-clause-before
returns-clause-before g c =
    let d = (goal.at.returns-clause-before g c).After-as_slice-mark in
    let es = entries_in c.in_ok-nodes.nodes.nodes in
    (λ i. before_of es c.in_ok-nodes.nodes.places (c.in_ok-gone.ensures.items i) (places g d i))
    ∙ before_marked es c.in_ok-nodes.nodes.places (listed g d) (distinct g d).txids
    ∙ ap entries_in c.in_ok-nodes.ensures ∙ ap (λ (p : Pooled). p.entries) c.self.view_is
