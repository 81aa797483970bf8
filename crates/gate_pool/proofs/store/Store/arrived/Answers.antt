use Rattle.std.proofs.Common.{◌≡◌, ◌-◌, not, length, take, drop, refl, sym, ap, subst, ◌∙◌, arith, length-drop}
use Rattle.std.specs.Prelude.{filter}
use Rattle.std.specs.List.{AllPairs, list_any}
use Rattle.std.specs.Str.{bytes_eq}
use Rattle.std.proofs.lemmas.List.{take_all}
use Rattle.std.proofs.lemmas.Result.{IfOk-weaker}
use Rattle.indexmap.specs.IndexSet.{contains}
use Rattle.gate_tx.specs.Ids.{txid_of}
use Rattle.gate_graph.specs.Holding.{spots_of}
use Rattle.gate_graph.specs.Slots.{entries_of}
use Rattle.gate_pool.specs.Leaving.{has_left}
use Rattle.gate_pool.specs.Pool.{Admitted, Pooled, listing_of}
use Rattle.gate_pool.specs.Keeping.{entries_in}
use Rattle.gate_pool.specs.Log.{before_of}
use Rattle.gate_pool.specs.Moves.{arrived}
use Rattle.gate_pool.specs.Places.{standing}
use Rattle.gate_pool.proofs.Adding.{DifferById}
use Rattle.gate_pool.proofs.Arriving.{arrived_are, own_ids}
use Rattle.gate_pool.proofs.Seats.{IsLog-same}
use Rattle.gate_pool.proofs.Standing.{spots_listed, standing_in}
use Rattle.gate_pool.proofs.store.Store.arrived.Goals as goal

pub returns : goal.returns
returns g c =
    let nodes = c.self.inside.nodes.nodes in
    let spots = c.self.inside.nodes.places in
    let es = entries_in nodes in
    let log = c.self.inside.gone.items in
    let mark = c.self.inside.mark in
    let slots = c.as_slice-slots.result.now in
    let carried = c.as_slice-slots.ensures.nodes ∙ c.self.invariant.0.is in
    let are : standing slots ≡ es = standing_in slots nodes c.as_slice-slots.ensures.nodes in
    let places : spots_of slots ≡ spots = c.as_slice-slots.ensures.places in
    let listed : entries_of (spots_of slots) ≡ listing_of (standing slots) = spots_listed slots (spots_of slots) es carried refl ∙ ap listing_of (sym are) in
    let distinct : AllPairs DifferById (standing slots) = subst (AllPairs DifferById) (sym are) c.self.invariant.1.distinct.txids in
    let whole = arrived_are slots (own_ids (entries_of slots) es carried) listed distinct log mark (IsLog-same c.self.invariant.4 are places refl refl)
    (contains bytes_eq c.in_ok-left.left) (λ id. c.in_ok-left.ensures id ∙ ap (list_any (has_left mark id)) c.as_slice.ensures.value) in
    let test = λ (e : Admitted). not (contains bytes_eq c.in_ok-left.left (txid_of e.tx)) in
    let size = length slots - mark in
    IfOk-weaker c.txids_beside.result (λ txids. txids.items ≡ listing_of (filter test (standing (take size (drop mark slots))))) (λ txids. txids.items ≡ arrived c.args.self.now.before c.args.self.now.entries)
    (λ txids is.
    is ∙ ap (λ xs. listing_of (filter test (standing xs))) (take_all size (drop mark slots) (omega (arith, length-drop mark slots)))
    ∙ whole ∙ (λ i. arrived (before_of (are i) (places i) log mark) (are i)) ∙ ap (λ (p : Pooled). arrived p.before p.entries) c.self.view_is) c.txids_beside.ensures
