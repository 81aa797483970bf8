use Rattle.std.proofs.Common.{◌≡◌, ◌++◌, List, map, take, drop, length, sym, ap, subst, ◌∙◌, arith}
use Rattle.std.specs.Prelude.{filter}
use Rattle.std.specs.List.Sorted.{IsPermutation}
use Rattle.std.proofs.Math.Seq.{take-append_seam}
use Rattle.std.proofs.lemmas.List.Sorted.{length_permutation}
use Rattle.std.proofs.lemmas.Result.{IfOk-weaker}
use Rattle.gate_pool.specs.Pool.{Pooled}
use Rattle.gate_pool.specs.Keeping.{entries_in}
use Rattle.gate_pool.specs.Leaving.{has_gone, seated}
use Rattle.gate_pool.specs.Moves.{departed}
use Rattle.gate_pool.specs.declared.moves.Seated.{Seated}
use Rattle.gate_pool.proofs.Departing.{departed_are}
use Rattle.gate_pool.proofs.Standing.{spots_listed}
use Rattle.gate_pool.proofs.store.Store.departed.Goals as goal

pub returns : goal.returns
returns g c =
    let nodes = c.self.inside.nodes.nodes in
    let spots = c.self.inside.nodes.places in
    let es = entries_in nodes in
    let log = c.self.inside.gone.items in
    let mark = c.self.inside.mark in
    let seats = c.in_ok-seats.seats in
    let sorted : List Seated = c.sort_by_seat.new.seats in
    let found : c.as_mut_slice.result.now ≡ map seated (filter (has_gone es mark) log) =
    c.as_mut_slice.ensures.value ∙ c.in_ok-seats.ensures ∙ (λ i. map seated (filter (has_gone (sym c.self.view_is i).entries mark) (c.as_slice.ensures.value i))) in
    let moved : IsPermutation (map seated (filter (has_gone es mark) log)) sorted = subst (λ l. IsPermutation l sorted) found c.sort_by_seat.ensures.same in
    let long : seats.len ≡ length sorted = omega (arith, seats.ok, length_permutation c.as_mut_slice.result.now sorted c.sort_by_seat.ensures.same, ap length c.as_mut_slice.ensures.value) in
    let told : c.as_slice-2.result.now ≡ sorted = c.as_slice-2.ensures.value ∙ ap (λ n. take n (sorted ++ drop (length sorted) seats.items)) long ∙ take-append_seam sorted (drop (length sorted) seats.items) in
    let are = departed_are es spots (spots_listed c.as_slice-slots.result.now spots es (c.as_slice-slots.ensures.nodes ∙ c.self.invariant.0.is) c.as_slice-slots.ensures.places) c.self.invariant.1.distinct.txids log mark c.self.invariant.4 sorted moved c.sort_by_seat.ensures.order in
    IfOk-weaker c.txids_at.result (λ txids. txids.items ≡ map (λ s. s.txid) c.as_slice-2.result.now) (λ txids. txids.items ≡ departed c.args.self.now.before c.args.self.now.entries)
    (λ txids is. is ∙ ap (map (λ (s : Seated). s.txid)) told ∙ are ∙ ap (λ (p : Pooled). departed p.before p.entries) c.self.view_is) c.txids_at.ensures
