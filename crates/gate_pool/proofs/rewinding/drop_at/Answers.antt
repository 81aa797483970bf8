use Rattle.std.proofs.Common.{◌≡◌, Some, None, not, cond, length, refl, sym, ap, subst, ◌∙◌, ◌∷◌, [], arith}
use Rattle.std.specs.Prelude.{Contains, filter, if◌then◌else◌}
use Rattle.std.specs.Str.{bytes_eq}
use Rattle.std.proofs.Math.Bool.{or-false}
use Rattle.std.proofs.lemmas.Option.{none-some}
use Rattle.gate_tx.specs.Coins.{point_eq}
use Rattle.indexmap.specs.IndexMap.{get}
use Rattle.gate_graph.specs.Holding.{unless}
use Rattle.gate_graph.specs.Slots.{at, entries_of}
use Rattle.gate_pool.specs.Pool.{Admitted, entry_by_txid, has_txid, has_wtxid, has_point, listing_of}
use Rattle.gate_pool.specs.Keeping.{carried, entries_in}
use Rattle.gate_pool.specs.Log.{before_of}
use Rattle.gate_pool.proofs.Carrying.{load_is, named_parents, one_left, entries_are, IsCarried-of, bounded_left}
use Rattle.gate_pool.proofs.Found.{IsIndexed-left, IsIndexed-same}
use Rattle.gate_pool.proofs.Leaving.{leaving_taken, taken_one}
use Rattle.gate_pool.proofs.Returning.{keeps_logs}
use Rattle.gate_pool.proofs.Seats.{AreTaken, IsLog-same, at_place, at_vacated, same_place}
use Rattle.gate_pool.proofs.Standing.{spots_listed}
use Rattle.gate_pool.proofs.Walking.{Contains-from_filter, same_id, shorter}
use Rattle.gate_pool.proofs.rewinding.drop_at.Given.{Over}
use Rattle.gate_pool.proofs.rewinding.drop_at.Goals.{After-take_one, In-Some-take_one, In_default-take_one}
use Rattle.gate_pool.proofs.rewinding.drop_at.Goals as goal

listed : (g : Over) (c : After-take_one g) → entries_of c.args.nodes.now.places ≡ listing_of (entries_in c.args.nodes.now.nodes)
listed g c =
    spots_listed c.as_slice.result.now c.args.nodes.now.places (entries_in c.args.nodes.now.nodes) (c.as_slice.ensures.nodes ∙ c.requires.stored.carried.is) c.as_slice.ensures.places

stands : (g : Over) (c : After-take_one g) → at c.args.nodes.now.places c.args.place ≡ Some c.in-Some.id
stands g c = ap (λ s. at s c.args.place) (sym c.as_slice.ensures.places) ∙ sym c.in-Some.ensures

carried_left : (g : Over) (c : After-take_one g) → c.take_one.new.self.nodes ≡ carried (filter (λ d. not (has_txid d c.in-Some.id)) (entries_in c.args.nodes.now.nodes))
carried_left g c = one_left c.args.nodes.now.nodes c.requires.stored.carried c.take_one.new.self.nodes c.in-Some.id c.take_one.ensures.left

are : (g : Over) (c : After-take_one g) → entries_in c.take_one.new.self.nodes ≡ filter (λ d. not (has_txid d c.in-Some.id)) (entries_in c.args.nodes.now.nodes)
are g c = entries_are c.take_one.new.self.nodes (filter (λ d. not (has_txid d c.in-Some.id)) (entries_in c.args.nodes.now.nodes)) (carried_left g c)

taken : (g : Over) (c : In-Some-take_one g) → AreTaken (λ y. bytes_eq y c.in-Some.id) (entries_in c.args.nodes.now.nodes) c.args.nodes.now.places (c.in-Some-take_one.gone ∷ [])
taken g c =
    let nodes = c.args.nodes.now.nodes in
    let x = c.in-Some.id in
    taken_one (entries_in nodes) c.args.nodes.now.places x c.in-Some-take_one.gone c.requires.stored.indexed.distinct
    (sym (c.in-Some-take_one.ensures.load ∙ load_is nodes c.requires.stored.carried x))
    c.in-Some-take_one.ensures.place
    (named_parents nodes c.requires.stored.carried x c.in-Some-take_one.gone (sym c.in-Some-take_one.ensures.load) (sym c.in-Some-take_one.ensures.parents))

pub returns-in-Some-take_one-clause-stored : goal.returns-in-Some-take_one-clause-stored
returns-in-Some-take_one-clause-stored g c =
    let b = (goal.at.returns-in-Some-take_one-clause-stored g c).After-take_one in
    let d = (goal.at.returns-in-Some-take_one-clause-stored g c).In-Some-take_one in
    let nodes = c.args.nodes.now.nodes in
    let es = entries_in nodes in
    let x = c.in-Some.id in
    let e = c.in-Some-take_one.gone.load in
    let keep = λ (d : Admitted). not (has_txid d x) in
    record {
      carried = IsCarried-of c.take_one.new.self.nodes (filter keep es) (carried_left g b) (bounded_left nodes keep c.requires.stored.carried);
      indexed = IsIndexed-same (IsIndexed-left keep (e ∷ []) c.requires.stored.indexed (leaving_taken (λ y. bytes_eq y x) es c.args.nodes.now.places (c.in-Some-take_one.gone ∷ []) (taken g d))
          (λ id. c.drop_entry.ensures.wtxids id ∙ ap (λ b. cond b None (get bytes_eq c.args.wtxids.now id)) (sym (or-false (has_wtxid e id))))
          (λ point. c.drop_entry.ensures.points point ∙ ap (λ b. cond b None (get point_eq c.args.spent.now point)) (sym (or-false (has_point e point))))) (are g b) (λ id. refl) (λ point. refl);
    }

pub returns-in-Some-take_one-clause-empty : goal.returns-in-Some-take_one-clause-empty
returns-in-Some-take_one-clause-empty g c =
    let b = (goal.at.returns-in-Some-take_one-clause-empty g c).After-take_one in
    let x = c.in-Some.id in
    ap (λ s. at s c.args.place) c.take_one.ensures.places
    ∙ at_vacated (λ y. bytes_eq y x) c.args.nodes.now.places c.args.place
    ∙ ap (unless (λ y. bytes_eq y x)) (stands g b)
    ∙ ap (λ t. if t then None else Some x) (same_id x)

pub returns-in-Some-take_one-clause-fewer : goal.returns-in-Some-take_one-clause-fewer
returns-in-Some-take_one-clause-fewer g c = λ e m.
    let b = (goal.at.returns-in-Some-take_one-clause-fewer g c).After-take_one in
    Contains-from_filter (λ d. not (has_txid d c.in-Some.id)) (entries_in c.args.nodes.now.nodes) e (subst (λ l. Contains l e) (are g b) m)

pub returns-in-Some-take_one-clause-count : goal.returns-in-Some-take_one-clause-count
returns-in-Some-take_one-clause-count g c =
    omega (arith, ap length (are g (goal.at.returns-in-Some-take_one-clause-count g c).After-take_one), shorter (λ (d : Admitted). not (has_txid d c.in-Some.id)) (entries_in c.args.nodes.now.nodes))

pub returns-in-Some-take_one-clause-logs : goal.returns-in-Some-take_one-clause-logs
returns-in-Some-take_one-clause-logs g c = λ mark le log l.
    let b = (goal.at.returns-in-Some-take_one-clause-logs g c).After-take_one in
    let d = (goal.at.returns-in-Some-take_one-clause-logs g c).In-Some-take_one in
    let es = entries_in c.args.nodes.now.nodes in
    let spots = c.args.nodes.now.places in
    let x = c.in-Some.id in
    let gone = c.in-Some-take_one.gone in
    let distinct = c.requires.stored.indexed.distinct.txids in
    let here : gone.place ≡ c.args.place = same_place es spots (listed g b) distinct gone.place c.args.place x c.in-Some-take_one.ensures.place (stands g b) in
    let kept = keeps_logs es spots (listed g b) distinct (λ y. bytes_eq y x) gone (taken g d) mark (omega (arith, le, here)) log l in
    (IsLog-same kept.0 (are g b) c.take_one.ensures.places refl refl, (λ i. before_of (are g b i) (c.take_one.ensures.places i) log mark) ∙ kept.1)

-- what stands at the place is found by its id
found : (g : Over) (c : After-take_one g) → (e : Admitted) × (entry_by_txid (entries_in c.args.nodes.now.nodes) c.in-Some.id ≡ Some e)
found g c =
    let w = at_place (entries_in c.args.nodes.now.nodes) c.args.nodes.now.places (listed g c) c.requires.stored.indexed.distinct.txids c.args.place c.in-Some.id (stands g c) in
    (w.0, w.3)

none : (g : Over) (c : In_default-take_one g) → entry_by_txid (entries_in c.args.nodes.now.nodes) c.in-Some.id ≡ None
none g c = sym (c.in_default-take_one.ensures.load ∙ load_is c.args.nodes.now.nodes c.requires.stored.carried c.in-Some.id)

pub returns-in_default-take_one-clause-stored : goal.returns-in_default-take_one-clause-stored
returns-in_default-take_one-clause-stored g c = let w = found g (goal.at.returns-in_default-take_one-clause-stored g c).After-take_one in absurd (none-some w.0 (sym (none g c) ∙ w.1))

pub returns-in_default-take_one-clause-empty : goal.returns-in_default-take_one-clause-empty
returns-in_default-take_one-clause-empty g c = let w = found g (goal.at.returns-in_default-take_one-clause-empty g c).After-take_one in absurd (none-some w.0 (sym (none g c) ∙ w.1))

pub returns-in_default-take_one-clause-logs : goal.returns-in_default-take_one-clause-logs
returns-in_default-take_one-clause-logs g c = let w = found g (goal.at.returns-in_default-take_one-clause-logs g c).After-take_one in absurd (none-some w.0 (sym (none g c) ∙ w.1))

pub returns-in_default-take_one-clause-fewer : goal.returns-in_default-take_one-clause-fewer
returns-in_default-take_one-clause-fewer g c = let w = found g (goal.at.returns-in_default-take_one-clause-fewer g c).After-take_one in absurd (none-some w.0 (sym (none g c) ∙ w.1))

pub returns-in_default-take_one-clause-count : goal.returns-in_default-take_one-clause-count
returns-in_default-take_one-clause-count g c = let w = found g (goal.at.returns-in_default-take_one-clause-count g c).After-take_one in absurd (none-some w.0 (sym (none g c) ∙ w.1))
