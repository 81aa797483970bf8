use Rattle.std.proofs.Common.{◌≡◌, ◌∙◌, sym, ap, None, true≢false}
use Rattle.std.specs.Prelude.{find}
use Rattle.std.specs.Option.{option_map}
use Rattle.std.specs.Str.{bytes_eq}
use Rattle.std.specs.Cmp.Lexicographic.{bytes_decides}
use Rattle.std.proofs.lemmas.Bool.{false_from_ne_true}
use Rattle.gate_graph.specs.Families.{has}
use Rattle.gate_graph.specs.Holding.{has_id, nodes_of, loaded, load_of, names_of, vacated, without_one}
use Rattle.gate_graph.specs.Slots.{at}
use Rattle.gate_graph.proofs.Alone.{loaded_alone}
use Rattle.gate_graph.proofs.Going.{gone_load, gone_names, gone_place}
use Rattle.gate_graph.proofs.Holdings.{found_has}
use Rattle.gate_graph.proofs.Marking.{id_from, filled, none_from}
use Rattle.gate_graph.proofs.Pulling.{none_there}
use Rattle.gate_graph.proofs.Vacating.{vacated_none, stands_node}
use Rattle.gate_graph.proofs.take.take_one.Goals as goal

pub take_standing-requires-clause-stands : goal.take_standing-requires-clause-stands
take_standing-requires-clause-stands g c = filled c.args.slots.now.spots c.in-Some.place c.args.id.now c.in-Some.ensures.sound

pub returns-in-None-clause-left : goal.returns-in-None-clause-left
returns-in-None-clause-left g c =
    let hs = c.args.slots.now.held in
    let x = c.args.id.now in
    let none : find (λ h. has_id h x) hs ≡ None = none_from (find (λ h. has_id h x) hs) (found_has hs x ∙ sym c.in-None.ensures.has) in
    ap loaded (sym (none_there hs x none)) ∙ loaded_alone hs x

pub returns-in-Some-clause-left : goal.returns-in-Some-clause-left
returns-in-Some-clause-left g c =
    c.take_standing.ensures.left ∙ ap (without_one (loaded c.args.slots.now.held)) (id_from c.args.slots.now.spots c.in-Some.place c.args.id.now c.in-Some.ensures.sound)

pub returns-in-None-clause-load : goal.returns-in-None-clause-load
returns-in-None-clause-load g c =
    let hs = c.args.slots.now.held in
    let x = c.args.id.now in
    let none : find (λ h. has_id h x) hs ≡ None = none_from (find (λ h. has_id h x) hs) (found_has hs x ∙ sym c.in-None.ensures.has) in
    sym (ap (option_map (λ h. h.load)) none)

pub returns-in-Some-clause-load : goal.returns-in-Some-clause-load
returns-in-Some-clause-load g c =
    let spots = c.args.slots.now.spots in
    let hs = c.args.slots.now.held in
    gone_load spots hs c.in-Some.place c.take_standing.result c.take_standing.ensures.gone ∙ ap (load_of hs) (id_from spots c.in-Some.place c.args.id.now c.in-Some.ensures.sound)

pub returns-in-None-clause-parents : goal.returns-in-None-clause-parents
returns-in-None-clause-parents g c =
    let hs = c.args.slots.now.held in
    let x = c.args.id.now in
    let none : find (λ h. has_id h x) hs ≡ None = none_from (find (λ h. has_id h x) hs) (found_has hs x ∙ sym c.in-None.ensures.has) in
    sym (ap (option_map (λ h. h.parents.items)) none)

pub returns-in-Some-clause-parents : goal.returns-in-Some-clause-parents
returns-in-Some-clause-parents g c =
    let spots = c.args.slots.now.spots in
    let hs = c.args.slots.now.held in
    gone_names spots hs c.in-Some.place c.take_standing.result c.take_standing.ensures.gone ∙ ap (names_of hs) (id_from spots c.in-Some.place c.args.id.now c.in-Some.ensures.sound)

pub returns-in-Some-clause-place : goal.returns-in-Some-clause-place
returns-in-Some-clause-place g c =
    let spots = c.args.slots.now.spots in
    ap (at spots) (gone_place spots c.args.slots.now.held c.in-Some.place c.take_standing.result c.take_standing.ensures.gone) ∙ c.in-Some.ensures.sound

pub returns-in-None-clause-spots : goal.returns-in-None-clause-spots
returns-in-None-clause-spots g c =
    let spots = c.args.slots.now.spots in
    let x = c.args.id.now in
    sym (vacated_none (λ y. bytes_eq y x) spots (λ y k. false_from_ne_true _ (λ t.
    true≢false (sym (stands_node (nodes_of c.args.slots.now.held) spots y c.len-len.ensures.ids k) ∙ ap (has (nodes_of c.args.slots.now.held)) ((bytes_decides y x).0 t) ∙ sym c.in-None.ensures.has))))

pub returns-in-Some-clause-spots : goal.returns-in-Some-clause-spots
returns-in-Some-clause-spots g c =
    let spots = c.args.slots.now.spots in
    c.take_standing.ensures.spots ∙ ap (λ x. vacated (λ y. bytes_eq y x) spots) (id_from spots c.in-Some.place c.args.id.now c.in-Some.ensures.sound)
