use Rattle.std.proofs.Common.{map, ap, sym, ◌∙◌}
use Rattle.std.specs.Option.{option_copied_mut}
use Rattle.gate_core.specs.declared.session.Session.{Session as Status}
use Rattle.gate_core.specs.Sessions.{Seated, rated}
use Rattle.gate_core.proofs.Peers.{shown, rated-shown, rated-absent}
use Rattle.gate_core.proofs.session.Sessions.set_rate.Goals as goal

pub returns : goal.returns
returns c =
    let status : Status = c.in-Some.session.now in
    let set : Status = record status { rate = c.args.rate } in
    let found = sym c.get_mut.ensures.value ∙ ap option_copied_mut c.in-Some.is in
    ap (map shown) (c.get_mut.follows.holds set).0
    ∙ (rated-shown c.self.inside.peers.entries c.args.peer c.args.rate status found ∙ ap (λ (s : Seated). rated s.all c.args.peer c.args.rate) c.self.view_is)

pub returns-in_default : goal.returns-in_default
returns-in_default c =
    let none = sym c.get_mut.ensures.value ∙ ap option_copied_mut c.in_default.is in
    rw c.get_mut.follows.holds-at-none (sym (rated-absent c.self.inside.peers.entries c.args.peer c.args.rate none) ∙ ap (λ (s : Seated). rated s.all c.args.peer c.args.rate) c.self.view_is)
