use Rattle.std.proofs.Common.{◌≡◌, ◌<◌, ◌∙◌, ℕ, List, [], Option, Some, None, length, get_or, sym, false}
use Rattle.std.specs.Prelude.{IfSome, IfNone, is_some}
use Rattle.gate_graph.specs.Families.{among}
use Rattle.gate_graph.specs.Linking.{listing}
use Rattle.gate_graph.proofs.Including.{at_among}
use Rattle.gate_graph.proofs.links.Links.has.Goals as goal

-- an id stands in a list if it has a place there
placed : (ids : List (List ℕ)) (x : List ℕ) (r : Option ℕ) → IfSome r (λ n. n < length ids) → IfSome r (λ n. get_or ids n [] ≡ x) → IfNone r (among ids x ≡ false) → is_some r ≡ among ids x
placed ids x (Some n) within there none = sym (at_among ids x n [] within there)
placed ids x None within there none = sym none

pub returns : goal.returns
returns g c =
    c.is_some.ensures ∙ placed (listing c.args.self.now c.args.parent.now) c.args.child.now c.place_in.result c.place_in.ensures.within c.place_in.ensures.there c.place_in.ensures.none
