use Rattle.std.proofs.Common.{◌∙◌, List, Option, sym, ap, subst, arith}
use Rattle.gate_ranking.specs.Ranking.{Ranked, at, IsLeast, IsBare}
use Rattle.gate_ranking.specs.Tournament.{place_of}
use Rattle.gate_ranking.proofs.Holding.{least_held, bare_held}
use Rattle.gate_ranking.proofs.Recursion.{least_is, none_is, keys_of-own}
use Rattle.gate_ranking.proofs.ranking.Ranking.least.Goals as goal

pub returns-in-Some-clause-some : goal.returns-in-Some-clause-some
returns-in-Some-clause-some g c =
    subst (λ (r : Ranked g.row.K.Denot). IsLeast g.K.Ord.cmp r.keys c.place_of-place.result c.in-Some.key.now) c.self.view_is
    (least_held g.K.Ord.cmp g.met.K.Ord.total c.self.inside.keys.items c.self.inside.tree.items c.self.invariant.played (omega (arith, c.self.invariant.leaves)) c.place_of-place.result c.in-Some.key.now
    (c.place_of-place.ensures ∙ ap (λ t. place_of t 1) c.deref.ensures.value)
    (c.in-Some.ensures ∙ ap (λ l. at l c.place_of-place.result) c.deref-2.ensures.value))

pub returns-in-None-clause-none : goal.returns-in-None-clause-none
returns-in-None-clause-none g c =
    subst (λ (r : Ranked g.row.K.Denot). IsBare r.keys) c.self.view_is
    (bare_held g.K.Ord.cmp g.met.K.Ord.total c.self.inside.keys.items c.self.inside.tree.items c.self.invariant.played (omega (arith, c.self.invariant.leaves)) c.place_of-place.result
    (c.place_of-place.ensures ∙ ap (λ t. place_of t 1) c.deref.ensures.value)
    (c.in-None.ensures ∙ ap (λ l. at l c.place_of-place.result) c.deref-2.ensures.value))

pub returns-in-Some-clause-value : goal.returns-in-Some-clause-value
returns-in-Some-clause-value g c =
    let keys = c.args.self.now.keys in
    let least = returns-in-Some-clause-some g c in
    sym (least_is (λ (k : g.row.K.Denot). k) g.K.Ord.cmp g.met.K.Ord.total keys c.place_of-place.result c.in-Some.key.now least.held (subst (λ (l : List (Option g.row.K.Denot)). IsLeast g.K.Ord.cmp l c.place_of-place.result c.in-Some.key.now) (sym (keys_of-own keys)) least))

pub returns-in-None-clause-value : goal.returns-in-None-clause-value
returns-in-None-clause-value g c =
    let keys = c.args.self.now.keys in
    sym (none_is (λ (k : g.row.K.Denot). k) g.K.Ord.cmp keys (subst (λ (l : List (Option g.row.K.Denot)). IsBare l) (sym (keys_of-own keys)) (returns-in-None-clause-none g c)))
