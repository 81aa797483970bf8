use Rattle.std.proofs.Common.{◌≡◌, ◌<◌, Some, length, ap, subst, arith}
use Rattle.std.specs.declared.cmp.Ordering.TheVariants.{Equal}
use Rattle.std.proofs.lemmas.List.{length-set}
use Rattle.gate_ranking.specs.Ranking.{Ranked, at}
use Rattle.gate_ranking.specs.Tournament.{held_cmp}
use Rattle.gate_ranking.proofs.Holding.{played_alike}
use Rattle.gate_ranking.proofs.ranking.Ranking.update.Goals as goal

pub invariant_of-self-else-not-is_equal : goal.invariant_of-self-else-not-is_equal
invariant_of-self-else-not-is_equal g c =
    let keys = c.self.inside.keys.items in
    let inv = c.self.invariant in
    let within : c.args.place < length keys = (let e = ap (λ (r : Ranked g.row.K.Denot). length r.keys) c.self.view_is in omega (arith, c.requires)) in
    let equal = c.has_equal-is_equal.ensures c.if-not-is_equal.false in
    record {
      played = played_alike g.K.Ord.cmp g.met.K.Ord.total keys c.args.place c.args.key c.self.inside.tree.items within (subst (λ l. held_cmp g.K.Ord.cmp (at l c.args.place) (Some c.args.key) ≡ Equal) c.deref.ensures.value equal) inv.played;
      leaves = omega (arith, length-set keys c.args.place (Some c.args.key), inv.leaves);
      slots = omega (arith, length-set keys c.args.place (Some c.args.key), inv.slots);
    }
