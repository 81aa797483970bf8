use Rattle.std.proofs.Common.{◌≡◌, ◌∙◌, ◌+◌, ◌<◌, ◌++◌, ◌∷◌, [], sym, ap, subst, arith, length, drop, Some}
use Rattle.std.proofs.lemmas.List.{take_at, length_push}
use Rattle.gate_ranking.specs.Ranking.{Ranked}
use Rattle.gate_ranking.specs.Tournament.{IsPlayed, DifferAt}
use Rattle.gate_ranking.proofs.Holding.{differ_push}
use Rattle.gate_ranking.proofs.ranking.Ranking.push.Goals as goal

pub invariant_of-self : goal.invariant_of-self
invariant_of-self g c =
    let keys = c.self.inside.keys.items in
    let inv = c.self.invariant in
    let long : length c.replay.new.tree ≡ c.self.inside.tree.len = omega (arith, c.replay.auto.tree, c.deref_mut.ensures.len) in
    let whole = take_at c.replay.new.tree (drop (length c.replay.new.tree) c.self.inside.tree.items) c.self.inside.tree.len long in
    let pushed = length_push keys (Some c.args.key) in
    let more : length c.push_reserved.new.self.items ≡ length keys + 1 = ap length c.push_reserved.ensures.items ∙ pushed in
    let same : c.deref.result.now ≡ keys ++ Some c.args.key ∷ [] = c.deref.ensures.value ∙ c.push_reserved.ensures.items in
    let place : length keys ≡ c.len-place.result = omega (arith, c.len-place.ensures, c.self.inside.keys.ok) in
    let differ : DifferAt c.len-place.result keys c.deref.result.now =
    subst (λ n. DifferAt n keys c.deref.result.now) place (subst (DifferAt (length keys) keys) (sym same) (differ_push keys (Some c.args.key))) in
    let played = c.replay.ensures.played keys differ (subst (IsPlayed g.K.Ord.cmp keys) (sym c.deref_mut.ensures.value) inv.played) in
    let some : 0 < c.self.inside.room = (let e = ap (λ (r : Ranked g.row.K.Denot). r.room) c.self.view_is in omega (arith, c.requires)) in
    rw whole (record {
      played = subst (λ l. IsPlayed g.K.Ord.cmp l c.replay.new.tree) c.deref.ensures.value played;
      leaves = omega (arith, c.self.inside.tree.ok, inv.leaves);
      slots = omega (arith, c.push_reserved.ensures.capacity, inv.slots);
    })
