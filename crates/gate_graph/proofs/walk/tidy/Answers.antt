use Rattle.std.proofs.Common.{◌≤◌, ap, subst, sym, length, take, is_some, arith}
use Rattle.gate_graph.specs.Walking.{AreClear}
use Rattle.gate_graph.proofs.Finding.{shorter}
use Rattle.gate_graph.proofs.Marking.{clear_take}
use Rattle.gate_graph.proofs.walk.tidy.Goals as goal

pub returns-clause-clear : goal.returns-clause-clear
returns-clause-clear g c =
    let fewer : length c.close_up.new.self.spots ≤ length c.args.slots.now.spots = omega (arith, ap length c.close_up.ensures.spots, shorter is_some c.args.slots.now.spots) in
    subst (λ l. AreClear (length c.close_up.new.self.spots) l) (sym c.truncate.ensures.items)
    (subst (λ n. AreClear (length c.close_up.new.self.spots) (take n c.args.marks.now.items)) (sym c.len-2.ensures.len)
    (clear_take (length c.args.slots.now.spots) (length c.close_up.new.self.spots) c.args.marks.now.items c.requires fewer))
