use Rattle.std.proofs.Common.{◌≡◌, ◌∙◌, ◌+◌, ◌*◌, sym, arith}
use Rattle.gate_ranking.specs.Tournament.{place_of, first_of}
use Rattle.gate_ranking.proofs.Playing.{inner_place}
use Rattle.gate_ranking.proofs.Replaying.{replaying_start, replaying_more, replaying_stop, replaying_end}
use Rattle.gate_ranking.proofs.tournament.replay.Goals as goal

pub loop-node-init : goal.loop-node-init
loop-node-init g c = replaying_start g.K.Ord.cmp c.args.keys.now c.args.place c.args.tree.now c.requires

pub returns-then-winner-tree : goal.returns-then-winner-tree
returns-then-winner-tree g c =
    let inv = c.loop-node.invariant in
    let wins : c.first_of-winner.result ≡ first_of g.K.Ord.cmp c.args.keys.now (place_of c.loop-node.tree (2 * c.loop-node.node)) (place_of c.loop-node.tree (2 * c.loop-node.node + 1)) = cc in
    replaying_stop g.K.Ord.cmp c.args.keys.now c.args.place c.args.tree.now c.loop-node.tree c.loop-node.node c.first_of-winner.result (omega arith) inv wins c.if-winner-place.true (c.if-winner-tree.true ∙ sym (inner_place c.loop-node.tree c.loop-node.node inv.inner))

pub loop-node-preserved : goal.loop-node-preserved
loop-node-preserved g c =
    let wins : c.first_of-winner.result ≡ first_of g.K.Ord.cmp c.args.keys.now (place_of c.loop-node.tree (2 * c.loop-node.node)) (place_of c.loop-node.tree (2 * c.loop-node.node + 1)) = cc in
    replaying_more g.K.Ord.cmp c.args.keys.now c.args.place c.args.tree.now c.loop-node.tree c.loop-node.node c.first_of-winner.result (omega arith) c.loop-node.invariant wins

pub returns : goal.returns
returns g c = replaying_end g.K.Ord.cmp c.args.keys.now c.args.place c.args.tree.now _ c.loop-node.node (omega arith) c.loop-node.invariant
