use Rattle.std.proofs.Common.{rules, ◌≡◌, ◌+◌, ◌≤◌, ◌++◌, ◌||◌, ◌∙◌, ap, sym, subst, append_assoc, drop, length, map, is_some, arith, vec_len}
use Rattle.std.specs.List.{list_any, IsDistinct}
use Rattle.std.specs.Map.{lookup, keys_of}
use Rattle.std.specs.Vec.{vec_capacity}
use Rattle.indexmap.specs.IndexMap.{spare}
use Rattle.indexmap.specs.IndexSet.{spare as set_spare}
use Rattle.gate_tx.specs.Coins.{point_eq}
use Rattle.gate_chain.specs.Blocks.{Block}
use Rattle.gate_chain.specs.Coins.{is_spent_in}
use Rattle.gate_chain.specs.Headers.{header_time}
use Rattle.gate_chain.specs.Marking.{all_in, coins_in, is_marked}
use Rattle.gate_chain.specs.History.{History}
use Rattle.gate_chain.specs.Lowering.{Top, above}
use Rattle.gate_chain.specs.Tops.{IsTop, placed}
use Rattle.gate_chain.proofs.TwoTables.{count_same, drop_opening}
use Rattle.gate_chain.proofs.Restoring.{blocks_fit, times_fit, coins_apart, ids_apart, restored}
use Rattle.gate_chain.proofs.chain.Chain.restore.Goals as goal

pub make_room-requires-clause-fits : goal.make_room-requires-clause-fits
make_room-requires-clause-fits g c =
    let s = c.self.inside in
    let t = subst (λ (x : Top). IsTop x c.top.inside.places.items c.top.inside.coins.entries c.top.inside.ids.keys (spare c.top.inside.coin_room) (set_spare c.top.inside.id_room) (vec_capacity c.top.inside.time_room) (vec_capacity c.top.inside.block_room)) c.top.view_is c.top.invariant.0 in
    let n : vec_len s.times ≡ length s.times.items = search rules in
    let f : length s.times.items + length (above c.args.top) ≤ vec_capacity c.top.inside.time_room = times_fit _ _ _ _ _ _ _ _ _ c.self.invariant _ _ _ _ _ _ _ _ _ t (c.self.view_is ∙ c.requires.below) in
    omega arith

pub make_room-requires-2-clause-fits : goal.make_room-requires-2-clause-fits
make_room-requires-2-clause-fits g c =
    let s = c.self.inside in
    let t = subst (λ (x : Top). IsTop x c.top.inside.places.items c.top.inside.coins.entries c.top.inside.ids.keys (spare c.top.inside.coin_room) (set_spare c.top.inside.id_room) (vec_capacity c.top.inside.time_room) (vec_capacity c.top.inside.block_room)) c.top.view_is c.top.invariant.0 in
    let n : vec_len s.blocks ≡ length s.blocks.items = search rules in
    let f : length s.blocks.items + length (above c.args.top) ≤ vec_capacity c.top.inside.block_room = blocks_fit _ _ _ _ _ _ _ _ _ c.self.invariant _ _ _ _ _ _ _ _ _ t (c.self.view_is ∙ c.requires.below) in
    omega arith

pub link-requires-clause-times_fit : goal.link-requires-clause-times_fit
link-requires-clause-times_fit g c =
    let s = c.self.inside in
    let t = subst (λ (x : Top). IsTop x c.top.inside.places.items c.top.inside.coins.entries c.top.inside.ids.keys (spare c.top.inside.coin_room) (set_spare c.top.inside.id_room) (vec_capacity c.top.inside.time_room) (vec_capacity c.top.inside.block_room)) c.top.view_is c.top.invariant.0 in
    let n : vec_len s.times ≡ length s.times.items = search rules in
    let m : vec_len c.make_room.new.list ≡ length c.make_room.new.list.items = search rules in
    let k : vec_len c.args.blocks ≡ length c.args.blocks.items = search rules in
    let same : length c.make_room.new.list.items ≡ length s.times.items = ap length c.make_room.ensures.items in
    let above_is : length c.args.blocks.items ≡ length (above c.args.top) = ap length c.requires.above in
    let room = c.make_room.ensures.room in
    let f : length s.times.items + length (above c.args.top) ≤ vec_capacity c.top.inside.time_room = times_fit _ _ _ _ _ _ _ _ _ c.self.invariant _ _ _ _ _ _ _ _ _ t (c.self.view_is ∙ c.requires.below) in
    omega arith

pub link-requires-clause-blocks_fit : goal.link-requires-clause-blocks_fit
link-requires-clause-blocks_fit g c =
    let s = c.self.inside in
    let t = subst (λ (x : Top). IsTop x c.top.inside.places.items c.top.inside.coins.entries c.top.inside.ids.keys (spare c.top.inside.coin_room) (set_spare c.top.inside.id_room) (vec_capacity c.top.inside.time_room) (vec_capacity c.top.inside.block_room)) c.top.view_is c.top.invariant.0 in
    let n : vec_len s.blocks ≡ length s.blocks.items = search rules in
    let m : vec_len c.make_room-2.new.list ≡ length c.make_room-2.new.list.items = search rules in
    let k : vec_len c.args.blocks ≡ length c.args.blocks.items = search rules in
    let same : length c.make_room-2.new.list.items ≡ length s.blocks.items = ap length c.make_room-2.ensures.items in
    let above_is : length c.args.blocks.items ≡ length (above c.args.top) = ap length c.requires.above in
    let room = c.make_room-2.ensures.room in
    let f : length s.blocks.items + length (above c.args.top) ≤ vec_capacity c.top.inside.block_room = blocks_fit _ _ _ _ _ _ _ _ _ c.self.invariant _ _ _ _ _ _ _ _ _ t (c.self.view_is ∙ c.requires.below) in
    omega arith

pub invariant_of-self : goal.invariant_of-self
invariant_of-self g c =
    let s = c.self.inside in
    let t = subst (λ (x : Top). IsTop x c.top.inside.places.items c.top.inside.coins.entries c.top.inside.ids.keys (spare c.top.inside.coin_room) (set_spare c.top.inside.id_room) (vec_capacity c.top.inside.time_room) (vec_capacity c.top.inside.block_room)) c.top.view_is c.top.invariant.0 in
    let below = c.self.view_is ∙ c.requires.below in
    let o = s.coins.opening.entries in
    let m = s.coins.made.entries in
    let behind : drop (length c.args.top.whole.coins) (o ++ m) ≡ m = ap (λ k. drop k (o ++ m)) (sym (ap (λ (h : History). length h.coins) below) ∙ sym c.self.invariant.opened_is) ∙ drop_opening o m in
    let joined : o ++ c.join_coins.new.coins.entries ≡ (o ++ m) ++ c.top.inside.coins.entries =
    ap (λ l. o ++ l) (c.join_coins.ensures (subst (λ l. IsDistinct point_eq (keys_of (l ++ c.top.inside.coins.entries))) behind (coins_apart _ _ _ _ _ _ _ _ _ c.self.invariant _ _ _ _ _ _ _ _ _ t below)))
    ∙ sym (append_assoc o m c.top.inside.coins.entries) in
    let joined_ids = c.join_ids.ensures (ids_apart _ _ _ _ _ _ _ _ _ c.self.invariant _ _ _ _ _ _ _ _ _ t below) in
    let slice : c.as_slice.result.now ≡ above c.args.top = c.as_slice.ensures.value ∙ c.requires.above in
    (restored _ _ _ _ _ _ _ _ _ c.self.invariant _ _ _ _ _ _ _ _ _ t below (all_in c.respend_blocks.new.coins) c.join_ids.new.ids.keys
    (c.respend_blocks.ensures.coins ∙ ap coins_in joined) joined_ids
    (λ p there. c.respend_blocks.ensures.marks p (ap (λ l. is_some (lookup (point_eq p) (coins_in l))) joined ∙ there) ∙ (λ j. list_any (is_spent_in p) (slice j) || is_marked (joined j) p))
    c.link.new.times.items c.link.new.linked.items
    (c.link.ensures.times ∙ (λ j. c.make_room.ensures.items j ++ map (λ (b : Block). header_time b.header) (c.requires.above j)))
    (c.link.ensures.linked ∙ (λ j. c.make_room-2.ensures.items j ++ placed c.top.inside.places.items (c.requires.above j)))
    _ (count_same o c.respend_blocks.new.coins.opening.entries c.respend_blocks.ensures.opening)).0

pub returns : goal.returns
returns g c =
    let s = c.self.inside in
    let t = subst (λ (x : Top). IsTop x c.top.inside.places.items c.top.inside.coins.entries c.top.inside.ids.keys (spare c.top.inside.coin_room) (set_spare c.top.inside.id_room) (vec_capacity c.top.inside.time_room) (vec_capacity c.top.inside.block_room)) c.top.view_is c.top.invariant.0 in
    let below = c.self.view_is ∙ c.requires.below in
    let o = s.coins.opening.entries in
    let m = s.coins.made.entries in
    let behind : drop (length c.args.top.whole.coins) (o ++ m) ≡ m = ap (λ k. drop k (o ++ m)) (sym (ap (λ (h : History). length h.coins) below) ∙ sym c.self.invariant.opened_is) ∙ drop_opening o m in
    let joined : o ++ c.join_coins.new.coins.entries ≡ (o ++ m) ++ c.top.inside.coins.entries =
    ap (λ l. o ++ l) (c.join_coins.ensures (subst (λ l. IsDistinct point_eq (keys_of (l ++ c.top.inside.coins.entries))) behind (coins_apart _ _ _ _ _ _ _ _ _ c.self.invariant _ _ _ _ _ _ _ _ _ t below)))
    ∙ sym (append_assoc o m c.top.inside.coins.entries) in
    let joined_ids = c.join_ids.ensures (ids_apart _ _ _ _ _ _ _ _ _ c.self.invariant _ _ _ _ _ _ _ _ _ t below) in
    let slice : c.as_slice.result.now ≡ above c.args.top = c.as_slice.ensures.value ∙ c.requires.above in
    (restored _ _ _ _ _ _ _ _ _ c.self.invariant _ _ _ _ _ _ _ _ _ t below (all_in c.respend_blocks.new.coins) c.join_ids.new.ids.keys
    (c.respend_blocks.ensures.coins ∙ ap coins_in joined) joined_ids
    (λ p there. c.respend_blocks.ensures.marks p (ap (λ l. is_some (lookup (point_eq p) (coins_in l))) joined ∙ there) ∙ (λ j. list_any (is_spent_in p) (slice j) || is_marked (joined j) p))
    c.link.new.times.items c.link.new.linked.items
    (c.link.ensures.times ∙ (λ j. c.make_room.ensures.items j ++ map (λ (b : Block). header_time b.header) (c.requires.above j)))
    (c.link.ensures.linked ∙ (λ j. c.make_room-2.ensures.items j ++ placed c.top.inside.places.items (c.requires.above j)))
    _ (count_same o c.respend_blocks.new.coins.opening.entries c.respend_blocks.ensures.opening)).1
