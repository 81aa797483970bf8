use Rattle.std.proofs.Common.{rules, ◌≡◌, ◌∷◌, ◌+◌, ◌∙◌, ap, sym, drop, map, get_or, arith, ℕ, length, length-append, subst}
use Rattle.std.specs.List.{IsDistinct}
use Rattle.std.specs.Map.{keys_of}
use Rattle.gate_tx.specs.Coins.{point_eq}
use Rattle.gate_chain.specs.Linked.{opening_in}
use Rattle.gate_chain.specs.Marking.{all_in}
use Rattle.gate_chain.specs.Tops.{place_of}
use Rattle.gate_chain.proofs.TwoTables.{drop_second, drop_opening}
use Rattle.gate_chain.proofs.Restoring.{first_at, so_many_blocks, coins_within, ids_within, rest_of, topped}
use Rattle.gate_chain.proofs.chain.Chain.top.Goals as goal

pub copies_and_room-requires : goal.copies_and_room-requires
copies_and_room-requires g c =
    let s = c.self.inside in
    let first = c.index-blocks-kept.result in
    let opens : drop c.args.kept s.blocks.items ≡ first ∷ drop (c.args.kept + 1) s.blocks.items =
    first_at s.blocks.items c.args.kept first (so_many_blocks _ _ _ _ _ _ c.self.view_is c.requires) (c.index-blocks-kept.is ∙ ap (λ l. get_or l c.args.kept first) c.as_slice-blocks.ensures.value) in
    let within = coins_within _ _ _ _ _ _ _ _ _ c.self.invariant c.args.kept first _ opens in
    let opened = c.self.invariant.opened_is in
    let both = length-append s.coins.opening.entries s.coins.made.entries in
    omega arith

pub copy_ids-requires : goal.copy_ids-requires
copy_ids-requires g c =
    let s = c.self.inside in
    let first = c.index-blocks-kept.result in
    let opens : drop c.args.kept s.blocks.items ≡ first ∷ drop (c.args.kept + 1) s.blocks.items =
    first_at s.blocks.items c.args.kept first (so_many_blocks _ _ _ _ _ _ c.self.view_is c.requires) (c.index-blocks-kept.is ∙ ap (λ l. get_or l c.args.kept first) c.as_slice-blocks.ensures.value) in
    ids_within _ _ _ _ _ _ _ _ _ c.self.invariant c.args.kept first _ opens

pub invariant_of-result : goal.invariant_of-result
invariant_of-result g c =
    let s = c.self.inside in
    let first = c.index-blocks-kept.result in
    let opens : drop c.args.kept s.blocks.items ≡ first ∷ drop (c.args.kept + 1) s.blocks.items =
    first_at s.blocks.items c.args.kept first (so_many_blocks _ _ _ _ _ _ c.self.view_is c.requires) (c.index-blocks-kept.is ∙ ap (λ l. get_or l c.args.kept first) c.as_slice-blocks.ensures.value) in
    let behind : (n : ℕ) → drop (n + length (opening_in (length s.coins.opening.entries) (all_in s.coins))) (all_in s.coins) ≡ drop n s.coins.made.entries =
    λ n. ap (λ k. drop (n + k) (all_in s.coins)) (sym c.self.invariant.opened_is) ∙ drop_second s.coins.opening.entries s.coins.made.entries n in
    let none_before : drop (length (opening_in (length s.coins.opening.entries) (all_in s.coins))) (all_in s.coins) ≡ s.coins.made.entries =
    ap (λ k. drop k (all_in s.coins)) (sym c.self.invariant.opened_is) ∙ drop_opening s.coins.opening.entries s.coins.made.entries in (
      topped _ _ _ _ _ _ _ _ _ c.self.invariant c.args.kept first _ opens _ _ _ _ _ _ _ _
          (subst (λ l. IsDistinct point_eq (keys_of l)) (sym none_before) c.len-count.ensures.unique) c.len-2.ensures.unique
          (let n = c.len-count.ensures.len in let r = c.in_ok-coins.ensures.room in let b = length-append s.coins.opening.entries s.coins.made.entries in let o = c.self.invariant.opened_is in omega arith) (omega (arith, c.len-2.ensures.len, c.in_ok-id_room.ensures.spare))
          (search rules) (search rules)
          (c.self.view_is ∙ sym c.of.ensures) (c.in_ok-places.ensures ∙ ap (map place_of) (rest_of c.as_slice-blocks.result.now c.args.kept) ∙ ap (λ l. map place_of (drop c.args.kept l)) c.as_slice-blocks.ensures.value)
          (c.in_ok-coins.ensures.copies ∙ sym (behind first.coins)) c.in_ok-ids.ensures,
      search rules,
      search rules,
      search rules,
      search rules,
    )
