use Rattle.std.proofs.Common.{rules, ◌≡◌, ◌+◌, ◌-◌, ◌<◌, ◌≤◌, ◌^◌, ◌++◌, ◌∙◌, nat_lt, Bool, false, Some, None, if◌then◌else◌, refl, ap, subst, map, drop, take, length, vec_len, arith}
use Rattle.std.proofs.lemmas.Bool.Decides.{nat_tests}
use Rattle.std.proofs.lemmas.List.{length-map}
use Rattle.std.proofs.lemmas.Result.{err_from_is_err_and}
use Rattle.std.specs.List.{list_any}
use Rattle.gate_tx.specs.declared.OutPoint.{OutPoint}
use Rattle.gate_tx.specs.Coins.{point_eq}
use Rattle.gate_chain.specs.declared.connected.Connected.{Connected}
use Rattle.gate_rules.specs.declared.ChainDenial.TheVariants.{NoUndo}
use Rattle.gate_chain.specs.Coins.{coin_of, is_known_txid}
use Rattle.gate_chain.specs.Forgetting.{dropped_coins, forgotten, is_spent_in_any}
use Rattle.gate_chain.specs.Founding.{AreConnected}
use Rattle.gate_chain.specs.History.{History}
use Rattle.gate_chain.specs.Linked.{history, opening_in}
use Rattle.gate_chain.specs.Parting.{place_below}
use Rattle.gate_chain.specs.Times.{times_of}
use Rattle.gate_chain.proofs.Forgot.{counted_same, known_less, times_stay}
use Rattle.gate_chain.proofs.Parted.{coins_within, distinct_below, fine, ids_within, lost_count, parted}
use Rattle.gate_chain.proofs.Restoring.{rest_of}
use Rattle.gate_chain.proofs.chain.Chain.forget.Goals as goal

pub part-requires-clause-coins : goal.part-requires-clause-coins
part-requires-clause-coins g c =
    let s = c.self.inside in
    let l = c.self.invariant in
    let o = s.coins.opening.entries in
    let m = s.coins.made.entries in
    let n = c.args.blocks in
    let below = c.place_below-below.result in
    let count : vec_len s.blocks ≡ length s.blocks.items = search rules in
    let le : n ≤ length s.blocks.items = grind (arith, nat_tests) in
    let rest : take (length c.as_slice.result.now - n) (drop n c.as_slice.result.now) ≡ drop n s.blocks.items = rest_of c.as_slice.result.now n ∙ ap (drop n) c.as_slice.ensures.value in
    let below_is : below ≡ place_below (drop n s.blocks.items) (record { coins = length m; ids = length s.txids.keys }) =
    c.place_below-below.ensures ∙ (λ j. place_below (rest j) (record { coins = c.len-2.ensures.len j; ids = c.len-3.ensures.len j })) in
    coins_within _ _ _ _ _ _ o m _ l n le below below_is

pub part-requires-clause-small : goal.part-requires-clause-small
part-requires-clause-small g c =
    let s = c.self.inside in
    let l = c.self.invariant in
    let o = s.coins.opening.entries in
    let m = s.coins.made.entries in
    let n = c.args.blocks in
    let below = c.place_below-below.result in
    let count : vec_len s.blocks ≡ length s.blocks.items = search rules in
    let le : n ≤ length s.blocks.items = grind (arith, nat_tests) in
    let rest : take (length c.as_slice.result.now - n) (drop n c.as_slice.result.now) ≡ drop n s.blocks.items = rest_of c.as_slice.result.now n ∙ ap (drop n) c.as_slice.ensures.value in
    let below_is : below ≡ place_below (drop n s.blocks.items) (record { coins = length m; ids = length s.txids.keys }) =
    c.place_below-below.ensures ∙ (λ j. place_below (rest j) (record { coins = c.len-2.ensures.len j; ids = c.len-3.ensures.len j })) in
    let within : below.coins ≤ length m = coins_within _ _ _ _ _ _ o m _ l n le below below_is in
    let few : c.len-2.result < 2 ^ 63 = c.len-2.ensures.small in
    let is : c.len-2.result ≡ length m = c.len-2.ensures.len in
    omega (arith, within, few, is)

pub part-requires-clause-ids : goal.part-requires-clause-ids
part-requires-clause-ids g c =
    let s = c.self.inside in
    let l = c.self.invariant in
    let o = s.coins.opening.entries in
    let m = s.coins.made.entries in
    let n = c.args.blocks in
    let below = c.place_below-below.result in
    let count : vec_len s.blocks ≡ length s.blocks.items = search rules in
    let le : n ≤ length s.blocks.items = grind (arith, nat_tests) in
    let rest : take (length c.as_slice.result.now - n) (drop n c.as_slice.result.now) ≡ drop n s.blocks.items = rest_of c.as_slice.result.now n ∙ ap (drop n) c.as_slice.ensures.value in
    let below_is : below ≡ place_below (drop n s.blocks.items) (record { coins = length m; ids = length s.txids.keys }) =
    c.place_below-below.ensures ∙ (λ j. place_below (rest j) (record { coins = c.len-2.ensures.len j; ids = c.len-3.ensures.len j })) in
    ids_within _ _ _ _ _ _ o m _ l n le below below_is

pub settle-requires-clause-within : goal.settle-requires-clause-within
settle-requires-clause-within g c =
    let s = c.self.inside in
    let l = c.self.invariant in
    let o = s.coins.opening.entries in
    let m = s.coins.made.entries in
    let n = c.args.blocks in
    let below = c.place_below-below.result in
    let count : vec_len s.blocks ≡ length s.blocks.items = search rules in
    let le : n ≤ length s.blocks.items = grind (arith, nat_tests) in
    let rest : take (length c.as_slice.result.now - n) (drop n c.as_slice.result.now) ≡ drop n s.blocks.items = rest_of c.as_slice.result.now n ∙ ap (drop n) c.as_slice.ensures.value in
    let below_is : below ≡ place_below (drop n s.blocks.items) (record { coins = length m; ids = length s.txids.keys }) =
    c.place_below-below.ensures ∙ (λ j. place_below (rest j) (record { coins = c.len-2.ensures.len j; ids = c.len-3.ensures.len j })) in
    coins_within _ _ _ _ _ _ o m _ l n le below below_is

pub returns-in_err-settle-clause-ok : goal.returns-in_err-settle-clause-ok
returns-in_err-settle-clause-ok g c =
    let p = err_from_is_err_and c.from_residual-in_err-settle.result c.from_residual-in_err-settle.ensures.1 in
    rw p.1 tt

pub returns-in_err-settle-clause-err : goal.returns-in_err-settle-clause-err
returns-in_err-settle-clause-err g c =
    let s = c.self.inside in
    let e = c.in_err-settle.ensures in
    let p = err_from_is_err_and c.from_residual-in_err-settle.result c.from_residual-in_err-settle.ensures.1 in
    rw p.1 ((λ j. history s.first (opening_in (length (e.same_opening j)) (e.same_opening j ++ e.same_made j)) (take s.opening_times s.times.items) s.blocks.items) ∙ c.self.view_is)

pub returns-in_err-settle-clause-denied : goal.returns-in_err-settle-clause-denied
returns-in_err-settle-clause-denied g c =
    let p = err_from_is_err_and c.from_residual-in_err-settle.result c.from_residual-in_err-settle.ensures.1 in
    rw (p.1, p.2) tt

pub invariant_of-self-2 : goal.invariant_of-self-2
invariant_of-self-2 g c =
    let s = c.self.inside in
    let l = c.self.invariant in
    let o = s.coins.opening.entries in
    let m = s.coins.made.entries in
    let n = c.args.blocks in
    let below = c.place_below-below.result in
    let count : vec_len s.blocks ≡ length s.blocks.items = search rules in
    let le : n ≤ length s.blocks.items = grind (arith, nat_tests) in
    let rest : take (length c.as_slice.result.now - n) (drop n c.as_slice.result.now) ≡ drop n s.blocks.items = rest_of c.as_slice.result.now n ∙ ap (drop n) c.as_slice.ensures.value in
    let below_is : below ≡ place_below (drop n s.blocks.items) (record { coins = length m; ids = length s.txids.keys }) =
    c.place_below-below.ensures ∙ (λ j. place_below (rest j) (record { coins = c.len-2.ensures.len j; ids = c.len-3.ensures.len j })) in
    let wanted : OutPoint → Bool = g.T.CoinTest.wanted c.args.test.now in
    let later : OutPoint → Bool = λ p. list_any (point_eq p) c.in_ok-later.field-0.later.keys in
    let later_is : (p : OutPoint) → later p ≡ is_spent_in_any p (map (λ (x : Connected). x.block) (drop n s.blocks.items)) =
    λ p. c.in_ok-later.ensures.later p ∙ ap (λ bs. is_spent_in_any p (map (λ (x : Connected). x.block) bs)) rest in
    let distinct = c.in_ok-later.ensures.distinct in
    let distinct_made = c.len-2.ensures.unique in
    (parted _ _ _ _ _ _ o m _ l n le below below_is wanted later later_is distinct distinct_made c.settle.new.coins.opening.entries c.settle.new.coins.made.entries
    (c.in_ok-settle.ensures.opening (distinct_below _ _ _ _ _ _ o m _ l n le below below_is distinct distinct_made)) c.in_ok-settle.ensures.made
    c.in_ok-later.field-0.opening_txids.keys c.in_ok-later.field-0.txids.keys c.take_out.new.blocks.items (s.opening_times + n) c.in_ok-later.ensures.tally.0 c.in_ok-later.field-0.lost
    c.in_ok-later.ensures.txids c.in_ok-later.ensures.tally.1 c.take_out.ensures refl).0

pub returns-clause-ok : goal.returns-clause-ok
returns-clause-ok g c =
    let s = c.self.inside in
    let l = c.self.invariant in
    let o = s.coins.opening.entries in
    let m = s.coins.made.entries in
    let n = c.args.blocks in
    let below = c.place_below-below.result in
    let count : vec_len s.blocks ≡ length s.blocks.items = search rules in
    let le : n ≤ length s.blocks.items = grind (arith, nat_tests) in
    let rest : take (length c.as_slice.result.now - n) (drop n c.as_slice.result.now) ≡ drop n s.blocks.items = rest_of c.as_slice.result.now n ∙ ap (drop n) c.as_slice.ensures.value in
    let below_is : below ≡ place_below (drop n s.blocks.items) (record { coins = length m; ids = length s.txids.keys }) =
    c.place_below-below.ensures ∙ (λ j. place_below (rest j) (record { coins = c.len-2.ensures.len j; ids = c.len-3.ensures.len j })) in
    let wanted : OutPoint → Bool = g.T.CoinTest.wanted c.args.test.now in
    let later : OutPoint → Bool = λ p. list_any (point_eq p) c.in_ok-later.field-0.later.keys in
    let later_is : (p : OutPoint) → later p ≡ is_spent_in_any p (map (λ (x : Connected). x.block) (drop n s.blocks.items)) =
    λ p. c.in_ok-later.ensures.later p ∙ ap (λ bs. is_spent_in_any p (map (λ (x : Connected). x.block) bs)) rest in
    let distinct = c.in_ok-later.ensures.distinct in
    let distinct_made = c.len-2.ensures.unique in
    (parted _ _ _ _ _ _ o m _ l n le below below_is wanted later later_is distinct distinct_made c.settle.new.coins.opening.entries c.settle.new.coins.made.entries
    (c.in_ok-settle.ensures.opening (distinct_below _ _ _ _ _ _ o m _ l n le below below_is distinct distinct_made)) c.in_ok-settle.ensures.made
    c.in_ok-later.field-0.opening_txids.keys c.in_ok-later.field-0.txids.keys c.take_out.new.blocks.items (s.opening_times + n) c.in_ok-later.ensures.tally.0 c.in_ok-later.field-0.lost
    c.in_ok-later.ensures.txids c.in_ok-later.ensures.tally.1 c.take_out.ensures refl).1
    ∙ ap (λ (h : History). forgotten h n wanted) c.self.view_is

pub returns-clause-passes : goal.returns-clause-passes
returns-clause-passes g c =
    let s = c.self.inside in
    let count : vec_len s.blocks ≡ length s.blocks.items = search rules in
    let a = ap (λ (h : History). length h.blocks) c.self.view_is in
    let b = length-map s.blocks.items (λ (x : Connected). x.block) in
    let few : nat_lt (length c.args.self.now.blocks) c.args.blocks ≡ false = grind (arith, nat_tests) in
    ap (λ t. if t then Some NoUndo else None) few

pub returns-clause-count : goal.returns-clause-count
returns-clause-count g c =
    let s = c.self.inside in
    let l = c.self.invariant in
    let o = s.coins.opening.entries in
    let m = s.coins.made.entries in
    let n = c.args.blocks in
    let below = c.place_below-below.result in
    let count : vec_len s.blocks ≡ length s.blocks.items = search rules in
    let le : n ≤ length s.blocks.items = grind (arith, nat_tests) in
    let rest : take (length c.as_slice.result.now - n) (drop n c.as_slice.result.now) ≡ drop n s.blocks.items = rest_of c.as_slice.result.now n ∙ ap (drop n) c.as_slice.ensures.value in
    let below_is : below ≡ place_below (drop n s.blocks.items) (record { coins = length m; ids = length s.txids.keys }) =
    c.place_below-below.ensures ∙ (λ j. place_below (rest j) (record { coins = c.len-2.ensures.len j; ids = c.len-3.ensures.len j })) in
    let wanted : OutPoint → Bool = g.T.CoinTest.wanted c.args.test.now in
    let later : OutPoint → Bool = λ p. list_any (point_eq p) c.in_ok-later.field-0.later.keys in
    let later_is : (p : OutPoint) → later p ≡ is_spent_in_any p (map (λ (x : Connected). x.block) (drop n s.blocks.items)) =
    λ p. c.in_ok-later.ensures.later p ∙ ap (λ bs. is_spent_in_any p (map (λ (x : Connected). x.block) bs)) rest in
    let distinct = c.in_ok-later.ensures.distinct in
    let distinct_made = c.len-2.ensures.unique in
    c.in_ok-later.ensures.tally.1.lost_is ∙ lost_count _ _ _ _ _ _ o m _ l n le below below_is wanted later later_is distinct distinct_made
    ∙ ap (λ (h : History). length (dropped_coins h n wanted)) c.self.view_is

pub returns-clause-times : goal.returns-clause-times
returns-clause-times g c = ap times_of (returns-clause-ok g c) ∙ times_stay c.args.self.now c.args.blocks (g.T.CoinTest.wanted c.args.test.now)

pub returns-clause-coins : goal.returns-clause-coins
returns-clause-coins g c = λ p counted.
    let connected : AreConnected c.args.self.now = subst AreConnected c.self.view_is (fine _ _ _ _ _ _ c.self.inside.coins.opening.entries c.self.inside.coins.made.entries _ c.self.invariant) in
    ap (λ (h : History). coin_of h p) (returns-clause-ok g c) ∙ counted_same c.args.self.now c.args.blocks (g.T.CoinTest.wanted c.args.test.now) connected p counted

pub returns-clause-known : goal.returns-clause-known
returns-clause-known g c = λ id unknown.
    let connected : AreConnected c.args.self.now = subst AreConnected c.self.view_is (fine _ _ _ _ _ _ c.self.inside.coins.opening.entries c.self.inside.coins.made.entries _ c.self.invariant) in
    ap (λ (h : History). is_known_txid h id) (returns-clause-ok g c) ∙ known_less c.args.self.now c.args.blocks (g.T.CoinTest.wanted c.args.test.now) connected id unknown
