use Rattle.std.proofs.Common.{Bool, ◌≡◌, ◌+◌, [], take, length, subst, arith}
use Rattle.std.proofs.lemmas.List.{take_all}
use Rattle.std.specs.List.{list_any}
use Rattle.gate_tx.specs.Coins.{point_eq}
use Rattle.gate_tx.specs.declared.OutPoint.{OutPoint}
use Rattle.gate_chain.specs.Parting.{IsTally, kept_of}
use Rattle.gate_chain.proofs.Noted.{room_is, tally_starts}
use Rattle.gate_chain.proofs.forgetting.part.Goals as goal

pub overflow_sub-result : goal.overflow_sub-result
overflow_sub-result g c =
    let later : OutPoint → Bool = λ p. list_any (point_eq p) c.in_ok-later.later.keys in
    let wanted : OutPoint → Bool = g.T.CoinTest.wanted c.args.test.now in
    let o = c.args.coins.now.opening.entries in
    let made = take c.args.below.coins c.args.coins.now.made.entries in
    let all : take c.len.result o ≡ o = take_all c.len.result o (omega (arith, c.len.ensures.len)) in
    let one = subst (λ l. IsTally later wanted l c.tally_coins.new.tally.ids.keys c.tally_coins.new.tally.kept c.tally_coins.new.tally.lost) all
    (c.in_ok-tally_coins.ensures.tally [] (tally_starts later wanted _ c.with_hasher.ensures.empty)) in
    let both = c.in_ok-tally_coins-2.ensures.tally o one in
    let n : c.tally_coins-2.new.tally.kept ≡ c.tally_coins.new.tally.kept + length (kept_of later wanted made) = room_is later wanted o made _ _ _ _ _ _ one both in
    omega (arith, n)

pub returns-clause-room : goal.returns-clause-room
returns-clause-room g c =
    let later : OutPoint → Bool = λ p. list_any (point_eq p) c.in_ok-later.later.keys in
    let wanted : OutPoint → Bool = g.T.CoinTest.wanted c.args.test.now in
    let o = c.args.coins.now.opening.entries in
    let made = take c.args.below.coins c.args.coins.now.made.entries in
    let all : take c.len.result o ≡ o = take_all c.len.result o (omega (arith, c.len.ensures.len)) in
    let one = subst (λ l. IsTally later wanted l c.tally_coins.new.tally.ids.keys c.tally_coins.new.tally.kept c.tally_coins.new.tally.lost) all
    (c.in_ok-tally_coins.ensures.tally [] (tally_starts later wanted _ c.with_hasher.ensures.empty)) in
    let both = c.in_ok-tally_coins-2.ensures.tally o one in
    let n : c.tally_coins-2.new.tally.kept ≡ c.tally_coins.new.tally.kept + length (kept_of later wanted made) = room_is later wanted o made _ _ _ _ _ _ one both in
    omega (arith, n)

pub returns-clause-tally : goal.returns-clause-tally
returns-clause-tally g c =
    let later : OutPoint → Bool = λ p. list_any (point_eq p) c.in_ok-later.later.keys in
    let wanted : OutPoint → Bool = g.T.CoinTest.wanted c.args.test.now in
    let o = c.args.coins.now.opening.entries in
    let all : take c.len.result o ≡ o = take_all c.len.result o (omega (arith, c.len.ensures.len)) in
    let one = subst (λ l. IsTally later wanted l c.tally_coins.new.tally.ids.keys c.tally_coins.new.tally.kept c.tally_coins.new.tally.lost) all
    (c.in_ok-tally_coins.ensures.tally [] (tally_starts later wanted _ c.with_hasher.ensures.empty)) in
    (c.tally_coins-2.new.tally.kept, c.in_ok-tally_coins-2.ensures.tally o one)
