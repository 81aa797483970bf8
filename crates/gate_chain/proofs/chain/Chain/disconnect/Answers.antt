use Rattle.std.proofs.Common.{rules, ◌≡◌, sym, ap, ◌∙◌, length, take, ◌-◌, vec_len}
use Rattle.gate_chain.proofs.TwoTables.{count_same}
use Rattle.gate_chain.proofs.Chains.{disconnected, none_left, one_left, blocks_none, blocks_one, no_items}
use Rattle.gate_chain.proofs.chain.Chain.disconnect.Goals as goal

pub invariant_of-self-in-Some : goal.invariant_of-self-in-Some
invariant_of-self-in-Some g c =
    let s = c.self.inside in
    let n : vec_len s.times ≡ length s.times.items = search rules in
    (disconnected _ _ _ _ _ _ _ _ _ c.self.invariant c.in-Some.last _ _ _ _ _ (count_same s.coins.opening.entries c.disconnect.new.coins.opening.entries c.disconnect.ensures.opening) c.in-Some.ensures.items (c.pop-in-Some.ensures.rest ∙ ap (λ k. take (k - 1) s.times.items) n) c.disconnect.ensures.maps).0

pub returns-in-Some-clause-ok : goal.returns-in-Some-clause-ok
returns-in-Some-clause-ok g c =
    let s = c.self.inside in
    let n : vec_len s.times ≡ length s.times.items = search rules in
    let gone = disconnected _ _ _ _ _ _ _ _ _ c.self.invariant c.in-Some.last _ _ _ _ _ (count_same s.coins.opening.entries c.disconnect.new.coins.opening.entries c.disconnect.ensures.opening) c.in-Some.ensures.items (c.pop-in-Some.ensures.rest ∙ ap (λ k. take (k - 1) s.times.items) n) c.disconnect.ensures.maps in
    rw c.disconnect.ensures.block (sym c.self.view_is ∙ gone.1)

pub returns-in-None-clause-denied : goal.returns-in-None-clause-denied
returns-in-None-clause-denied g c =
    let s = c.self.inside in
    let n : vec_len s.blocks ≡ length s.blocks.items = search rules in
    none_left c.args.self.now (blocks_none _ _ _ _ _ c.self.view_is (no_items s.blocks.items (sym n ∙ c.in-None.ensures.cases.0)))

pub returns-in-Some-clause-passes : goal.returns-in-Some-clause-passes
returns-in-Some-clause-passes g c = one_left c.args.self.now _ _ (blocks_one _ _ _ _ _ _ _ c.self.view_is c.in-Some.ensures.items)
