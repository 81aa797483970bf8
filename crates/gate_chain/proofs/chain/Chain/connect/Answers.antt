use Rattle.std.proofs.Common.{rules, ◌≡◌, ◌+◌, ◌++◌, ◌∷◌, [], sym, ap, subst, ◌∙◌, length, take, None}
use Rattle.std.proofs.lemmas.Result.{err_from_is_err_and}
use Rattle.gate_chain.specs.Connecting.{head_denial, transactions_denial, grown}
use Rattle.gate_chain.specs.Headers.{header_time}
use Rattle.gate_chain.specs.History.{History}
use Rattle.gate_chain.specs.Linked.{Opens, history, opening_in}
use Rattle.gate_chain.specs.Marking.{all_in}
use Rattle.gate_chain.proofs.TwoTables.{count_same}
use Rattle.gate_chain.proofs.Chains.{opens, connected, refused, denial_of_head, denial_of_rest, told_of_rest}
use Rattle.gate_chain.proofs.chain.Chain.connect.Goals as goal

pub returns-in-Some-clause-denied : goal.returns-in-Some-clause-denied
returns-in-Some-clause-denied g c = denial_of_head c.args.self.now c.args.block c.in-Some.denial (sym c.in-Some.ensures)

pub invariant_of-self-in_err-connected : goal.invariant_of-self-in_err-connected
invariant_of-self-in_err-connected g c =
    let s = c.self.inside in
    let l = c.self.invariant in
    let h : History = history s.first (opening_in (length s.coins.opening.entries) (all_in s.coins)) (take s.opening_times s.times.items) s.blocks.items in
    let height : c.len.result + s.first ≡ length s.times.items + s.first = ap (λ n. n + s.first) (c.len.ensures ∙ (search rules)) in
    let r = c.in_err-connected.ensures.connected h (subst (Opens h s.opening_txids.keys) (sym height) (opens _ _ _ _ _ _ _ _ _ l)) l.opened_is l.maps in
    let stands = refused _ _ _ _ _ _ _ _ _ l _ _ _ _ _ (count_same s.coins.opening.entries c.connect.new.coins.opening.entries c.in_err-connected.ensures.opening) r.0 c.in_ok-reserve_one.ensures.same_times c.in_ok-reserve_one.ensures.same_blocks in
    stands.0

pub returns-in_err-connected-clause-err : goal.returns-in_err-connected-clause-err
returns-in_err-connected-clause-err g c =
    let s = c.self.inside in
    let l = c.self.invariant in
    let h : History = history s.first (opening_in (length s.coins.opening.entries) (all_in s.coins)) (take s.opening_times s.times.items) s.blocks.items in
    let height : c.len.result + s.first ≡ length s.times.items + s.first = ap (λ n. n + s.first) (c.len.ensures ∙ (search rules)) in
    let r = c.in_err-connected.ensures.connected h (subst (Opens h s.opening_txids.keys) (sym height) (opens _ _ _ _ _ _ _ _ _ l)) l.opened_is l.maps in
    let stands = refused _ _ _ _ _ _ _ _ _ l _ _ _ _ _ (count_same s.coins.opening.entries c.connect.new.coins.opening.entries c.in_err-connected.ensures.opening) r.0 c.in_ok-reserve_one.ensures.same_times c.in_ok-reserve_one.ensures.same_blocks in
    let p = err_from_is_err_and c.from_residual-in_err-connected.result c.from_residual-in_err-connected.ensures.1 in
    rw p.1 (stands.1 ∙ c.self.view_is)

pub returns-in_err-connected-clause-denied : goal.returns-in_err-connected-clause-denied
returns-in_err-connected-clause-denied g c =
    let s = c.self.inside in
    let l = c.self.invariant in
    let h : History = history s.first (opening_in (length s.coins.opening.entries) (all_in s.coins)) (take s.opening_times s.times.items) s.blocks.items in
    let height : c.len.result + s.first ≡ length s.times.items + s.first = ap (λ n. n + s.first) (c.len.ensures ∙ (search rules)) in
    let r = c.in_err-connected.ensures.connected h (subst (Opens h s.opening_txids.keys) (sym height) (opens _ _ _ _ _ _ _ _ _ l)) l.opened_is l.maps in
    let p = err_from_is_err_and c.from_residual-in_err-connected.result c.from_residual-in_err-connected.ensures.1 in
    let told = rw c.self.view_is at r.1 in
    rw (p.1, p.2) (told_of_rest c.args.self.now c.args.block c.in_err-connected.field-0.0 (sym c.in_default.ensures) told)

pub invariant_of-self-2 : goal.invariant_of-self-2
invariant_of-self-2 g c =
    let s = c.self.inside in
    let l = c.self.invariant in
    let h : History = history s.first (opening_in (length s.coins.opening.entries) (all_in s.coins)) (take s.opening_times s.times.items) s.blocks.items in
    let height : c.len.result + s.first ≡ length s.times.items + s.first = ap (λ n. n + s.first) (c.len.ensures ∙ (search rules)) in
    let r = c.in_ok-connected.ensures.connected h (subst (Opens h s.opening_txids.keys) (sym height) (opens _ _ _ _ _ _ _ _ _ l)) l.opened_is l.maps in
    let none : head_denial h c.args.block ≡ None = subst (λ x. head_denial x c.args.block ≡ None) (sym c.self.view_is) (sym c.in_default.ensures) in
    let timed = c.push_reserved.ensures.items in
    let linked = c.push_reserved-2.ensures.items in
    let stands = connected _ _ _ _ _ _ _ _ _ l c.args.block c.in_ok-connected.connected _ _ _ _ _ (count_same s.coins.opening.entries c.connect.new.coins.opening.entries c.in_ok-connected.ensures.opening) r none
    (timed ∙ (λ j. c.in_ok-reserve_one.ensures.same_times j ++ (c.time-time.ensures ∙ ap header_time c.header.ensures) j ∷ []))
    (linked ∙ ap (λ x. x ++ c.in_ok-connected.connected ∷ []) c.in_ok-reserve_one.ensures.same_blocks) in
    stands.0

pub returns-clause-ok : goal.returns-clause-ok
returns-clause-ok g c =
    let s = c.self.inside in
    let l = c.self.invariant in
    let h : History = history s.first (opening_in (length s.coins.opening.entries) (all_in s.coins)) (take s.opening_times s.times.items) s.blocks.items in
    let height : c.len.result + s.first ≡ length s.times.items + s.first = ap (λ n. n + s.first) (c.len.ensures ∙ (search rules)) in
    let r = c.in_ok-connected.ensures.connected h (subst (Opens h s.opening_txids.keys) (sym height) (opens _ _ _ _ _ _ _ _ _ l)) l.opened_is l.maps in
    let none : head_denial h c.args.block ≡ None = subst (λ x. head_denial x c.args.block ≡ None) (sym c.self.view_is) (sym c.in_default.ensures) in
    let timed = c.push_reserved.ensures.items in
    let linked = c.push_reserved-2.ensures.items in
    let stands = connected _ _ _ _ _ _ _ _ _ l c.args.block c.in_ok-connected.connected _ _ _ _ _ (count_same s.coins.opening.entries c.connect.new.coins.opening.entries c.in_ok-connected.ensures.opening) r none
    (timed ∙ (λ j. c.in_ok-reserve_one.ensures.same_times j ++ (c.time-time.ensures ∙ ap header_time c.header.ensures) j ∷ []))
    (linked ∙ ap (λ x. x ++ c.in_ok-connected.connected ∷ []) c.in_ok-reserve_one.ensures.same_blocks) in
    stands.1 ∙ ap (λ x. grown x c.args.block) c.self.view_is

pub returns-clause-passes : goal.returns-clause-passes
returns-clause-passes g c =
    let s = c.self.inside in
    let l = c.self.invariant in
    let h : History = history s.first (opening_in (length s.coins.opening.entries) (all_in s.coins)) (take s.opening_times s.times.items) s.blocks.items in
    let height : c.len.result + s.first ≡ length s.times.items + s.first = ap (λ n. n + s.first) (c.len.ensures ∙ (search rules)) in
    let r = c.in_ok-connected.ensures.connected h (subst (Opens h s.opening_txids.keys) (sym height) (opens _ _ _ _ _ _ _ _ _ l)) l.opened_is l.maps in
    denial_of_rest c.args.self.now c.args.block (sym c.in_default.ensures) ∙ subst (λ x. transactions_denial x c.args.block.header [] c.args.block.transactions ≡ None) c.self.view_is r.3
