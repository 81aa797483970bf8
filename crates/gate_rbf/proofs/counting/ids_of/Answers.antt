use Rattle.std.proofs.Common.{◌≤◌, ◌+◌, ℕ, [], sym, subst, List, take, length, arith}
use Rattle.std.proofs.lemmas.List.{take_all}
use Rattle.gate_bytes.proofs.Members.{not_in_none}
use Rattle.gate_pool.specs.Family.{AreIdsOf}
use Rattle.gate_rbf.specs.Gathering.{IsPut}
use Rattle.gate_rbf.proofs.Rivals.{AreIdsOf-next, ids_no_more}
use Rattle.gate_rbf.proofs.counting.ids_of.Goals as goal

-- no ids are those of no entries
none : AreIdsOf [] []
none = record { once = λ i j d l m. absurd (omega (arith, l, m)); all = λ e m. not_in_none e m; only = λ id m. not_in_none id m }

pub loop-rival-init : goal.loop-rival-init
loop-rival-init c = subst (λ (l : List (List ℕ)). AreIdsOf l []) (sym c.new-ids.ensures.items) none

pub loop-rival-preserved : goal.loop-rival-preserved
loop-rival-preserved c =
    AreIdsOf-next c.args.found.now c.loop-rival.rival-index c.rival-item.result c.loop-rival-test.true (sym c.rival-item.is)
    (subst (λ (t : List ℕ). IsPut c.loop-rival.ids.items t c.put.new.ids.items) c.txid.ensures c.in_ok-put.ensures.ok) c.loop-rival.invariant

pub returns-then-len-most-clause-many : goal.returns-then-len-most-clause-many
returns-then-len-most-clause-many c = λ _ some these.
    let found = c.args.found.now in
    let k = c.loop-rival.rival-index in
    let ids = c.put.new.ids.items in
    let are : AreIdsOf ids (take (k + 1) found) =
    AreIdsOf-next found k c.rival-item.result c.loop-rival-test.true (sym c.rival-item.is)
    (subst (λ (t : List ℕ). IsPut c.loop-rival.ids.items t ids) c.txid.ensures c.in_ok-put.ensures.ok) c.loop-rival.invariant in
    let fewer : length ids ≤ length some = ids_no_more found (k + 1) ids some these are in
    omega (arith, fewer, c.if-len-most.true, c.len.ensures, c.put.new.ids.ok)

pub returns-clause-found : goal.returns-clause-found
returns-clause-found c =
    subst (AreIdsOf c.loop-rival.ids.items) (take_all c.loop-rival.rival-index c.args.found.now (omega (arith, c.loop-rival-test.false))) c.loop-rival.invariant
