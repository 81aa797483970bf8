use Rattle.std.proofs.Common.{◌≡◌, ◌+◌, ℕ, Bool, ◌++◌, ◌∷◌, [], ap, ◌∙◌, not, arith, length, length-append}
use Rattle.std.specs.Prelude.{sum_by}
use Rattle.std.proofs.lemmas.List.Sums.{sum_by-append}
use Rattle.gate_tx.specs.Ids.{txid_of, wtxid_of}
use Rattle.gate_pool.specs.Pool.{Admitted, Pooled, Room, all_of, entry_by_txid, entry_by_wtxid, has_txid, has_wtxid}
use Rattle.gate_pool.specs.Family.{spends_one_of, without_below, is_below_some}
use Rattle.gate_pool.specs.Counting.{is_counted, is_sibling, entered_beside}
use Rattle.gate_pool.proofs.Conflicts.{IsNew-left}
use Rattle.gate_pool.proofs.Removals.{without_below-either}
use Rattle.gate_pool.proofs.Walking.{none-filter, shorter}
use Rattle.gate_pool.proofs.Earliest.{HaveArrived-more}
use Rattle.gate_pool.proofs.Readiness.{HaveArrived-filter}
use Rattle.gate_pool.proofs.pool.Pool.replace_beside.Goals as goal

pub push-requires : goal.push-requires
push-requires g c = omega (arith, c.self.invariant.arrivals_room, c.requires.room, ap (λ (p : Pooled). p.room.entries) c.self.view_is)

pub put-requires-clause-room : goal.put-requires-clause-room
put-requires-clause-room g c =
    omega (arith, c.requires.room, ap (λ (p : Pooled). p.room.entries) c.self.view_is, ap (λ (r : Room). r.entries) c.take_sibling.ensures.room, ap (λ (r : Room). r.entries) c.take_conflicts.ensures.room)

pub put-requires-clause-inputs : goal.put-requires-clause-inputs
put-requires-clause-inputs g c =
    omega (arith, c.requires.inputs, ap (λ (p : Pooled). p.room.inputs) c.self.view_is, ap (λ (r : Room). r.inputs) c.take_sibling.ensures.room, ap (λ (r : Room). r.inputs) c.take_conflicts.ensures.room)

pub put-requires-clause-new : goal.put-requires-clause-new
put-requires-clause-new g c =
    let e = c.args.entry in
    let old = c.self.inside.store.entries in
    let gone : Admitted → Bool = λ d. not (is_below_some (is_sibling c.args.sibling) old d) in
    IsNew-left e c.take_sibling.new.self.entries c.take_conflicts.new.self.entries
    (ap (λ l. entry_by_txid l (txid_of e.tx)) c.take_sibling.ensures.rest
    ∙ none-filter (λ (d : Admitted). has_txid d (txid_of e.tx)) gone old (ap (λ (p : Pooled). entry_by_txid p.entries (txid_of e.tx)) c.self.view_is ∙ c.requires.txid))
    (ap (λ l. entry_by_wtxid l (wtxid_of e.tx)) c.take_sibling.ensures.rest
    ∙ none-filter (λ (d : Admitted). has_wtxid d (wtxid_of e.tx)) gone old (ap (λ (p : Pooled). entry_by_wtxid p.entries (wtxid_of e.tx)) c.self.view_is ∙ c.requires.wtxid))
    (rw (c.inputs.ensures, c.transaction.ensures) at c.take_conflicts.ensures.rest)
    (rw (c.inputs.ensures, c.transaction.ensures) at c.take_conflicts.ensures.gone)

pub invariant_of-self : goal.invariant_of-self
invariant_of-self g c =
    let e = c.args.entry in
    let old = c.self.inside.store.entries in
    let test : Admitted → Bool = is_counted c.args.sibling e.tx in
    let last : c.take_conflicts.new.self.entries ≡ without_below (spends_one_of e.tx.inputs) c.take_sibling.new.self.entries = rw (c.inputs.ensures, c.transaction.ensures) at c.take_conflicts.ensures.rest in
    let rest : c.take_conflicts.new.self.entries ≡ without_below test old =
    last ∙ ap (without_below (spends_one_of e.tx.inputs)) c.take_sibling.ensures.rest ∙ without_below-either (is_sibling c.args.sibling) (spends_one_of e.tx.inputs) old in
    let left : c.put.new.self.entries ≡ c.take_conflicts.new.self.entries ++ e ∷ [] = c.put.ensures.entries in
    let room : c.put.new.self.room.entries + 1 ≡ c.self.inside.store.room.entries =
    omega (arith, c.put.ensures.room, ap (λ (r : Room). r.entries) c.take_sibling.ensures.room, ap (λ (r : Room). r.entries) c.take_conflicts.ensures.room) in
    record {
      chosen_room = omega (arith, c.self.invariant.chosen_room, room, shorter (λ (d : Admitted). not (is_below_some test old d)) old, ap length rest, ap length left, length-append c.take_conflicts.new.self.entries (e ∷ []));
      arrived = HaveArrived-more e (HaveArrived-filter (λ (d : Admitted). not (is_below_some test old d)) c.self.invariant.arrived rest) left c.push.ensures.pushed;
      arrivals_room = omega (arith, c.self.invariant.arrivals_room, room, c.push.ensures.room);
      score = c.least-self-inside.ensures.value;
      bounded = c.least-self-inside.ensures.bounded;
    }

pub returns-clause-room : goal.returns-clause-room
returns-clause-room g c =
    omega (arith, c.put.ensures.room, ap (λ (r : Room). r.entries) c.take_sibling.ensures.room, ap (λ (r : Room). r.entries) c.take_conflicts.ensures.room, ap (λ (p : Pooled). p.room.entries) c.self.view_is)

pub returns-clause-room_inputs : goal.returns-clause-room_inputs
returns-clause-room_inputs g c =
    omega (arith, c.put.ensures.room_inputs, ap (λ (r : Room). r.inputs) c.take_sibling.ensures.room, ap (λ (r : Room). r.inputs) c.take_conflicts.ensures.room, ap (λ (p : Pooled). p.room.inputs) c.self.view_is)

pub returns-clause-left : goal.returns-clause-left
returns-clause-left g c =
    let all = c.take_conflicts.ensures.all ∙ c.take_sibling.ensures.all ∙ ap all_of c.self.view_is in
    omega (arith, ap (λ (r : Room). r.entries) all, ap (λ (r : Room). r.entries) c.put.ensures.left, ap length c.put.ensures.entries, length-append c.take_conflicts.new.self.entries (c.args.entry ∷ []))

pub returns-clause-left_inputs : goal.returns-clause-left_inputs
returns-clause-left_inputs g c =
    let all = c.take_conflicts.ensures.all ∙ c.take_sibling.ensures.all ∙ ap all_of c.self.view_is in
    let u : Admitted → ℕ = λ e. length e.tx.inputs in
    omega (
      arith,
      ap (λ (r : Room). r.inputs) all,
      ap (λ (r : Room). r.inputs) c.put.ensures.left,
      ap (sum_by u) c.put.ensures.entries,
      sum_by-append u c.take_conflicts.new.self.entries (c.args.entry ∷ []),
    )

pub returns-clause-entries : goal.returns-clause-entries
returns-clause-entries g c =
    let e = c.args.entry in
    let s = c.args.sibling in
    let old = c.self.inside.store.entries in
    c.put.ensures.entries
    ∙ ap (λ l. l ++ e ∷ [])
    ((rw (c.inputs.ensures, c.transaction.ensures) at c.take_conflicts.ensures.rest) ∙ ap (without_below (spends_one_of e.tx.inputs)) c.take_sibling.ensures.rest ∙ without_below-either (is_sibling s) (spends_one_of e.tx.inputs) old)
    ∙ ap (λ (p : Pooled). entered_beside p.entries s e) c.self.view_is
