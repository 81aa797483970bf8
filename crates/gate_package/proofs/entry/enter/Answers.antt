use Rattle.std.proofs.Common.{◌≡◌, ◌+◌, ◌≤◌, List, length, ap, subst, ◌∙◌}
use Rattle.gate_tx.specs.declared.TxIn.{TxIn}
use Rattle.gate_tx.specs.Tx.{Tx}
use Rattle.gate_pool.specs.Counting.{entered_beside, is_counted}
use Rattle.gate_pool.specs.Family.{is_below_some}
use Rattle.gate_pool.specs.Pool.{Admitted, inputs_of}
use Rattle.gate_package.proofs.Rewinding.{enters_rewindable, stays_rewindable}
use Rattle.gate_package.proofs.entry.enter.Goals as goal

pub returns-in_err-reserve_to_rewind-clause-rewindable : goal.returns-in_err-reserve_to_rewind-clause-rewindable
returns-in_err-reserve_to_rewind-clause-rewindable g c = λ was.
    stays_rewindable c.args.pool.now c.reserve_to_rewind.new.self c.reserve_to_rewind.ensures.left c.reserve_to_rewind.ensures.kept was

pub returns-clause-rewindable : goal.returns-clause-rewindable
returns-clause-rewindable g c = λ was.
    let old = c.args.pool.now in
    let e = c.args.entry in
    let reserved = c.reserve_to_rewind.new.self in
    let after = c.replace_beside.new.self in
    let inputs : c.inputs.result.now ≡ e.tx.inputs = c.inputs.ensures ∙ ap (λ (t : Tx). t.inputs) c.transaction.ensures in
    let room = subst (λ (l : List TxIn). old.left.inputs + inputs_of old.entries c.args.replaced.now + length l ≤ reserved.room.inputs) inputs c.in_ok-reserve_to_rewind.ensures.inputs in
    enters_rewindable old reserved after (is_below_some (is_counted c.args.sibling e.tx) old.entries) c.args.replaced.now c.recall_distinct.ensures c.requires.replaced e
    (record { same = c.reserve_to_rewind.ensures.entries; left = c.reserve_to_rewind.ensures.left; room = c.in_ok-reserve_to_rewind.ensures.room; room_inputs = room })
    (c.replace_beside.ensures.entries ∙ ap (λ (l : List Admitted). entered_beside l c.args.sibling e) c.reserve_to_rewind.ensures.entries)
    c.replace_beside.ensures.room c.replace_beside.ensures.room_inputs c.replace_beside.ensures.left c.replace_beside.ensures.left_inputs
