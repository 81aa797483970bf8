use Rattle.std.proofs.Common.{rules, ◌≡◌, true, false, not, sym, ap, ◌∙◌, ◌||◌}
use Rattle.std.specs.List.{list_any}
use Rattle.gate_tx.specs.declared.TxIn.{TxIn}
use Rattle.gate_locks.specs.Locks.{is_disabled, has_relative_locks, sequence_locks_met_by}
use Rattle.gate_locks.proofs.Each.{all_met, none_enabled, or_true}
use Rattle.gate_locks.proofs.relative.has_relative_lock.Goals as goal

pub returns-then-cast_unsigned-ge-FIRST_LOCKED : goal.returns-then-cast_unsigned-ge-FIRST_LOCKED
unfolding sequence_locks_met_by
returns-then-cast_unsigned-ge-FIRST_LOCKED c = λ none heights chain.
    let enabled = ap (list_any (λ (i : TxIn). not (is_disabled i.sequence))) (sym c.inputs.ensures) ∙ sym c.has_enabled.ensures ∙ none in
    sym (or_true (not (has_relative_locks c.args.tx.now.version)) (all_met chain c.args.tx.now.inputs heights) (none_enabled chain c.args.tx.now.inputs heights enabled))

pub returns-else-cast_unsigned-ge-FIRST_LOCKED : goal.returns-else-cast_unsigned-ge-FIRST_LOCKED
unfolding sequence_locks_met_by
returns-else-cast_unsigned-ge-FIRST_LOCKED c = λ none heights chain.
    let early : has_relative_locks c.args.tx.now.version ≡ false = search rules in
    ap (λ b. not b || all_met chain c.args.tx.now.inputs heights) early
