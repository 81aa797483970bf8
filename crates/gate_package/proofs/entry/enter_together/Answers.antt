use Rattle.std.proofs.Common.{◌++◌, List, sym, ap, subst, ◌∙◌}
use Rattle.gate_pool.specs.Family.{is_below_some}
use Rattle.gate_pool.specs.Pool.{Admitted}
use Rattle.gate_rivals.specs.Rivals.{is_rival, staying_beside}
use Rattle.gate_package.specs.Packages.{AreNewcomers, newcomers}
use Rattle.gate_package.proofs.Entering.{entered_plainly, none_listed}
use Rattle.gate_package.proofs.Parting.{newcomers_beside}
use Rattle.gate_package.proofs.Rewinding.{stays_rewindable, takes_rewindable, untaken_rewindable}
use Rattle.gate_package.proofs.entry.enter_together.Goals as goal

pub enter_all-requires-clause-new : goal.enter_all-requires-clause-new
enter_all-requires-clause-new g c =
    record { absent = c.requires.absent; replace_none = sym c.replaces_some.ensures ∙ c.if-not-replaces_some.true; distinct = c.requires.distinct; apart = c.requires.apart }

pub returns-then-not-replaces_some-clause-replaced : goal.returns-then-not-replaces_some-clause-replaced
returns-then-not-replaces_some-clause-replaced g c =
    let listed = none_listed c.args.pool.now.entries c.args.these.now (sym c.replaces_some.ensures ∙ c.if-not-replaces_some.true) in
    cc

pub returns-then-not-replaces_some-clause-entries : goal.returns-then-not-replaces_some-clause-entries
returns-then-not-replaces_some-clause-entries g c =
    entered_plainly c.args.under.now.second c.args.pool.now.entries c.enter_all.new.pool.entries c.args.these.now c.args.prices.now (sym c.replaces_some.ensures ∙ c.if-not-replaces_some.true)
    c.in_ok-enter_all.ensures.entries

pub returns-in_err-reserve_to_rewind-clause-rewindable : goal.returns-in_err-reserve_to_rewind-clause-rewindable
returns-in_err-reserve_to_rewind-clause-rewindable g c = λ was.
    stays_rewindable c.args.pool.now c.reserve_to_rewind.new.self c.reserve_to_rewind.ensures.left c.reserve_to_rewind.ensures.kept was

pub returns-in_err-take_replaced-clause-rewindable : goal.returns-in_err-take_replaced-clause-rewindable
returns-in_err-take_replaced-clause-rewindable g c = λ was.
    untaken_rewindable c.reserve_to_rewind.new.self c.take_replaced.new.pool c.in_err-take_replaced.ensures.err c.take_replaced.ensures.room c.take_replaced.ensures.left
    (stays_rewindable c.args.pool.now c.reserve_to_rewind.new.self c.reserve_to_rewind.ensures.left c.reserve_to_rewind.ensures.kept was)

pub enter_all-requires-2-clause-new : goal.enter_all-requires-2-clause-new
enter_all-requires-2-clause-new g c =
    subst (λ (l : List Admitted). AreNewcomers l c.args.these.now) (sym (c.in_ok-take_replaced.ensures.ok ∙ ap (λ (l : List Admitted). staying_beside l c.args.these.now) c.reserve_to_rewind.ensures.entries))
    (newcomers_beside c.args.pool.now.entries c.args.these.now c.requires.absent c.requires.distinct c.requires.apart)

pub returns-in_err-enter_all-2-clause-rewindable : goal.returns-in_err-enter_all-2-clause-rewindable
returns-in_err-enter_all-2-clause-rewindable g c = λ was.
    let old = c.args.pool.now in
    let stay = c.in_ok-take_replaced.ensures.ok ∙ ap (λ (l : List Admitted). staying_beside l c.args.these.now) c.reserve_to_rewind.ensures.entries in
    c.enter_all-2.ensures.rewindable
    (takes_rewindable old c.reserve_to_rewind.new.self c.take_replaced.new.pool (is_below_some (is_rival c.args.these.now) old.entries) c.as_slice.result.now c.recall_distinct.ensures (c.as_slice.ensures.value ∙ c.in_ok-replaced.ensures)
    (record { same = c.reserve_to_rewind.ensures.entries; left = c.reserve_to_rewind.ensures.left; room = c.in_ok-reserve_to_rewind.ensures.room; room_inputs = c.in_ok-reserve_to_rewind.ensures.inputs })
    stay c.take_replaced.ensures.room c.take_replaced.ensures.left)

pub returns-clause-entries : goal.returns-clause-entries
returns-clause-entries g c =
    let stay = c.in_ok-take_replaced.ensures.ok ∙ ap (λ (l : List Admitted). staying_beside l c.args.these.now) c.reserve_to_rewind.ensures.entries in
    c.in_ok-enter_all-2.ensures.entries ∙ ap (λ (l : List Admitted). l ++ newcomers c.args.under.now.second c.args.these.now c.args.prices.now) stay

pub returns-clause-rewindable : goal.returns-clause-rewindable
returns-clause-rewindable g c = λ was.
    let old = c.args.pool.now in
    let stay = c.in_ok-take_replaced.ensures.ok ∙ ap (λ (l : List Admitted). staying_beside l c.args.these.now) c.reserve_to_rewind.ensures.entries in
    c.enter_all-2.ensures.rewindable
    (takes_rewindable old c.reserve_to_rewind.new.self c.take_replaced.new.pool (is_below_some (is_rival c.args.these.now) old.entries) c.as_slice.result.now c.recall_distinct.ensures (c.as_slice.ensures.value ∙ c.in_ok-replaced.ensures)
    (record { same = c.reserve_to_rewind.ensures.entries; left = c.reserve_to_rewind.ensures.left; room = c.in_ok-reserve_to_rewind.ensures.room; room_inputs = c.in_ok-reserve_to_rewind.ensures.inputs })
    stay c.take_replaced.ensures.room c.take_replaced.ensures.left)
