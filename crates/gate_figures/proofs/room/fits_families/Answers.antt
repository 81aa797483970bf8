use Rattle.std.proofs.Common.{◌≡◌, ℕ, ◌+◌, ◌∙◌, Bool, true, false, sym, ap}
use Rattle.std.specs.List.{list_any}
use Rattle.gate_tx.specs.declared.TxIn.{TxIn}
use Rattle.gate_tx.specs.Ids.{txid_of}
use Rattle.gate_tx.specs.Tx.{Tx}
use Rattle.gate_graph.specs.Family.{reaches}
use Rattle.gate_pool.specs.Pool.{Admitted}
use Rattle.gate_pool.specs.Family.{steps, ancestors_above, conflicts_of}
use Rattle.gate_admit.specs.Limits.{grown, usual_limits, carved_out, has_second_try, is_within}
use Rattle.gate_admit.proofs.Families.{second_try}
use Rattle.gate_figures.specs.Rooms.{Limits}
use Rattle.gate_figures.proofs.room.fits_families.Goals as goal

pub returns : goal.returns
returns g c =
    let entries = c.args.direct.now.entries in
    let test : Admitted → Bool = λ e. list_any (λ (i : TxIn). reaches (steps entries) (txid_of e.tx) i.prevout.txid) c.args.direct.now.tx.inputs in
    let above = ancestors_above entries c.args.direct.now.tx.inputs in
    let limits = grown entries (conflicts_of entries c.args.direct.now.tx) (usual_limits c.args.policy.now) in
    let first : is_within limits entries above c.args.vsize ≡ false =
    ap (λ l. is_within l entries above c.args.vsize) (sym c.first_room-room.ensures.limits) ∙ sym ((rw c.pool-pool.ensures at c.is_within.ensures) test c.requires.ids c.requires.sums) ∙ c.if-is_within.false in
    let again : has_second_try c.args.direct.now.tx c.args.vsize ≡ true = ap (λ (t : Tx). has_second_try t c.args.vsize) (sym c.transaction.ensures) ∙ sym c.has_second_try.ensures ∙ c.if-not-has_second_try.false in
    let asked : ℕ → Limits = λ (n : ℕ). record { ancestors = 2; ancestors_size = c.first_room-room.result.ancestors_size; descendants = c.first_room-room.result.descendants + 1; descendants_size = c.first_room-room.result.descendants_size + n } in
    (rw c.pool-pool.ensures at c.is_within-2.ensures) test c.requires.ids c.requires.sums
    ∙ ap (λ n. is_within (asked n) entries above c.args.vsize) c.from.ensures ∙ ap (λ l. is_within (carved_out l) entries above c.args.vsize) c.first_room-room.ensures.limits
    ∙ second_try _ _ (is_within (carved_out limits) entries above c.args.vsize) first again
