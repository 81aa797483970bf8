use Rattle.std.proofs.Common.{◌≡◌, Bool, true, sym, ap, subst, ◌∙◌}
use Rattle.std.specs.List.{list_any}
use Rattle.std.specs.Cmp.Lexicographic.{bytes_decides}
use Rattle.gate_tx.specs.Ids.{txid_of}
use Rattle.gate_graph.specs.Family.{reaches}
use Rattle.gate_graph.proofs.Filters.{Contains-filter}
use Rattle.gate_bytes.proofs.Members.{list_any_of}
use Rattle.gate_graph.proofs.Reaching.{reaches-same}
use Rattle.gate_pool.specs.Pool.{Admitted, has_txid}
use Rattle.gate_pool.specs.Family.{steps, ancestors_of, AreIdsOf}
use Rattle.gate_pool.proofs.Entries.{find_some}
use Rattle.gate_pool.proofs.Ids.{AreIdsOf-listing}
use Rattle.gate_rbf.specs.Replacing.{signals}
use Rattle.gate_rbf.proofs.Choosing.{any_among}
use Rattle.gate_query.specs.Answers.{is_replaceable}
use Rattle.gate_query.proofs.info.is_replaceable.Goals as goal

pub returns-then-signals : goal.returns-then-signals
returns-then-signals g c =
    let entries = c.args.pool.now.entries in
    let txid = c.args.txid.now in
    let e = c.args.entry.now in
    let is_above : Admitted → Bool = λ a. reaches (steps entries) (txid_of a.tx) txid in
    let here = find_some (λ (x : Admitted). has_txid x txid) entries e c.requires in
    let own = (bytes_decides (txid_of e.tx) txid).0 here.1 in
    sym (list_any_of is_replaceable (ancestors_of entries txid) e
    (Contains-filter is_above entries e here.0 (subst (λ z. reaches (steps entries) z txid ≡ true) (sym own) (reaches-same (steps entries) txid)))
    (ap signals (sym c.transaction.ensures) ∙ sym c.signals.ensures ∙ c.if-signals.true))

pub returns : goal.returns
returns g c =
    let entries = c.args.pool.now.entries in
    let txid = c.args.txid.now in
    let distinct = c.recall_distinct.ensures in
    let is_above : Admitted → Bool = λ a. reaches (steps entries) (txid_of a.tx) txid in
    let above : AreIdsOf c.in_ok-above.above.items (ancestors_of entries txid) = subst (λ l. AreIdsOf l (ancestors_of entries txid)) (sym c.in_ok-above.ensures) (AreIdsOf-listing is_above distinct) in
    c.one_signals.ensures ∙ any_among is_replaceable entries is_above c.as_slice.result.now distinct (subst (λ l. AreIdsOf l (ancestors_of entries txid)) (sym c.as_slice.ensures.value) above)
