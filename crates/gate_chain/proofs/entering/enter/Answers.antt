use Rattle.std.proofs.Common.{rules, ◌≡◌, sym, ap, ◌∙◌, false, List, ℕ, ◌++◌, ◌∷◌, [], append_assoc}
use Rattle.gate_tx.specs.Tx.{Tx}
use Rattle.gate_chain.specs.Marking.{all_in}
use Rattle.gate_chain.proofs.TwoTables.{second_new}
use Rattle.gate_chain.proofs.Growing.{same_maps, repeated, not_found, is_new, entered, undone}
use Rattle.gate_chain.proofs.entering.enter.Goals as goal

pub returns-then-is_repeated-clause-entered : goal.returns-then-is_repeated-clause-entered
returns-then-is_repeated-clause-entered g c = λ h header done o first a.
    (a, repeated h header done c.args.tx.now _ _ _ _ o a c.txid-id.result c.txid-id.ensures c.is_repeated.result c.is_repeated.ensures (search rules))

pub returns-then-not-found-clause-entered : goal.returns-then-not-found-clause-entered
returns-then-not-found-clause-entered g c = λ h header done o first a.
    let inputs = c.inputs.ensures ∙ ap (λ (t : Tx). t.inputs) c.transaction-tx.ensures in
    let nope : c.spend_later-found.result ≡ false = search rules in (
      same_maps _ _ _ _ _ c.spend_later-found.ensures.coins (λ p. rw nope at (c.spend_later-found.ensures.marks p)) c.in_ok-reserve.ensures.keys a,
      not_found h header done c.args.tx.now _ _ _ _ o a c.txid-id.result c.txid-id.ensures c.is_repeated.result c.is_repeated.ensures (search rules)
          c.args.position.coinbase first c.spend_later-found.result (rw inputs at c.spend_later-found.ensures.found) nope,
    )

pub returns-in-Ok-clause-entered : goal.returns-in-Ok-clause-entered
returns-in-Ok-clause-entered g c = λ h header done o first a.
    let inputs = c.inputs.ensures ∙ ap (λ (t : Tx). t.inputs) c.transaction-tx.ensures in
    let outputs = c.outputs.ensures ∙ ap (λ (t : Tx). t.outputs) c.transaction-tx.ensures in
    let p = c.spend_later-found.new.coins.opening.entries in
    let m = c.spend_later-found.new.coins.made.entries in
    let new = is_new h header done c.args.tx.now _ _ _ _ o a c.txid-id.result c.txid-id.ensures c.is_repeated.result c.is_repeated.ensures (search rules)
    c.args.position.coinbase first c.spend_later-found.result (rw inputs at c.spend_later-found.ensures.found) (p ++ m) c.spend_later-found.ensures.coins in
    entered h header done c.args.tx.now _ _ _ _ o a c.txid-id.result c.txid-id.ensures c.is_repeated.result c.is_repeated.ensures (search rules)
    c.args.position.coinbase first c.spend_later-found.result (rw inputs at c.spend_later-found.ensures.found) (search rules) (p ++ m) c.spend_later-found.ensures.coins
    (rw inputs at c.spend_later-found.ensures.marks) _
    (ap (λ l. p ++ l) (rw outputs at (c.in-Ok.ensures.ok (second_new p m c.txid-id.result new))) ∙ sym (append_assoc p m _))
    _ (c.note.ensures ∙ ap (λ (l : List (List ℕ)). l ++ c.txid-id.result ∷ []) c.in_ok-reserve.ensures.keys)

pub returns-in-Err-clause-entered : goal.returns-in-Err-clause-entered
returns-in-Err-clause-entered g c = λ h header done o first a.
    let inputs = c.inputs.ensures ∙ ap (λ (t : Tx). t.inputs) c.transaction-tx.ensures in
    let again = c.inputs-in-Err.ensures ∙ ap (λ (t : Tx). t.inputs) c.transaction-tx.ensures in
    let p = c.spend_later-found.new.coins.opening.entries in
    let m = c.spend_later-found.new.coins.made.entries in
    let new = is_new h header done c.args.tx.now _ _ _ _ o a c.txid-id.result c.txid-id.ensures c.is_repeated.result c.is_repeated.ensures (search rules)
    c.args.position.coinbase first c.spend_later-found.result (rw inputs at c.spend_later-found.ensures.found) (p ++ m) c.spend_later-found.ensures.coins in (
      undone h header done c.args.tx.now _ _ _ _ o a c.txid-id.result c.txid-id.ensures c.is_repeated.result c.is_repeated.ensures (search rules)
          c.args.position.coinbase first c.spend_later-found.result (rw inputs at c.spend_later-found.ensures.found) (search rules) (p ++ m) c.spend_later-found.ensures.coins
          (rw inputs at c.spend_later-found.ensures.marks) (p ++ c.make.new.coins.entries) (all_in c.unspend_later.new.coins)
          (ap (λ l. p ++ l) (c.in-Err.ensures.err (second_new p m c.txid-id.result new))) c.unspend_later.ensures.coins
          (rw again at c.unspend_later.ensures.marks) _ c.in_ok-reserve.ensures.keys,
      tt,
    )
