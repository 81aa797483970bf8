use Rattle.std.proofs.Common.{◌≡◌, ◌||◌, ◌∙◌, ap, sym, true≢false}
use Rattle.std.specs.Cmp.Lexicographic.{bytes_decides}
use Rattle.std.proofs.lemmas.Bool.{or_left}
use Rattle.gate_tx.specs.Ids.{txid_of}
use Rattle.gate_pool.specs.Pool.{Admitted, has_txid}
use Rattle.gate_pool.proofs.Entries.{find_none, find_some}
use Rattle.gate_admit.proofs.Kinship.{found_is}
use Rattle.gate_package.specs.Kinship.{has_below, is_child_outside}
use Rattle.gate_package.proofs.truc.is_outside_entry.Goals as goal

pub is_child_outside-requires : goal.is_child_outside-requires
is_child_outside-requires g c =
    let found = find_some (λ (d : Admitted). has_txid d c.args.parent.now) c.args.pool.now.entries c.in-Some.entry.now (sym c.in-Some.ensures) in
    ap txid_of c.transaction.ensures ∙ (bytes_decides (txid_of c.in-Some.entry.now.tx) c.args.parent.now).0 found.1

pub returns-then-is_child_outside : goal.returns-then-is_child_outside
returns-then-is_child_outside g c = λ tx same a m at.
    let entries = c.args.pool.now.entries in
    let these = c.args.these.now in
    let one = found_is entries c.args.parent.now c.in-Some.entry.now a c.recall_distinct.ensures c.in-Some.ensures m at in
    let asked : c.is_child_outside.result ≡ is_child_outside these tx c.args.vsize a.tx =
    c.is_child_outside.ensures tx same ∙ ap (is_child_outside these tx c.args.vsize) (c.transaction.ensures ∙ ap (λ (x : Admitted). x.tx) one) in
    c.if-is_child_outside.true ∙ sym (or_left (is_child_outside these tx c.args.vsize a.tx) (has_below entries (txid_of a.tx)) (sym asked ∙ c.if-is_child_outside.true))

pub returns-else-is_child_outside : goal.returns-else-is_child_outside
returns-else-is_child_outside g c = λ tx same a m at.
    let entries = c.args.pool.now.entries in
    let these = c.args.these.now in
    let one = found_is entries c.args.parent.now c.in-Some.entry.now a c.recall_distinct.ensures c.in-Some.ensures m at in
    let asked : c.is_child_outside.result ≡ is_child_outside these tx c.args.vsize a.tx =
    c.is_child_outside.ensures tx same ∙ ap (is_child_outside these tx c.args.vsize) (c.transaction.ensures ∙ ap (λ (x : Admitted). x.tx) one) in
    c.has_below.ensures a m at ∙ (ap (has_below entries) (sym at) ∙ sym (ap (λ b. b || has_below entries (txid_of a.tx)) (sym asked ∙ c.if-is_child_outside.false)))

pub returns-in-None : goal.returns-in-None
returns-in-None g c = λ tx same a m at.
    absurd (true≢false (sym ((bytes_decides (txid_of a.tx) c.args.parent.now).1 at) ∙ find_none (λ (d : Admitted). has_txid d c.args.parent.now) c.args.pool.now.entries (sym c.in-None.ensures) a m))
