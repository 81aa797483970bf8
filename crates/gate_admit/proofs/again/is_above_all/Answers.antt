use Rattle.std.proofs.Common.{◌≡◌, true, ◌&&◌, Bool, sym, ap, subst, ◌∙◌, is_some, true≢false}
use Rattle.std.specs.List.{list_any}
use Rattle.std.specs.Option.{option_copied}
use Rattle.std.specs.Str.{bytes_eq}
use Rattle.std.specs.Cmp.Lexicographic.{bytes_decides}
use Rattle.std.proofs.lemmas.Bool.{and_parts}
use Rattle.gate_tx.specs.Ids.{txid_of}
use Rattle.gate_graph.specs.Family.{reaches}
use Rattle.gate_graph.proofs.Apart.{all_listed}
use Rattle.gate_bytes.proofs.Members.{any_is}
use Rattle.gate_pool.specs.Pool.{Admitted, has_txid}
use Rattle.gate_pool.specs.Family.{steps, all_below, is_below_some, AreIdsOf}
use Rattle.gate_pool.proofs.Adding.{passed}
use Rattle.gate_pool.proofs.Ids.{AreIdsOf-one}
use Rattle.gate_pool.proofs.Searching.{among_ids}
use Rattle.gate_rbf.proofs.Counted.{entry_found}
use Rattle.gate_admit.proofs.again.is_above_all.Goals as goal

pub returns-in-Some-2 : goal.returns-in-Some-2
returns-in-Some-2 g c = λ t entry txid m.
    let entries = c.args.pool.now.entries in
    let test : Admitted → Bool = λ e. has_txid e c.args.parent.now in
    let found : AreIdsOf c.in-Some-2.below.items (all_below test entries) = rw c.in-Some-2.is at c.in_ok-below-in-Some.ensures.found test (AreIdsOf-one entries entry.0 c.args.parent.now entry.1 entry.2) in
    let has : list_any (λ y. bytes_eq y txid) c.in-Some-2.below.items ≡ true =
    ap (list_any (λ y. bytes_eq y txid)) (sym c.deref.ensures.value) ∙ all_listed (λ z. list_any (λ y. bytes_eq y z) c.deref.result.now) c.args.txids.now txid (sym c.has_each.ensures ∙ t) m in
    let v = found.only txid (among_ids c.in-Some-2.below.items txid has) in
    let w = any_is (λ (a : Admitted). test a && reaches (steps entries) (txid_of a.tx) (txid_of v.0.tx)) entries (passed (is_below_some test entries) entries v.0 v.1) in
    let parts = and_parts _ _ w.2 in
    subst (λ z. reaches (steps entries) z txid ≡ true) ((bytes_decides (txid_of w.0.tx) c.args.parent.now).0 parts.0) (subst (λ z. reaches (steps entries) (txid_of w.0.tx) z ≡ true) v.2 parts.1)

pub returns-in-None : goal.returns-in-None
returns-in-None g c = λ t entry txid m.
    absurd (true≢false (sym (entry_found c.args.pool.now.entries c.args.parent.now entry) ∙ ap is_some (sym c.entry.ensures ∙ ap option_copied c.in-None.is)))

pub returns-in_default : goal.returns-in_default
returns-in_default g c = λ t entry txid m. absurd (true≢false (sym t))
