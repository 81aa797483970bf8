use Rattle.std.proofs.Common.{◌≡◌, ◌<◌, ℕ, List, Some, true, not, sym, ap, subst, ◌∙◌, arith, true≢false}
use Rattle.std.specs.Prelude.{Contains, nat_lt}
use Rattle.std.specs.Cmp.Lexicographic.{bytes_decides}
use Rattle.std.proofs.lemmas.Bool.{not-true}
use Rattle.std.proofs.lemmas.Bool.Decides.{nat_tests}
use Rattle.gate_tx.specs.Ids.{txid_of}
use Rattle.gate_graph.specs.Family.{reaches}
use Rattle.gate_graph.proofs.Reaching.{reaches-same}
use Rattle.gate_pool.specs.Pool.{Admitted, has_txid, entry_by_txid, is_before}
use Rattle.gate_pool.specs.Family.{steps, without_family, without_below}
use Rattle.gate_pool.proofs.Adding.{passed}
use Rattle.gate_pool.proofs.Entries.{find_some, find_none}
use Rattle.gate_pool.proofs.Ids.{same_entry}
use Rattle.gate_pool.proofs.Removals.{without_below-family}
use Rattle.gate_pool.proofs.Walking.{Contains-from_filter}
use Rattle.gate_pool.proofs.store.Store.take_early.Goals as goal

early : (m n : ℕ) → m < n → nat_lt m n ≡ true
early m n h = grind (arith, nat_tests)

-- the entry that was found has the id
module _ (es : List Admitted) (x : List ℕ) (e : Admitted) (found : entry_by_txid es x ≡ Some e) where
  has : txid_of e.tx ≡ x
  has = let w = find_some (λ (d : Admitted). has_txid d x) es e found in (bytes_decides (txid_of e.tx) x).0 w.1

  there : Contains es e
  there = (find_some (λ (d : Admitted). has_txid d x) es e found).0

  -- with it goes no other that stays behind the test
  goes : (time : ℕ) (left : List Admitted) → e.time < time → left ≡ without_family es x → without_below (is_before time) left ≡ without_below (is_before time) es
  goes time left h is =
      ap (without_below (is_before time)) (is ∙ ap (without_family es) (sym has)) ∙ without_below-family (is_before time) es e there (early e.time time h)

-- what leaves doesn't stay
leaves : (es left : List Admitted) (x : List ℕ) → left ≡ without_family es x → (d : Admitted) → Contains left d → txid_of d.tx ≡ x → ⊥
leaves es left x is d m same =
    let kept = not-true _ (passed (λ (e : Admitted). not (reaches (steps es) x (txid_of e.tx))) es d (subst (λ l. Contains l d) is m)) in
    true≢false (sym (reaches-same (steps es) x) ∙ ap (reaches (steps es) x) (sym same) ∙ kept)

fewer : (es left : List Admitted) (x : List ℕ) → left ≡ without_family es x → (d : Admitted) → Contains left d → Contains es d
fewer es left x is d m = Contains-from_filter (λ (e : Admitted). not (reaches (steps es) x (txid_of e.tx))) es d (subst (λ l. Contains l d) is m)

pub returns-then-time-clause-rest : goal.returns-then-time-clause-rest
returns-then-time-clause-rest g c =
    goes c.args.self.now.entries c.args.txid.now c.in-Some.entry.now (sym c.in-Some.ensures) c.args.time c.take_out.new.self.entries (omega (arith, c.time.ensures, c.if-time.true))
    (c.take_out.ensures.rest ∙ ap (without_family c.args.self.now.entries) c.node_id.ensures)

pub returns-then-time-clause-fewer : goal.returns-then-time-clause-fewer
returns-then-time-clause-fewer g c = λ e m.
    fewer c.args.self.now.entries c.take_out.new.self.entries c.args.txid.now (c.take_out.ensures.rest ∙ ap (without_family c.args.self.now.entries) c.node_id.ensures) e m

pub returns-then-time-clause-late : goal.returns-then-time-clause-late
returns-then-time-clause-late g c = λ e m same.
    absurd (leaves c.args.self.now.entries c.take_out.new.self.entries c.args.txid.now (c.take_out.ensures.rest ∙ ap (without_family c.args.self.now.entries) c.node_id.ensures) e m same)

pub returns-else-time-clause-late : goal.returns-else-time-clause-late
returns-else-time-clause-late g c = λ e m same.
    let es = c.args.self.now.entries in
    let x = c.args.txid.now in
    let d = c.in-Some.entry.now in
    let found = sym c.in-Some.ensures in
    let one : e ≡ d = same_entry es c.recall_distinct.ensures e d m (there es x d found) (same ∙ sym (has es x d found)) in
    omega (arith, c.time.ensures, c.if-time.false, ap (λ (a : Admitted). a.time) one)

pub returns-in-None-clause-late : goal.returns-in-None-clause-late
returns-in-None-clause-late g c = λ e m same.
    let x = c.args.txid.now in
    absurd (true≢false (sym ((bytes_decides (txid_of e.tx) x).1 same) ∙ find_none (λ (d : Admitted). has_txid d x) c.args.self.now.entries (sym c.in-None.ensures) e m))
