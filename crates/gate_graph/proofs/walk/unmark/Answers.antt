use Rattle.std.proofs.Common.{rules, refl, sym, ◌∙◌, ap, get_or, ◌≤◌, length, false, arith, true≢false, inl, inr}
use Rattle.std.proofs.lemmas.Bool.{cases_eq, false_from_ne_true}
use Rattle.std.proofs.lemmas.List.{get_or_default, length-set}
use Rattle.std.proofs.lemmas.List.Elements.{Contains-get_or}
use Rattle.gate_graph.proofs.Marking.{unset_at, unset_before}
use Rattle.gate_graph.proofs.walk.unmark.Goals as goal

pub loop-place-init : goal.loop-place-init
loop-place-init c = record { len = refl; kept = λ p t. t; cleared = λ k d lt. absurd (omega (arith, lt)); capacity = refl }

pub index_mut-requires : goal.index_mut-requires
index_mut-requires c =
    omega (arith, c.requires (get_or c.args.found.now c.loop-place.place-index 0) (Contains-get_or c.args.found.now c.loop-place.place-index 0 c.loop-place-test.true), c.loop-place.invariant.len)

pub loop-place-preserved : goal.loop-place-preserved
loop-place-preserved c =
    let found = c.args.found.now in
    let i = c.loop-place.place-index in
    let q = get_or found i 0 in
    let marks = c.loop-place.marks.items in
    record {
      len = length-set marks q false ∙ c.loop-place.invariant.len;
      kept = λ p t. c.loop-place.invariant.kept p (unset_before marks q p t);
      cleared = λ k d lt.
          unset_at marks q (get_or found k d) (
          elim (cases_eq k i) [
            | inl e ↦ inl (ap (λ j. get_or found j d) e ∙ get_or_default found i d 0 c.loop-place-test.true)
            | inr n ↦ inr (c.loop-place.invariant.cleared k d (omega (arith, lt, n)))
          ]);
      capacity = c.loop-place.invariant.capacity;
    }

pub returns-clause-clear : goal.returns-clause-clear
returns-clause-clear c only p =
    let found = c.args.found.now in
    let i = c.loop-place.place-index in
    let end : length found ≤ i = search rules in
    false_from_ne_true _ (λ t.
    let m = only p (c.loop-place.invariant.kept p t) in
    true≢false (sym t ∙ ap (λ j. get_or c.loop-place.marks.items j false) (sym m.2) ∙ c.loop-place.invariant.cleared m.0 p (omega (arith, m.1, end))))
