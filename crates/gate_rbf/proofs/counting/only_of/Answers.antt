use Rattle.std.proofs.Common.{◌≡◌, ◌∷◌, [], ℕ, Bool, List, not, ◌&&◌, sym, ◌∙◌, subst, rules, tests}
use Rattle.std.specs.Prelude.{Contains, filter}
use Rattle.std.specs.List.{list_any}
use Rattle.std.proofs.lemmas.Iterator.{YieldsList-from_slice}
use Rattle.std.proofs.lemmas.Iterator.Search.{any_from_yields_List}
use Rattle.gate_bytes.proofs.Members.{Contains-head}
use Rattle.gate_pool.specs.Pool.{Admitted, has_txid}
use Rattle.gate_rbf.specs.Direct.{AreThese}
use Rattle.gate_rbf.proofs.Alone.{alone, not_alone}
use Rattle.gate_rbf.proofs.Choosing.{any_filter}
use Rattle.gate_rbf.proofs.Rivals.{any_of_these, first_found, none_found}
use Rattle.gate_rbf.proofs.counting.only_of.Goals as goal

-- to ask what was found for another id is to ask those that pass the test
others : (test : Admitted → Bool) (entries found : List Admitted) (txid : List ℕ) → AreThese found (filter test entries)
    → list_any (λ (e : Admitted). not (has_txid e txid)) found ≡ list_any (λ (e : Admitted). test e && not (has_txid e txid)) entries
others test entries found txid are =
    any_of_these (λ (e : Admitted). not (has_txid e txid)) found (filter test entries) are ∙ any_filter (λ (e : Admitted). not (has_txid e txid)) test entries

pub returns-then-any-clause-other : goal.returns-then-any-clause-other
returns-then-any-clause-other c = λ _ entries test these.
    let found = c.args.found.now in
    let rival = c.in-Some.rival.now in
    let txid = c.txid-txid.result in
    let asked = any_from_yields_List (λ (e : Admitted). not (has_txid e txid)) _ _ c.any.result c.any.ensures.ran (YieldsList-from_slice found cc) (λ x b q k. search (rules, tests)) in
    not_alone test entries rival txid (these.only rival (first_found found rival (sym c.in-Some.ensures.value))) (sym c.txid-txid.ensures)
    (sym (others test entries found txid these) ∙ sym asked ∙ c.if-any.true)

pub returns-else-any-clause-one : goal.returns-else-any-clause-one
returns-else-any-clause-one c = λ entries distinct test these.
    let found = c.args.found.now in
    let rival = c.in-Some.rival.now in
    let txid = c.txid-txid.result in
    let asked = any_from_yields_List (λ (e : Admitted). not (has_txid e txid)) _ _ c.any.result c.any.ensures.ran (YieldsList-from_slice found cc) (λ x b q k. search (rules, tests)) in (
      rival,
      alone test entries distinct rival txid (these.only rival (first_found found rival (sym c.in-Some.ensures.value))) (sym c.txid-txid.ensures)
          (sym (others test entries found txid these) ∙ sym asked ∙ c.if-any.false),
      sym c.txid-txid.ensures,
    )

pub returns-in-None-clause-other : goal.returns-in-None-clause-other
returns-in-None-clause-other c = λ _ entries test these d one.
    none_found c.args.found.now (sym c.in-None.ensures.value) d (these.all d (subst (λ (l : List Admitted). Contains l d) (sym one) (Contains-head d [])))
