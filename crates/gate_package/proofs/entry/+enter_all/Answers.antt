use Rattle.std.proofs.Common.{◌≡◌, ◌∷◌, ◌++◌, [], List, sym, ap, ◌∙◌, subst, arith}
use Rattle.std.proofs.lemmas.List.Elements.{All-rest}
use Rattle.gate_tx.specs.Tx.{Tx}
use Rattle.gate_chain.proofs.Copies.{on_ok_then}
use Rattle.gate_pool.specs.Pool.{Admitted}
use Rattle.gate_admit.specs.Bounds.{FitsEntry}
use Rattle.gate_diagram.specs.declared.Price.{Price}
use Rattle.gate_package.specs.Packages.{AreNewcomers, newcomers}
use Rattle.gate_package.proofs.Arriving.{all_behind, enters_plainly, first_absent, first_alone, led_by, newcomers_first, others_behind, replaces_nothing}
use Rattle.gate_package.proofs.entry.+enter_all.Goals as goal

pub enter-requires-clause-absent : goal.enter-requires-clause-absent
enter-requires-clause-absent g t c =
    let entries = c.args.pool.now.entries in
    let e = c.new-entry.result in
    let rest = c.in-Some.these.now in
    let tx = ap (λ (a : Admitted). a.tx) c.new-entry.ensures ∙ (c.in_ok-identified.ensures ∙ c.identified.ensures) in
    first_absent entries e rest (led_by entries c.in-Some.candidate.now c.args.these.now rest e c.requires.new c.in-Some.ensures.cases.0 tx)

pub enter-requires-clause-replaced : goal.enter-requires-clause-replaced
enter-requires-clause-replaced g t c =
    let entries = c.args.pool.now.entries in
    let e = c.new-entry.result in
    let rest = c.in-Some.these.now in
    let tx = ap (λ (a : Admitted). a.tx) c.new-entry.ensures ∙ (c.in_ok-identified.ensures ∙ c.identified.ensures) in
    replaces_nothing entries e (first_alone entries e.tx rest (led_by entries c.in-Some.candidate.now c.args.these.now rest e c.requires.new c.in-Some.ensures.cases.0 tx))

pub enter_all-requires : goal.enter_all-requires
enter_all-requires g t c κs within =
    let entries = c.args.pool.now.entries in
    let e = c.new-entry.result in
    let rest = c.in-Some.these.now in
    let tx = ap (λ (a : Admitted). a.tx) c.new-entry.ensures ∙ (c.in_ok-identified.ensures ∙ c.identified.ensures) in
    let new = led_by entries c.in-Some.candidate.now c.args.these.now rest e c.requires.new c.in-Some.ensures.cases.0 tx in
    let after : c.enter.new.pool.entries ≡ entries ++ e ∷ [] = c.in_ok-enter.ensures.ok ∙ enters_plainly entries e (first_alone entries e.tx rest new) in
    let Fit = λ (p : Price). FitsEntry p.fee p.vsize in (
      omega (arith, c.decreases, c.in-Some.ensures.cases.1),
      (
        within.0,
        (
          within.1,
          (
            subst (λ (l : List Admitted). AreNewcomers l rest) (sym after) (others_behind entries e rest new),
            All-rest Fit c.in-Some-split_first.price.now c.in-Some-split_first.prices.now c.args.prices.now c.in-Some-split_first.ensures.cases.0 c.requires.fit,
          ),
        ),
      ),
    )

pub returns-clause-entries : goal.returns-clause-entries
returns-clause-entries g t c =
    let entries = c.args.pool.now.entries in
    let e = c.new-entry.result in
    let rest = c.in-Some.these.now in
    let price = c.in-Some-split_first.price.now in
    let second = c.args.under.now.second in
    let same = c.in_ok-identified.ensures ∙ c.identified.ensures in
    let made = c.new-entry.ensures ∙ ap (λ (t : Tx). record { tx = t; fee = price.fee; vsize = price.vsize; time = second }) same in
    let new = led_by entries c.in-Some.candidate.now c.args.these.now rest e c.requires.new c.in-Some.ensures.cases.0 (ap (λ (a : Admitted). a.tx) made) in
    let after : c.enter.new.pool.entries ≡ entries ++ e ∷ [] = c.in_ok-enter.ensures.ok ∙ enters_plainly entries e (first_alone entries e.tx rest new) in
    let others = newcomers second rest c.in-Some-split_first.prices.now in
    let all = newcomers second c.args.these.now c.args.prices.now in
    let first : all ≡ e ∷ others =
    newcomers_first second c.in-Some.candidate.now c.args.these.now rest price c.args.prices.now c.in-Some-split_first.prices.now e c.in-Some.ensures.cases.0 c.in-Some-split_first.ensures.cases.0 made in
    on_ok_then c.enter_all.result (all_behind entries c.enter.new.pool.entries c.enter_all.new.pool.entries e all others after first) c.enter_all.ensures.entries

pub returns-clause-rewindable : goal.returns-clause-rewindable
returns-clause-rewindable g t c = λ was. c.enter_all.ensures.rewindable (c.enter.ensures.rewindable was)
