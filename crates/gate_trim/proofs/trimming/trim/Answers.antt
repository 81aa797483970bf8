use Rattle.std.proofs.Common.{◌<◌, ◌≤◌, List, length, sym, ap, ◌∙◌, subst, arith}
use Rattle.gate_pool.specs.Pool.{Admitted, size_of}
use Rattle.gate_pool.specs.Family.{without_family}
use Rattle.gate_trim.specs.Trimming.{trim_of}
use Rattle.gate_trim.proofs.Trimmings.{trim_ends, trim_goes, trim_stops, least_falls, above, within}
use Rattle.gate_trim.proofs.trimming.trim.Goals as goal

pub returns-in_default-clause-trimmed : goal.returns-in_default-clause-trimmed
returns-in_default-clause-trimmed g c =
    sym c.loop-pool.invariant.0 ∙ trim_stops c.args.step c.args.budget c.loop-pool.pool.entries c.loop-pool.floor (sym c.in_default.ensures.value)

pub loop-pool-smaller : goal.loop-pool-smaller
loop-pool-smaller g c =
    subst (λ (l : List Admitted). length l < length c.loop-pool.pool.entries) (sym c.take_family.ensures.entries)
    (least_falls c.loop-pool.pool.entries c.in-Some.score.now (sym c.in-Some.ensures.value))

pub loop-pool-preserved : goal.loop-pool-preserved
loop-pool-preserved g c =
    let step = c.args.step in
    let budget = c.args.budget in
    let entries = c.loop-pool.pool.entries in
    let score = c.in-Some.score.now in
    let over : budget < size_of entries = omega (arith, c.size.ensures, c.from.ensures, c.loop-pool-test.true) in (
      ap (λ (l : List Admitted). trim_of step budget l c.raise.new.self) c.take_family.ensures.entries
          ∙ ap (trim_of step budget (without_family entries score.txid)) c.raise.ensures
          ∙ sym (trim_goes step budget entries c.loop-pool.floor score (above (size_of entries) budget over) (sym c.in-Some.ensures.value))
          ∙ c.loop-pool.invariant.0,
      c.take_family.ensures.before ∙ c.loop-pool.invariant.1,
    )

pub returns-clause-trimmed : goal.returns-clause-trimmed
returns-clause-trimmed g c =
    let fits : size_of c.loop-pool.pool.entries ≤ c.args.budget = omega (arith, c.size.ensures, c.from.ensures, c.loop-pool-test.false) in
    sym c.loop-pool.invariant.0 ∙ trim_ends c.args.step c.args.budget c.loop-pool.pool.entries c.loop-pool.floor (within (size_of c.loop-pool.pool.entries) c.args.budget fits)
