use Rattle.std.proofs.Common.{◌≤◌, true, length, ap, sym, subst, ◌∙◌}
use Rattle.gate_journal.specs.Legal.{entry_limit}
use Rattle.gate_shared.specs.Calls.{PassView}
use Rattle.gate_shared.specs.Held.{Held}
use Rattle.gate_shared.proofs.Faults.{Eye, marked_full}
use Rattle.gate_shared.proofs.shared.Shared.mark.Goals as goal

pub mark_full-requires-clause-full : goal.mark_full-requires-clause-full
mark_full-requires-clause-full g c =
    subst (λ n. entry_limit ≤ n) (ap (λ (s : Held). length s.journal) (sym c.self.view_is) ∙ ap (λ (m : Eye). length m.0.all) (sym c.self.invariant.4)) c.requires

pub invariant_of-pass : goal.invariant_of-pass
invariant_of-pass g c = (
  c.pass.invariant.0,
  c.pass.invariant.1,
  c.pass.invariant.2,
  c.mark_full.ensures.tables.1 ∙ c.pass.invariant.3,
  marked_full _ _ c.mark_full.ensures.token c.pass.invariant.4,
)

pub returns-clause-pass : goal.returns-clause-pass
returns-clause-pass g c =
    (λ i. record { number = c.pass.inside.number; caller = c.pass.inside.caller; calls = c.pass.inside.calls.items; met_full = (c.mark_full.ensures.token i).0.full })
    ∙ ap (λ (p : PassView). record p { met_full = true }) c.pass.view_is
