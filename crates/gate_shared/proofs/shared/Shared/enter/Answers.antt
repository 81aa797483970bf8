use Rattle.std.proofs.Common.{◌+◌, length, sym, ap, ◌∙◌, subst, rules, arith}
use Rattle.gate_journal.specs.Legal.{entry}
use Rattle.gate_shared.specs.Held.{Held, held}
use Rattle.gate_shared.specs.Calls.{PassView, EachBelow}
use Rattle.gate_shared.proofs.Growing.{held_next}
use Rattle.gate_shared.proofs.Passes.{rises_next, next_above, last_stands_at}
use Rattle.gate_shared.proofs.Told.{keeper_next, same_entry, token_next}
use Rattle.gate_shared.proofs.shared.Shared.enter.Goals as goal

pub invariant_of-self-in-Ok : goal.invariant_of-self-in-Ok
invariant_of-self-in-Ok g c = (
  held_next g.N.Base.base (held c.self.inside.state c.self.inside.journal.entries c.self.inside.passes) (entry c.pass.inside.number c.args.event.now c.in-Ok.replies.reply) c.step_recorded.new.self c.push.new.self.entries c.self.invariant.0
      (omega (arith, c.requires.free.2, ap (λ (s : Held). length s.journal) c.self.view_is)) c.in-Ok.ensures.exact c.in-Ok.ensures.ok
      (search rules),
  c.self.invariant.1,
  c.self.invariant.2,
  c.enter.ensures.tables.0 ∙ c.self.invariant.3,
  keeper_next c.self.inside.keeper.me c.enter.new.keeper.me c.self.inside.journal.entries _ c.push.new.self.entries
      (entry c.pass.inside.number c.in_ok-events.events.made c.in-Ok.replies.receipt) (entry c.pass.inside.number c.in_ok-events.events.entry c.in-Ok.replies.entry)
      c.self.invariant.4 c.enter.ensures.keeper c.push.ensures c.in_ok-reserve.ensures.entries
      (same_entry c.pass.inside.number c.in_ok-events.events.entry c.in_ok-events.events.made c.in-Ok.replies.entry c.in-Ok.replies.receipt
      (c.in_ok-events.ensures.0 ∙ sym c.in_ok-events.ensures.1) (c.in-Ok.ensures.copies.1 ∙ sym c.in-Ok.ensures.copies.0)),
)

pub invariant_of-pass-in-Ok : goal.invariant_of-pass-in-Ok
invariant_of-pass-in-Ok g c = (
  rw c.push_reserved.ensures.items
      (rw c.in_ok-reserve-2.ensures.items
      (rises_next c.pass.inside.number c.self.inside.journal.entries c.pass.inside.calls.items _ c.pass.invariant.0 (last_stands_at _ _ _ _ _ _ _ _ _ c.self.view_is c.pass.view_is c.requires.free.1)
      (omega (arith, c.len.ensures.len, ap length c.in_ok-reserve.ensures.entries)))),
  c.enter.ensures.tables.1 ∙ c.pass.invariant.1,
  token_next c.pass.inside.token.me c.enter.new.token.me c.pass.inside.number c.pass.inside.calls.items _ _ _ c.pass.invariant.2 c.enter.ensures.token c.push_reserved.ensures.items c.in_ok-reserve-2.ensures.items,
  c.pass.invariant.3,
  c.pass.invariant.4,
)

pub returns-in-Ok-clause-above : goal.returns-in-Ok-clause-above
returns-in-Ok-clause-above g c =
    let below : EachBelow (c.len.result + 1) c.pass.inside.calls.items =
    next_above c.pass.inside.number c.self.inside.journal.entries c.pass.inside.calls.items (c.len.result + 1) c.pass.invariant.0 (last_stands_at _ _ _ _ _ _ _ _ _ c.self.view_is c.pass.view_is c.requires.free.1)
    (omega (arith, c.len.ensures.len, ap length c.in_ok-reserve.ensures.entries)) in
    subst (λ (p : PassView). EachBelow (c.len.result + 1) p.calls) c.pass.view_is below
