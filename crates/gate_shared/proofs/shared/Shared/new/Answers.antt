use Rattle.std.proofs.Common.{List, sym, subst, rules}
use Rattle.gate_journal.specs.declared.entry.Entry.{Entry}
use Rattle.gate_shared.specs.Held.{IsHeld, held}
use Rattle.gate_shared.proofs.Growing.{held_opened}
use Rattle.gate_shared.proofs.shared.Shared.new.Goals as goal

pub invariant_of-shared : goal.invariant_of-shared
invariant_of-shared g c = (
  subst (λ (entries : List Entry). IsHeld g.N.Base.base (held c.args.state entries 0)) (sym c.new.ensures) (held_opened g.N.Base.base c.args.state c.requires.base),
  search rules,
  search rules,
  search rules,
  search rules,
)
