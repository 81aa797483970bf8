use Rattle.std.proofs.Common.{sym, ◌∙◌}
use Rattle.gate_opening.proofs.Defaulting.{defaults_said}
use Rattle.gate_opening.proofs.draft.OpeningDraft.take_defaults.Goals as goal

pub returns : goal.returns
returns g c =
    defaults_said c.args.self.now _ c.args.number c.args.release c.beside-self-inside.result (sym c.self.view_is) (sym c.is_some.ensures ∙ c.if-is_some.false) c.beside-self-inside.ensures
