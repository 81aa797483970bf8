use Rattle.std.proofs.Common.{◌∙◌, ap, sym, Some, None}
use Rattle.std.specs.Option.{option_copied}
use Rattle.gate_admit.specs.Verdicts.{VerdictTable}
use Rattle.gate_admit.proofs.Rows.{verdict_by_entry}
use Rattle.gate_admit.proofs.verdicts.Verdicts.on.Goals as goal

pub returns-in-Some : goal.returns-in-Some
returns-in-Some g c = verdict_by_entry c.args.self.now c.args.wtxid.now c.args.input c.self.inside.verdicts.entries (Some c.in-Some.verdict.now) (ap (λ (v : VerdictTable). v.rows) c.self.view_is) (ap option_copied (sym c.in-Some.is) ∙ c.get.ensures.value)

pub returns-in-None : goal.returns-in-None
returns-in-None g c = ap (λ (v : VerdictTable). v.other) c.self.view_is ∙ verdict_by_entry c.args.self.now c.args.wtxid.now c.args.input c.self.inside.verdicts.entries None (ap (λ (v : VerdictTable). v.rows) c.self.view_is) (ap option_copied (sym c.in-None.is) ∙ c.get.ensures.value)
