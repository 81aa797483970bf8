use Rattle.std.proofs.Common.{◌∙◌}
use Rattle.indexmap.proofs.CallerLemmas.{insert_entry-new}
use Rattle.gate_admit.specs.VerdictMap.{subject_eq}
use Rattle.gate_admit.proofs.verdicts.put_row.Goals as goal

pub returns : goal.returns
returns g c = λ none. c.in_ok-insert.ensures.entries ∙ insert_entry-new subject_eq c.args.rows.now c.args.subject _ none
