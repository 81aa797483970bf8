-- The explanation of a submission: the grant, or the rule that decides and its figures.
use Rattle.std.specs.Prelude.{Option, Some, None, Result, Ok, Err}
use Rattle.gate_tx.specs.Tx.{Tx}
use Rattle.gate_rules.specs.declared.Denial.{Denial}
use Rattle.gate_admit.specs.declared.attempt.Attempt.TheVariants.{First}
use Rattle.gate_admit.specs.declared.grant.Grant.{Grant}
use Rattle.gate_admit.specs.Rules.{decision_of}
use Rattle.gate_admit.specs.Standing.{Standing}
use Rattle.gate_figures.specs.declared.explanation.Explanation.{Explanation}
use Rattle.gate_figures.specs.declared.figures.Figures.{Figures}
use Rattle.gate_figures.specs.Figures.{figures_of}

-- the figures by which a rule denies a submission
abbrev pub figures_for : Standing → Option Tx → Denial → Option Figures
figures_for over None denial = None
figures_for over (Some tx) denial = figures_of over tx denial

-- a decision on a submission, with the figures of the rule that denies it
abbrev pub explained : Standing → Option Tx → Result Grant Denial → Result Grant Explanation
explained over submission (Ok grant) = Ok grant
explained over submission (Err denial) = Err (record { denial = denial; figures = figures_for over submission denial })

-- what is decided on the submission that an event makes, with the figures
abbrev pub explanation_of : Standing → Option (Option Tx) → Option (Result Grant Explanation)
explanation_of over None = None
explanation_of over (Some submission) = Some (explained over submission (decision_of First over submission))
