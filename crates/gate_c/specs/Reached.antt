-- The states that events lead to from an opening.
use Rattle.std.specs.Prelude.{◌≡◌, List}
use Rattle.std.specs.List.{All}
use Rattle.gate_core.specs.Good.{IsGoodWorld}
use Rattle.gate_core.specs.Opening.{Start}
use Rattle.gate_core.specs.Runs.{run_of}
use Rattle.gate_core.specs.World.{World, opened_world}
use Rattle.gate_message.specs.Spelled.{IsSpelled}
use Rattle.gate_message.specs.declared.event.Event.{Event}

-- the first state is that of an opening, and good; a run of some events from it, whose transactions have a text, ends in the second
abbrev pub EndsARun : World → World → Type 0
EndsARun opened w = (start : Start) × (events : List Event)
    × (opened ≡ opened_world start) × IsGoodWorld opened × All IsSpelled events × (w ≡ (run_of opened events).1)

-- there is such a run from the first state to the second
abbrev pub IsReached : World → World → Type 0
IsReached opened w = ∥ EndsARun opened w ∥₁
