-- What is behind an opening, and a job that stops there.
use Rattle.std.proofs.Common.{◌≡◌, ℕ, List, [], Option, Some, None, IfSome, Ok, inr}
use Rattle.std.specs.Io.KnownBytes.{Appends}
use Rattle.gate_core.specs.World.{World}
use Rattle.gate_opening.specs.Openings.{LeavesRest}
use Rattle.gate_opening.specs.Said.{spelled}
use Rattle.gate_run.specs.Refusals.{OpenedAs, StoppedUnread}

pub opened_as : (input middle : Option (List ℕ)) (state : World) → IfSome input (λ text. spelled text ≡ Ok state) → LeavesRest input middle → OpenedAs input middle state
opened_as None middle state opened left = tt
opened_as (Some text) middle state opened left = (opened, left)

-- the reader failed behind the opening
pub unread_behind : (input middle rest before after : Option (List ℕ)) (state : World) → IfSome input (λ text. spelled text ≡ Ok state) → LeavesRest input middle
    → Appends before after [] → StoppedUnread input rest before after
unread_behind input middle rest before after state opened left kept = (kept, inr (middle, state, opened_as input middle state opened left))
