-- Rounds: gates one after another, each on the state that the round before led to.
use Rattle.std.specs.Prelude.{◌≡◌, ℕ, ◌≤◌, ◌⊎◌, List, length, Option, Some, None}
use Rattle.gate_core.specs.World.{World}
use Rattle.gate_journal.specs.Legal.{entry_limit, state_after}
use Rattle.std.specs.List.{All}
use Rattle.gate_shared.specs.Calls.{IsFullIfMet, PassView}
use Rattle.gate_shared.specs.Ends.{EndsGood}
use Rattle.gate_shared.specs.Settling.{SettlesAll}
use Rattle.gate_shared.specs.declared.settle.Settled.{Settled}
use Rattle.gate_lanes.specs.Ends.{AreWhole, Given, Left, LanesRan, all_left}
use Rattle.gate_lanes.specs.declared.round.Conclusion.{Conclusion}
use Rattle.gate_lanes.specs.declared.round.RoundEnd.{RoundEnd}
use Rattle.gate_lanes.specs.declared.round.Conclusion.TheVariants as conclusions

-- ---- one round

-- These passes settle with a legal journal from this state, of at most 100,000 entries, which leads to the next state. The next
-- state is good if the first is and the run of the passes' events is apart. The journal is full if a call of them met a full one.
pub record SettlesTo (w : World) (passes : List PassView) (settled : Settled) (next : World) : Type 0 where
  pub few : length settled.journal.entries ≤ entry_limit
  pub settles : SettlesAll w passes settled
  pub leads : next ≡ state_after w settled.journal.entries
  pub good : EndsGood w passes next
  pub full : All (IsFullIfMet settled.journal.entries) passes

-- The passes settle, and lead to the next state; or memory ran out before it was known how they settle, and there is no next
-- state.
abbrev pub Concludes : World → List PassView → Conclusion → Option World → Type 0
Concludes w passes (conclusions.Settles settled) None = ⊥
Concludes w passes (conclusions.Settles settled) (Some next) = SettlesTo w passes settled next
Concludes w passes conclusions.Unknown None = Unit {0}
Concludes w passes conclusions.Unknown (Some next) = ⊥

-- how a round ended: the ends of its lanes, and how their passes settle
pub record RoundLeft : Type 0 where
  pub ends : List Left
  pub conclusion : Conclusion

abbrev pub round_left : List Left → Conclusion → RoundLeft
round_left ends conclusion = record { ends = ends; conclusion = conclusion }

-- what a round that ended came to, by what the writers of its lanes hold
abbrev pub left_by : {W : Type 0} → (W → Option (List ℕ)) → RoundEnd W → RoundLeft
left_by contents end = round_left (all_left contents end.ends.items) end.conclusion

-- The next round begins with this state: the one that this round's passes lead to, if the round is whole. If there is no such
-- state, memory ran out before they settled or the round is not whole.
abbrev pub IsNextState : Type 0 → Option World → Option World → Type 0
IsNextState IsWhole led None = (led ≡ None) ⊎ (¬ IsWhole)
IsNextState IsWhole led (Some next) = IsWhole × (led ≡ Some next)

-- From this state the lanes of a round ran, the round ended like this, and the next round begins with this state, if there may be
-- one: if the passes settle and each lane went to its end.
abbrev pub RoundRan : World → List Given → RoundLeft → Option World → Type 0
RoundRan w lanes round next = (passes : List PassView) × (led : Option World)
    × LanesRan lanes round.ends passes × Concludes w passes round.conclusion led × IsNextState (AreWhole round.ends) led next
