-- The room of families, as limits of admission.
use Rattle.gate_admit.specs.Limits.{usual_limits}
use Rattle.gate_admit.specs.Policies.{usual_policy}
use Rattle.gate_figures.specs.declared.room.Room.{Room}

abbrev pub TypeOf : {X : Type 0} → X → Type 0
TypeOf {X} x = X

-- limits as admission has them, which it exports by no name
abbrev pub Limits : Type 0
Limits = TypeOf (usual_limits usual_policy)

-- the limits that a room is
abbrev pub limits_by : Room → Limits
limits_by room = record { ancestors = room.ancestors; ancestors_size = room.ancestors_size; descendants = room.descendants; descendants_size = room.descendants_size }
