-- The state that the next round begins with.
use Rattle.std.proofs.Common.{ℕ, List, [], ◌∷◌, map, Option, None, Some, IsOk, Result, inl, inr}
use Rattle.std.specs.List.{All}
use Rattle.std.proofs.lemmas.List.Elements.{All-cons, All-head, All-map, All-nil, All-tail}
use Rattle.gate_lines.specs.declared.fault.LaneFault.{LaneFault}
use Rattle.gate_core.specs.World.{World}
use Rattle.gate_lanes.specs.Ends.{AreWhole, Left, left}
use Rattle.gate_lanes.specs.Rounds.{IsNextState}

-- the next round begins with a state by one and the same reading of what a whole round is
goes_on_as : (A B : Type 0) → (A → B) → (B → A) → (led next : Option World) → IsNextState A led next → IsNextState B led next
goes_on_as A B there back led None (inl none) = inl none
goes_on_as A B there back led None (inr broken) = inr (λ b. broken (back b))
goes_on_as A B there back led (Some next) (whole, is) = (there whole, is)

all_unmapped : {X Y : Type 0} (P : X → Type 0) (f : Y → X) (ys : List Y) → All P (map f ys) → All (λ y. P (f y)) ys
all_unmapped P f [] h = All-nil (λ y. P (f y))
all_unmapped P f (y ∷ ys) h = All-cons (λ y. P (f y)) y ys (All-head P (f y) (map f ys) h) (all_unmapped P f ys (All-tail P (f y) (map f ys) h))

-- the ends of lanes, and what their writers hold
pub goes_on : {E : Type 0} (after : E → Option (List ℕ)) (result : E → Result ℕ LaneFault) (ends : List E) (led next : Option World)
    → IsNextState (All (λ end. IsOk (result end)) ends) led next → IsNextState (AreWhole (map (λ end. left (after end) (result end)) ends)) led next
goes_on {E} after result ends led next h =
    let f : E → Left = λ end. left (after end) (result end) in
    goes_on_as (All (λ end. IsOk (result end)) ends) (AreWhole (map f ends)) (λ all. All-map (λ (end : Left). IsOk end.result) f ends all)
    (λ all. all_unmapped (λ (end : Left). IsOk end.result) f ends all) led next h
